use Rattle.std.proofs.Common.{◌≡◌, ◌∙◌, None, sym}
use Rattle.instance_reader.proofs.FaultsLemmas.{sizes_hold}
use Rattle.instance_reader.specs.Faults.{size_fault}
use Rattle.instance_reader.specs.Views.{contents_view}
use Rattle.instance_reader.proofs.read.good_curves.Goals as goal

pub curves-requires : goal.curves-requires
curves-requires c =
    let contents = contents_view c.args.fields.now in
    let sizes : size_fault contents ≡ None = sym c.size_fault.ensures ∙ c.in_default.is in
    rw c.as_slice.ensures.value (sizes_hold contents sizes).0.curves
