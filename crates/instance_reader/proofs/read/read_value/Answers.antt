use Rattle.std.proofs.Common.{◌≡◌, ◌∙◌, None, sym}
use Rattle.serde_json.specs.View.{view}
use Rattle.instance_reader.proofs.FaultsLemmas.{result_of_value}
use Rattle.instance_reader.specs.RequiredKeys.{first_missing}
use Rattle.instance_reader.proofs.read.read_value.Goals as goal

pub returns-in-Ok-clause-fault : goal.returns-in-Ok-clause-fault
returns-in-Ok-clause-fault c =
    let keys : first_missing (view c.args.top.now) ≡ None = sym c.first_missing.ensures ∙ c.in_default.is in
    let fault = rw c.in-Ok.ensures.value at c.read_fields.ensures.fault in
    result_of_value (view c.args.top.now) c.read_fields.result keys c.in-Ok.ensures.kind fault
