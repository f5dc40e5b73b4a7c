use Rattle.std.proofs.Common.{List, ℤ, subst, sym}
use Rattle.mixed_model.specs.declared.proof.MixedProof.{MixedProof}
use Rattle.mixed_text.specs.MixedIn.{HaveSets}
use Rattle.mixed_fleet.specs.Proofs.{IsBestProof, IsBoundOf}
use Rattle.mixed_fleet.proofs.Best.{best}
use Rattle.mixed_fleet.proofs.root.proof_with.Goals as goal

pub returns : goal.returns
returns c =
    let kinds = c.args.kinds.now in
    let ps = c.args.prices.items in
    let bound = c.bound_of.result in
    let seen = subst (λ (qs : List ℤ). IsBoundOf c.args.weight qs bound) c.deref.ensures.value c.bound_of.ensures.bound in
    let at : List ℤ → MixedProof = λ qs. record { bound = bound; weight = c.args.weight; prices = qs; labels = c.args.labels; root = c.args.root } in
    subst (λ (qs : List ℤ). IsBestProof kinds (at qs)) (sym c.from_vec.ensures)
    (best kinds (at ps) c.requires.fleet c.requires.asked c.requires.closed seen c.bound_of.ensures.small c.requires.root
    (subst HaveSets c.as_slice.ensures c.know_lists.ensures))
