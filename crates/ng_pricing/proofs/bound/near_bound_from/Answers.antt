use Rattle.std.proofs.Common.{List, ℕ, subst, sym}
use Rattle.near_proof.specs.declared.proof.NearProof.{NearProof}
use Rattle.near_text.specs.NearIn.{IsKept}
use Rattle.ng_pricing.specs.Fixing.{IsRaised, IsRisen, IsUnserved}
use Rattle.ng_pricing.specs.NearBound.{IsBoundFrom}
use Rattle.ng_pricing.specs.declared.raising.Raised.{Raised}
use Rattle.ng_pricing.proofs.EndProofs.{bounded, unbounded}
use Rattle.ng_pricing.proofs.bound.near_bound_from.Goals as goal

pub returns-in-Priced : goal.returns-in-Priced
returns-in-Priced g c =
    let inst = c.args.inst.now in
    let sets = c.args.sets.items in
    let r = c.in-Priced.rising in
    let told = subst (λ (x : Raised). IsRaised c.args.inst.now c.as_slice.result.now c.args.start.items x) c.in-Priced.is c.in_ok-rising.ensures in
    let is = subst (λ (ss : List (List ℕ)). IsRisen c.args.inst.now ss c.args.start.items c.in-Priced.rising) c.as_slice.ensures.value told in
    subst (λ (p : NearProof). IsBoundFrom c.args.inst.now c.args.sets.items c.args.start.items p) (sym c.proof_of.ensures.value)
    (bounded inst sets c.args.start.items c.nodes-nodes.ensures.network c.requires.few c.requires.sets r is (subst IsKept c.proof_of.ensures.value c.proof_of.ensures.kept))

pub returns-in-Nowhere : goal.returns-in-Nowhere
returns-in-Nowhere g c =
    let inst = c.args.inst.now in
    let sets = c.args.sets.items in
    let told = subst (λ (x : Raised). IsRaised c.args.inst.now c.as_slice.result.now c.args.start.items x) c.in-Nowhere.is c.in_ok-rising.ensures in
    let is = subst (λ (ss : List (List ℕ)). IsUnserved c.args.inst.now ss c.in-Nowhere.at) c.as_slice.ensures.value told in
    subst (λ (p : NearProof). IsBoundFrom c.args.inst.now c.args.sets.items c.args.start.items p) (sym c.proof_of_none.ensures.value)
    (unbounded inst sets c.args.start.items c.nodes-nodes.ensures.network c.requires.few c.requires.sets c.in-Nowhere.at is (subst IsKept c.proof_of_none.ensures.value c.proof_of_none.ensures.kept))
