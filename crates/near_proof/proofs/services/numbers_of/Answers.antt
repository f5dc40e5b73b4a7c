use Rattle.std.proofs.Common.{◌≡◌, ◌<◌, ℕ, ◌++◌, ◌+◌, List, [], ◌∷◌, drop, length, sym, subst, false, arith}
use Rattle.std.proofs.lemmas.Grind.{common_steps}
use Rattle.std.specs.List.{All}
use Rattle.std.proofs.lemmas.List.Elements.{All-append, All-cons, All-nil}
use Rattle.fleet_model.specs.Places.{numbers_of}
use Rattle.instance_reader.specs.Instance.{customer_nodes}
use Rattle.near_proof.proofs.MoreStops.{taken_one}
use Rattle.near_proof.proofs.services.numbers_of.Goals as goal

pub loop-stop-preserved : goal.loop-stop-preserved
loop-stop-preserved c =
    let g = c.args.inst.now in
    let old = c.loop-stop.numbers.items in
    let n = c.in-Some.number in
    let P = λ (m : ℕ). m < length (customer_nodes c.args.inst.now) in
    record {
      told = subst (λ (ns : List ℕ). ns ++ numbers_of c.args.inst.now (drop (c.loop-stop.stop-index + 1) c.args.stops.now) ≡ numbers_of c.args.inst.now c.args.stops.now) (sym c.in_ok-push.ensures.items)
          (taken_one g c.args.stops.now old c.loop-stop.stop-index (record { node = 0; added = 0; via = false }) c.loop-stop-test.true c.loop-stop.invariant.told n c.if-stop.false c.in-Some.ensures.value);
      within = subst (λ (ns : List ℕ). All (λ m. m < length (customer_nodes c.args.inst.now)) ns) (sym c.in_ok-push.ensures.items)
          (All-append P old (n ∷ []) c.loop-stop.invariant.within (All-cons P n [] c.in-Some.ensures.within (All-nil P)));
    }

pub returns-clause-value : goal.returns-clause-value
returns-clause-value = grind (arith, common_steps)
