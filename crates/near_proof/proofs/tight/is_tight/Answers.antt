use Rattle.std.proofs.Common.{◌≡◌, ◌∙◌, ℕ, List, length, ap, sym, subst, arith, ◌+◌, [], ltb-true}
use Rattle.std.proofs.lemmas.Grind.{common_steps}
use Rattle.std.specs.Prelude.{is_some}
use Rattle.std.proofs.lemmas.Bool.{false≢true, lt-ltb}
use Rattle.ev_model.specs.Fleet.{ServesOnly, times_in}
use Rattle.ev_model.specs.Time.{time_of}
use Rattle.near_proof.specs.Routes.{KeepsMemory}
use Rattle.near_proof.specs.Terms.{earned_by}
use Rattle.ev_model.specs.Feasible.{IsFeasible}
use Rattle.fleet_model.specs.Places.{customer_count, numbers_of}
use Rattle.fleet_model.proofs.Numbers.{counted}
use Rattle.near_proof.specs.Accepted.{terms_of}
use Rattle.near_proof.proofs.TightRoutes.{few_numbers, tight_route}
use Rattle.plan_check.proofs.Feasible.{not_only_with_stray, only_without_stray, plan_known}
use Rattle.near_proof.proofs.tight.is_tight.Goals as goal

pub numbers_of-requires : goal.numbers_of-requires
numbers_of-requires c =
    record { known = plan_known c.args.inst.now c.args.stops.now (subst (λ q. IsFeasible c.args.inst.now 1 q c.args.stops.now) c.max_q.ensures.value c.in-Ok.ensures.feasible) }

pub stray_stop-requires : goal.stray_stop-requires
stray_stop-requires c =
    plan_known c.args.inst.now c.args.stops.now (subst (λ q. IsFeasible c.args.inst.now 1 q c.args.stops.now) c.max_q.ensures.value c.in-Ok.ensures.feasible)

pub returns-then-is_some : goal.returns-then-is_some
returns-then-is_some c =
    let feasible : IsFeasible c.args.inst.now 1 c.args.inst.now.capacity c.args.stops.now = subst (λ q. IsFeasible c.args.inst.now 1 q c.args.stops.now) c.max_q.ensures.value c.in-Ok.ensures.feasible in (
      λ tells. absurd (false≢true tells),
      λ tight. absurd (not_only_with_stray c.args.inst.now c.args.stops.now feasible (ap is_some (sym c.stray_stop.ensures) ∙ sym c.is_some.ensures ∙ c.if-is_some.true) tight.route.only),
    )

pub returns-then-len-customers : goal.returns-then-len-customers
returns-then-len-customers c =
    let count : length c.customers.result.now ≡ customer_count c.args.inst.now = ap length c.customers.ensures.value ∙ counted c.args.inst.now in
    let many = c.if-len-customers.true in
    let listed : length c.in_ok-numbers.numbers.items ≡ length (numbers_of c.args.inst.now c.args.stops.now) = ap length c.in_ok-numbers.ensures.value in (
      λ tells. absurd (false≢true tells),
      λ tight. absurd (let few = few_numbers c.args.inst.now (terms_of c.args.proof.now) c.args.customer c.args.stops.now tight in omega (arith, few, count, many, c.len.ensures, listed)),
    )

pub returns : goal.returns
returns c =
    let g = c.args.inst.now in
    let stops = c.args.stops.now in
    let value = c.in_ok-numbers.ensures.value in
    let count : length c.customers.result.now ≡ customer_count c.args.inst.now = ap length c.customers.ensures.value ∙ counted c.args.inst.now in
    let listed : length c.in_ok-numbers.numbers.items ≡ length (numbers_of c.args.inst.now c.args.stops.now) = ap length value in
    let few = c.if-len-customers.false in
    let some = c.if-visits-eq0.false in
    let feasible : IsFeasible c.args.inst.now 1 c.args.inst.now.capacity c.args.stops.now = subst (λ q. IsFeasible c.args.inst.now 1 q c.args.stops.now) c.max_q.ensures.value c.in-Ok.ensures.feasible in
    let only : ServesOnly c.args.inst.now c.args.stops.now = only_without_stray g stops feasible (ap is_some (sym c.stray_stop.ensures) ∙ sym c.is_some.ensures ∙ c.if-is_some.false) in
    let visits : c.times_in-visits.result ≡ times_in (numbers_of c.args.inst.now c.args.stops.now) c.args.customer = c.times_in-visits.ensures.value ∙ ap (λ (ns : List ℕ). times_in ns c.args.customer) (c.deref.ensures.value ∙ value) in
    let earned : c.earned_by-earned.result ≡ earned_by c.args.proof.now.prices (numbers_of c.args.inst.now c.args.stops.now) = c.earned_by-earned.ensures.value ∙ ap (λ (ps : List ℕ). earned_by ps c.deref-3.result.now) c.as_slice-2.ensures ∙ ap (λ (ns : List ℕ). earned_by c.args.proof.now.prices ns) (c.deref-3.ensures.value ∙ value) in
    let raw : KeepsMemory c.as_slice.result.now [] c.deref-2.result.now = c.keeps_memory.ensures.0 c.if-not-keeps_memory.false in
    let keeps : KeepsMemory c.args.proof.now.sets [] (numbers_of c.args.inst.now c.args.stops.now) = subst (λ (ss : List (List ℕ)). KeepsMemory ss [] (numbers_of c.args.inst.now c.args.stops.now)) c.as_slice.ensures (subst (λ (ns : List ℕ). KeepsMemory c.as_slice.result.now [] ns) (c.deref-2.ensures.value ∙ value) raw) in
    let time : c.from.result ≡ time_of c.args.inst.now 1 c.args.inst.now.capacity c.args.stops.now = c.from.ensures ∙ c.in-Ok.ensures.time ∙ ap (λ q. time_of c.args.inst.now 1 q c.args.stops.now) c.max_q.ensures.value in (
      λ less. tight_route g (terms_of c.args.proof.now) c.args.customer stops feasible only (omega (arith, few, c.len.ensures, listed, count)) keeps (omega (arith, some, visits)) (let low = ltb-true c.from.result (c.earned_by-earned.result + c.times_in-visits.result) less in omega (arith, low, time, earned, visits)),
      λ tight. lt-ltb c.from.result (c.earned_by-earned.result + c.times_in-visits.result) (let low = tight.time in omega (arith, low, time, earned, visits)),
    )

pub keeps_memory-requires-clause-few : goal.keeps_memory-requires-clause-few
keeps_memory-requires-clause-few = grind (arith, common_steps)

pub keeps_memory-requires-clause-known : goal.keeps_memory-requires-clause-known
keeps_memory-requires-clause-known = grind (arith, common_steps)

pub returns-then-not-keeps_memory : goal.returns-then-not-keeps_memory
returns-then-not-keeps_memory = grind (arith, common_steps)
