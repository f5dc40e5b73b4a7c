use Rattle.std.proofs.Common.{◌≡◌, ℕ, List, Option, None, Some, subst}
use Rattle.std.specs.Prelude.{IfSome}
use Rattle.std.proofs.lemmas.Result.{IfOk-weaker}
use Rattle.ev_model.specs.Network.{Network}
use Rattle.label_steps.specs.Arrivals.{ArrivesAs, IsWithin}
use Rattle.label_search.proofs.LeavingValues.{all_left}
use Rattle.label_search.proofs.steps.values_at.Goals as goal

-- what is told of the value on arriving
here : (g : Network) (v : List (ℕ × ℕ)) (from x least : ℕ) (o : Option (List (ℕ × ℕ))) → least ≡ g.reserve → ArrivesAs g v from x least o → ArrivesAs g v from x g.reserve o
here g v from x least o is arrives = subst (λ r. ArrivesAs g v from x r o) is arrives

pub returns-in_default-clause-some : goal.returns-in_default-clause-some
returns-in_default-clause-some c missed =
    let arrives = here c.args.inst.now c.args.value.now c.args.from c.args.node c.min_q.result c.in_ok-arrived.field-0 c.min_q.ensures.value c.in_ok-arrived.ensures.left in
    let none : ArrivesAs c.args.inst.now c.args.value.now c.args.from c.args.node c.args.inst.now.reserve None = subst (λ (o : Option (List (ℕ × ℕ))). ArrivesAs c.args.inst.now c.args.value.now c.args.from c.args.node c.args.inst.now.reserve o) c.in_default.is arrives in
    absurd (missed none)

pub departures-requires-clause-levels : goal.departures-requires-clause-levels
departures-requires-clause-levels c =
    let within : IsWithin c.args.inst.now c.in-Some.arrived = subst (λ (o : Option (List (ℕ × ℕ))). IfSome o (IsWithin c.args.inst.now)) c.in-Some.is c.in_ok-arrived.ensures.within in
    within.levels

pub returns-clause-left : goal.returns-clause-left
returns-clause-left c =
    let arrives = here c.args.inst.now c.args.value.now c.args.from c.args.node c.min_q.result c.in_ok-arrived.field-0 c.min_q.ensures.value c.in_ok-arrived.ensures.left in
    let arrival : ArrivesAs c.args.inst.now c.args.value.now c.args.from c.args.node c.args.inst.now.reserve (Some c.in-Some.arrived) = subst (λ (o : Option (List (ℕ × ℕ))). ArrivesAs c.args.inst.now c.args.value.now c.args.from c.args.node c.args.inst.now.reserve o) c.in-Some.is arrives in
    let within : IsWithin c.args.inst.now c.in-Some.arrived = subst (λ (o : Option (List (ℕ × ℕ))). IfSome o (IsWithin c.args.inst.now)) c.in-Some.is c.in_ok-arrived.ensures.within in
    IfOk-weaker c.departures.result _ _ (λ values are. all_left c.args.inst.now c.args.value.now c.args.from c.args.node c.in-Some.arrived arrival within values.items are) c.departures.ensures.left
