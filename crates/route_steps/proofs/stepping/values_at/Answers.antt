use Rattle.std.proofs.Common.{◌≡◌, ◌∙◌, ◌∷◌, ◌++◌, [], ap, ◌+◌, ◌-◌, ◌<◌, ◌≤◌, ℕ, List, Option, None, Some, arith, false, inl, inr, length, refl, subst, sym}
use Rattle.std.specs.Prelude.{◌≢◌}
use Rattle.std.proofs.lemmas.Result.{IfOk-weaker}
use Rattle.dominance.specs.LevelTimes.{IsLevel}
use Rattle.ev_model.specs.Network.{Network}
use Rattle.piece_fn.specs.PieceFn.{level_times}
use Rattle.label_steps.specs.Arrivals.{ArrivesAs}
use Rattle.label_steps.proofs.Arrivals.{arrives_covers}
use Rattle.route_steps.specs.Steps.{MayGo, StandsAt}
use Rattle.route_steps.specs.Trips.{Journey, least_level}
use Rattle.route_steps.proofs.LeavingValues.{end_covers, left_covers, left_steps, none_covers, one_step}
use Rattle.route_steps.specs.declared.state.Place.{Place}
use Rattle.route_steps.specs.declared.state.State.{State}
use Rattle.route_steps.proofs.stepping.values_at.Goals as goal

-- the journey of an instance and a route; where it starts doesn't matter
abbrev on : Network → List ℕ → Journey
on g route = record { network = g; route = route; start = 0 }

-- what is told of the value on arriving
abbrev Arrives : Journey → State → ℕ → ℕ → Option (List (ℕ × ℕ)) → Type 0
Arrives t from passed to o = ArrivesAs t.network from.value from.node to (least_level t.network t.route passed) o

-- of a state at the place
module _ (g : Network) (route : List ℕ) (p : Place) (value : List (ℕ × ℕ)) (s : State) (stands : StandsAt p value s) (passed to : ℕ) where
  here : (least : ℕ) (o : Option (List (ℕ × ℕ))) → least ≡ least_level g route passed → ArrivesAs g value p.node to least o → Arrives (on g route) s passed to o
  here least o is arrives =
      subst (λ k. ArrivesAs g s.value s.node to k o) is
      (subst (λ v. ArrivesAs g v s.node to least o) (sym stands.value) (subst (λ n. ArrivesAs g value n to least o) (sym stands.node) arrives))

  goes : MayGo g route p.passed passed to → MayGo g route s.passed passed to
  goes go = subst (λ b. MayGo g route b passed to) (sym stands.passed) go

  other : to ≢ p.node → to ≢ s.node
  other apart = λ same. apart (same ∙ stands.node)

  low : ((level : ℕ) → IsLevel (level_times value) level → level ≤ g.capacity) → (level : ℕ) → IsLevel (level_times s.value) level → level ≤ g.capacity
  low levels = subst (λ v. (level : ℕ) → IsLevel (level_times v) level → level ≤ g.capacity) (sym stands.value) levels

-- the state without charge at the place
abbrev state_of : Place → List (ℕ × ℕ) → State
state_of p value = record { passed = p.passed; node = p.node; charged = false; value = value }

stands_there : (p : Place) (value : List (ℕ × ℕ)) → StandsAt p value (state_of p value)
stands_there p value = record { passed = refl; node = refl; value = refl }

last_passed : (g : Network) (route : List ℕ) (before passed to : ℕ) → MayGo g route before passed to → length route ≤ passed + 1 → passed ≡ length route - 1
last_passed g route before passed to go past = let on_way = go.on_way in elim go.leads [ inl stays ↦ omega (arith, stays.0, on_way, past) | inr more ↦ omega (arith, more.0, on_way, past) ]

pub least_level-least-requires : goal.least_level-least-requires
least_level-least-requires c = let on_way = c.requires.next.on_way in omega (arith, on_way)

pub returns-in_default-clause-covers : goal.returns-in_default-clause-covers
returns-in_default-clause-covers c s stands =
    let g = c.args.inst.now in
    let route = c.args.route.now in
    let arrives = subst (λ o. Arrives (on g route) s c.args.to.passed c.args.to.node o) c.in_default.is
    (here g route c.args.from c.args.value.now s stands c.args.to.passed c.args.to.node c.least_level-least.result c.in_ok-arrived.field-0 c.least_level-least.ensures c.in_ok-arrived.ensures.left) in
    none_covers (on g route) s c.args.to.passed c.args.to.node (goes g route c.args.from c.args.value.now s stands c.args.to.passed c.args.to.node c.requires.next) c.new-values.result.items
    (λ level time covers enough in_time. arrives_covers g s.value s.node c.args.to.node (least_level g route c.args.to.passed) None arrives level time covers enough in_time)

pub returns-then-to-route-clause-steps : goal.returns-then-to-route-clause-steps
returns-then-to-route-clause-steps c =
    let g = c.args.inst.now in
    let route = c.args.route.now in
    let go = c.requires.next in
    let before : c.args.to.passed < length route - 1 = (let is = c.if-to-route.true in omega (arith, is)) in
    IfOk-weaker c.departures.result _ _
    (λ values are s stands.
    let arrives = subst (λ o. Arrives (on g route) s c.args.to.passed c.args.to.node o) c.in-Some.is
    (here g route c.args.from c.args.value.now s stands c.args.to.passed c.args.to.node c.least_level-least.result c.in_ok-arrived.field-0 c.least_level-least.ensures c.in_ok-arrived.ensures.left) in
    left_steps (on g route) s c.args.to.passed c.args.to.node (goes g route c.args.from c.args.value.now s stands c.args.to.passed c.args.to.node go) (other g route c.args.from c.args.value.now s stands c.args.to.passed c.args.to.node c.requires.other)
    (low g route c.args.from c.args.value.now s stands c.args.to.passed c.args.to.node c.requires.levels) c.in-Some.arrived arrives values.items before are)
    c.departures.ensures.left

pub returns-then-to-route-clause-covers : goal.returns-then-to-route-clause-covers
returns-then-to-route-clause-covers c =
    let g = c.args.inst.now in
    let route = c.args.route.now in
    IfOk-weaker c.departures.result _ _
    (λ values charges s stands.
    let arrives = subst (λ o. Arrives (on g route) s c.args.to.passed c.args.to.node o) c.in-Some.is
    (here g route c.args.from c.args.value.now s stands c.args.to.passed c.args.to.node c.least_level-least.result c.in_ok-arrived.field-0 c.least_level-least.ensures c.in_ok-arrived.ensures.left) in
    left_covers (on g route) s c.args.to.passed c.args.to.node (goes g route c.args.from c.args.value.now s stands c.args.to.passed c.args.to.node c.requires.next) c.in-Some.arrived values.items
    (arrives_covers g s.value s.node c.args.to.node (least_level g route c.args.to.passed) (Some c.in-Some.arrived) arrives) charges)
    c.departures.ensures.covers

pub returns-clause-steps : goal.returns-clause-steps
returns-clause-steps c s stands =
    let g = c.args.inst.now in
    let route = c.args.route.now in
    let arrives = subst (λ o. Arrives (on g route) s c.args.to.passed c.args.to.node o) c.in-Some.is
    (here g route c.args.from c.args.value.now s stands c.args.to.passed c.args.to.node c.least_level-least.result c.in_ok-arrived.field-0 c.least_level-least.ensures c.in_ok-arrived.ensures.left) in
    one_step (on g route) s c.args.to.passed c.args.to.node (goes g route c.args.from c.args.value.now s stands c.args.to.passed c.args.to.node c.requires.next) (other g route c.args.from c.args.value.now s stands c.args.to.passed c.args.to.node c.requires.other)
    (low g route c.args.from c.args.value.now s stands c.args.to.passed c.args.to.node c.requires.levels) c.in-Some.arrived arrives c.push.new.self.items (c.in_ok-push.ensures.items ∙ ap (λ (vs : List (List (ℕ × ℕ))). vs ++ c.in-Some.arrived ∷ []) c.new-values.ensures.items)

pub returns-clause-covers : goal.returns-clause-covers
returns-clause-covers c s stands =
    let g = c.args.inst.now in
    let route = c.args.route.now in
    let go = goes g route c.args.from c.args.value.now s stands c.args.to.passed c.args.to.node c.requires.next in
    let arrives = subst (λ o. Arrives (on g route) s c.args.to.passed c.args.to.node o) c.in-Some.is
    (here g route c.args.from c.args.value.now s stands c.args.to.passed c.args.to.node c.least_level-least.result c.in_ok-arrived.field-0 c.least_level-least.ensures c.in_ok-arrived.ensures.left) in
    let last = last_passed g route s.passed c.args.to.passed c.args.to.node go (let is = c.if-to-route.false in omega (arith, is)) in
    end_covers (on g route) s c.args.to.passed c.args.to.node go c.in-Some.arrived c.push.new.self.items
    (arrives_covers g s.value s.node c.args.to.node (least_level g route c.args.to.passed) (Some c.in-Some.arrived) arrives) last (c.in_ok-push.ensures.items ∙ ap (λ (vs : List (List (ℕ × ℕ))). vs ++ c.in-Some.arrived ∷ []) c.new-values.ensures.items)
