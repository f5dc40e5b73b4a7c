use Rattle.std.proofs.Common.{◌≡◌, ◌≢◌, ◌∙◌, ◌+◌, ◌-◌, ◌*◌, ◌≤◌, ℕ, List, length, false, refl, sym, ap, subst, arith}
use Rattle.std.proofs.lemmas.Grind.{common_steps}
use Rattle.std.proofs.lemmas.Bool.Decides.{nat_tests}
use Rattle.ev_model.specs.Network.{Network, energy, process_time, travel_time}
use Rattle.level_table.specs.Stations.{stations}
use Rattle.level_table.specs.Journey.{Journey}
use Rattle.level_table.specs.Moves.{IsEnough, IsLeg, next_node, node_of, passed_after}
use Rattle.level_table.specs.Places.{node_at}
use Rattle.level_table.specs.declared.moves.Leg.{Leg}
use Rattle.level_table.specs.declared.moves.Move.TheVariants.{Drive}
use Rattle.level_table.specs.declared.place.Place.{Place}
use Rattle.level_table.proofs.trip.Trip.drive.Goals as goal
use Rattle.level_table.proofs.trip.Trip.drive.Goals.{then-slot-eq0, else-slot-eq0}

passed_next : (p passed slot : ℕ) → slot ≡ 0 → p ≡ passed + 1 → p ≡ passed_after passed slot
passed_next p passed slot own is = rw own is

passed_same : (p passed slot : ℕ) → (slot ≡ 0 → ⊥) → p ≡ passed → p ≡ passed_after passed slot
passed_same p passed slot other is = grind (arith, nat_tests)

same_leg : (t u p q l m slot : ℕ) → t ≡ u → p ≡ q → l ≡ m →
    ◌≡◌ {A = Leg} (record { time = t; to = record { passed = p; slot = slot; level = l; plugged = false } }) (record { time = u; to = record { passed = q; slot = slot; level = m; plugged = false } })
same_leg t u p q l m slot first second third = cc

drive_leg : (g h : Network) (route : List ℕ) (from : Place) (slot passed node next e time service d : ℕ) → h ≡ g → from.plugged ≡ false → slot ≤ length (stations g) →
    passed ≡ passed_after from.passed slot → node ≡ node_of g route from → next ≡ node_at g route passed slot → next ≢ node →
    e ≡ energy h node next → e ≤ from.level → IsEnough g route passed (from.level - e) →
    d ≡ h.denominator → time ≡ travel_time h node next → service ≡ process_time h next →
    IsLeg g route (Drive slot) from (record { time = d * (time + service); to = record { passed = passed; slot = slot; level = from.level - e; plugged = false } })
drive_leg g h route from slot passed node next e time service d same out known passed_is node_is next_is other e_is within enough d_is time_is service_is =
    let n = node_of g route from in
    let x = next_node g route from slot in
    let there : next ≡ x = next_is ∙ ap (λ p. node_at g route p slot) passed_is in
    let energies : e ≡ energy g n x = e_is ∙ ap (λ (m : Network). energy m node next) same ∙ ap (λ a. energy g a next) node_is ∙ ap (λ b. energy g n b) there in
    let times : time ≡ travel_time g n x = time_is ∙ ap (λ (m : Network). travel_time m node next) same ∙ ap (λ a. travel_time g a next) node_is ∙ ap (λ b. travel_time g n b) there in
    let services : service ≡ process_time g x = service_is ∙ ap (λ (m : Network). process_time m next) same ∙ ap (λ b. process_time g b) there in
    let factor : d ≡ g.denominator = d_is ∙ ap (λ (m : Network). m.denominator) same in
    let all : d * (time + service) ≡ g.denominator * (travel_time g n x + process_time g x) =
    ap (λ y. y * (time + service)) factor ∙ ap (λ y. g.denominator * (y + service)) times ∙ ap (λ y. g.denominator * (travel_time g n x + y)) services in
    let leg = same_leg (d * (time + service)) (g.denominator * (travel_time g n x + process_time g x)) passed (passed_after from.passed slot) (from.level - e) (from.level - energy g n x) slot
    all passed_is (ap (λ y. from.level - y) energies) in
    subst (λ (l : Leg). IsLeg g route (Drive slot) from l) (sym leg) (record {
      can = (
        out,
        record {
          known = known;
          other = λ eq. other (there ∙ eq ∙ sym node_is);
          within = omega (arith, within, energies);
          enough = subst (λ p. IsEnough g route p (from.level - energy g n x)) passed_is (subst (λ y. IsEnough g route passed (from.level - y)) energies enough);
        },
      );
      time = refl;
      leads = refl;
    })

pub returns-clause-value : goal.returns-clause-value
returns-clause-value c =
    let g = c.args.self.now.network in
    let from = c.args.from in
    let slot = c.args.slot in
    let passed = c.if-slot-eq0.passed in
    let same : c.self.inside.inst.now ≡ g = ap (λ (t : Journey). t.network) c.self.view_is in
    let known : slot ≤ length (stations g) = omega (arith, c.if-slot-slots.false, c.slots.ensures.value) in
    let passed_is : passed ≡ passed_after from.passed slot = elim c.if-slot-eq0.branch [
      | then-slot-eq0 w ↦ passed_next passed from.passed slot w.if-slot-eq0.true w.passed-is
      | else-slot-eq0 w ↦ passed_same passed from.passed slot w.if-slot-eq0.false w.passed-is
    ] in
    drive_leg g c.self.inside.inst.now c.args.self.now.route from slot passed c.node_at-node.result c.node_at-next.result c.energy-energy.result c.time.result c.service.result
    c.denominator.result same c.if-from.false known passed_is c.node_at-node.ensures.value c.node_at-next.ensures.value (λ eq. c.if-next-node.false eq)
    c.energy-energy.ensures.value (omega (arith, c.if-energy-from.false)) (c.if-not-is_enough.ensures.0 refl) c.denominator.ensures.value c.time.ensures.value c.service.ensures.value

pub time-requires-clause-reached : goal.time-requires-clause-reached
time-requires-clause-reached = grind (arith, common_steps)

pub service-requires : goal.service-requires
service-requires = grind (arith, common_steps)

pub returns-clause-small : goal.returns-clause-small
returns-clause-small = grind (arith, common_steps)

pub time-requires-clause-left : goal.time-requires-clause-left
time-requires-clause-left = grind (arith, common_steps)

pub energy-energy-requires-clause-reached : goal.energy-energy-requires-clause-reached
energy-energy-requires-clause-reached = grind (arith, common_steps)

pub node_at-next-requires-clause-passed : goal.node_at-next-requires-clause-passed
node_at-next-requires-clause-passed = grind (arith, common_steps)

pub energy-energy-requires-clause-left : goal.energy-energy-requires-clause-left
energy-energy-requires-clause-left = grind (arith, common_steps)

pub returns-then-not-is_enough-clause-value : goal.returns-then-not-is_enough-clause-value
returns-then-not-is_enough-clause-value = grind (arith, common_steps)
