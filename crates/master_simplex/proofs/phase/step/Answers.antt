use Rattle.std.proofs.Common.{◌≡◌, rules, subst, Some, None, length, arith}
use Rattle.std.proofs.lemmas.Grind.{common_steps}
use Rattle.master_table.specs.Tableau.{size}
use Rattle.master_table.specs.Pivoting.{IsPivotOf}
use Rattle.master_simplex.specs.Phase.{IsGaining, IsLeast}
use Rattle.master_simplex.proofs.SomeEntry.{leaves_some}
use Rattle.master_simplex.proofs.Phases.{height_after, idle_after, phase_after}
use Rattle.master_simplex.proofs.phase.step.Goals as goal

pub returns-in_default-leaving-clause-end : goal.returns-in_default-leaving-clause-end
returns-in_default-leaving-clause-end c e =
    let gains : IsGaining c.args.goal c.args.t.now (length c.args.t.now.columns) (Some c.in-Some.col) = subst (λ best. IsGaining c.args.goal c.args.t.now (length c.args.t.now.columns) best) c.in-Some.is c.entering.ensures in
    let none : c.leaving.result ≡ None = search rules in
    let found : IsLeast c.args.t.now c.args.places.now c.in-Some.col (size c.args.t.now) None = subst (λ best. IsLeast c.args.t.now c.args.places.now c.in-Some.col (size c.args.t.now) best) none c.leaving.ensures in
    absurd (leaves_some c.args.t.now c.rows-n.ensures.tableau c.in-Some.col gains.0 gains.1 c.args.goal gains.2 found)

pub returns-clause-phase : goal.returns-clause-phase
returns-clause-phase c =
    let found : IsLeast c.args.t.now c.args.places.now c.in-Some.col (size c.args.t.now) (Some c.in-Some-leaving.row) = subst (λ best. IsLeast c.args.t.now c.args.places.now c.in-Some.col (size c.args.t.now) best) c.in-Some-leaving.is c.leaving.ensures in
    let pivot : IsPivotOf c.in-Some-leaving.row c.in-Some.col c.args.t.now c.exchange.new.t = search rules in
    phase_after c.args.t.now c.exchange.new.t c.rows-n.ensures.tableau c.exchange.ensures.tableau c.rows-n.ensures.within c.exchange.ensures.within c.args.places.now c.requires c.in-Some-leaving.row c.in-Some.col found.0 pivot found.1 found.2

pub returns-clause-idle : goal.returns-clause-idle
returns-clause-idle c =
    let gains : IsGaining c.args.goal c.args.t.now (length c.args.t.now.columns) (Some c.in-Some.col) = subst (λ best. IsGaining c.args.goal c.args.t.now (length c.args.t.now.columns) best) c.in-Some.is c.entering.ensures in
    let found : IsLeast c.args.t.now c.args.places.now c.in-Some.col (size c.args.t.now) (Some c.in-Some-leaving.row) = subst (λ best. IsLeast c.args.t.now c.args.places.now c.in-Some.col (size c.args.t.now) best) c.in-Some-leaving.is c.leaving.ensures in
    let pivot : IsPivotOf c.in-Some-leaving.row c.in-Some.col c.args.t.now c.exchange.new.t = search rules in
    idle_after c.args.t.now c.exchange.new.t c.rows-n.ensures.tableau c.exchange.ensures.tableau c.rows-n.ensures.within c.exchange.ensures.within c.args.places.now c.requires c.in-Some-leaving.row c.in-Some.col found.0 pivot found.1 gains.0

pub returns-clause-falls : goal.returns-clause-falls
returns-clause-falls c e =
    let gains : IsGaining c.args.goal c.args.t.now (length c.args.t.now.columns) (Some c.in-Some.col) = subst (λ best. IsGaining c.args.goal c.args.t.now (length c.args.t.now.columns) best) c.in-Some.is c.entering.ensures in
    let found : IsLeast c.args.t.now c.args.places.now c.in-Some.col (size c.args.t.now) (Some c.in-Some-leaving.row) = subst (λ best. IsLeast c.args.t.now c.args.places.now c.in-Some.col (size c.args.t.now) best) c.in-Some-leaving.is c.leaving.ensures in
    let pivot : IsPivotOf c.in-Some-leaving.row c.in-Some.col c.args.t.now c.exchange.new.t = search rules in
    height_after c.args.t.now c.exchange.new.t c.rows-n.ensures.tableau c.exchange.ensures.tableau c.rows-n.ensures.within c.exchange.ensures.within c.args.places.now c.requires c.in-Some-leaving.row c.in-Some.col found.0 pivot found.1 c.args.goal gains.2

pub leaving-requires-clause-placed : goal.leaving-requires-clause-placed
leaving-requires-clause-placed = grind (arith, common_steps)

pub returns-clause-wide : goal.returns-clause-wide
returns-clause-wide = grind (arith, common_steps)

pub returns-clause-end : goal.returns-clause-end
returns-clause-end = grind (arith, common_steps)
