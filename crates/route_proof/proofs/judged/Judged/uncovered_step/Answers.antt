use Rattle.std.proofs.Common.{ℕ, Option, subst}
use Rattle.route_proof.specs.Tellings.{TellsNext, TellsStation}
use Rattle.route_proof.proofs.LabelSteps.{none_first, station_first}
use Rattle.route_proof.proofs.judged.Judged.uncovered_step.Goals as goal

pub returns-in-Some-2 : goal.returns-in-Some-2
returns-in-Some-2 c =
    let q = c.args.self.now in
    let l = c.args.label.now in
    station_first q l c.in-Some-2.node (subst (λ (o : Option ℕ). TellsNext c.args.self.now c.args.label.now o) c.in_default.is c.in_ok-node.ensures)
    (subst (λ (o : Option ℕ). TellsStation c.args.self.now c.args.label.now o) c.in-Some-2.is c.in_ok-node-2.ensures)

pub returns-in-None : goal.returns-in-None
returns-in-None c =
    let q = c.args.self.now in
    let l = c.args.label.now in
    none_first q l (subst (λ (o : Option ℕ). TellsNext c.args.self.now c.args.label.now o) c.in_default.is c.in_ok-node.ensures)
    (subst (λ (o : Option ℕ). TellsStation c.args.self.now c.args.label.now o) c.in-None.is c.in_ok-node-2.ensures)
