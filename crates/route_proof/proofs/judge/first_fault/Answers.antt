use Rattle.std.proofs.Common.{Option, Some, subst}
use Rattle.std.specs.Prelude.{IfOk}
use Rattle.route_proof.specs.Faults.{TellsEnds, TellsLabels, TellsStart, TellsSteps}
use Rattle.route_proof.specs.Questions.{Question}
use Rattle.route_proof.specs.declared.fault.RouteLabelFault.{RouteLabelFault}
use Rattle.route_proof.proofs.Faults.{end_told, step_told}
use Rattle.label_index.proofs.Options.{ok_map}
use Rattle.route_proof.proofs.judge.first_fault.Goals as goal

pub returns-in-Some : goal.returns-in-Some
returns-in-Some c =
    let q = c.in_ok-judged.judged in
    let begins = subst (λ b. TellsStart c.in_ok-judged.judged b) c.if-not-covers_start.false c.covers_start.ensures in
    subst (λ (q : Question). TellsLabels q (Some c.in-Some.fault)) c.in_ok-judged.ensures
    (step_told q c.in-Some.fault begins (subst (λ (o : Option RouteLabelFault). TellsSteps c.in_ok-judged.judged o) c.in-Some.is c.in_ok-fault.ensures))

pub returns : goal.returns
returns c =
    let q = c.in_ok-judged.judged in
    let begins = subst (λ b. TellsStart c.in_ok-judged.judged b) c.if-not-covers_start.false c.covers_start.ensures in
    let steps = subst (λ (o : Option RouteLabelFault). TellsSteps c.in_ok-judged.judged o) c.in_default.is c.in_ok-fault.ensures in
    subst (λ (q : Question). IfOk c.first_end.result (TellsLabels q)) c.in_ok-judged.ensures
    (ok_map (TellsEnds q) (TellsLabels q) c.first_end.result (λ o ends. end_told q o begins steps ends) c.first_end.ensures)
