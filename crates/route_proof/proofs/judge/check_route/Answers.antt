use Rattle.std.proofs.Common.{List, Option, subst, arith}
use Rattle.std.proofs.lemmas.Grind.{common_steps}
use Rattle.route_proof.specs.Closed.{AreClosed, IsAccepted}
use Rattle.route_proof.specs.Verdicts.{IsVerdict}
use Rattle.route_proof.specs.declared.proof.RouteLabel.{RouteLabel}
use Rattle.route_proof.specs.declared.verdict.RouteVerdict.{RouteVerdict}
use Rattle.route_proof.proofs.HomeBounds.{accepted_is_true}
use Rattle.route_steps.specs.Trips.{Journey}
use Rattle.route_proof.specs.Faults.{TellsLabels}
use Rattle.route_proof.specs.declared.fault.RouteLabelFault.{RouteLabelFault}
use Rattle.route_proof.proofs.judge.check_route.Goals as goal

pub returns-in-Err-clause-shows : goal.returns-in-Err-clause-shows
returns-in-Err-clause-shows c is =
    let t : Journey = record { network = c.args.inst.now; route = c.args.route.now; start = c.args.start } in
    accepted_is_true t c.args.proof.now c.nodes.ensures.network c.requires.route c.requires.fits.labels
    (subst (λ (v : RouteVerdict). IsVerdict (record { network = c.args.inst.now; route = c.args.route.now; start = c.args.start }) c.args.proof.now v) is c.in-Err.ensures.broken)

pub returns-in-None-clause-shows : goal.returns-in-None-clause-shows
returns-in-None-clause-shows c is =
    let t : Journey = record { network = c.args.inst.now; route = c.args.route.now; start = c.args.start } in
    let told = subst (λ (o : Option RouteLabelFault). TellsLabels (record { journey = record { network = c.args.inst.now; route = c.args.route.now; start = c.args.start }; bar = c.in-Ok.bar; labels = c.as_slice.result.now }) o) c.in-None.is c.in_ok-first_fault.ensures in
    let listed = subst (λ (ls : List RouteLabel). AreClosed (record { network = c.args.inst.now; route = c.args.route.now; start = c.args.start }) c.in-Ok.bar ls) c.as_slice.ensures told in
    let closed = subst (λ b. AreClosed (record { network = c.args.inst.now; route = c.args.route.now; start = c.args.start }) b c.args.proof.now.labels) c.in-Ok.ensures.bar listed in
    let accepted : IsAccepted t c.args.proof.now = record { plan = c.in-Ok.ensures.good; closed = closed } in
    accepted_is_true t c.args.proof.now c.nodes.ensures.network c.requires.route c.requires.fits.labels accepted

pub returns-in-None-clause-verdict : goal.returns-in-None-clause-verdict
returns-in-None-clause-verdict = grind (arith, common_steps)

pub returns-in-Some-End-clause-verdict : goal.returns-in-Some-End-clause-verdict
returns-in-Some-End-clause-verdict = grind (arith, common_steps)

pub returns-in-Some-Step-clause-verdict : goal.returns-in-Some-Step-clause-verdict
returns-in-Some-Step-clause-verdict = grind (arith, common_steps)
