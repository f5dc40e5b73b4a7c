use Rattle.std.proofs.Common.{rules, arith, ◌≡◌, ◌≢◌, Err}
use Rattle.route_plan.specs.PlanReading.{plan_at, plan_in}
use Rattle.route_plan.specs.declared.text.plan_text.PlanText.TheVariants.{Memory}
use Rattle.route_plan.proofs.PlanLaws.{plan_is_spelled}
use Rattle.route_plan.proofs.PlanLoops.{fault_behind, fault_within, whole_is_read}
use Rattle.route_plan.proofs.text.reading.read_plan.Goals as goal

pub returns-in_err-plan-clause-fault : goal.returns-in_err-plan-clause-fault
returns-in_err-plan-clause-fault c =
    let fault = c.in_err-plan.field-0.0 in
    let broken : fault ≢ Memory → plan_in c.args.bytes.now ≡ Err fault =
    λ known. fault_within plan_at c.args.bytes.now c.new-scan.result fault (omega arith) c.new-scan.ensures (c.in_err-plan.ensures.fault known) in
    search rules

pub returns-in_err-end-clause-fault : goal.returns-in_err-end-clause-fault
returns-in_err-end-clause-fault c =
    let broken = fault_behind plan_at c.args.bytes.now c.new-scan.result c.take_route.new.scan c.in_ok-plan.plan.stops _ (omega arith) c.new-scan.ensures c.in_ok-plan.ensures.ok c.in_err-end.ensures.fault in
    search rules

pub returns-clause-ok : goal.returns-clause-ok
returns-clause-ok c = whole_is_read plan_at c.args.bytes.now c.new-scan.result c.take_route.new.scan c.in_ok-plan.plan.stops (omega arith) c.new-scan.ensures c.in_ok-plan.ensures.ok c.in_ok-end.ensures.ok

pub returns-clause-spelled : goal.returns-clause-spelled
returns-clause-spelled c = (plan_is_spelled c.args.bytes.now c.in_ok-plan.plan.stops).0 (returns-clause-ok c)
