use Rattle.std.proofs.Common.{rules, arith, ◌≡◌, ◌≢◌, Err, option_map}
use Rattle.std.proofs.lemmas.Grind.{common_steps}
use Rattle.route_plan.specs.declared.text.plan_text.PlanText.TheVariants.{Memory}
use Rattle.route_plan.proofs.PlanLoops.{fault_behind, fault_within, whole_is_read}
use Rattle.mixed_model.specs.MixedReading.{mixed_file_at, mixed_plan_in}
use Rattle.mixed_model.proofs.TextLaws.{plan_is_spelled}
use Rattle.mixed_model.proofs.plan_text.reading.read_mixed_plan.Goals as goal

pub returns-in_err-plan-clause-fault : goal.returns-in_err-plan-clause-fault
returns-in_err-plan-clause-fault c =
    let fault = c.in_err-plan.field-0.0 in
    let broken : fault ≢ Memory → mixed_plan_in c.args.kinds c.args.bytes.now ≡ Err fault =
    λ known. fault_within (mixed_file_at c.args.kinds) c.args.bytes.now c.new-scan.result fault (omega arith) c.new-scan.ensures (c.in_err-plan.ensures.fault known) in
    search rules

pub returns-in_err-end-clause-fault : goal.returns-in_err-end-clause-fault
returns-in_err-end-clause-fault c =
    let broken = fault_behind (mixed_file_at c.args.kinds) c.args.bytes.now c.new-scan.result c.take_file.new.scan (option_map (λ v. v.items) c.in_ok-plan.plan) _ (omega arith) c.new-scan.ensures c.in_ok-plan.ensures.ok c.in_err-end.ensures.fault in
    search rules

pub returns-clause-ok : goal.returns-clause-ok
returns-clause-ok c =
    whole_is_read (mixed_file_at c.args.kinds) c.args.bytes.now c.new-scan.result c.take_file.new.scan (option_map (λ v. v.items) c.in_ok-plan.plan) (omega arith) c.new-scan.ensures c.in_ok-plan.ensures.ok c.in_ok-end.ensures.ok

pub returns-clause-spelled : goal.returns-clause-spelled
returns-clause-spelled c = (plan_is_spelled c.args.kinds c.requires.some c.requires.few c.args.bytes.now (option_map (λ v. v.items) c.in_ok-plan.plan)).0 (returns-clause-ok c)

pub returns-then-len-gt-MOST_BYTES-clause-fault : goal.returns-then-len-gt-MOST_BYTES-clause-fault
returns-then-len-gt-MOST_BYTES-clause-fault = grind (arith, common_steps)
