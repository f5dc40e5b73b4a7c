use Rattle.std.proofs.Common.{rules, arith, ◌≡◌, ◌≢◌, Err, option_map}
use Rattle.fixed_reader.specs.FixedReading.{fixed_at, fixed_in}
use Rattle.fixed_reader.specs.Spelled.{charged}
use Rattle.fixed_reader.proofs.FixedLaws.{fixed_is_spelled}
use Rattle.route_plan.proofs.PlanLoops.{fault_behind, fault_within, whole_is_read}
use Rattle.route_plan.specs.declared.text.plan_text.PlanText.TheVariants.{Memory}
use Rattle.fixed_reader.proofs.reading.read_fixed.Goals as goal

pub returns-in_err-found-clause-fault : goal.returns-in_err-found-clause-fault
returns-in_err-found-clause-fault c =
    let fault = c.in_err-found.field-0.0 in
    let broken : fault ≢ Memory → fixed_in c.args.denominator c.args.bytes.now ≡ Err fault =
    λ known. fault_within (fixed_at c.args.denominator) c.args.bytes.now c.new-scan.result fault (omega arith) c.new-scan.ensures (c.in_err-found.ensures.fault known) in
    search rules

pub returns-in_err-end-clause-fault : goal.returns-in_err-end-clause-fault
returns-in_err-end-clause-fault c =
    let broken = fault_behind (fixed_at c.args.denominator) c.args.bytes.now c.new-scan.result c.take_fixed.new.scan (option_map charged c.in_ok-found.found) _ (omega arith) c.new-scan.ensures c.in_ok-found.ensures.ok c.in_err-end.ensures.fault in
    search rules

pub returns-clause-ok : goal.returns-clause-ok
returns-clause-ok c = whole_is_read (fixed_at c.args.denominator) c.args.bytes.now c.new-scan.result c.take_fixed.new.scan (option_map charged c.in_ok-found.found) (omega arith) c.new-scan.ensures c.in_ok-found.ensures.ok c.in_ok-end.ensures.ok

pub returns-clause-spelled : goal.returns-clause-spelled
returns-clause-spelled c = (fixed_is_spelled c.args.denominator c.args.bytes.now (option_map charged c.in_ok-found.found)).0 (returns-clause-ok c)
