use Rattle.certificate_parts.specs.Ranges.{customer_count}
use Rattle.certificate_parts.proofs.Entries.{members_below}
use Rattle.certificate_parts.proofs.ranges.label.holds_customers.Goals as goal

pub returns : goal.returns
returns c = members_below c.args.set c.loop-number.number (customer_count c.args.inst.now) c.loop-number-test.false c.loop-number.invariant.valid c.loop-number.invariant.low
