use Rattle.std.proofs.Common.{[]}
use Rattle.plan_check.proofs.Strays.{customers_of-served}
use Rattle.plan_check.proofs.tally.count_stop.Goals as goal

pub returns-in-Some : goal.returns-in-Some
returns-in-Some c nodes tallies =
    rw (customers_of-served c.args.inst.now c.args.stop [] c.if-stop.false c.in-Some.ensures.value.0)
    (c.count_customer.ensures nodes c.args.stop.node c.in-Some.ensures.value.1 tallies)
