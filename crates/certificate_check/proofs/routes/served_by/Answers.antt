use Rattle.certificate_check.proofs.FleetRoutes.{served_told}
use Rattle.certificate_check.proofs.routes.served_by.Goals as goal

pub returns-clause-number : goal.returns-clause-number
returns-clause-number c = served_told c.args.inst.now c.args.stop c.customer_number.result c.if-stop.false c.customer_number.ensures.value
