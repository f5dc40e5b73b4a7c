use Rattle.label_steps.proofs.Pays.{one_has_level, one_times}
use Rattle.label_steps.proofs.paying.charge_from.Goals as goal

pub charge_from-requires-clause-level : goal.charge_from-requires-clause-level
charge_from-requires-clause-level c = one_has_level c.point-value.result c.args.point c.point-value.ensures

pub charge_from-requires-clause-time : goal.charge_from-requires-clause-time
charge_from-requires-clause-time c =
    one_times c.point-value.result c.args.point c.args.limit c.point-value.ensures c.requires.in_time c.args.point.0 (one_has_level c.point-value.result c.args.point c.point-value.ensures)
