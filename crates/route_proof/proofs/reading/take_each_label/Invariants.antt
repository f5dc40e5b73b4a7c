use Rattle.std.proofs.Common.{◌-◌}
use Rattle.std.specs.List.{All}
use Rattle.certificate_parts.proofs.ItemLoops.{AreManyTo}
use Rattle.route_proof.specs.Ranges.{RouteLabelFits}
use Rattle.route_proof.specs.Reading.{label_at}
use Rattle.route_proof.proofs.reading.take_each_label.Given as goal

abbrev pub invariant-loop : goal.invariant-loop
invariant-loop l = AreManyTo (label_at l.inst l.route) l.fn.scan l.count l.labels.items (l.count - l.counter) l.scan × All (RouteLabelFits l.inst l.route) l.labels.items
