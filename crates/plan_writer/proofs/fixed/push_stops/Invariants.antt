use Rattle.std.proofs.Common.{◌≡◌, ◌++◌, drop}
use Rattle.ev_text.specs.Scans.{IsPrefixOf}
use Rattle.report_lines.specs.FixedText.{stop_lines}
use Rattle.plan_writer.proofs.fixed.push_stops.Given as goal

abbrev pub invariant-loop-stop : goal.invariant-loop-stop
invariant-loop-stop l = record {
  told : l.out.items ++ stop_lines (drop l.stop-index l.stops) ≡ l.fn.out.items ++ stop_lines l.stops;
  prefix : IsPrefixOf l.fn.out.items l.out.items;
}
