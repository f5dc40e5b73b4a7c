use Rattle.std.proofs.Common.{◌↔◌, ◌+◌, ◌≤◌, drop}
use Rattle.bound_certificate.specs.Trees.{Closes}
use Rattle.bound_certificate.proofs.ranges.tree.closes.Given as goal

abbrev pub invariant-loop-line : goal.invariant-loop-line
invariant-loop-line l = record {
  few : l.trees ≤ l.line-index + 1;
  told : Closes l.trees (drop l.line-index l.lines) ↔ Closes 1 l.lines;
}
