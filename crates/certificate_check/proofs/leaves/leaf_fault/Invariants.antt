use Rattle.std.proofs.Common.{◌≤◌}
use Rattle.bound_certificate.specs.Meaning.{priced_sections}
use Rattle.bound_certificate.specs.Ranges.{customer_count}
use Rattle.certificate_check.proofs.LeafLoop.{LeavesSoFar}
use Rattle.certificate_check.proofs.leaves.leaf_fault.Given as goal

abbrev pub invariant-loop-line : goal.invariant-loop-line
invariant-loop-line l = record {
  so_far : LeavesSoFar (customer_count l.inst) (priced_sections l.cert.sections) l.cert.bound l.lines l.line-index l.subtrees.items l.leaf;
  few : l.leaf ≤ l.line-index;
}
