use Rattle.std.proofs.Common.{ℕ, ◌≤◌, Option, None, IfSome, drop}
use Rattle.bound_certificate.specs.Limits.{greatest_bound}
use Rattle.ev_fleet.specs.LeafNames.{IsLeastFrom, NameSections}
use Rattle.ev_fleet.proofs.answer.least_bound.Given as goal

abbrev pub invariant-loop-line : goal.invariant-loop-line
invariant-loop-line l = record {
  least : (b : Option ℕ) → IsLeastFrom l.sections l.least (drop l.line-index l.lines) b → IsLeastFrom l.sections None l.lines b;
  names : NameSections l.sections (drop l.line-index l.lines);
  small : IfSome l.least (λ bound. bound ≤ greatest_bound);
}
