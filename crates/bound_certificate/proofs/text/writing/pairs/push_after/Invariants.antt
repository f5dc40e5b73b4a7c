use Rattle.std.proofs.Common.{◌≡◌, ◌+◌, ◌-◌, ◌++◌}
use Rattle.certificate_parts.specs.Ranges.{customer_count}
use Rattle.bound_certificate.specs.Written.{pairs_after}
use Rattle.bound_certificate.proofs.text.writing.pairs.push_after.Given as goal

abbrev pub invariant-loop-next : goal.invariant-loop-next
invariant-loop-next l = l.found.items ++ pairs_after l.inst l.pairs l.place l.next (customer_count l.inst + 1 - l.next) ≡ l.fn.found.items ++ pairs_after l.inst l.pairs l.place 0 (customer_count l.inst + 1)
