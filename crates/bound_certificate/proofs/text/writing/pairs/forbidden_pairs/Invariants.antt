use Rattle.std.proofs.Common.{◌≡◌, ◌+◌, ◌-◌, ◌++◌}
use Rattle.certificate_parts.specs.Ranges.{customer_count}
use Rattle.bound_certificate.specs.Written.{pairs_from, written_pairs}
use Rattle.bound_certificate.proofs.text.writing.pairs.forbidden_pairs.Given as goal

abbrev pub invariant-loop-place : goal.invariant-loop-place
invariant-loop-place l = l.found.items ++ pairs_from l.inst l.pairs l.place (customer_count l.inst + 1 - l.place) ≡ written_pairs l.inst l.pairs
