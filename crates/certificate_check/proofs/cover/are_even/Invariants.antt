use Rattle.std.proofs.Common.{◌≡◌, ℕ, ◌<◌}
use Rattle.certificate_check.specs.Shares.{shares_at}
use Rattle.certificate_check.proofs.cover.are_even.Given as goal

abbrev pub invariant-loop-customer : goal.invariant-loop-customer
invariant-loop-customer l = (c : ℕ) → c < l.customer → shares_at c l.shares ≡ l.over
