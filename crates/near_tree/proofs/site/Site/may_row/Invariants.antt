use Rattle.std.proofs.Common.{◌≡◌, ℕ, ◌&&◌, nat_lt}
use Rattle.certificate_parts.specs.Ranges.{customer_count}
use Rattle.customer_sets.specs.CustSet.{has}
use Rattle.near_tree.specs.Lasts.{may_by}
use Rattle.near_tree.proofs.site.Site.may_row.Given as goal

abbrev pub invariant-loop-next : goal.invariant-loop-next
invariant-loop-next l = (x : ℕ) → has l.row x ≡ (nat_lt x l.next && may_by (customer_count l.self.inst.now) l.self.path.now l.last x)
