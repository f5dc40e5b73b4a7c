use Rattle.std.proofs.Common.{ℕ, ◌<◌}
use Rattle.certificate_parts.specs.Ranges.{customer_count}
use Rattle.near_tree.specs.Lasts.{IsServedAt}
use Rattle.near_tree.specs.Sites.{leaf_of}
use Rattle.near_tree.proofs.site.Site.stands_for.Given as goal

abbrev pub invariant-loop-next : goal.invariant-loop-next
invariant-loop-next l = (x : ℕ) → x < l.next → IsServedAt (customer_count l.self.inst.now) (leaf_of l.self) l.last l.other x
