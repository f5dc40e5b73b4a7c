use Rattle.certificate_parts.specs.Ranges.{customer_count}
use Rattle.near_tree.specs.Lasts.{AreRows, IsMayRow}
use Rattle.near_tree.proofs.site.Site.may_rows.Given as goal

abbrev pub invariant-loop-last : goal.invariant-loop-last
invariant-loop-last l = AreRows (IsMayRow (customer_count l.self.inst.now) l.self.path.now) l.last l.rows.items
