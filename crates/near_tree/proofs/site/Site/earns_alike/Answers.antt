use Rattle.std.proofs.Common.{◌≡◌, ◌∙◌, ◌≤◌, List, true, sym, ap, arith}
use Rattle.certificate_parts.specs.Ranges.{customer_count}
use Rattle.near_tree.specs.Branches.{Counted}
use Rattle.near_tree.specs.Lasts.{are_counted_alike}
use Rattle.near_tree.specs.Sites.{leaf_of}
use Rattle.near_tree.proofs.Alike.{earned_same}
use Rattle.near_tree.proofs.site.Site.earns_alike.Goals as goal

pub returns : goal.returns
returns c is =
    let n = customer_count c.args.self.now.inst.now in
    let count = c.customers-customers.ensures.value in
    let low : c.args.last ≤ customer_count c.args.self.now.inst.now = omega (arith, count, c.if-last-customers.false) in
    let less : c.args.other ≤ customer_count c.args.self.now.inst.now = omega (arith, count, c.if-other-customers.false) in
    let alike : are_counted_alike (leaf_of c.args.self.now).branch.counted c.args.last c.args.other ≡ true =
    ap (λ (cs : List Counted). are_counted_alike cs c.args.last c.args.other) (sym c.requires.site.counted) ∙ sym c.are_counted_alike.ensures ∙ is in
    earned_same (leaf_of c.args.self.now).branch.counted (leaf_of c.args.self.now).section.entry_prices n c.args.last c.args.other low less alike
