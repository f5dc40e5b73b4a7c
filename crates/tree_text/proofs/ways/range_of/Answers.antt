use Rattle.std.proofs.Common.{rules, ◌≡◌, ap, true}
use Rattle.near_tree.specs.Branches.{Counted, is_same}
use Rattle.tree_text.proofs.RangeLoops.{here_counted}
use Rattle.tree_text.proofs.ways.range_of.Goals as goal

pub returns-then-is_set-clause-least : goal.returns-then-is_set-clause-least
returns-then-is_set-clause-least c =
    let here : is_same c.c-item.result.set c.args.set ≡ true = search rules in
    ap (λ (d : Counted). d.least) (here_counted c.args.counted.now c.loop-c.c-index c.c-item.result c.args.set c.loop-c-test.true c.c-item.is here c.loop-c.invariant)

pub returns-then-is_set-clause-most : goal.returns-then-is_set-clause-most
returns-then-is_set-clause-most c =
    let here : is_same c.c-item.result.set c.args.set ≡ true = search rules in
    ap (λ (d : Counted). d.most) (here_counted c.args.counted.now c.loop-c.c-index c.c-item.result c.args.set c.loop-c-test.true c.c-item.is here c.loop-c.invariant)
