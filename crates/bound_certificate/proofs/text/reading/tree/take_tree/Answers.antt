use Rattle.std.proofs.Common.{arith}
use Rattle.bound_certificate.specs.Written.{written_line}
use Rattle.bound_certificate.proofs.TreeLoops.{line_shorter, lines-begin, lines-go_on}
use Rattle.bound_certificate.proofs.text.reading.tree.take_tree.Goals as goal

pub loop-trees-init : goal.loop-trees-init
loop-trees-init c = lines-begin c.args.inst.now c.args.sections c.args.scan.now c.new-lines.result.items c.new-lines.ensures.items

pub loop-trees-smaller : goal.loop-trees-smaller
loop-trees-smaller c = line_shorter c.args.inst.now c.args.sections c.loop-trees.scan c.take_line.new.scan (written_line c.args.inst.now c.in_ok-line.line) c.in_ok-line.ensures.ok

pub loop-trees-preserved : goal.loop-trees-preserved
loop-trees-preserved c =
    lines-go_on c.args.inst.now c.args.sections c.args.scan.now c.loop-trees.scan c.take_line.new.scan c.loop-trees.lines.items c.push.new.self.items c.in_ok-line.line c.loop-trees.trees c.open_behind-trees.result
    c.loop-trees.invariant (omega arith) c.in_ok-line.ensures.ok c.in_ok-line.ensures.fits c.in_ok-push.ensures.items c.open_behind-trees.ensures
