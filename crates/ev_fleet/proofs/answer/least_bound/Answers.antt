use Rattle.std.proofs.Common.{◌<◌, length, arith}
use Rattle.bound_certificate.specs.declared.certificate.TreeLine.TheVariants.{Split}
use Rattle.ev_fleet.proofs.Least.{least_behind, names_behind, names_here}
use Rattle.ev_fleet.proofs.answer.least_bound.Goals as goal

pub lesser_at-least-requires-clause-names : goal.lesser_at-least-requires-clause-names
lesser_at-least-requires-clause-names c =
    let test = c.loop-line-test.true in
    let less : c.loop-line.line-index < length c.args.lines.now = grind (arith, test) in
    names_here c.args.sections.now c.args.lines.now c.loop-line.line-index (Split 0 0) less c.loop-line.invariant.names

pub loop-line-preserved : goal.loop-line-preserved
loop-line-preserved c =
    let test = c.loop-line-test.true in
    let less : c.loop-line.line-index < length c.args.lines.now = grind (arith, test) in
    record {
      least = least_behind c.args.sections.now c.args.lines.now c.loop-line.line-index (Split 0 0) less c.loop-line.least c.lesser_at-least.result c.loop-line.invariant.least c.lesser_at-least.ensures.lesser;
      names = names_behind c.args.sections.now c.args.lines.now c.loop-line.line-index (Split 0 0) less c.loop-line.invariant.names;
      small = c.lesser_at-least.ensures.small;
    }
