use Rattle.std.proofs.Common.{◌≡◌, ◌-◌, ◌++◌, ◌∙◌, ap, arith, drop, length, sym}
use Rattle.std.proofs.lemmas.Grind.{common_steps}
use Rattle.piece_fn.specs.Cuts.{supports}
use Rattle.piece_fn.proofs.Starts.{supports_are_starts, supports_end}
use Rattle.piece_fn.proofs.Walks.{some_point}
use Rattle.piece_fn.proofs.charging.starts.Goals as goal

pub returns : goal.returns
returns c =
    let ps = c.args.points.now in
    let some = some_point c.args.points.now c.requires.points in
    let index : c.loop-index.index ≡ length c.args.points.now - 1 = omega (arith, c.loop-index-test.false, c.loop-index.auto.index-end) in
    let end = supports_end c.args.curve.now ps (length ps - 1) (0, 0) (omega (arith, some)) (omega arith) in
    let left = ap (λ n. supports c.args.curve.now (drop n ps)) index ∙ end in
    c.in_ok-push-2.ensures.items ∙ sym (ap (λ xs. c.loop-index.levels.items ++ xs) left) ∙ c.loop-index.invariant ∙ sym (supports_are_starts c.args.curve.now ps c.requires.curve c.requires.points)

pub bounds-points-points : goal.bounds-points-points
bounds-points-points = grind (arith, common_steps)

pub loop-index-preserved : goal.loop-index-preserved
loop-index-preserved = grind (arith, common_steps)
