use Rattle.std.proofs.Common.{◌≡◌, ◌+◌, ◌-◌, ◌<◌, ◌≤◌, ◌∙◌, ap, arith, drop, get_or, length}
use Rattle.piece_fn.specs.Cuts.{from_piece}
use Rattle.piece_fn.proofs.Walks.{from_piece-next}
use Rattle.piece_fn.proofs.points.piece_at.Goals as goal

pub loop-index-preserved : goal.loop-index-preserved
loop-index-preserved c =
    let level = c.args.level in
    let ps = c.args.points.now in
    let i = c.loop-index.index in
    let place : c.loop-index.index - 1 + 1 ≡ c.loop-index.index = omega (arith, c.loop-index.auto.index) in
    let less : c.loop-index.index - 1 + 1 < length c.args.points.now = omega (arith, place, c.loop-index-test.true) in
    let past : (get_or c.args.points.now (c.loop-index.index - 1 + 1) (0, 0)).0 ≤ c.args.level = rw place (c.if-level-points.false) in
    let next : c.loop-index.index + 1 - 1 ≡ c.loop-index.index - 1 + 1 = omega (arith, place) in
    ap (λ k. from_piece level (drop k ps)) next ∙ from_piece-next level ps (i - 1) (0, 0) less past ∙ c.loop-index.invariant
