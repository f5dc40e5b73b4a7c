use Rattle.std.proofs.Common.{arith, sym}
use Rattle.std.proofs.lemmas.Bool.{le-leb, leb-true}
use Rattle.piece_fn.proofs.Between.{second_is_most}
use Rattle.piece_fn.proofs.coverage.point_is_reached.Goals as goal

pub returns-then-is_in_time : goal.returns-then-is_in_time
returns-then-is_in_time c =
    let reached = leb-true _ _ (sym c.if-is_in_time.ensures) in
    let most = second_is_most c.args.own.now (0, 0) c.args.point.0 c.requires.own (omega (arith, c.in-len2-up.len_at_least)) c.requires.first in
    sym (le-leb _ _ (omega (arith, reached, most)))
