use Rattle.std.proofs.Common.{◌≡◌, ◌+◌, ℕ, Bool, List, ◌∙◌, ap, drop, false, get_or, sym, true}
use Rattle.std.specs.List.{list_all}
use Rattle.piece_fn.specs.Cuts.{from_piece, point_is_reached}
use Rattle.piece_fn.proofs.Walks.{Agrees, fail_on, from_piece-on_first, from_piece-points, pass_on, reached_agrees}
use Rattle.piece_fn.proofs.coverage.each_is_reached.Goals as goal

pub point_is_reached-requires-clause-own : goal.point_is_reached-requires-clause-own
point_is_reached-requires-clause-own c = rw (c.piece_at-rest.ensures) (from_piece-points (get_or c.args.other.now c.loop-point.point-index (0, 0)).0 c.loop-point.rest.now c.loop-point.invariant.points)

pub point_is_reached-requires-clause-first : goal.point_is_reached-requires-clause-first
point_is_reached-requires-clause-first c = rw (c.piece_at-rest.ensures) (from_piece-on_first (get_or c.args.other.now c.loop-point.point-index (0, 0)).0 c.loop-point.rest.now c.loop-point.invariant.points)

pub returns-then-not-point_is_reached : goal.returns-then-not-point_is_reached
returns-then-not-point_is_reached c =
    let p = (get_or c.args.other.now c.loop-point.point-index (0, 0)) in
    let test : List (ℕ × ℕ) → ℕ × ℕ → Bool = λ ps. point_is_reached ps c.args.extra in
    let agrees : Agrees test = reached_agrees c.args.extra in
    let fails : test (from_piece p.0 c.loop-point.rest.now) p ≡ false = ap (λ ps. test ps p) (sym c.piece_at-rest.ensures) ∙ sym c.point_is_reached.ensures ∙ c.if-not-point_is_reached.true in
    sym (fail_on test agrees c.loop-point.rest.now c.args.other.now c.loop-point.point-index (0, 0) c.loop-point.invariant.points c.loop-point-test.true fails) ∙ c.loop-point.invariant.same

pub loop-point-preserved : goal.loop-point-preserved
loop-point-preserved c =
    let p = (get_or c.args.other.now c.loop-point.point-index (0, 0)) in
    let test : List (ℕ × ℕ) → ℕ × ℕ → Bool = λ ps. point_is_reached ps c.args.extra in
    let agrees : Agrees test = reached_agrees c.args.extra in
    let passes : test (from_piece p.0 c.loop-point.rest.now) p ≡ true = ap (λ ps. test ps p) (sym c.piece_at-rest.ensures) ∙ sym c.point_is_reached.ensures ∙ c.if-not-point_is_reached.false in
    record {
      points = rw (c.piece_at-rest.ensures) (from_piece-points (get_or c.args.other.now c.loop-point.point-index (0, 0)).0 c.loop-point.rest.now c.loop-point.invariant.points);
      same =
          ap (λ ps. list_all (test ps) (drop (c.loop-point.point-index + 1) c.args.other.now)) c.piece_at-rest.ensures
          ∙ pass_on test agrees c.loop-point.rest.now c.args.other.now c.loop-point.point-index (0, 0) c.loop-point.invariant.points c.requires.other c.loop-point-test.true passes ∙ c.loop-point.invariant.same;
    }
