use Rattle.std.proofs.Common.{◌≡◌, ◌+◌, ℕ, Bool, List, [], ◌∷◌, ◌∙◌, ap, drop, false, get_or, sym, true}
use Rattle.std.specs.List.{list_all}
use Rattle.charge_curve.specs.Points.{ArePoints, last_level}
use Rattle.piece_fn.specs.Cuts.{from_piece, point_reaches}
use Rattle.piece_fn.specs.PieceFn.{first_level}
use Rattle.piece_fn.proofs.Walks.{Agrees, fail_on, from_piece-on_first, from_piece-points, pass_on, reaches_agrees}
use Rattle.piece_fn.proofs.coverage.each_reaches.Goals as goal

same_levels : (other rest : List (ℕ × ℕ)) (extra high : ℕ) (p : ℕ × ℕ) → ArePoints other → high ≡ last_level other
    → point_reaches (first_level other) (last_level other) rest extra p ≡ point_reaches (get_or other 0 (0, 0)).0 high rest extra p
same_levels [] rest extra high p are is = absurd are
same_levels (q ∷ qs) rest extra high p are is = ap (λ h. point_reaches q.0 h rest extra p) (sym is)

pub point_reaches-requires-clause-other : goal.point_reaches-requires-clause-other
point_reaches-requires-clause-other c = rw (c.piece_at-rest.ensures) (from_piece-points (get_or c.args.own.now c.loop-point.point-index (0, 0)).0 c.loop-point.rest.now c.loop-point.invariant.points)

pub point_reaches-requires-clause-first : goal.point_reaches-requires-clause-first
point_reaches-requires-clause-first c = rw (c.piece_at-rest.ensures) (from_piece-on_first (get_or c.args.own.now c.loop-point.point-index (0, 0)).0 c.loop-point.rest.now c.loop-point.invariant.points)

pub returns-then-not-point_reaches : goal.returns-then-not-point_reaches
returns-then-not-point_reaches c =
    let p = (get_or c.args.own.now c.loop-point.point-index (0, 0)) in
    let test : List (ℕ × ℕ) → ℕ × ℕ → Bool = λ ps. point_reaches (first_level c.args.other.now) (last_level c.args.other.now) ps c.args.extra in
    let agrees : Agrees test = reaches_agrees (first_level c.args.other.now) (last_level c.args.other.now) c.args.extra in
    let fails : test (from_piece p.0 c.loop-point.rest.now) p ≡ false = ap (λ ps. test ps p) (sym c.piece_at-rest.ensures) ∙ same_levels c.args.other.now c.piece_at-rest.result.now c.args.extra c.last_level-high.result p c.requires.other c.last_level-high.ensures ∙ sym c.point_reaches.ensures ∙ c.if-not-point_reaches.true in
    sym (fail_on test agrees c.loop-point.rest.now c.args.own.now c.loop-point.point-index (0, 0) c.loop-point.invariant.points c.loop-point-test.true fails) ∙ c.loop-point.invariant.same

pub loop-point-preserved : goal.loop-point-preserved
loop-point-preserved c =
    let p = (get_or c.args.own.now c.loop-point.point-index (0, 0)) in
    let test : List (ℕ × ℕ) → ℕ × ℕ → Bool = λ ps. point_reaches (first_level c.args.other.now) (last_level c.args.other.now) ps c.args.extra in
    let agrees : Agrees test = reaches_agrees (first_level c.args.other.now) (last_level c.args.other.now) c.args.extra in
    let passes : test (from_piece p.0 c.loop-point.rest.now) p ≡ true = ap (λ ps. test ps p) (sym c.piece_at-rest.ensures) ∙ same_levels c.args.other.now c.piece_at-rest.result.now c.args.extra c.last_level-high.result p c.requires.other c.last_level-high.ensures ∙ sym c.point_reaches.ensures ∙ c.if-not-point_reaches.false in
    record {
      points = rw (c.piece_at-rest.ensures) (from_piece-points (get_or c.args.own.now c.loop-point.point-index (0, 0)).0 c.loop-point.rest.now c.loop-point.invariant.points);
      same =
          ap (λ ps. list_all (test ps) (drop (c.loop-point.point-index + 1) c.args.own.now)) c.piece_at-rest.ensures
          ∙ pass_on test agrees c.loop-point.rest.now c.args.own.now c.loop-point.point-index (0, 0) c.loop-point.invariant.points c.requires.own c.loop-point-test.true passes ∙ c.loop-point.invariant.same;
    }
