use Rattle.std.proofs.Common.{◌≡◌, ℕ, ◌+◌, ◌-◌, ◌∷◌, ◌++◌, ◌∙◌, [], List, ap, arith, drop, get_or, max, subst, sym}
use Rattle.charge_curve.specs.Points.{ArePoints, time_on}
use Rattle.piece_fn.specs.Cuts.{begun_at, moved, tail_to, up_to}
use Rattle.piece_fn.proofs.Parts.{begun_above, begun_moved, begun_points, is_start, moved_begun}
use Rattle.piece_fn.proofs.Walks.{some_point}
use Rattle.piece_fn.proofs.charging.carried.Goals as goal

-- the first point, moved
first_is : (down zero_time base from high time : ℕ) (rest : List (ℕ × ℕ)) → ArePoints rest → high ≡ max from (get_or rest 0 (0, 0)).0 → time ≡ time_on rest from
    → moved down zero_time base (begun_at from rest) ≡ (high - down, base + (time - zero_time)) ∷ moved down zero_time base (drop 1 rest)
first_is down zero_time base from high time rest are is_high is_time =
    moved_begun down zero_time base from rest (0, 0) are
    ∙ ap (λ h. (h - down, base + (time_on rest from - zero_time)) ∷ moved down zero_time base (drop 1 rest)) (sym is_high)
    ∙ ap (λ t. (high - down, base + (t - zero_time)) ∷ moved down zero_time base (drop 1 rest)) (sym is_time)

pub bounds-rest-0 : goal.bounds-rest-0
bounds-rest-0 c = some_point c.piece_at-rest.result.now (is_start c.args.from c.args.points.now c.piece_at-rest.result.now c.requires.points c.piece_at-rest.ensures).are

pub time_on_piece-requires-clause-points : goal.time_on_piece-requires-clause-points
time_on_piece-requires-clause-points c = (is_start c.args.from c.args.points.now c.piece_at-rest.result.now c.requires.points c.piece_at-rest.ensures).are

pub time_on_piece-requires-clause-first : goal.time_on_piece-requires-clause-first
time_on_piece-requires-clause-first c = (is_start c.args.from c.args.points.now c.piece_at-rest.result.now c.requires.points c.piece_at-rest.ensures).on_first

pub overflow_sub-first-2 : goal.overflow_sub-first-2
overflow_sub-first-2 c =
    let is = is_start c.args.from c.args.points.now c.piece_at-rest.result.now c.requires.points c.piece_at-rest.ensures in
    omega (arith, is.time, c.time_on_piece.ensures, c.requires.early)

pub overflow_add-first : goal.overflow_add-first
overflow_add-first c =
    let is = is_start c.args.from c.args.points.now c.piece_at-rest.result.now c.requires.points c.piece_at-rest.ensures in
    omega (arith, is.time, c.time_on_piece.ensures, c.requires.limit, c.ranges.limit.fits)

pub push_moved-requires-clause-points : goal.push_moved-requires-clause-points
push_moved-requires-clause-points c =
    let rest = c.piece_at-rest.result.now in
    let by = c.args.by in
    let is = is_start c.args.from c.args.points.now c.piece_at-rest.result.now c.requires.points c.piece_at-rest.ensures in
    let begun = begun_points c.args.from c.args.points.now c.piece_at-rest.result.now c.requires.points c.requires.from c.piece_at-rest.ensures in
    let are = begun_moved c.args.by.down c.args.by.zero c.args.by.base c.args.from c.piece_at-rest.result.now begun (omega (arith, is.first, c.requires.down)) (omega (arith, is.time, c.requires.early)) in
    subst ArePoints (first_is by.down by.zero by.base c.args.from c.max.result c.time_on_piece.result rest is.are c.max.ensures c.time_on_piece.ensures) are

pub push_moved-requires-clause-above : goal.push_moved-requires-clause-above
push_moved-requires-clause-above c =
    let is = is_start c.args.from c.args.points.now c.piece_at-rest.result.now c.requires.points c.piece_at-rest.ensures in
    let begun = begun_points c.args.from c.args.points.now c.piece_at-rest.result.now c.requires.points c.requires.from c.piece_at-rest.ensures in
    begun_above c.args.by.down c.args.by.zero c.args.from c.piece_at-rest.result.now begun (omega (arith, is.first, c.requires.down)) (omega (arith, is.time, c.requires.early))

pub push_moved-requires-clause-limit : goal.push_moved-requires-clause-limit
push_moved-requires-clause-limit c =
    let is = is_start c.args.from c.args.points.now c.piece_at-rest.result.now c.requires.points c.piece_at-rest.ensures in
    omega (arith, is.time, c.time_on_piece.ensures, c.requires.limit)

pub returns : goal.returns
returns c =
    let by = c.args.by in
    let is = is_start c.args.from c.args.points.now c.piece_at-rest.result.now c.requires.points c.piece_at-rest.ensures in
    let first = first_is by.down by.zero by.base c.args.from c.max.result c.time_on_piece.result c.piece_at-rest.result.now is.are c.max.ensures c.time_on_piece.ensures in
    let whole = ap (λ ps. up_to c.args.limit ps) (sym first) ∙ ap (λ ps. up_to c.args.limit (moved by.down by.zero by.base (begun_at c.args.from ps))) c.piece_at-rest.ensures in
    let point : ℕ × ℕ = (c.max.result - by.down, by.base + (c.time_on_piece.result - by.zero)) in
    let tail = tail_to c.args.limit point (moved by.down by.zero by.base (drop 1 c.piece_at-rest.result.now)) in
    c.in_ok-push_moved.ensures ∙ ap (λ ps. ps ++ tail) c.in_ok-push.ensures.ok ∙ ap (λ ps. (ps ++ point ∷ []) ++ tail) c.new-carried.ensures.items ∙ whole
