use Rattle.std.proofs.Common.{◌≡◌, ◌≤◌, ◌∙◌, ap, arith, subst, sym}
use Rattle.charge_curve.specs.Points.{ArePoints, last_level, time_on}
use Rattle.dominance.proofs.Pieces.{never_falls}
use Rattle.piece_fn.specs.Cuts.{begun_at, from_piece, moved, up_to}
use Rattle.piece_fn.specs.PieceFn.{IsCut, level_times}
use Rattle.piece_fn.proofs.Parts.{is_part, IsPart}
use Rattle.piece_fn.proofs.Values.{below_least, cut_keeps, cut_keeps_none, part_is_cut}
use Rattle.piece_fn.proofs.piece_fn.PieceFn.cut.Goals as goal

pub returns-then-last-least-clause-none : goal.returns-then-last-least-clause-none
returns-then-last-least-clause-none c =
    let last = c.last_level-last.ensures ∙ ap last_level c.points-points.ensures.value in
    below_least c.args.least c.args.self.now c.points-points.ensures.valid (omega (arith, last, c.if-last-least.true))

pub returns-then-last-least-clause-keeps : goal.returns-then-last-least-clause-keeps
returns-then-last-least-clause-keeps c other left extra covers its =
    cut_keeps_none c.args.least extra (level_times c.args.self.now) other left covers its (returns-then-last-least-clause-none c)

pub carried-requires-clause-limit : goal.carried-requires-clause-limit
carried-requires-clause-limit c =
    let points = c.points-points.result.now in
    let are : ArePoints points = subst (λ ps. ArePoints ps) (sym c.points-points.ensures.value) c.points-points.ensures.valid in
    let last : c.args.least ≤ last_level points = omega (arith, c.last_level-last.ensures, c.if-last-least.false) in
    let end : c.time_at.result ≡ time_on points (last_level points) = c.time_at.ensures ∙ ap (λ x. time_on points x) c.last_level-last.ensures in
    let rises = never_falls points are c.args.least (last_level points) last in
    omega (arith, end, rises)

the_part : (c : goal.In_ok-points) → IsPart c.args.least 0 0 0 (time_on c.args.self.now (last_level c.args.self.now)) c.args.self.now c.in_ok-points.points.items
the_part c =
    let ps = c.args.self.now in
    let are = c.points-points.ensures.valid in
    let last = c.last_level-last.ensures ∙ ap last_level c.points-points.ensures.value in
    let low : c.args.least ≤ last_level ps = omega (arith, last, c.if-last-least.false) in
    let end : c.time_at.result ≡ time_on ps (last_level ps) = c.time_at.ensures ∙ ap (λ x. time_on c.points-points.result.now x) last ∙ ap (λ qs. time_on qs (last_level ps)) c.points-points.ensures.value in
    let rises = never_falls ps are c.args.least (last_level ps) low in
    let is = is_part c.args.least 0 0 0 (time_on ps (last_level ps)) ps are low (omega arith) (omega arith) (omega (arith, rises)) in
    let same =
    c.in_ok-points.ensures ∙ ap (λ limit. up_to limit (moved 0 0 0 (begun_at c.args.least (from_piece c.args.least c.points-points.result.now)))) end
    ∙ ap (λ qs. up_to (time_on ps (last_level ps)) (moved 0 0 0 (begun_at c.args.least (from_piece c.args.least qs)))) c.points-points.ensures.value in
    subst (λ out. IsPart c.args.least 0 0 0 (time_on ps (last_level ps)) ps out) (sym same) is

the_cut : (c : goal.In_ok-points) → IsCut c.args.least (level_times c.args.self.now) (level_times c.in_ok-points.points.items)
the_cut c =
    let last = c.last_level-last.ensures ∙ ap last_level c.points-points.ensures.value in
    part_is_cut c.args.least c.args.self.now c.in_ok-points.points.items c.points-points.ensures.valid (omega (arith, last, c.if-last-least.false)) (the_part c)

pub invariant_of-result : goal.invariant_of-result
invariant_of-result c = (the_part c).are

pub returns-clause-some : goal.returns-clause-some
returns-clause-some c = the_cut c

pub returns-clause-keeps : goal.returns-clause-keeps
returns-clause-keeps c other left extra covers its = cut_keeps c.args.least extra (level_times c.args.self.now) other left (level_times c.in_ok-points.points.items) covers its (the_cut c)
