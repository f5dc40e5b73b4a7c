use Rattle.std.proofs.Common.{◌≡◌, ◌∙◌, ◌<◌, ℕ, List, None, ap, arith, get_or, length, subst, sym}
use Rattle.std.proofs.lemmas.Grind.{common_steps}
use Rattle.std.proofs.lemmas.List.{take_all}
use Rattle.std.proofs.lemmas.List.Elements.{All-get_or, All-weaker}
use Rattle.charge_curve.specs.Points.{ArePoints, last_level}
use Rattle.dominance.specs.LevelTimes.{IsLevel}
use Rattle.dominance.proofs.Pieces.{never_falls}
use Rattle.dominance.proofs.Rows.{charges_keep}
use Rattle.piece_fn.specs.PieceFn.{level_times}
use Rattle.piece_fn.proofs.Levels.{first_is_least, is_level}
use Rattle.label_steps.specs.Paying.{AreCharged, paying}
use Rattle.label_steps.proofs.Pays.{IsPointOf, charge_more, charge_of_point, every_charge, starts_are}
use Rattle.label_steps.proofs.paying.charged_where_it_pays.Goals as goal

pub paying_points-requires-clause-fits : goal.paying_points-requires-clause-fits
paying_points-requires-clause-fits c =
    let value = c.args.value in
    let are = c.points.ensures.valid in
    let last = c.requires.levels (last_level value) (is_level value (last_level value) are (first_is_least value are) (omega arith)) in
    let full = c.full_level-full.ensures.value in
    rw (c.points.ensures.value) (omega (arith, last, full))

-- a point to charge from
start_is : (curve ps items : List (ℕ × ℕ)) (index : ℕ) → ArePoints ps → items ≡ paying curve None ps → index < length items → IsPointOf ps (get_or items index (0, 0))
start_is curve ps items index are same less =
    let inside : index < length (paying curve None ps) = subst (λ xs. index < length xs) same less in
    subst (λ xs. IsPointOf ps (get_or xs index (0, 0))) (sym same) (All-get_or (IsPointOf ps) (paying curve None ps) index (0, 0) inside (starts_are curve ps are))

pub charge_from-requires-clause-fits : goal.charge_from-requires-clause-fits
charge_from-requires-clause-fits c =
    let same = c.deref-start-items.ensures.value ∙ c.in_ok-starts.ensures ∙ ap (λ ps. paying c.args.curve.now None ps) c.points.ensures.value in
    let point = start_is c.args.curve.now c.args.value c.deref-start-items.result.now c.loop-start.start-index c.points.ensures.valid same c.loop-start-test.true in
    c.requires.levels (get_or c.deref-start-items.result.now c.loop-start.start-index (0, 0)).0 point.0

pub charge_from-requires-clause-in_time : goal.charge_from-requires-clause-in_time
charge_from-requires-clause-in_time c =
    let same = c.deref-start-items.ensures.value ∙ c.in_ok-starts.ensures ∙ ap (λ ps. paying c.args.curve.now None ps) c.points.ensures.value in
    let point = start_is c.args.curve.now c.args.value c.deref-start-items.result.now c.loop-start.start-index c.points.ensures.valid same c.loop-start-test.true in
    let time = c.requires.times (get_or c.deref-start-items.result.now c.loop-start.start-index (0, 0)).0 point.0 in
    omega (arith, time, point.1)

pub loop-start-preserved : goal.loop-start-preserved
loop-start-preserved c =
    let same = c.deref-start-items.ensures.value ∙ c.in_ok-starts.ensures ∙ ap (λ ps. paying c.args.curve.now None ps) c.points.ensures.value in
    let point = start_is c.args.curve.now c.args.value c.deref-start-items.result.now c.loop-start.start-index c.points.ensures.valid same c.loop-start-test.true in
    rw (c.in_ok-push-2.ensures.items) (charge_more c.args.value c.args.curve.now c.args.limit c.deref-start-items.result.now c.loop-start.start-index c.loop-start.values.items c.in_ok-after.after c.loop-start-test.true
    c.loop-start.invariant (charge_of_point c.args.value c.args.curve.now c.args.limit (get_or c.deref-start-items.result.now c.loop-start.start-index (0, 0)) (level_times c.in_ok-after.after) point c.in_ok-after.ensures))

the_list : (c : goal.After-drop-starts-2) → AreCharged c.args.value c.args.curve.now c.args.limit (paying c.args.curve.now None c.args.value) c.loop-start.values.items
the_list c =
    let whole = take_all c.loop-start.start-index c.deref-start-items.result.now c.loop-start-test.false in
    let same = c.deref-start-items.ensures.value ∙ c.in_ok-starts.ensures ∙ ap (λ ps. paying c.args.curve.now None ps) c.points.ensures.value in
    subst (λ starts. AreCharged c.args.value c.args.curve.now c.args.limit starts c.loop-start.values.items) (whole ∙ same) c.loop-start.invariant

pub returns-clause-answers : goal.returns-clause-answers
returns-clause-answers c = the_list c

pub returns-clause-starts : goal.returns-clause-starts
returns-clause-starts c =
    All-weaker (IsPointOf c.args.value) (λ start. IsLevel (level_times c.args.value) start.0) (λ start point. point.0) (paying c.args.curve.now None c.args.value) (starts_are c.args.curve.now c.args.value c.points.ensures.valid)

pub returns-clause-keeps : goal.returns-clause-keeps
returns-clause-keeps c other extra level time covers is =
    let curve = c.full_level-full.ensures.curve in
    charges_keep level_times (level_times c.args.value) c.args.curve.now c.args.limit c.loop-start.values.items (never_falls c.args.curve.now curve.points) c.requires.levels
    (every_charge c.args.value c.args.curve.now c.args.limit c.loop-start.values.items c.points.ensures.valid curve.points curve.slowing (the_list c)) other extra level time covers is

pub loop-start-init : goal.loop-start-init
loop-start-init = grind (arith, common_steps)
