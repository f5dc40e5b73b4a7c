use Rattle.std.proofs.Common.{◌≡◌, ◌+◌, ◌-◌, ◌/◌, ◌<◌, arith, refl, subst, sym}
use Rattle.std.proofs.lemmas.Grind.{common_steps, rows}
use Rattle.std.proofs.lemmas.Bool.{leb-false, leb-true}
use Rattle.charge_curve.specs.Points.{time_on}
use Rattle.piece_fn.specs.Reach.{LastsTo}
use Rattle.piece_fn.proofs.LastingOrders.{last_covered, lasts_below, lasts_to_high, steeper}
use Rattle.piece_fn.proofs.reach.lasts_to.Goals as goal

pub returns-then-is_in_time : goal.returns-then-is_in_time
returns-then-is_in_time c =
    let ends = leb-true _ _ (sym c.if-is_in_time.ensures) in
    lasts_to_high c.args.own.now c.args.other.now c.args.extra c.args.low c.args.high c.requires.own c.requires.other c.requires.order c.requires.own_straight c.requires.other_straight c.requires.covered
    (omega (arith, ends, c.time_on_piece.ensures, c.time_on_piece-2.ensures))

is_past : (c : goal.After-time_on_piece-its_next) → time_on c.args.other.now c.args.high < time_on c.args.own.now c.args.high + c.args.extra
is_past c = let past = leb-false _ _ (sym c.if-is_in_time.ensures) in omega (arith, past, c.time_on_piece.ensures, c.time_on_piece-2.ensures)

last_is : (c : goal.After-time_on_piece-its_next)
    → c.args.low + (c.time_on_piece-its.result - c.time_on_piece-mine.result - c.args.extra) / (c.time_on_piece-mine_next.result - c.time_on_piece-mine.result - (c.time_on_piece-its_next.result - c.time_on_piece-its.result))
    ≡ c.args.low + last_covered (time_on c.args.own.now) (time_on c.args.other.now) c.args.extra c.args.low
last_is c = rw (c.time_on_piece-its.ensures, c.time_on_piece-mine.ensures, c.time_on_piece-mine_next.ensures, c.time_on_piece-its_next.ensures) refl

lasts_here : (c : goal.After-time_on_piece-its_next) → LastsTo (time_on c.args.own.now) (time_on c.args.other.now) c.args.extra c.args.low c.args.high (c.args.low + last_covered (time_on c.args.own.now) (time_on c.args.other.now) c.args.extra c.args.low)
lasts_here c =
    lasts_below c.args.own.now c.args.other.now c.args.extra c.args.low c.args.high c.requires.own c.requires.other c.requires.order c.requires.own_straight c.requires.other_straight c.requires.covered (is_past c)

is_steeper : (c : goal.After-time_on_piece-its_next) → (c.time_on_piece-its_next.result - c.time_on_piece-its.result) < (c.time_on_piece-mine_next.result - c.time_on_piece-mine.result)
is_steeper c =
    let less = steeper c.args.own.now c.args.other.now c.args.extra c.args.low c.args.high c.requires.own c.requires.other c.requires.order c.requires.own_straight c.requires.other_straight c.requires.covered (is_past c) in
    omega (arith, less, c.time_on_piece-its.ensures, c.time_on_piece-mine.ensures, c.time_on_piece-mine_next.ensures, c.time_on_piece-its_next.ensures)

pub overflow_sub-levels-5 : goal.overflow_sub-levels-5
overflow_sub-levels-5 c = omega (arith, is_steeper c)

pub nonzero_div-levels : goal.nonzero_div-levels
nonzero_div-levels c = omega (arith, is_steeper c)

pub overflow_add-result : goal.overflow_add-result
overflow_add-result c = let is = lasts_here c in omega (arith, last_is c, is.within, c.ranges.high.fits)

pub returns : goal.returns
returns c = subst (λ last. LastsTo (time_on c.args.own.now) (time_on c.args.other.now) c.args.extra c.args.low c.args.high last) (sym (last_is c)) (lasts_here c)

pub overflow_sub-levels-3 : goal.overflow_sub-levels-3
overflow_sub-levels-3 = grind (arith, common_steps, rows)
