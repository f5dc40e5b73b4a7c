use Rattle.std.proofs.Common.{arith, inl, inr, refl, sym}
use Rattle.std.specs.List.{list_all}
use Rattle.std.proofs.Math.Seq.{drop-cons}
use Rattle.std.proofs.lemmas.Bool.{cases_Bool, le-leb, leb-false}
use Rattle.charge_curve.specs.Points.{last_level}
use Rattle.piece_fn.specs.Cuts.{point_is_reached}
use Rattle.piece_fn.proofs.Between.{least_is_in_time}
use Rattle.piece_fn.proofs.Walks.{some_point}
use Rattle.piece_fn.proofs.coverage.covers.Goals as goal

pub returns-then-not-is_in_time : goal.returns-then-not-is_in_time
returns-then-not-is_in_time c =
    let own = c.args.own.now in
    let other = c.args.other.now in
    let late = leb-false _ _ (sym c.if-not-is_in_time.ensures) in
    let some = drop-cons own 0 (0, 0) (some_point own c.requires.own) in
    let others = drop-cons other 0 (0, 0) (some_point other c.requires.other) in
    elim (cases_Bool (list_all (point_is_reached own c.args.extra) other)) [
      | inl all ↦ absurd (let early = least_is_in_time own other c.args.extra _ _ _ _ c.requires.own some others all in omega (arith, late, early))
      | inr not_all ↦ rw (le-leb (last_level other) (last_level own) (omega (arith, c.if-last_level.false, c.last_level.ensures, c.last_level-2.ensures)), not_all) refl
    ]
