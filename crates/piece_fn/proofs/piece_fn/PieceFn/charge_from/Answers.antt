use Rattle.std.proofs.Common.{◌∙◌, ap, arith, subst, sym}
use Rattle.charge_curve.specs.Points.{time_on}
use Rattle.piece_fn.specs.Cuts.{begun_at, from_piece, moved, up_to}
use Rattle.piece_fn.proofs.Levels.{time_at-level_times}
use Rattle.piece_fn.proofs.Parts.{is_part, IsPart}
use Rattle.piece_fn.proofs.Values.{part_is_charge}
use Rattle.piece_fn.proofs.piece_fn.PieceFn.charge_from.Goals as goal

pub carried-requires-clause-limit : goal.carried-requires-clause-limit
carried-requires-clause-limit c =
    let here = c.time_at.ensures ∙ ap (λ ps. time_on ps c.args.level) c.points.ensures.value ∙ sym (time_at-level_times c.args.self.now c.args.level c.points.ensures.valid c.requires.level) in
    let empty = ap (λ ps. time_on ps c.args.level) c.breaks.ensures.value in
    omega (arith, here, empty, c.time_to.ensures.value, c.requires.time)

the_part : (c : goal.In_ok-points) → IsPart c.args.level 0 c.time_to.result c.time_at.result c.args.limit c.args.curve.now c.in_ok-points.points.items
the_part c =
    let curve = c.args.curve.now in
    let here = c.time_at.ensures ∙ ap (λ ps. time_on ps c.args.level) c.points.ensures.value ∙ sym (time_at-level_times c.args.self.now c.args.level c.points.ensures.valid c.requires.level) in
    let is = is_part c.args.level 0 c.time_to.result c.time_at.result c.args.limit c.args.curve.now c.breaks.ensures.curve.points c.requires.fits (omega arith) (omega (arith, c.time_to.ensures.value)) (omega (arith, here, c.time_to.ensures.value, c.requires.time)) in
    let same = c.in_ok-points.ensures ∙ ap (λ ps. up_to c.args.limit (moved 0 c.time_to.result c.time_at.result (begun_at c.args.level (from_piece c.args.level ps)))) c.breaks.ensures.value in
    subst (λ out. IsPart c.args.level 0 c.time_to.result c.time_at.result c.args.limit c.args.curve.now out) (sym same) is

pub invariant_of-result : goal.invariant_of-result
invariant_of-result c = (the_part c).are

pub returns-clause-valid : goal.returns-clause-valid
returns-clause-valid c = (the_part c).are

pub returns-clause-charge : goal.returns-clause-charge
returns-clause-charge c =
    let here = c.time_at.ensures ∙ ap (λ ps. time_on ps c.args.level) c.points.ensures.value ∙ sym (time_at-level_times c.args.self.now c.args.level c.points.ensures.valid c.requires.level) in
    part_is_charge c.args.self.now c.args.curve.now c.args.limit c.args.level c.time_to.result c.time_at.result c.in_ok-points.points.items c.breaks.ensures.curve.points c.breaks.ensures.curve.begins c.time_to.ensures.value here (the_part c)
