use Rattle.std.proofs.Common.{◌∙◌, ap, sym}
use Rattle.piece_fn.specs.Cuts.{covers_at_points}
use Rattle.piece_fn.proofs.Exact.{exact}
use Rattle.piece_fn.proofs.piece_fn.PieceFnLabelValue.covers.Goals as goal

pub returns : goal.returns
returns c =
    let own = c.args.self.now in
    let other = c.args.other.now in
    let same = c.covers.ensures ∙ ap (λ ps. covers_at_points ps c.points-2.result.now c.args.extra) c.points.ensures.value ∙ ap (λ ps. covers_at_points own ps c.args.extra) c.points-2.ensures.value in
    let is = exact own other c.args.extra c.points.ensures.valid c.points-2.ensures.valid in
    (λ passes. is.0 (sym same ∙ passes), λ covers. same ∙ is.1 covers)
