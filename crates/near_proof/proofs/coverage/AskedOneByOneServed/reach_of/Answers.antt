use Rattle.std.proofs.Common.{◌<◌, length, subst, arith}
use Rattle.std.specs.Prelude.{IfSome, slice_index_or}
use Rattle.std.proofs.lemmas.List.{get_or_default}
use Rattle.piece_fn.specs.PieceFn.{level_times}
use Rattle.label_steps.specs.Covering.{IsCoveredTo}
use Rattle.label_index.proofs.Options.{some_map}
use Rattle.near_proof.specs.Targets.{Asking, covers, covers_by}
use Rattle.near_proof.proofs.CoveredStates.{covered_by_one}
use Rattle.near_proof.proofs.coverage.AskedOneByOneServed.reach_of.Goals as goal

pub returns : goal.returns
returns c =
    let a : Asking = record { weight = c.self.inside.weight; labels = c.self.inside.labels.now; target = c.self.inside.target } in
    let less : c.args.number < length c.self.inside.labels.now = omega (arith, c.if-number-self.false) in
    let value = c.args.value.now in
    subst (λ (q : Asking). IfSome c.reach_by.result (IsCoveredTo (covers q) (level_times value) c.args.level)) c.self.view_is
    (some_map (IsCoveredTo (covers_by c.self.inside.weight (slice_index_or c.self.inside.labels.now c.args.number c.index-self-number.result) c.self.inside.target) (level_times value) c.args.level) (IsCoveredTo (covers a) (level_times value) c.args.level) c.reach_by.result
    (λ to one. covered_by_one a (slice_index_or c.self.inside.labels.now c.args.number c.index-self-number.result) value c.args.level to (c.args.number, less, get_or_default c.self.inside.labels.now c.args.number (slice_index_or c.self.inside.labels.now c.args.number c.index-self-number.result) c.index-self-number.result less) one) c.reach_by.ensures.some)
