use Rattle.std.proofs.Common.{◌≡◌, ◌<◌, List, length, refl, sym, ap, subst, arith}
use Rattle.std.specs.Prelude.{IfSome, slice_index_or}
use Rattle.piece_fn.specs.PieceFn.{level_times}
use Rattle.label_steps.specs.Covering.{IsCoveredTo}
use Rattle.label_index.proofs.Options.{some_map}
use Rattle.near_tree.specs.Sites.{leaf_of}
use Rattle.near_tree.specs.Targets.{Asking, covers, covers_at, covers_by}
use Rattle.near_tree.specs.declared.proof.SectionLabel.{SectionLabel}
use Rattle.near_tree.proofs.CoveredStates.{covered_by_one}
use Rattle.near_tree.proofs.coverage.AskedOneByOneKnown.reach_of.Goals as goal

pub returns : goal.returns
returns c =
    let j = c.self.inside.judge in
    let same = ap length c.as_slice-labels.ensures in
    let less : c.args.number < length c.self.inside.judge.site.section.now.labels = omega (arith, c.if-number-labels.false, same) in
    let listed : c.index-labels-number.result ≡ slice_index_or c.self.inside.judge.site.section.now.labels c.args.number c.index-labels-number.result = subst (λ (ls : List SectionLabel). c.index-labels-number.result ≡ slice_index_or ls c.args.number c.index-labels-number.result) c.as_slice-labels.ensures c.index-labels-number.is in
    subst (λ (q : Asking). IfSome c.reach_by.result (IsCoveredTo (covers q) (level_times c.args.value.now) c.args.level)) c.self.view_is
    (some_map (IsCoveredTo (covers_by c.self.inside.judge.site.inst.now (leaf_of c.self.inside.judge.site) c.index-labels-number.result c.self.inside.target) (level_times c.args.value.now) c.args.level) (IsCoveredTo (covers_at c.self.inside.judge.site.inst.now (leaf_of c.self.inside.judge.site) c.self.inside.target) (level_times c.args.value.now) c.args.level) c.reach_by.result
    (λ to one. covered_by_one j.site.inst.now (leaf_of j.site) j.site.section.now.labels c.self.inside.target c.index-labels-number.result c.args.value.now c.args.level to refl (c.args.number, less, sym listed) one) c.reach_by.ensures.some)
