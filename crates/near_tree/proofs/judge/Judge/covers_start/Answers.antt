use Rattle.std.proofs.Common.{subst, refl, pos}
use Rattle.piece_fn.specs.PieceFn.{level_times}
use Rattle.label_steps.specs.Covering.{IsCoveredAll, IsMissed}
use Rattle.near_tree.specs.Sites.{leaf_of}
use Rattle.near_tree.specs.Targets.{Asking, covers}
use Rattle.near_tree.specs.declared.coverage.Target.{Target}
use Rattle.near_tree.proofs.HomeSteps.{IsStartTarget, start_covered, start_missed}
use Rattle.near_tree.proofs.judge.Judge.covers_start.Goals as goal

pub returns-clause-covered : goal.returns-clause-covered
returns-clause-covered c passes =
    let t : Target = record { node = 0; last = 0; memory = c.empty.result; earned = pos 0 } in
    let target : IsStartTarget t = record { node = refl; last = refl; memory = c.empty.ensures; earned = refl } in
    start_covered c.args.self.now.site.inst.now (leaf_of c.args.self.now.site) t c.max_q.result c.point-full.result target c.max_q.ensures.value c.point-full.ensures (subst (λ (a : Asking). IsCoveredAll (covers a) (level_times c.point-full.result)) c.asked.ensures (c.covers_all.ensures.covered passes))

pub returns-clause-missed : goal.returns-clause-missed
returns-clause-missed c fails =
    let t : Target = record { node = 0; last = 0; memory = c.empty.result; earned = pos 0 } in
    let target : IsStartTarget t = record { node = refl; last = refl; memory = c.empty.ensures; earned = refl } in
    start_missed c.args.self.now.site.inst.now (leaf_of c.args.self.now.site) t c.max_q.result c.point-full.result target c.max_q.ensures.value c.point-full.ensures (subst (λ (a : Asking). IsMissed (covers a) (level_times c.point-full.result)) c.asked.ensures (c.covers_all.ensures.missed fails))
