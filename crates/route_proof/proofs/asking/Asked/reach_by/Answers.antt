use Rattle.label_steps.specs.Covering.{IsCoveredTo}
use Rattle.piece_fn.specs.PieceFn.{IsReach, level_times}
use Rattle.route_proof.specs.Asking.{covers}
use Rattle.route_proof.proofs.EntryLooks.{reach_covers}
use Rattle.label_index.proofs.Options.{some_map}
use Rattle.route_proof.proofs.asking.Asked.reach_by.Goals as goal

pub returns-clause-some : goal.returns-clause-some
returns-clause-some c =
    some_map (λ to. IsReach (level_times c.label-label.result.now.value) (level_times c.args.value.now) 0 c.args.level to) (IsCoveredTo (covers c.args.self.now.judged.now c.args.self.now.place) (level_times c.args.value.now) c.args.level) c.reach.result
    (λ to r. reach_covers c.args.self.now.judged.now c.args.self.now.place c.args.value.now c.args.number c.label-label.result.now c.args.level to c.label-label.ensures.value c.if-label-self.false c.if-label-self-2.false r) c.reach.ensures.some
