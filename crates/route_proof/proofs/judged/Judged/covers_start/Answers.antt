use Rattle.std.proofs.Common.{◌∙◌, [], ◌∷◌, ap}
use Rattle.route_proof.proofs.StartState.{start_tells}
use Rattle.route_proof.proofs.judged.Judged.covers_start.Goals as goal

pub returns : goal.returns
returns c =
    start_tells c.args.self.now c.point.result (c.point.ensures ∙ ap (λ s. (s, 0) ∷ []) c.start.ensures) c.covers_all-2.result c.covers_all-2.ensures.covered c.covers_all-2.ensures.missed
