use Rattle.std.proofs.Common.{ℕ, List, subst}
use Rattle.route_proof.specs.Tellings.{TellsEach}
use Rattle.route_proof.proofs.LabelSteps.{told_step}
use Rattle.route_proof.proofs.judged.Judged.step_is_covered.Goals as goal

pub returns : goal.returns
returns c =
    let tells = subst (λ (vs : List (List (ℕ × ℕ))). TellsEach c.args.self.now c.args.to vs c.covers_each.result) c.deref.ensures.value c.covers_each.ensures in
    told_step c.args.self.now c.args.label.now c.args.to c.requires.next c.in_ok-values.values.items c.covers_each.result c.requires.on_way c.in_ok-values.ensures.steps c.in_ok-values.ensures.covers tells
