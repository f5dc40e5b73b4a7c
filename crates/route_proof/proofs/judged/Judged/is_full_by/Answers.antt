use Rattle.std.proofs.Common.{◌∙◌, arith, ap, subst}
use Rattle.std.proofs.lemmas.Bool.{leb-true}
use Rattle.ev_model.specs.Network.{Network}
use Rattle.route_proof.specs.Asking.{vehicle}
use Rattle.route_proof.specs.Covered.{IsCovered}
use Rattle.route_proof.proofs.Early.{full_label}
use Rattle.route_proof.proofs.judged.Judged.is_full_by.Goals as goal

pub returns-in-Some-at : goal.returns-in-Some-at
returns-in-Some-at c is =
    let capacity = c.max_q.ensures.value ∙ ap (λ (g : Network). g.capacity) c.instance.ensures.value in
    let by = leb-true c.in-Some-at.full c.args.time is in
    let there = c.in-Some-at.ensures.some in
    subst (λ y. IsCovered c.args.self.now.labels (vehicle c.args.place y c.args.time)) capacity
    (full_label c.args.self.now.labels c.in-Some.number c.label-label.result.now c.args.place c.max_q.result c.args.time c.label-label.ensures.value c.if-label-place.false c.if-label-place-2.false there.0 (omega (arith, there.1, by)))
