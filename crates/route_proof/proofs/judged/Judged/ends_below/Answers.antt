use Rattle.std.proofs.Common.{◌≡◌, ◌+◌, ◌-◌, ℕ, List, arith, length, refl, subst}
use Rattle.route_proof.specs.Ends.{TellsBelow}
use Rattle.route_proof.proofs.LabelEnds.{told_home}
use Rattle.route_proof.proofs.judged.Judged.ends_below.Goals as goal

pub returns : goal.returns
returns c =
    let l = c.args.label.now in
    let end : c.args.label.now.passed + 1 ≡ length c.args.self.now.journey.route - 1 = omega (arith, c.requires.passed, c.if-passed-end.false, c.end-end.ensures) in
    let told = subst (λ (vs : List (List (ℕ × ℕ))). TellsBelow vs c.bar.result c.is_below.result) c.deref.ensures.value c.is_below.ensures in
    let tells = subst (λ b. TellsBelow c.in_ok-values.values.items b c.is_below.result) c.bar.ensures told in
    told_home c.args.self.now l (record { passed = l.passed + 1; node = c.node_at-node.result }) refl c.node_at-node.ensures.value end c.in_ok-values.values.items c.is_below.result c.in_ok-values.ensures.steps c.in_ok-values.ensures.covers tells
