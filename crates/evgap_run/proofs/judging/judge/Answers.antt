use Rattle.std.proofs.Common.{◌∙◌, ℕ, Option, subst, sym}
use Rattle.std.specs.Option.{option_map}
use Rattle.near_steps.proofs.Bounds.{is_bound_of_cost}
use Rattle.near_proof.specs.Truth.{IsTrueNearBound}
use Rattle.report_lines.specs.Lines.{IsBoundOf}
use Rattle.tree_text.specs.BoundProofs.{bound_of}
use Rattle.evgap_run.proofs.judging.judge.Goals as goal

pub returns-clause-lines : goal.returns-clause-lines
returns-clause-lines c =
    let g = c.args.inst.now in
    let proof = c.args.proof.now in
    let shows : IsTrueNearBound g (bound_of proof) = c.in_ok-verdict.ensures.bounds (sym c.is_accepted.ensures ∙ c.if-not-is_accepted.false) in
    let bounds = is_bound_of_cost g (option_map (λ p. p.now) c.args.plan) c.in-Ok.cost (bound_of proof) c.in-Ok.ensures.ok shows in
    (subst (λ (b : Option ℕ). IsBoundOf c.in-Ok.cost b) (sym c.bound.ensures) bounds, c.in-Ok.ensures.small c.requires.text)
