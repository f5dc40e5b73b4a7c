use Rattle.std.proofs.Common.{◌≡◌, ◌∙◌, List, ℕ, None, subst, sym}
use Rattle.charge_curve.specs.CutCurve.{IsAccepted, IsSmall}
use Rattle.charge_curve.specs.Faults.{curve_fault}
use Rattle.charge_curve.proofs.Accepted.{is_accepted}
use Rattle.charge_curve.proofs.curve.Curve.new.Goals as goal

-- what was read is accepted, and what is kept is what was read
kept : (full : ℕ) (points items : List (ℕ × ℕ)) → IsSmall points full → curve_fault full points ≡ None → items ≡ points → IsAccepted (record { points = items; full = full })
kept full points items small none same = subst (λ (ps : List (ℕ × ℕ)). IsAccepted (record { points = ps; full = full })) (sym same) (is_accepted full points small none)

pub invariant_of-result : goal.invariant_of-result
invariant_of-result c = kept c.args.max_q c.args.points.now c.in-Ok.points.items c.requires (sym c.first_fault.ensures ∙ c.in_default.is) (c.in-Ok.ensures.items)

pub returns-in-Ok-clause-accepted : goal.returns-in-Ok-clause-accepted
returns-in-Ok-clause-accepted c = kept c.args.max_q c.args.points.now c.in-Ok.points.items c.requires (sym c.first_fault.ensures ∙ c.in_default.is) (c.in-Ok.ensures.items)
