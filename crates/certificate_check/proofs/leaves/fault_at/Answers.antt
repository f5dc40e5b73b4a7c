use Rattle.std.proofs.Common.{◌∙◌, refl, sym, inr, arith}
use Rattle.std.proofs.lemmas.Grind.{common_steps}
use Rattle.std.proofs.lemmas.Bool.{false≢true}
use Rattle.bound_certificate.specs.Meaning.{priced_section}
use Rattle.certificate_check.proofs.leaves.fault_at.Goals as goal

pub returns-then-not-is_bounded-clause-told : goal.returns-then-not-is_bounded-clause-told
returns-then-not-is_bounded-clause-told c =
    let is = c.is_bounded.ensures (priced_section c.args.section.now) (record { same_weight = refl; same_prices = sym c.as_slice.ensures }) in
    inr (refl, c.allows_each.ensures.each.0 c.if-not-allows_each.false, λ bounded. false≢true (sym c.if-not-is_bounded.true ∙ is.1 bounded))

pub returns-clause-told : goal.returns-clause-told
returns-clause-told c =
    let is = c.is_bounded.ensures (priced_section c.args.section.now) (record { same_weight = refl; same_prices = sym c.as_slice.ensures }) in
    record { pairs = c.allows_each.ensures.each.0 c.if-not-allows_each.false; bounded = is.0 c.if-not-is_bounded.false }

pub returns-then-not-allows_each-clause-told : goal.returns-then-not-allows_each-clause-told
returns-then-not-allows_each-clause-told = grind (arith, common_steps)
