use Rattle.std.proofs.Common.{◌∙◌, ap, sym}
use Rattle.std.proofs.lemmas.Bool.{eq-eqb, eqb-true}
use Rattle.customer_sets.specs.Members.{members}
use Rattle.customer_sets.proofs.Ranges.{empty-members, members-zero}
use Rattle.customer_sets.proofs.CustSet.is_empty.Goals as goal

pub returns : goal.returns
returns c = (
  λ none. sym c.self.view_is ∙ ap members (eqb-true c.self.inside.bits 0 none) ∙ members-zero,
  λ none. eq-eqb c.self.inside.bits 0 (empty-members c.self.inside.bits c.self.invariant (c.self.view_is ∙ none)),
)
