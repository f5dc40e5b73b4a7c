use Rattle.std.proofs.Common.{◌∙◌, subst, sym}
use Rattle.std.specs.List.{All}
use Rattle.customer_sets.specs.CustSet.{IsCustomerSet}
use Rattle.near_text.specs.NearIn.{HasMemory}
use Rattle.ng_pricing.proofs.bound.proof_of.Goals as goal

pub returns-clause-kept : goal.returns-clause-kept
returns-clause-kept c = record {
  sets = subst (All IsCustomerSet) (c.deref.ensures.value ∙ sym c.from_vec-2.ensures) c.know_sets.ensures;
  memories = subst (All HasMemory) c.as_slice.ensures c.know_memories.ensures;
}
