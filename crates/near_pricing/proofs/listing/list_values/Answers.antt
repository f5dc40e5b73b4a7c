use Rattle.std.proofs.Common.{List, ℕ, sym, subst}
use Rattle.std.specs.List.{All}
use Rattle.label_steps.specs.Arrivals.{IsWithin}
use Rattle.near_proof.specs.Ranges.{NearLabelFits}
use Rattle.near_proof.specs.declared.proof.NearLabel.{NearLabel}
use Rattle.label_search.proofs.Lists.{all_but_last, of_last, one_more}
use Rattle.near_pricing.proofs.listing.list_values.Goals as goal

pub without_count-requires-clause-value : goal.without_count-requires-clause-value
without_count-requires-clause-value c =
    of_last (IsWithin c.args.pricing.now.network) c.pop.new.self.items c.in-Some.value
    (subst (λ (vs : List (List (ℕ × ℕ))). All (IsWithin c.args.pricing.now.network) vs) c.in-Some.ensures.items c.loop-value.invariant.values)

pub loop-value-preserved : goal.loop-value-preserved
loop-value-preserved c = record {
  values = all_but_last (IsWithin c.args.pricing.now.network) c.pop.new.self.items c.in-Some.value
      (subst (λ (vs : List (List (ℕ × ℕ))). All (IsWithin c.args.pricing.now.network) vs) c.in-Some.ensures.items c.loop-value.invariant.values);
  fit = subst (λ (ls : List NearLabel). All (NearLabelFits c.args.pricing.now.network) ls) (sym c.in_ok-push.ensures.items)
      (one_more (NearLabelFits c.args.pricing.now.network) c.loop-value.labels.items c.without_count.result c.loop-value.invariant.fit c.without_count.ensures);
}
