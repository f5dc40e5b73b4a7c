use Rattle.std.proofs.Common.{List, sym, subst}
use Rattle.std.specs.List.{All}
use Rattle.near_proof.specs.Ranges.{NearLabelFits}
use Rattle.near_proof.specs.declared.proof.NearLabel.{NearLabel}
use Rattle.near_pricing.proofs.LabelRanges.{uncounted_fits}
use Rattle.label_search.proofs.Lists.{all_but_last, of_last, one_more}
use Rattle.near_pricing.proofs.listing.list_all.Goals as goal

pub loop-label-preserved : goal.loop-label-preserved
loop-label-preserved c =
    let all = subst (λ (ls : List NearLabel). All (NearLabelFits c.args.pricing.now.network) ls) c.in-Some.ensures.items c.loop-label.invariant.left in
    record {
      left = all_but_last (NearLabelFits c.args.pricing.now.network) c.pop.new.self.items c.in-Some.label all;
      fit = subst (λ (ls : List NearLabel). All (NearLabelFits c.args.pricing.now.network) ls) (sym c.in_ok-push.ensures.items)
          (one_more (NearLabelFits c.args.pricing.now.network) c.loop-label.listed.items (record c.in-Some.label { count = 0 }) c.loop-label.invariant.fit
          (uncounted_fits c.args.pricing.now.network c.in-Some.label (of_last (NearLabelFits c.args.pricing.now.network) c.pop.new.self.items c.in-Some.label all)));
    }
