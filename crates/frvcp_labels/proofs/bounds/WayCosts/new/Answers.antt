use Rattle.std.proofs.Common.{[], get_or, subst, sym, rules, arith}
use Rattle.std.proofs.lemmas.Grind.{common_steps}
use Rattle.frvcp_labels.specs.Bounds.{IsLayer, lists_in}
use Rattle.frvcp_labels.proofs.WayTables.{layer_more}
use Rattle.frvcp_labels.proofs.bounds.WayCosts.new.Goals as goal

pub loop-to-preserved : goal.loop-to-preserved
loop-to-preserved c = record {
  count = search rules;
  layers_are = λ to within.
      subst (λ l. IsLayer c.args.inst.now c.args.rate to (get_or (lists_in l) to [])) (sym c.in_ok-push.ensures.items)
      (layer_more c.args.inst.now c.args.rate c.loop-to.layers.items c.in_ok-layer_to.field-0 c.loop-to.to c.loop-to.invariant.count c.loop-to.invariant.layers_are c.in_ok-layer_to.ensures to within);
}

pub returns-clause-costs : goal.returns-clause-costs
returns-clause-costs = grind (arith, common_steps)
