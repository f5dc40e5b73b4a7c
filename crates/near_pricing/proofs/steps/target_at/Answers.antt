use Rattle.std.proofs.Common.{◌≡◌, ◌∙◌, length, ap, sym, subst, arith, inl, false, Some}
use Rattle.std.proofs.lemmas.Grind.{common_steps}
use Rattle.customer_sets.specs.CustSet.{has}
use Rattle.ev_model.specs.Network.{Network}
use Rattle.fleet_model.specs.Places.{customer_count, customer_number}
use Rattle.fleet_model.proofs.Numbers.{counted, numbered}
use Rattle.instance_reader.specs.Instance.{customer_nodes, IsCustomerNumber}
use Rattle.near_pricing.specs.Placed.{IsServedAt}
use Rattle.near_pricing.proofs.NoSteps.{served_enough, served_again}
use Rattle.near_pricing.proofs.steps.target_at.Goals as goal

pub returns-clause-leads : goal.returns-clause-leads
returns-clause-leads c value =
    let g = c.args.pricing.now.network in
    let q = c.args.pricing.now in
    let told : IsCustomerNumber c.args.pricing.now.network c.args.node (Some c.in-Some.customer) = subst (λ (h : Network). IsCustomerNumber h c.args.node (Some c.in-Some.customer)) c.instance-inst.ensures.same c.in-Some.ensures.value in
    let number = numbered c.args.pricing.now.network c.in-Some.customer c.args.node told.1 in
    let served : IsServedAt c.args.pricing.now c.args.from.now (customer_number c.args.pricing.now.network c.args.node) c.after_service.result = subst (λ n. IsServedAt c.args.pricing.now c.args.from.now n c.after_service.result) number c.after_service.ensures in
    let count : length c.customers.result.now ≡ customer_count c.args.pricing.now.network = ap length c.customers.ensures.value ∙ ap (λ (h : Network). length (customer_nodes h)) c.instance-inst.ensures.same ∙ counted g in
    let few = c.if-from-customers.false in
    record {
      moves = c.if-node-from.false;
      kind = inl (
        told.0,
        record {
          memory = served.memory;
          new = subst (λ n. has c.args.from.now.memory n ≡ false) number (sym c.has.ensures.value ∙ c.if-has.false);
          count = served.count;
          fewer = omega (arith, few, count);
          earned = served.earned;
        },
      );
    }

pub returns-then-has-clause-none : goal.returns-then-has-clause-none
returns-then-has-clause-none c can =
    let told : IsCustomerNumber c.args.pricing.now.network c.args.node (Some c.in-Some.customer) = subst (λ (h : Network). IsCustomerNumber h c.args.node (Some c.in-Some.customer)) c.instance-inst.ensures.same c.in-Some.ensures.value in
    served_again c.args.pricing.now.network c.args.from.now c.args.node c.in-Some.customer told.0 (numbered c.args.pricing.now.network c.in-Some.customer c.args.node told.1) (sym c.if-has.ensures.value) can

pub returns-then-from-customers-clause-none : goal.returns-then-from-customers-clause-none
returns-then-from-customers-clause-none c can =
    let told : IsCustomerNumber c.args.pricing.now.network c.args.node (Some c.in-Some.customer) = subst (λ (h : Network). IsCustomerNumber h c.args.node (Some c.in-Some.customer)) c.instance-inst.ensures.same c.in-Some.ensures.value in
    let count : length c.customers.result.now ≡ customer_count c.args.pricing.now.network = ap length c.customers.ensures.value ∙ ap (λ (h : Network). length (customer_nodes h)) c.instance-inst.ensures.same ∙ counted c.args.pricing.now.network in
    let enough = c.if-from-customers.true in
    served_enough c.args.pricing.now.network c.args.from.now c.args.node told.0 (omega (arith, enough, count)) can

pub after_service-requires-clause-label : goal.after_service-requires-clause-label
after_service-requires-clause-label = grind (arith, common_steps)

pub returns-in_default-clause-none : goal.returns-in_default-clause-none
returns-in_default-clause-none = grind (arith, common_steps)

pub has-requires : goal.has-requires
has-requires = grind (arith, common_steps)

pub after_service-requires-clause-known : goal.after_service-requires-clause-known
after_service-requires-clause-known = grind (arith, common_steps)

pub after_service-requires-clause-fewer : goal.after_service-requires-clause-fewer
after_service-requires-clause-fewer = grind (arith, common_steps)

pub customer_number-requires : goal.customer_number-requires
customer_number-requires = grind (arith, common_steps)
