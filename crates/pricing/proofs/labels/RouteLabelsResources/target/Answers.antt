use Rattle.std.proofs.Common.{◌≡◌, ◌∙◌, refl, ap, sym, subst, inl, false}
use Rattle.customer_sets.specs.CustSet.{has, with_customer}
use Rattle.fleet_model.proofs.Numbers.{numbered}
use Rattle.label_search.specs.Steps.{Leads}
use Rattle.piece_fn.specs.declared.label.Label.{Label}
use Rattle.closed_lists.specs.Questions.{Question}
use Rattle.closed_lists.specs.Tellings.{IsUncovered}
use Rattle.closed_lists.proofs.LabelSteps.{served_already}
use Rattle.pricing.specs.Labels.{route_space}
use Rattle.pricing.proofs.labels.RouteLabelsResources.target.Goals as goal

pub returns-clause-leads : goal.returns-clause-leads
returns-clause-leads c value =
    let q = c.self.inside.question in
    let number = numbered q.network c.in-Some.customer c.args.node c.in-Some.ensures.value.1 in
    let to : Label = record { last = c.args.node; node = c.args.node; set = c.with.result; value = value } in
    let leads : Leads (route_space c.self.inside.question) c.args.from.now to = record {
      moves = c.if-node-from.false;
      kind = inl (
        c.in-Some.ensures.value.0,
        record {
          last = refl;
          set = c.with.ensures.value ∙ ap (λ n. with_customer n c.args.from.now.set) number;
          new = subst (λ n. has c.args.from.now.set n ≡ false) number (sym c.has.ensures.value ∙ c.if-has.false);
          allowed = sym c.allows.ensures ∙ c.if-not-allows.false;
        },
      );
    } in
    subst (λ (p : Question). Leads (route_space p) c.args.from.now to) c.self.view_is leads

pub returns-then-has-clause-none : goal.returns-then-has-clause-none
returns-then-has-clause-none c can =
    let q = c.self.inside.question in
    let step = subst (λ (p : Question). IsUncovered p c.args.from.now c.args.node) (sym c.self.view_is) can in
    served_already q c.args.from.now c.args.node c.in-Some.customer c.in-Some.ensures.value.0 (numbered q.network c.in-Some.customer c.args.node c.in-Some.ensures.value.1) (sym c.if-has.ensures.value) step
