use Rattle.std.proofs.Common.{◌∙◌, List, ap, map, subst, sym}
use Rattle.piece_fn.specs.declared.label.Label.{Label}
use Rattle.pricing.specs.declared.priced.PricedRoute.{PricedRoute}
use Rattle.mixed_model.proofs.KindNumbers.{kind_is}
use Rattle.mixed_model.specs.Kinds.{network_of}
use Rattle.mixed_fleet.specs.Problem.{IsClosedList}
use Rattle.mixed_fleet.specs.Searched.{searched_of}
use Rattle.mixed_fleet.proofs.KindAnswers.{closed_by, first_earns, further_earn}
use Rattle.mixed_fleet.proofs.earners.earn_by.Goals as goal

pub returns-in-Closed : goal.returns-in-Closed
returns-in-Closed c =
    let kinds = c.args.kinds.now in
    let kind = c.args.kind in
    let prices = c.args.prices.now in
    let same = kind_is kinds kind c.index-kinds-kind.result c.requires.kind c.index-kinds-kind.is in
    let asked = c.in_ok-asked.asked in
    let is = closed_by kinds kind c.requires.kind c.index-kinds-kind.result same c.args.pairs.now c.args.weight asked.weight prices asked.of.items c.in_ok-asked.ensures.weight c.in_ok-asked.ensures.of
    c.in_ok-labels.field-0 c.in_ok-labels.ensures c.in-Closed.labels c.in-Closed.is c.requires.open.allowed in
    subst (λ (ls : List Label). IsClosedList (network_of kinds kind) c.args.weight prices ls) (sym c.from_vec.ensures) is

pub returns : goal.returns
returns c =
    let kinds = c.args.kinds.now in
    let kind = c.args.kind in
    let prices = c.args.prices.now in
    let h = c.index-kinds-kind.result in
    let same = kind_is kinds kind h c.requires.kind c.index-kinds-kind.is in
    let asked = c.in_ok-asked.asked in
    let better = c.in-Better in
    let first = first_earns kinds kind c.requires.kind h same c.args.pairs.now c.args.weight asked.weight prices asked.of.items c.in_ok-asked.ensures.weight c.in_ok-asked.ensures.of
    c.in_ok-labels.field-0 c.in_ok-labels.ensures better.plan better.order better.further better.is
    c.in_ok-as_searched-in-Better.field-0 (c.in_ok-as_searched-in-Better.ensures ∙ ap (λ ns. searched_of h kind ns better.plan) c.deref.ensures.value) in
    let rest = further_earn kinds kind c.requires.kind h same c.args.pairs.now c.args.weight asked.weight prices asked.of.items c.in_ok-asked.ensures.weight c.in_ok-asked.ensures.of
    c.in_ok-labels.field-0 c.in_ok-labels.ensures better.plan better.order better.further better.is
    c.in_ok-all_searched-in-Better.field-0.items (c.in_ok-all_searched-in-Better.ensures ∙ ap (λ (rs : List PricedRoute). map (λ (r : PricedRoute). searched_of h kind r.order.items r.plan) rs) c.deref-in-Better.ensures.value) in
    (first, rest)
