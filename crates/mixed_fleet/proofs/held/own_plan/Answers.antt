use Rattle.std.proofs.Common.{◌≡◌, ◌∙◌, List, Some, ap, arith, false, rules, subst, sym, true}
use Rattle.std.specs.List.Sorted.{IsStrictlyIncreasing}
use Rattle.instance_reader.specs.Instance.{customer_nodes}
use Rattle.mixed_model.specs.Kinds.{first_of}
use Rattle.mixed_model.specs.declared.proof.MixedRoute.{MixedRoute}
use Rattle.mixed_model.proofs.KindNumbers.{kind_is}
use Rattle.mixed_fleet.specs.Plans.{CostsNoMoreThanOwn}
use Rattle.mixed_fleet.specs.Searched.{total_time}
use Rattle.mixed_fleet.specs.declared.searched.Searched.{Searched}
use Rattle.mixed_fleet.proofs.HeldPlans.{is_held_at, own_cost}
use Rattle.mixed_fleet.proofs.OwnPlan.{least_held, own_costs, own_lacks}
use Rattle.mixed_fleet.proofs.Wides.{routes_of}
use Rattle.mixed_fleet.proofs.held.own_plan.Goals as goal

pub returns-then-not-own-clause-own : goal.returns-then-not-own-clause-own
returns-then-not-own-clause-own c =
    let some_lacks : c.args.own.now.whole ≡ false = search rules in
    own_lacks c.args.kinds.now (c.requires.own.lacks some_lacks)

pub returns-clause-held : goal.returns-clause-held
returns-clause-held c =
    let kinds = c.args.kinds.now in
    let items = c.args.own.now.routes.items in
    let all : c.args.own.now.whole ≡ true = search rules in
    let same = kind_is kinds 0 c.index-kinds-0.result (omega (arith, c.requires.fleet.are.some)) c.index-kinds-0.is in
    let rising : IsStrictlyIncreasing (customer_nodes (first_of kinds)) = subst IsStrictlyIncreasing (c.customers-customers.ensures.value ∙ ap customer_nodes (sym same)) c.customers-customers.ensures.rising in
    let made = c.from_vec.ensures ∙ c.in_ok-routes.ensures ∙ ap (λ (rs : List Searched). routes_of rs) c.deref.ensures.value in
    let held = least_held kinds items c.requires.fleet rising (c.requires.own.whole all) in
    let times = ap (λ (rs : List Searched). total_time rs) c.deref-2.ensures.value in
    let cost = c.total_time.ensures ∙ times ∙ own_cost kinds (customer_nodes (first_of kinds)) items (c.requires.own.whole all) in
    is_held_at kinds (routes_of items) c.from_vec.result c.total_time.result made held cost

pub returns-clause-own : goal.returns-clause-own
returns-clause-own c =
    let kinds = c.args.kinds.now in
    let items = c.args.own.now.routes.items in
    let all : c.args.own.now.whole ≡ true = search rules in
    let made = c.from_vec.ensures ∙ c.in_ok-routes.ensures ∙ ap (λ (rs : List Searched). routes_of rs) c.deref.ensures.value in
    subst (λ (rs : List MixedRoute). CostsNoMoreThanOwn kinds (Some rs)) (sym made) (own_costs kinds items (c.requires.own.whole all))
