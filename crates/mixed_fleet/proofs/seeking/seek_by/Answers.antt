use Rattle.std.proofs.Common.{◌≡◌, ◌∙◌, List, Vec, ap, map}
use Rattle.std.specs.Global.{Global}
use Rattle.std.specs.List.{All}
use Rattle.std.proofs.lemmas.Result.{IfOk-weaker}
use Rattle.pricing.specs.declared.priced.PricedRoute.{PricedRoute}
use Rattle.price_loop.specs.Problems.{IsEarning}
use Rattle.mixed_model.proofs.KindNumbers.{kind_is}
use Rattle.mixed_fleet.specs.Problem.{problem_of}
use Rattle.mixed_fleet.specs.Searched.{searched_of}
use Rattle.mixed_fleet.specs.declared.searched.Searched.{Searched}
use Rattle.mixed_fleet.proofs.SoughtRoutes.{sought_earn}
use Rattle.mixed_fleet.proofs.seeking.seek_by.Goals as goal

pub returns : goal.returns
returns c =
    let kinds = c.args.kinds.now in
    let kind = c.args.kind in
    let weight = c.args.weight in
    let prices = c.args.prices.now in
    let h = c.index-kinds-kind.result in
    let same = kind_is kinds kind h c.requires.kind c.index-kinds-kind.is in
    let asked = c.in_ok-asked.asked in
    let routes = c.in_ok-routes.routes.items in
    let made_of : List PricedRoute → List Searched = λ rs. map (λ (r : PricedRoute). searched_of h kind r.order.items r.plan) rs in
    IfOk-weaker c.all_searched.result (λ (found : Vec Searched Global). found.items ≡ made_of c.deref.result.now) (λ (found : Vec Searched Global). All (IsEarning (problem_of kinds) weight prices) found.items)
    (λ found made. sought_earn kinds kind c.requires.kind h same c.args.pairs.now weight asked.weight prices asked.of.items c.in_ok-asked.ensures.weight c.in_ok-asked.ensures.of
    routes c.in_ok-routes.ensures found.items (made ∙ ap made_of c.deref.ensures.value))
    c.all_searched.ensures
