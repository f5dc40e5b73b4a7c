use Rattle.std.proofs.Common.{◌≡◌, ◌∙◌, ◌<◌, List, [], length, sym, subst, ap}
use Rattle.std.specs.List.{All}
use Rattle.std.proofs.lemmas.List.Elements.{All-nil}
use Rattle.label_search.proofs.SearchState.{start_range}
use Rattle.label_search.proofs.search.new_search.Goals as goal

pub put-requires-clause-range : goal.put-requires-clause-range
put-requires-clause-range g c =
    start_range (g.R.Resources.space c.args.resources.now) c.instance-inst.ensures.lawful c.start-start.result c.start-start.ensures

pub returns : goal.returns
returns g c =
    let s = g.R.Resources.space c.args.resources.now in
    let none_listed : c.put.new.search.listed.items ≡ [] = ap (λ v. v.items) c.in_ok-put.ensures.listed ∙ c.new-2.ensures.items in
    let no_routes : c.put.new.search.routes.items ≡ [] = ap (λ v. v.items) c.in_ok-put.ensures.routes ∙ c.new-3.ensures.items in
    record {
      lawful = c.instance-inst.ensures.lawful;
      some = c.in_ok-put.ensures.some;
      labels = c.in_ok-put.ensures.tree;
      listed_within = subst (λ ns. All (λ n. n < length c.put.new.search.tree.found.items) ns) (sym none_listed) (All-nil (λ n. n < length c.put.new.search.tree.found.items));
      are_routes = subst (λ (rs : List g.row.R-Route.Denot). All s.is_route rs) (sym no_routes) (All-nil s.is_route);
    }
