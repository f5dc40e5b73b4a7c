use Rattle.mixed_model.proofs.KindRoutes.{kind_is, none_told, some_told}
use Rattle.mixed_model.proofs.routes.route_of_kind.Goals as goal

pub returns-clause-listed : goal.returns-clause-listed
returns-clause-listed c =
    let kinds = c.args.kinds.now in
    let r = c.args.route.now in
    let g = c.index-kinds-route.result in
    let same = kind_is kinds r.kind g c.requires.known c.index-kinds-route.is in
    some_told kinds c.requires.kinds g r c.as_slice.result.now same c.requires.known c.as_slice.ensures c.fleet_route.result c.fleet_route.ensures.route c.fleet_route.ensures.among

pub returns-clause-none : goal.returns-clause-none
returns-clause-none c =
    let kinds = c.args.kinds.now in
    let r = c.args.route.now in
    let g = c.index-kinds-route.result in
    let same = kind_is kinds r.kind g c.requires.known c.index-kinds-route.is in
    none_told kinds g r c.as_slice.result.now same c.as_slice.ensures c.fleet_route.result c.fleet_route.ensures.none
