use Rattle.std.proofs.Common.{◌≡◌, ◌∙◌, ◌<◌, ◌+◌, List, Option, ℕ, ap, arith, length, subst, sym, take}
use Rattle.std.proofs.lemmas.Grind.{common_steps}
use Rattle.std.specs.Prelude.{slice_index}
use Rattle.std.specs.List.{All}
use Rattle.std.proofs.lemmas.List.Elements.{All-push}
use Rattle.ev_model.specs.Network.{Network}
use Rattle.instance_reader.specs.Instance.{customer_nodes}
use Rattle.mixed_model.specs.Kinds.{first_of}
use Rattle.mixed_model.proofs.KindNumbers.{kind_is}
use Rattle.mixed_fleet.specs.Own.{AreOwnOf, IsLeastBelow}
use Rattle.mixed_fleet.specs.Searched.{IsSearched}
use Rattle.mixed_fleet.specs.declared.own.OwnRoutes.{OwnRoutes}
use Rattle.mixed_fleet.specs.declared.searched.Searched.{Searched}
use Rattle.mixed_fleet.proofs.OwnRoutes.{found_more, found_none}
use Rattle.mixed_fleet.proofs.own.own_routes.Goals.{in-Some+in_ok-push-in-Some, in-None}
use Rattle.mixed_fleet.proofs.own.own_routes.Goals as goal

pub loop-node-preserved : goal.loop-node-preserved
loop-node-preserved c =
    let kinds = c.args.kinds.now in
    let at = c.loop-node in
    let i = at.node-index in
    let nodes = customer_nodes (first_of kinds) in
    let listed = c.customers-customers.result.now in
    let same = kind_is kinds 0 c.index-kinds-0.result (omega (arith, c.requires.are.some)) c.index-kinds-0.is in
    let are : listed ≡ nodes = c.customers-customers.ensures.value ∙ ap (λ (g : Network). customer_nodes g) (sym same) in
    let within : i < length nodes = subst (λ (ns : List ℕ). i < length ns) are c.loop-node-test.true in
    let before : AreOwnOf kinds nodes (take i nodes) at.own = subst (λ (ns : List ℕ). AreOwnOf kinds nodes (take i ns) at.own) are at.invariant.own in
    let least : IsLeastBelow kinds (length kinds) (slice_index nodes i) c.in_ok-route.field-0 = subst (λ (ns : List ℕ). IsLeastBelow kinds (length kinds) (slice_index ns i) c.in_ok-route.field-0) are c.in_ok-route.ensures in
    let new = c.match-branch-2.own in
    let back = λ (own : AreOwnOf kinds nodes (take (i + 1) nodes) new). subst (λ (ns : List ℕ). AreOwnOf kinds nodes (take (i + 1) ns) new) (sym are) own in
    elim c.match-branch-2.branch [
      | in-Some+in_ok-push-in-Some w ↦
          let r = w.in-Some.route in
          let is = subst (λ (o : Option Searched). IsLeastBelow kinds (length kinds) (slice_index nodes i) o) w.in-Some.is least in
          let pushed = ap (λ (o : OwnRoutes). o.routes.items) w.own-is ∙ w.in_ok-push-in-Some.ensures.items in
          let whole = ap (λ (o : OwnRoutes). o.whole) w.own-is in
          record {
            routes = subst (λ (rs : List Searched). All (IsSearched kinds) rs) (sym pushed) (All-push (IsSearched kinds) at.own.routes.items r at.invariant.routes is.searched);
            own = back (found_more kinds nodes i within at.own new before r is pushed whole);
          }
      | in-None w ↦
          let none = subst (λ (o : Option Searched). IsLeastBelow kinds (length kinds) (slice_index nodes i) o) w.in-None.is least in
          let stays = ap (λ (o : OwnRoutes). o.routes.items) w.own-is in
          let lacks = ap (λ (o : OwnRoutes). o.whole) w.own-is in
          record {
            routes = subst (λ (rs : List Searched). All (IsSearched kinds) rs) (sym stays) at.invariant.routes;
            own = back (found_none kinds nodes i within at.own new before none lacks);
          }
    ]

pub returns-clause-own : goal.returns-clause-own
returns-clause-own = grind (arith, common_steps)

pub loop-node-init : goal.loop-node-init
loop-node-init = grind (arith, common_steps)
