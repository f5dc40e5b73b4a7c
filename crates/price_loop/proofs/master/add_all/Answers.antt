use Rattle.std.proofs.Common.{◌≡◌, ◌++◌, ◌∷◌, [], List, ap, arith, length, refl, subst}
use Rattle.std.proofs.lemmas.Grind.{common_steps}
use Rattle.std.specs.List.{All}
use Rattle.std.proofs.lemmas.List.{length-append}
use Rattle.std.proofs.lemmas.List.Elements.{All-tail}
use Rattle.std.specs.Vec.Iter.{into_iter_items}
use Rattle.master_table.specs.Tableau.{Limits}
use Rattle.price_loop.specs.Masters.{IsMaster}
use Rattle.price_loop.proofs.master.add_all.Goals as goal

pub loop-route-preserved : goal.loop-route-preserved
loop-route-preserved g c =
    let q = g.E.Earners.problem c.args.earners.now in
    let at = c.loop-route in
    let steps : into_iter_items at.route-iterator ≡ c.in-Some.route ∷ into_iter_items c.next.new.self = c.in-Some.ensures.steps.0 in
    let gone = c.in-Some.ensures.steps.1 in
    let short = ap length steps in
    let longer : length c.add.new.master.routes.items ≡ length (at.master.routes.items ++ c.in-Some.route ∷ []) = rw c.in_ok-add.ensures.more refl in
    let one_more = length-append at.master.routes.items (c.in-Some.route ∷ []) in
    record {
      master = subst (λ (l : Limits). IsMaster q l c.add.new.master) at.invariant.master.caps_are c.in_ok-add.ensures.master;
      left = All-tail q.is_route c.in-Some.route (into_iter_items c.next.new.self) (subst (λ (rs : List g.row.E-Route.Denot). All q.is_route rs) steps at.invariant.left);
      more = (let was = at.invariant.more in omega (arith, was, short, longer, one_more));
      count = (let was = at.invariant.count in omega (arith, was, gone, short));
    }

pub add-requires-clause-master : goal.add-requires-clause-master
add-requires-clause-master = grind (arith, common_steps)
