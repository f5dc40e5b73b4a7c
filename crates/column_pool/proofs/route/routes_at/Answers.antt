use Rattle.std.proofs.Common.{◌∙◌, IfSome, List, Option, Vec, ap, subst, sym}
use Rattle.std.specs.Global.{Global}
use Rattle.std.specs.List.{All}
use Rattle.std.proofs.lemmas.List.Elements.{All-push}
use Rattle.column_pool.specs.Nodes.{IsTimedRoute}
use Rattle.column_pool.specs.declared.route.NodeRoute.{NodeRoute}
use Rattle.column_pool.proofs.route.routes_at.Goals.{in-Some+in_ok-push, in_default}
use Rattle.column_pool.proofs.route.routes_at.Goals as goal

pub loop-at-preserved : goal.loop-at-preserved
loop-at-preserved c =
    let P = IsTimedRoute c.args.inst.now c.args.pairs.now in
    let items = λ (v : Vec NodeRoute Global). v.items in
    elim c.match-branch-2.branch [
      | in-Some+in_ok-push w ↦
          let is = subst (λ (o : Option NodeRoute). IfSome o P) w.in-Some.is c.in_ok-route.ensures in
          let made = ap items w.found-is ∙ w.in_ok-push.ensures.items in
          subst (λ (rs : List NodeRoute). All P rs) (sym made) (All-push P c.loop-at.found.items w.in-Some.route c.loop-at.invariant is)
      | in_default w ↦ subst (λ (rs : List NodeRoute). All P rs) (sym (ap items w.found-is)) c.loop-at.invariant
    ]
