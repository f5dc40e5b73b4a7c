use Rattle.std.proofs.Common.{◌≡◌, ◌++◌, drop}
use Rattle.ev_text.specs.Texts.{joined_texts}
use Rattle.mixed_model.specs.MixedTexts.{mixed_route_text}
use Rattle.mixed_model.proofs.plan_text.writing.write_routes.Given as goal

abbrev pub invariant-loop-route : goal.invariant-loop-route
invariant-loop-route l =
    l.text.items ++ joined_texts mixed_route_text (drop l.route-index l.routes) ≡ l.fn.text.items ++ joined_texts mixed_route_text l.routes
