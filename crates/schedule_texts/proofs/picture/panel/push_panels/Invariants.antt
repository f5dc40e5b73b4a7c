use Rattle.std.proofs.Common.{◌≡◌, ◌++◌, drop}
use Rattle.schedule_texts.specs.Panels.{panels_text}
use Rattle.schedule_texts.proofs.picture.panel.push_panels.Given as goal

abbrev pub invariant-loop-at : goal.invariant-loop-at
invariant-loop-at l =
    l.out.items ++ panels_text l.scale l.places l.at (drop l.at l.routes) ≡ l.fn.out.items ++ panels_text l.scale l.places 0 l.routes
