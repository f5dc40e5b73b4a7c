use Rattle.std.proofs.Common.{◌≡◌, ◌++◌, drop}
use Rattle.ev_text.specs.Texts.{joined_texts}
use Rattle.schedule_texts.specs.Maps.{visit_corner}
use Rattle.schedule_texts.proofs.map.route.push_corners.Given as goal

abbrev pub invariant-loop-visit : goal.invariant-loop-visit
invariant-loop-visit l =
    l.out.items ++ joined_texts (visit_corner l.m l.places) (drop l.visit-index l.visits) ≡ l.fn.out.items ++ joined_texts (visit_corner l.m l.places) l.visits
