use Rattle.std.proofs.Common.{◌≡◌, ◌++◌, drop}
use Rattle.schedule_texts.specs.Maps.{signs_text}
use Rattle.schedule_texts.proofs.map.sign.push_signs.Given as goal

abbrev pub invariant-loop-at : goal.invariant-loop-at
invariant-loop-at l =
    l.out.items ++ signs_text l.m l.places l.number l.at (drop l.at l.visits) ≡ l.fn.out.items ++ signs_text l.m l.places l.number 0 l.visits
