use Rattle.std.proofs.Common.{◌≡◌, ◌++◌, drop}
use Rattle.ev_text.specs.Texts.{joined_texts}
use Rattle.schedule_texts.specs.Maps.{place_mark}
use Rattle.schedule_texts.proofs.map.place.push_places.Given as goal

abbrev pub invariant-loop-place : goal.invariant-loop-place
invariant-loop-place l =
    l.out.items ++ joined_texts (place_mark l.m) (drop l.place-index l.places) ≡ l.fn.out.items ++ joined_texts (place_mark l.m) l.places
