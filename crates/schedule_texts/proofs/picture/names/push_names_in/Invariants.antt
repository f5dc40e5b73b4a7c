use Rattle.std.proofs.Common.{◌≡◌, ◌++◌, drop}
use Rattle.schedule_texts.specs.Names.{IsRoom, names_text}
use Rattle.schedule_texts.proofs.picture.names.push_names_in.Given as goal

abbrev pub invariant-loop-visit : goal.invariant-loop-visit
invariant-loop-visit l = record {
  told : l.out.items ++ names_text l.scale l.places l.left (drop l.visit-index l.visits) ≡ l.fn.out.items ++ names_text l.scale l.places l.fn.room l.visits;
  room : IsRoom l.left;
}
