use Rattle.std.proofs.Common.{◌≡◌, ◌≤◌, drop}
use Rattle.schedule_texts.specs.Names.{customers_in}
use Rattle.schedule_texts.proofs.picture.names.customers_in.Given as goal

abbrev pub invariant-loop-visit : goal.invariant-loop-visit
invariant-loop-visit l = record {
  told : customers_in l.count (drop l.visit-index l.visits) ≡ customers_in 0 l.visits;
  few : l.count ≤ l.visit-index;
}
