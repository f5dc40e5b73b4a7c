use Rattle.std.proofs.Common.{◌≡◌, drop}
use Rattle.place_names.specs.Characters.{has_barred}
use Rattle.place_names.proofs.characters.has_barred.Given as goal

abbrev pub invariant-loop-byte : goal.invariant-loop-byte
invariant-loop-byte l =
    has_barred l.first l.second (drop l.byte-index l.text) ≡ has_barred 0 0 l.text
