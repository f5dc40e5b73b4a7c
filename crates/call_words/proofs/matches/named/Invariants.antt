use Rattle.std.proofs.Common.{◌≡◌, ◌∷◌, map, take, string_bytes}
use Rattle.clap.specs.Walk.{texts}
use Rattle.call_words.proofs.matches.named.Given as goal

abbrev pub invariant-loop-word : goal.invariant-loop-word
invariant-loop-word l = texts l.all.items ≡ l.program ∷ map string_bytes (take l.word-index l.words)
