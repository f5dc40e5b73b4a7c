use Rattle.std.proofs.Common.{◌≡◌, drop}
use Rattle.clap.specs.Walk.{texts}
use Rattle.call_words.specs.Matches.{rows_in}
use Rattle.call_words.specs.Matches.{gives_own}
use Rattle.call_words.proofs.matches.gives_own.Given as goal

abbrev pub invariant-loop-name : goal.invariant-loop-name
invariant-loop-name l =
    gives_own (texts l.own) (rows_in l.matches) (texts (drop l.name-index l.names))
    ≡ gives_own (texts l.own) (rows_in l.matches) (texts l.names)
