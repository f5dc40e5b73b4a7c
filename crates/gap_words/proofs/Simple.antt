-- The command is simple, and no argument of it has a rule on another.
use Rattle.std.proofs.Common.{◌≡◌, true, refl}
use Rattle.clap.proofs.OnLiterals.{clap_on_literals}
use Rattle.clap.specs.Words.{is_simple, is_simple_and_free}
use Rattle.gap_words.specs.Command.{evgap}

pub evgap_is_simple : is_simple evgap ≡ true
unfolding evgap clap_on_literals
evgap_is_simple = refl

pub evgap_is_free : is_simple_and_free evgap ≡ true
unfolding evgap clap_on_literals
evgap_is_free = refl
