-- The command is simple, and no argument of it has a rule on another.
use Rattle.std.proofs.Common.{◌≡◌, true, refl}
use Rattle.clap.proofs.OnLiterals.{clap_on_literals}
use Rattle.clap.specs.Words.{is_simple, is_simple_and_free}
use Rattle.command_line.specs.Command.{evroute}

pub evroute_is_simple : is_simple evroute ≡ true
unfolding evroute clap_on_literals
evroute_is_simple = refl

pub evroute_is_free : is_simple_and_free evroute ≡ true
unfolding evroute clap_on_literals
evroute_is_free = refl
