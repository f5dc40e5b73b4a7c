-- The command is simple, and no argument of it has a rule on another.
use Rattle.std.proofs.Common.{◌≡◌, true, refl}
use Rattle.clap.proofs.OnLiterals.{clap_on_literals}
use Rattle.clap.specs.Words.{is_simple, is_simple_and_free}
use Rattle.view_words.specs.Command.{evview}

pub evview_is_simple : is_simple evview ≡ true
unfolding evview clap_on_literals
evview_is_simple = refl

pub evview_is_free : is_simple_and_free evview ≡ true
unfolding evview clap_on_literals
evview_is_free = refl
