-- The command that reads the words: its name, two positionals, and six options of one value each.
-- It has no flag for help and none for a version.
use Rattle.std.specs.Prelude.{codes}
use Rattle.clap.specs.Words.{App, with_rule}
use Rattle.call_words.specs.Command.{option_rule, with_positionals, without_arguments}

abbrev pub with_bounds : App → App
with_bounds app =
    with_rule
    (with_rule (with_rule app (option_rule (codes "limit"))) (option_rule (codes "charge")))
    (option_rule (codes "nodes"))

abbrev pub with_digits : App → App
with_digits app =
    with_rule (with_rule app (option_rule (codes "time-digits")))
    (option_rule (codes "energy-digits"))

-- the option for the size of near sets
abbrev pub with_near : App → App
with_near app = with_rule app (option_rule (codes "near"))

unfoldable pub evroute : App
evroute =
    with_near (with_digits (with_bounds (with_positionals (without_arguments (codes "evroute")))))
