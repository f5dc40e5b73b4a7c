-- The command that reads the words of `evgap`: its name, two positionals, and six options of one
-- value each. It has no flag for help and none for a version.
use Rattle.std.specs.Prelude.{codes}
use Rattle.clap.specs.Words.{App, with_rule}
use Rattle.call_words.specs.Command.{option_rule, with_positionals, without_arguments}

abbrev pub with_options : App → App
with_options app =
    with_rule
    (with_rule (with_rule app (option_rule (codes "limit"))) (option_rule (codes "seconds")))
    (option_rule (codes "start"))

abbrev pub with_first : App → App
with_first app =
    with_rule (with_rule app (option_rule (codes "seed"))) (option_rule (codes "effort"))

abbrev pub with_nodes : App → App
with_nodes app = with_rule app (option_rule (codes "nodes"))

unfoldable pub evgap : App
evgap =
    with_nodes
    (with_first (with_options (with_positionals (without_arguments (codes "evgap")))))
