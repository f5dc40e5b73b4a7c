-- The command that reads the words of `evview`: its name, two positionals, three flags, and
-- ten options of one value each. It has no flag for help and none for a version.
use Rattle.std.specs.Prelude.{Some, codes, true}
use Rattle.clap.specs.Words.{App, Rule, Text, new_rule, with_rule}
use Rattle.clap.specs.declared.builder.action.ArgAction.TheVariants.{SetTrue}
use Rattle.call_words.specs.Command.{option_rule, without_arguments}

-- a word that has to stand
abbrev pub word_rule : Text → Rule
word_rule name = record (new_rule name) { required = true }

-- an option without a value
abbrev pub flag_rule : Text → Rule
flag_rule name = record (new_rule name) { long = Some name; action = Some SetTrue }

-- the names of the instance and of the plan
abbrev pub with_names : App → App
with_names app = with_rule (with_rule app (word_rule (codes "file"))) (word_rule (codes "plan"))

-- what is shown
abbrev pub with_choice : App → App
with_choice app =
    with_rule
    (with_rule (with_rule app (option_rule (codes "limit"))) (option_rule (codes "route")))
    (flag_rule (codes "exact"))

-- which form the plan has
abbrev pub with_form : App → App
with_form app =
    with_rule
    (with_rule (with_rule app (flag_rule (codes "partial"))) (flag_rule (codes "fixed")))
    (option_rule (codes "charge"))

-- the clock by which is told when something happens
abbrev pub with_clock : App → App
with_clock app =
    with_rule (with_rule app (option_rule (codes "begin"))) (option_rule (codes "unit"))

-- the file with the names of places
abbrev pub with_places : App → App
with_places app = with_rule app (option_rule (codes "places"))

-- the names of the files that are written
abbrev pub with_outputs : App → App
with_outputs app =
    with_rule
    (with_rule
    (with_rule (with_rule app (option_rule (codes "svg"))) (option_rule (codes "json")))
    (option_rule (codes "csv")))
    (option_rule (codes "map"))

unfoldable pub evview : App
evview =
    with_outputs
    (with_places
    (with_clock (with_form (with_choice (with_names (without_arguments (codes "evview")))))))
