-- The parts of a command that reads words: its name, two positionals, and options of one value
-- each. It has no flag for help and none for a version.
use Rattle.std.specs.Prelude.{◌-◌, ◌^◌, Some, codes, true}
use Rattle.clap.specs.Simple.{on_top}
use Rattle.clap.specs.Words.{App, Rule, Text, new_app, new_rule, with_rule}

-- the command of a program, without its arguments
abbrev pub without_arguments : Text → App
without_arguments program =
    on_top (λ shape. record shape { disable_help_flag = true; disable_version_flag = true })
    (new_app program)

-- the word of the command, which has to stand
abbrev pub command_rule : Rule
command_rule = record (new_rule (codes "command")) { required = true }

-- the words behind it, any number of them
abbrev pub rest_rule : Rule
rest_rule = record (new_rule (codes "rest")) {
  range = Some (record { start_inclusive = 0; end_inclusive = 2 ^ 64 - 1 });
}

-- an option with one value; its name is also its id
abbrev pub option_rule : Text → Rule
option_rule name = record (new_rule name) { long = Some name }

abbrev pub with_positionals : App → App
with_positionals app = with_rule (with_rule app command_rule) rest_rule
