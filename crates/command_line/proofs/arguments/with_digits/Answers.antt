use Rattle.std.proofs.Common.{◌≡◌, IfOk, codes, subst}
use Rattle.clap.specs.Words.{app_of, with_rule}
use Rattle.call_words.specs.Command.{option_rule}
use Rattle.command_line.proofs.arguments.with_digits.Goals as goal

pub returns : goal.returns
returns c =
    subst (λ app. IfOk c.with_option-2.result (λ command. app_of command ≡ with_rule app (option_rule (codes "energy-digits"))))
    c.in_ok-command.ensures c.with_option-2.ensures
