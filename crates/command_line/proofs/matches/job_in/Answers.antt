use Rattle.std.proofs.Common.{◌≡◌, ◌∙◌, IfOk, Option, None, Some, codes, option_map, subst}
use Rattle.call_words.proofs.Found.{job_found}
use Rattle.call_words.specs.Matches.{rows_in}
use Rattle.clap.proofs.WalkLemmas.{raw_values-rows}
use Rattle.clap.specs.Walk.{texts}
use Rattle.clap.specs.Words.{found_of}
use Rattle.command_line.specs.JobValue.{job_value}
use Rattle.command_line.specs.Words.{Job, job_of_command}
use Rattle.command_line.proofs.matches.job_in.Goals as goal

pub returns-in-Some-get_strs : goal.returns-in-Some-get_strs
returns-in-Some-get_strs c =
    subst (λ (named : Option Job). IfOk c.job_of_command.result (λ job. option_map job_value job ≡ named))
    (job_found job_of_command (rows_in c.args.matches.now) c.in-Some.command.now (Some (texts c.in-Some-get_strs.rest.now)) c.in-Some.ensures
    (c.in-Some-get_strs.ensures ∙ raw_values-rows (found_of c.args.matches.now) (codes "rest")))
    c.job_of_command.ensures

pub returns-in-None : goal.returns-in-None
returns-in-None c =
    subst (λ (named : Option Job). IfOk c.job_of_command-in-None.result (λ job. option_map job_value job ≡ named))
    (job_found job_of_command (rows_in c.args.matches.now) c.in-Some.command.now None c.in-Some.ensures
    (c.in-None.ensures ∙ raw_values-rows (found_of c.args.matches.now) (codes "rest")))
    c.job_of_command-in-None.ensures
