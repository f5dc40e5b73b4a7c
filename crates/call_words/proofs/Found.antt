-- What the command's word and the words behind it name, by these words.
use Rattle.std.proofs.Common.{◌≡◌, [], List, Option, Some, ap, codes}
use Rattle.std.specs.Prelude.{option_and_then, unwrap_or}
use Rattle.clap.specs.Words.{Row, Text, all_of, first_of}
use Rattle.call_words.specs.Matches.{rest_in}

pub job_found : {A : Type 0} (job_of_command : Text → List Text → List Row → Option A) (rows : List Row) (command : Text) (rest : Option (List Text))
    → Some command ≡ first_of (codes "command") rows → rest ≡ all_of (codes "rest") rows
    → job_of_command command (unwrap_or rest []) rows ≡ option_and_then (λ c. job_of_command c (rest_in rows) rows) (first_of (codes "command") rows)
job_found job_of_command rows command rest first all =
    rw all (ap (option_and_then (λ c. job_of_command c (rest_in rows) rows)) first)
