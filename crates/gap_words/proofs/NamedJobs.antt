-- No words, and another number of words behind the command, name no job.
use Rattle.std.proofs.Common.{◌≡◌, ◌≢◌, ◌==◌, ◌∷◌, [], List, None, Bool, Bor, Global, String, true, length, map, string_bytes, arith, refl, sym}
use Rattle.std.proofs.lemmas.Bool.Decides.{nat_tests}
use Rattle.clap.proofs.OnLiterals.{clap_on_literals}
use Rattle.clap.specs.Walk.{texts}
use Rattle.clap.specs.Words.{Row, Text}
use Rattle.gap_words.specs.Command.{evgap}
use Rattle.gap_words.specs.Words.{check_of, command_job, plan_of}

-- no words name no job: the word of the command is wanted
empty_job : command_job [] ≡ None
unfolding evgap clap_on_literals
empty_job = refl

pub empty_words : (words : List (String Global)) (test : Bool) → test ≡ true → test ≡ (length words == 0) → None ≡ command_job (map string_bytes words)
empty_words [] test is tests = sym empty_job
empty_words (word ∷ words) test is tests = absurd (grind (arith, nat_tests, is, tests))

-- another number of words behind the command's names no job
pub no_plan : (rest : List (Bor Text)) (rows : List Row) → length rest ≢ 3 → None ≡ plan_of (texts rest) rows
no_plan [] rows other = refl
no_plan (a ∷ []) rows other = refl
no_plan (a ∷ b ∷ []) rows other = refl
no_plan (a ∷ b ∷ c ∷ []) rows other = absurd (other refl)
no_plan (a ∷ b ∷ c ∷ d ∷ rest) rows other = refl

pub no_check : (rest : List (Bor Text)) (rows : List Row) → length rest ≢ 3 → None ≡ check_of (texts rest) rows
no_check [] rows other = refl
no_check (a ∷ []) rows other = refl
no_check (a ∷ b ∷ []) rows other = refl
no_check (a ∷ b ∷ c ∷ []) rows other = absurd (other refl)
no_check (a ∷ b ∷ c ∷ d ∷ rest) rows other = refl
