-- No words name no job.
use Rattle.std.proofs.Common.{◌≡◌, ◌==◌, ◌∷◌, [], List, None, Bool, Global, String, true, length, map, string_bytes, arith, refl, sym}
use Rattle.std.proofs.lemmas.Bool.Decides.{nat_tests}
use Rattle.clap.proofs.OnLiterals.{clap_on_literals}
use Rattle.view_words.specs.Command.{evview}
use Rattle.view_words.specs.Words.{command_job}

-- the names of the files are wanted
empty_job : command_job [] ≡ None
unfolding evview clap_on_literals
empty_job = refl

pub empty_words : (words : List (String Global)) (test : Bool) → test ≡ true → test ≡ (length words == 0) → None ≡ command_job (map string_bytes words)
empty_words [] test is tests = sym empty_job
empty_words (word ∷ words) test is tests = absurd (grind (arith, nat_tests, is, tests))
