-- A job of several kinds of vehicles has one to eight files of instances, and no two of its files
-- are the same.
use Rattle.std.proofs.Common.{◌≡◌, ◌≤◌, ◌&&◌, ◌∷◌, [], ℕ, List, Option, None, Some, true, IfSome, arith, codes, length, nat_le, nat_lt}
use Rattle.std.proofs.lemmas.Bool.Decides.{nat_tests}
use Rattle.clap.specs.Words.{Row, Text}
use Rattle.command_line.proofs.Tested.{both_true, where_passed}
use Rattle.call_words.specs.Matches.{limit_in}
use Rattle.call_words.specs.Names.{are_different}
use Rattle.command_line.specs.Words.{MixedJob, are_few, gives_only, mixed_with, mixed_words_of, most_kinds}

-- what is told of the files
pub record AreMixedFiles (job : MixedJob) : Type 0 where
  pub some : 1 ≤ length job.files
  pub few : length job.files ≤ most_kinds
  pub different : are_different (job.plan ∷ job.cert ∷ job.files) ≡ true

within : (n : ℕ) → (nat_lt 0 n && nat_le n most_kinds) ≡ true → (1 ≤ n) × (n ≤ most_kinds)
within n is =
    let tests = both_true (nat_lt 0 n) (nat_le n most_kinds) is in
    let some : nat_lt 0 n ≡ true = tests.0 in
    let few : nat_le n most_kinds ≡ true = tests.1 in
    (grind (arith, nat_tests, some), grind (arith, nat_tests, few))

with_files : (plan cert : Text) (files : List Text) (limit : Option (Option ℕ))
    → are_few files ≡ true → are_different (plan ∷ cert ∷ files) ≡ true
    → IfSome (mixed_with plan cert files limit) AreMixedFiles
with_files plan cert files None few differ = tt
with_files plan cert files (Some l) few differ =
    let counts = within (length files) few in
    record { some = counts.0; few = counts.1; different = differ }

pub mixed_files : (rest : List Text) (rows : List Row)
    → IfSome (mixed_words_of rest rows) AreMixedFiles
mixed_files [] rows = tt
mixed_files (plan ∷ []) rows = tt
mixed_files (plan ∷ cert ∷ files) rows =
    let own = gives_only (codes "limit" ∷ []) rows in
    let few = are_few files in
    let differ = are_different (plan ∷ cert ∷ files) in
    where_passed AreMixedFiles (own && few && differ) (mixed_with plan cert files (limit_in rows))
    (λ is. let tests = both_true (own && few) differ is in
    with_files plan cert files (limit_in rows) (both_true own few tests.0).1 tests.1)
