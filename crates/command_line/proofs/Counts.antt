-- Another number of words behind the command's names no job.
use Rattle.std.proofs.Common.{◌≡◌, ◌≢◌, List, [], ◌∷◌, length, None, refl}
use Rattle.std.specs.Borrow.{Bor}
use Rattle.clap.specs.Walk.{Row, Text, texts}
use Rattle.command_line.specs.Words.{bound_of, check_bound_of, check_of, convert_of, fixed_of, fleet_of, improve_of, make_of, proof_of}

pub no_fixed : (rest : List (Bor Text)) (rows : List Row) → length rest ≢ 2 → None ≡ fixed_of (texts rest) rows
no_fixed [] rows other = refl
no_fixed (a ∷ []) rows other = refl
no_fixed (a ∷ b ∷ []) rows other = absurd (other refl)
no_fixed (a ∷ b ∷ c ∷ rest) rows other = refl

pub no_fleet : (rest : List (Bor Text)) (rows : List Row) → length rest ≢ 3 → None ≡ fleet_of (texts rest) rows
no_fleet [] rows other = refl
no_fleet (a ∷ []) rows other = refl
no_fleet (a ∷ b ∷ []) rows other = refl
no_fleet (a ∷ b ∷ c ∷ []) rows other = absurd (other refl)
no_fleet (a ∷ b ∷ c ∷ d ∷ rest) rows other = refl

pub no_check : (rest : List (Bor Text)) (rows : List Row) → length rest ≢ 3 → None ≡ check_of (texts rest) rows
no_check [] rows other = refl
no_check (a ∷ []) rows other = refl
no_check (a ∷ b ∷ []) rows other = refl
no_check (a ∷ b ∷ c ∷ []) rows other = absurd (other refl)
no_check (a ∷ b ∷ c ∷ d ∷ rest) rows other = refl

pub no_convert : (rest : List (Bor Text)) (rows : List Row) → length rest ≢ 2 → None ≡ convert_of (texts rest) rows
no_convert [] rows other = refl
no_convert (a ∷ []) rows other = refl
no_convert (a ∷ b ∷ []) rows other = absurd (other refl)
no_convert (a ∷ b ∷ c ∷ rest) rows other = refl

pub no_bound : (rest : List (Bor Text)) (rows : List Row) → length rest ≢ 2 → None ≡ bound_of (texts rest) rows
no_bound [] rows other = refl
no_bound (a ∷ []) rows other = refl
no_bound (a ∷ b ∷ []) rows other = absurd (other refl)
no_bound (a ∷ b ∷ c ∷ rest) rows other = refl

pub no_check_bound : (rest : List (Bor Text)) (rows : List Row) → length rest ≢ 2 → None ≡ check_bound_of (texts rest) rows
no_check_bound [] rows other = refl
no_check_bound (a ∷ []) rows other = refl
no_check_bound (a ∷ b ∷ []) rows other = absurd (other refl)
no_check_bound (a ∷ b ∷ c ∷ rest) rows other = refl

pub no_make : (rest : List (Bor Text)) (rows : List Row) → length rest ≢ 4 → None ≡ make_of (texts rest) rows
no_make [] rows other = refl
no_make (a ∷ []) rows other = refl
no_make (a ∷ b ∷ []) rows other = refl
no_make (a ∷ b ∷ c ∷ []) rows other = refl
no_make (a ∷ b ∷ c ∷ d ∷ []) rows other = absurd (other refl)
no_make (a ∷ b ∷ c ∷ d ∷ e ∷ rest) rows other = refl

pub no_improve : (rest : List (Bor Text)) (rows : List Row) → length rest ≢ 3 → None ≡ improve_of (texts rest) rows
no_improve [] rows other = refl
no_improve (a ∷ []) rows other = refl
no_improve (a ∷ b ∷ []) rows other = refl
no_improve (a ∷ b ∷ c ∷ []) rows other = absurd (other refl)
no_improve (a ∷ b ∷ c ∷ d ∷ rest) rows other = refl

pub no_proof : (rest : List (Bor Text)) (rows : List Row) → length rest ≢ 3 → None ≡ proof_of (texts rest) rows
no_proof [] rows other = refl
no_proof (a ∷ []) rows other = refl
no_proof (a ∷ b ∷ []) rows other = refl
no_proof (a ∷ b ∷ c ∷ []) rows other = absurd (other refl)
no_proof (a ∷ b ∷ c ∷ d ∷ rest) rows other = refl
