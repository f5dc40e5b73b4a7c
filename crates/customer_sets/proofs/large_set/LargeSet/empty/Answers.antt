use Rattle.std.proofs.Common.{◌≡◌, ℕ, zero, suc, ◌<◌, [], ◌∷◌, refl, arith}
use Rattle.std.specs.Prelude.{slice_index}
use Rattle.customer_sets.proofs.Digits.{words_empty}
use Rattle.customer_sets.proofs.large_set.LargeSet.empty.Goals as goal

all_zero : (k : ℕ) → k < 7 → slice_index (0 ∷ 0 ∷ 0 ∷ 0 ∷ 0 ∷ 0 ∷ 0 ∷ []) k ≡ 0
all_zero zero low = refl
all_zero (suc zero) low = refl
all_zero (suc (suc zero)) low = refl
all_zero (suc (suc (suc zero))) low = refl
all_zero (suc (suc (suc (suc zero)))) low = refl
all_zero (suc (suc (suc (suc (suc zero))))) low = refl
all_zero (suc (suc (suc (suc (suc (suc zero)))))) low = refl
all_zero (suc (suc (suc (suc (suc (suc (suc k))))))) low = absurd (omega (arith, low))

pub returns : goal.returns
returns c = words_empty (0 ∷ 0 ∷ 0 ∷ 0 ∷ 0 ∷ 0 ∷ 0 ∷ []) all_zero
