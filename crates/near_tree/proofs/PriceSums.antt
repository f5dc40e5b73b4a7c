-- Sums of prices, one after another.
use Rattle.std.proofs.Common.{◌≡◌, ◌∙◌, ℕ, suc, ◌+◌, ◌<◌, ◌≤◌, ap, arith, List, length, drop, get_or}
use Rattle.std.specs.Prelude.{ℤ, pos, ◌+ℤ◌}
use Rattle.std.proofs.Math.ListN.{drop_of_length-le}
use Rattle.std.proofs.Math.Seq.{drop-cons}
use Rattle.fleet_model.specs.Prices.{price_total}

pub sum_step : (xs : List ℤ) (i : ℕ) → i < length xs → price_total (drop i xs) ≡ get_or xs i (pos 0) +ℤ price_total (drop (i + 1) xs)
sum_step xs i less =
    let next : suc i ≡ i + 1 = omega arith in
    ap price_total (drop-cons xs i (pos 0) less) ∙ ap (λ n. get_or xs i (pos 0) +ℤ price_total (drop n xs)) next

pub sum_end : (xs : List ℤ) (i : ℕ) → length xs ≤ i → price_total (drop i xs) ≡ pos 0
sum_end xs i past = ap price_total (drop_of_length-le xs past)
