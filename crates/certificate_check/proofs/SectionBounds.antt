-- The bound of a section as a number, and the sum of its prices.
use Rattle.std.proofs.Common.{◌≡◌, ◌∙◌, ℕ, suc, ◌+◌, ◌*◌, ◌<◌, ◌≤◌, sym, ap, subst, List, length, get_or, drop, Option, Some, None, arith, inl, inr}
use Rattle.std.specs.Prelude.{ℤ, pos, ◌+ℤ◌, ◌≤ℤ◌, ◌<ℤ◌}
use Rattle.std.proofs.Math.ListN.{drop_of_length-le}
use Rattle.std.proofs.Math.Seq.{drop-cons}
use Rattle.std.proofs.lemmas.Int.{ints}
use Rattle.ev_units.specs.Units.{IsCeiling}
use Rattle.fleet_model.specs.Prices.{price_total}
use Rattle.fleet_model.specs.Section.{Section, ShowsNoPlan}
use Rattle.fleet_model.specs.Tree.{IsBoundedBy}
use Rattle.fleet_model.proofs.Bounds.{bound_rounds_up}
use Rattle.certificate_check.specs.Bounds.{HasPrices, IsBoundOf}

no_more : (a b c : ℤ) → a ≤ℤ b → b ≤ℤ c → a ≤ℤ c
no_more a b c first second = omega (arith, ints, first, second)

-- a weight above 0
pub rounded : (s : Section) (q : ℤ) → 0 < s.weight → IsCeiling (price_total s.prices) s.weight q → IsBoundOf s (Some q)
rounded s q some is = (
  λ shows. omega (arith, shows.0, some),
  λ bound. (
    λ at_most. (bound_rounds_up s bound some).0 at_most q is.above,
    λ le. (bound_rounds_up s bound some).1 (λ z above. no_more (pos bound) q z le (is.least z above)),
  ),
)

times_none : (bound w : ℕ) → w ≡ 0 → bound * w ≡ 0
times_none bound w none = let zero : bound * 0 ≡ 0 = omega arith in ap (λ v. bound * v) none ∙ zero

-- no weight, and a price sum that isn't above 0
pub zero_bound : (s : Section) → s.weight ≡ 0 → price_total s.prices ≤ℤ pos 0 → IsBoundOf s (Some (pos 0))
zero_bound s none le = (
  λ shows. let more = shows.1 in omega (arith, ints, more, le),
  λ bound. (
    λ at_most. elim at_most [
      | inl less ↦ let zero = times_none bound s.weight none in absurd (omega (arith, ints, less, le, none, zero))
      | inr is ↦ let same = is.1 in omega (arith, ints, same)
    ],
    λ few. inr (none, omega (arith, ints, few)),
  ),
)

-- and so of each section with this weight and these prices
module _ (weight : ℕ) (prices : List ℤ) (s : Section) (has : HasPrices weight prices s) where
  pub rounded_for : (q : ℤ) → 0 < weight → IsCeiling (price_total prices) weight q → IsBoundOf s (Some q)
  rounded_for q some is =
      rounded s q (subst (λ (w : ℕ). 0 < w) (sym has.same_weight) some)
      (subst (λ (w : ℕ). IsCeiling (price_total s.prices) w q) (sym has.same_weight) (subst (λ (ps : List ℤ). IsCeiling (price_total ps) weight q) (sym has.same_prices) is))

  pub none_for : weight ≡ 0 → pos 0 <ℤ price_total prices → IsBoundOf s None
  none_for none more = (has.same_weight ∙ none, subst (λ (ps : List ℤ). pos 0 <ℤ price_total ps) (sym has.same_prices) more)

  pub zero_for : weight ≡ 0 → price_total prices ≤ℤ pos 0 → IsBoundOf s (Some (pos 0))
  zero_for none few = zero_bound s (has.same_weight ∙ none) (subst (λ (ps : List ℤ). price_total ps ≤ℤ pos 0) (sym has.same_prices) few)

-- no plan is above every number
pub above_all : (s : Section) → ShowsNoPlan s → (bound : Option ℕ) → IsBoundedBy s bound
above_all s shows None = shows
above_all s shows (Some b) =
    let zero = times_none b s.weight shows.0 in
    let more = shows.1 in
    let none = shows.0 in
    inl (omega (arith, ints, zero, more, none))

-- the prices from a place on
pub sum_step : (xs : List ℤ) (i : ℕ) → i < length xs → price_total (drop i xs) ≡ get_or xs i (pos 0) +ℤ price_total (drop (i + 1) xs)
sum_step xs i less =
    let next : suc i ≡ i + 1 = omega arith in
    ap price_total (drop-cons xs i (pos 0) less) ∙ ap (λ n. get_or xs i (pos 0) +ℤ price_total (drop n xs)) next

pub sum_end : (xs : List ℤ) (i : ℕ) → length xs ≤ i → price_total (drop i xs) ≡ pos 0
sum_end xs i past = ap price_total (drop_of_length-le xs past)
