-- What a section's bound means, and that an exact root is the least cost of a fractional cover.
use Rattle.std.proofs.Common.{◌≡◌, ◌∙◌, ℕ, zero, suc, ◌+◌, ◌*◌, ◌<◌, ◌≤◌, Bool, true, ap, List, [], ◌∷◌, arith, ◌⊎◌, ◌↔◌, inl, inr}
use Rattle.std.specs.Prelude.{ℤ, pos, negsuc, neg_ℤ, ◌+ℤ◌, ◌*ℤ◌, ◌≤ℤ◌, ◌<ℤ◌}
use Rattle.std.proofs.Math.IntN.{negsuc-*ℤ-pos, pos-*ℤ-pos}
use Rattle.std.proofs.Math.Nat.{mul-le-mul_left}
use Rattle.std.proofs.lemmas.Bool.{cases_lt}
use Rattle.std.proofs.lemmas.Int.{ints}
use Rattle.std.proofs.lemmas.List.Elements.{All-cons, All-nil}
use Rattle.ev_model.specs.Network.{IsNetwork, Network}
use Rattle.fleet_model.specs.ClosedList.{IsClosed}
use Rattle.fleet_model.specs.Cover.{cost_of_shares, CoverKeepsPairs, IsExactRoot, IsFractionalCover, Share}
use Rattle.fleet_model.specs.Pairs.{PlanKeepsPairs}
use Rattle.fleet_model.specs.Places.{places_of}
use Rattle.fleet_model.specs.Prices.{price_total}
use Rattle.fleet_model.specs.Section.{IsAtMostBound, IsSectionOf, Section}
use Rattle.fleet_model.specs.Whole.{NoFractionIsFaster}
use Rattle.fleet_model.proofs.Covers.{cover_cost}
use Rattle.fleet_model.proofs.Splits.{keep_all}

cancelled : (w b m : ℕ) → 0 < w → b * w < m * w + w → b ≤ m
cancelled w b m some less = elim (cases_lt m b) [
  | inl more ↦
      let scaled : w * (m + 1) ≤ w * b = mul-le-mul_left w (omega (arith, more)) in
      absurd (omega (arith, scaled, less))
  | inr fine ↦ omega (arith, fine)
]

-- a number below the price sum and one more weight is below each whole number that times the weight takes the price sum
below_each : (w b : ℕ) (p z : ℤ) → 0 < w → pos (b * w) <ℤ (p +ℤ pos w) → p ≤ℤ (z *ℤ pos w) → pos b ≤ℤ z
below_each w b p (pos m) some less le =
    let product : p ≤ℤ pos (m * w) = rw (pos-*ℤ-pos m w) at le in
    let next : b * w < m * w + w = omega (arith, ints, less, product) in
    omega (arith, ints, cancelled w b m some next)
below_each w b p (negsuc m) some less le =
    let product : p ≤ℤ neg_ℤ (pos (suc m * w)) = rw (negsuc-*ℤ-pos m w) at le in
    let parts : suc m * w ≡ m * w + w = omega arith in
    absurd (omega (arith, ints, less, product, parts))

-- and no other number is
only_below : (w b : ℕ) (p : ℤ) → 0 < w → ((z : ℤ) → p ≤ℤ (z *ℤ pos w) → pos b ≤ℤ z) → (p +ℤ pos w) ≤ℤ pos (b * w) → ⊥
only_below w zero p some least le =
    let product : negsuc 0 *ℤ pos w ≡ neg_ℤ (pos (1 * w)) = negsuc-*ℤ-pos 0 w in
    let one : 1 * w ≡ w = omega arith in
    let none : 0 * w ≡ 0 = omega arith in
    let within : p ≤ℤ neg_ℤ (pos (1 * w)) = omega (arith, ints, le, one, none) in
    omega (arith, ints, least (negsuc 0) (rw product within))
only_below w (suc b) p some least le =
    let product = pos-*ℤ-pos b w in
    let parts : suc b * w ≡ b * w + w = omega arith in
    let within : p ≤ℤ pos (b * w) = omega (arith, ints, le, parts) in
    omega (arith, ints, least (pos b) (rw product within))

pub cases_less : (a b : ℤ) → (a <ℤ b) ⊎ (b ≤ℤ a)
cases_less (pos a) (pos b) = elim (cases_lt a b) [
  | inl less ↦ inl (omega (arith, ints, less))
  | inr more ↦ inr (omega (arith, ints, more))
]
cases_less (pos a) (negsuc b) = inr (omega (arith, ints))
cases_less (negsuc a) (pos b) = inl (omega (arith, ints))
cases_less (negsuc a) (negsuc b) = elim (cases_lt b a) [
  | inl less ↦ inl (omega (arith, ints, less))
  | inr more ↦ inr (omega (arith, ints, more))
]

-- where the weight is above 0, the bound is the price sum over the weight, rounded up
pub bound_rounds_up : (s : Section) (bound : ℕ) → 0 < s.weight → IsAtMostBound s bound ↔ ((z : ℤ) → price_total s.prices ≤ℤ (z *ℤ pos s.weight) → pos bound ≤ℤ z)
bound_rounds_up s bound some = (
  λ at_most. elim at_most [
    | inl less ↦ λ z le. below_each s.weight bound (price_total s.prices) z some less le
    | inr none ↦ absurd (omega (arith, none.0, some))
  ],
  λ least. elim (cases_less (pos (bound * s.weight)) (price_total s.prices +ℤ pos s.weight)) [
    | inl less ↦ inl less
    | inr more ↦ absurd (only_below s.weight bound (price_total s.prices) some least more)
  ],
)

-- naturals: the cost of the shares times k and the weight is at most the cost of the cover times over
optimum_of : (total w over p kw cost : ℕ) → 0 < w → total * w ≡ p * over → kw * p ≤ w * cost → total * kw ≤ cost * over
optimum_of total w over p kw cost some same le =
    let scaled : over * (kw * p) ≤ over * (w * cost) = mul-le-mul_left over le in
    let moved : total * w * kw ≡ p * over * kw = ap (λ x. x * kw) same in
    let all : w * (total * kw) ≤ w * (cost * over) = omega (arith, scaled, moved) in
    elim (cases_lt (cost * over) (total * kw)) [
      | inl more ↦
          let past : w * (cost * over + 1) ≤ w * (total * kw) = mul-le-mul_left w (omega (arith, more)) in
          absurd (omega (arith, all, past, some))
      | inr fine ↦ omega (arith, fine)
    ]

signed_optimum : (total w over kw cost : ℕ) (p : ℤ) → 0 < w → 0 < over → pos (total * w) ≡ p *ℤ pos over → (pos kw *ℤ p) ≤ℤ pos (w * cost) → total * kw ≤ cost * over
signed_optimum total w over kw cost (pos p) some some_over same le =
    let first : pos (total * w) ≡ pos (p * over) = same ∙ pos-*ℤ-pos p over in
    let second : pos (kw * p) ≤ℤ pos (w * cost) = rw (pos-*ℤ-pos kw p) at le in
    optimum_of total w over p kw cost some (omega (arith, ints, first)) (omega (arith, ints, second))
signed_optimum total w over kw cost (negsuc p) some some_over same le =
    let first : pos (total * w) ≡ neg_ℤ (pos (suc p * over)) = same ∙ negsuc-*ℤ-pos p over in
    let parts : suc p * over ≡ p * over + over = omega arith in
    absurd (omega (arith, ints, first, parts, some_over))

pub optimum : (g : Network) (s : Section) (over k weight : ℕ) (shares others : List Share) → IsNetwork g → NoFractionIsFaster g → IsSectionOf g s → IsClosed g s → IsExactRoot g s over shares
    → IsFractionalCover g k weight others → CoverKeepsPairs g s.allows others → cost_of_shares g 1 shares * (k * weight) ≤ cost_of_shares g k others * over
optimum g s over k weight shares others network law of closed root cover keeps =
    signed_optimum (cost_of_shares g 1 shares) s.weight over (k * weight) (cost_of_shares g k others) (price_total s.prices) root.some_weight root.cover.some_weight root.cost
    (cover_cost g s k weight others network law of closed cover keeps)

keeps_all : (g : Network) (allows : ℕ → ℕ → Bool) (shares : List Share) → ((a b : ℕ) → allows a b ≡ true) → CoverKeepsPairs g allows shares
keeps_all g allows [] all = All-nil (λ (x : Share). PlanKeepsPairs g allows x.plan)
keeps_all g allows (x ∷ xs) all = All-cons (λ (y : Share). PlanKeepsPairs g allows y.plan) x xs (keep_all allows (places_of g x.plan) (λ a b h. all a b)) (keeps_all g allows xs all)

pub whole_optimum : (g : Network) (s : Section) (over k weight : ℕ) (shares others : List Share) → IsNetwork g → NoFractionIsFaster g → IsSectionOf g s → IsClosed g s → IsExactRoot g s over shares
    → ((a b : ℕ) → s.allows a b ≡ true) → IsFractionalCover g k weight others → cost_of_shares g 1 shares * (k * weight) ≤ cost_of_shares g k others * over
whole_optimum g s over k weight shares others network law of closed root all cover =
    optimum g s over k weight shares others network law of closed root cover (keeps_all g s.allows others all)
