-- What listed routes with shares cost, against the price sum over the weight.
use Rattle.std.proofs.Common.{◌≡◌, ◌≢◌, ◌∙◌, ℕ, suc, ◌+◌, ◌*◌, ◌≤◌, Bool, true, false, IsTrue, refl, sym, ap, arith, ◌↔◌, inr, List, unsigned_abs}
use Rattle.std.specs.Prelude.{ℤ, pos, negsuc, neg_ℤ, ◌*ℤ◌, ◌≤ℤ◌, ◌<ℤ◌}
use Rattle.std.proofs.Math.IntN.{negsuc-*ℤ-pos, pos-*ℤ-pos}
use Rattle.std.proofs.lemmas.Bool.{false≢true}
use Rattle.std.proofs.lemmas.Int.{ints}
use Rattle.fleet_model.specs.Prices.{price_total}
use Rattle.certificate_check.specs.Shares.{AreEven, CostThePrices, listed_cost, TellsCost, TellsCover}
use Rattle.certificate_check.specs.declared.cover.SharedRoute.{SharedRoute}

negative_product : (a over : ℕ) (p : ℤ) → p <ℤ pos 0 → 1 ≤ over → pos a ≢ p *ℤ pos over
negative_product a over (pos p) less some same = omega (arith, ints, less)
negative_product a over (negsuc p) less some same =
    let product : pos a ≡ neg_ℤ (pos (suc p * over)) = same ∙ negsuc-*ℤ-pos p over in
    let parts : suc p * over ≡ p * over + over = omega arith in
    omega (arith, ints, product, parts, some)

same_signed : (a over : ℕ) (p : ℤ) → pos 0 ≤ℤ p → a ≡ unsigned_abs p * over → pos a ≡ p *ℤ pos over
same_signed a over (pos p) more same = ap pos same ∙ sym (pos-*ℤ-pos p over)
same_signed a over (negsuc p) more same = absurd (omega (arith, ints, more))

same_unsigned : (a over : ℕ) (p : ℤ) → pos 0 ≤ℤ p → pos a ≡ p *ℤ pos over → a ≡ unsigned_abs p * over
same_unsigned a over (pos p) more same =
    let product : pos a ≡ pos (p * over) = same ∙ pos-*ℤ-pos p over in
    omega (arith, ints, product)
same_unsigned a over (negsuc p) more same = absurd (omega (arith, ints, more))

pub negative_costs_other : (weight : ℕ) (prices : List ℤ) (over : ℕ) (xs : List SharedRoute) → price_total prices <ℤ pos 0 → 1 ≤ over → CostThePrices weight prices over xs → ⊥
negative_costs_other weight prices over xs less some = negative_product (listed_cost xs * weight) over (price_total prices) less some

pub product_told : (weight : ℕ) (prices : List ℤ) (over : ℕ) (xs : List SharedRoute) (b : Bool) → 1 ≤ weight → pos 0 ≤ℤ price_total prices →
    IsTrue b ↔ (listed_cost xs * weight ≡ unsigned_abs (price_total prices) * over) → TellsCost weight prices over xs b
product_told weight prices over xs true some more is = (some, same_signed (listed_cost xs * weight) over (price_total prices) more (is.0 refl))
product_told weight prices over xs false some more is =
    inr (λ same. false≢true (is.1 (same_unsigned (listed_cost xs * weight) over (price_total prices) more same)))

pub cover_told : (customers weight : ℕ) (prices : List ℤ) (over : ℕ) (xs : List SharedRoute) (b : Bool) → AreEven customers over xs → TellsCost weight prices over xs b → TellsCover customers weight prices over xs b
cover_told customers weight prices over xs true even is = record { even = even; some_weight = is.0; cost = is.1 }
cover_told customers weight prices over xs false even is = inr is
