-- What an accepted proof shows.
use Rattle.std.proofs.Common.{◌≡◌, ℕ, ◌*◌, ◌≤◌, List, Option, Some, None, subst, arith, inl, inr}
use Rattle.std.specs.List.{All}
use Rattle.std.specs.Prelude.{ℤ, pos, negsuc, ◌*ℤ◌, ◌≤ℤ◌, ◌<ℤ◌}
use Rattle.std.proofs.Math.IntN.{pos-*ℤ-pos}
use Rattle.std.proofs.Math.Nat.{mul-le-mul, mul-le-mul_left}
use Rattle.std.proofs.lemmas.Bool.{cases_eq}
use Rattle.std.proofs.lemmas.Int.{ints}
use Rattle.ev_model.specs.Network.{IsNetwork, Network}
use Rattle.fleet_model.specs.Prices.{price_total}
use Rattle.fleet_model.specs.Section.{IsAtMostBound, Section}
use Rattle.fleet_model.specs.Tree.{IsBoundedBy}
use Rattle.fleet_model.proofs.Bounds.{bound_rounds_up}
use Rattle.mixed_model.specs.Accepted.{IsMixedAccepted, RootHolds}
use Rattle.mixed_model.specs.Covers.{IsExactCover, mixed_cost_of_shares}
use Rattle.mixed_model.specs.Kinds.{AreKinds}
use Rattle.mixed_model.specs.Meaning.{kind_shares, section_of}
use Rattle.mixed_model.specs.Ranges.{MixedFits}
use Rattle.mixed_model.specs.Truth.{HasNoCover, IsLeastCost, IsTrueBound, IsTrueProof, IsTrueRoot}
use Rattle.mixed_model.specs.declared.proof.MixedProof.{MixedProof}
use Rattle.mixed_model.specs.declared.proof.MixedRoot.{MixedRoot}
use Rattle.mixed_model.specs.declared.proof.MixedRoot.TheVariants as root
use Rattle.mixed_model.specs.declared.proof.MixedRoot.TheVariants.{Exact}
use Rattle.mixed_model.specs.declared.proof.MixedShare.{MixedShare}
use Rattle.mixed_model.proofs.Pays.{least_cost, whole_pays}
use Rattle.mixed_model.proofs.Plans.{cost_of_ones, ones, plan_is_cover}
use Rattle.mixed_model.proofs.Sections.{section_at}
use Rattle.mixed_model.proofs.Whole.{whole_cover}

-- a price sum that is paid at the weight has a bound that is paid
bounded : (s : Section) (bound cost : ℕ) → IsAtMostBound s bound → price_total s.prices ≤ℤ pos (s.weight * cost) → bound ≤ cost
bounded s bound cost at_most paid = elim (cases_eq s.weight 0) [
  | inl none ↦ elim at_most [
    | inl less ↦
        let free : s.weight * cost ≡ 0 = rw none (omega arith) in
        let nothing : bound * s.weight ≡ 0 = rw none (omega arith) in
        absurd (omega (arith, ints, less, paid, free, nothing, none))
    | inr zero_is ↦ omega (arith, zero_is.1)
  ]
  | inr some ↦
      let product : pos cost *ℤ pos s.weight ≡ pos (cost * s.weight) = pos-*ℤ-pos cost s.weight in
      let turned : s.weight * cost ≡ cost * s.weight = omega arith in
      let within : price_total s.prices ≤ℤ (pos cost *ℤ pos s.weight) = rw product (omega (arith, ints, paid, turned)) in
      let least = (bound_rounds_up s bound (omega (arith, some))).0 at_most (pos cost) within in
      omega (arith, ints, least)
]

module _ (kinds : List Network) (p : MixedProof) (networks : All IsNetwork kinds) (are : AreKinds kinds) (fits : MixedFits kinds p) (accepted : IsMixedAccepted kinds p) where
  pub least_of : IsLeastCost kinds p.weight p.prices
  least_of = least_cost kinds p networks are (section_at kinds p are fits) accepted.closed

  true_by : (bound : Option ℕ) → IsBoundedBy (section_of p 0) bound → IsTrueBound kinds bound
  true_by None shows = λ k plans plan.
      let has = whole_cover kinds networks k 1 (ones plans) (plan_is_cover kinds are k plans plan) in
      let paid = whole_pays kinds p networks are (section_at kinds p are fits) accepted.closed 1 has.whole has.cover in
      let free : p.weight * mixed_cost_of_shares kinds 1 has.whole ≡ 0 = rw (shows.0) (omega arith) in
      omega (arith, ints, paid, free, shows.1)
  true_by (Some bound) at_most = λ k plans plan.
      let has = whole_cover kinds networks k 1 (ones plans) (plan_is_cover kinds are k plans plan) in
      let paid = whole_pays kinds p networks are (section_at kinds p are fits) accepted.closed 1 has.whole has.cover in
      let whole : bound ≤ mixed_cost_of_shares kinds 1 has.whole = bounded (section_of p 0) bound (mixed_cost_of_shares kinds 1 has.whole) at_most (omega (arith, ints, paid)) in
      let scaled : k * bound ≤ k * mixed_cost_of_shares kinds 1 has.whole = mul-le-mul_left k whole in
      omega (arith, scaled, has.no_dearer, cost_of_ones kinds k plans)

  pub true_bound : IsTrueBound kinds p.bound
  true_bound = true_by p.bound accepted.bound

nothing_is_below : (n cost : ℕ) (sum : ℤ) → 1 ≤ n → pos 0 <ℤ sum → (pos n *ℤ sum) ≤ℤ pos (0 * cost) → ⊥
nothing_is_below n cost (pos m) some positive less =
    let product : pos n *ℤ pos m ≡ pos (n * m) = pos-*ℤ-pos n m in
    let some_price : 1 ≤ m = omega (arith, ints, positive) in
    let both : 1 * 1 ≤ n * m = mul-le-mul some some_price in
    omega (arith, ints, product, both, less)
nothing_is_below n cost (negsuc m) some positive less = omega (arith, ints, positive)

no_cover : (kinds : List Network) (weight : ℕ) (prices : List ℤ) → IsLeastCost kinds weight prices → weight ≡ 0 → pos 0 <ℤ price_total prices → HasNoCover kinds
no_cover kinds weight prices least none more = λ k over others some cover.
    nothing_is_below (k * over) (mixed_cost_of_shares kinds k others) (price_total prices) (mul-le-mul some cover.some_weight) more
    (subst (λ (w : ℕ). (pos (k * over) *ℤ price_total prices) ≤ℤ pos (w * mixed_cost_of_shares kinds k others)) none (least k over others cover))

true_root : (kinds : List Network) (p : MixedProof) → IsLeastCost kinds p.weight p.prices → (r : MixedRoot) → RootHolds kinds p r → IsTrueRoot kinds p r
true_root kinds p least root.None shows = no_cover kinds p.weight p.prices least shows.0 shows.1
true_root kinds p least (root.Exact over shares) exact = (least, exact)
true_root kinds p least (root.Wide columns basis) wide = least

pub true_proof : (kinds : List Network) (p : MixedProof) → All IsNetwork kinds → AreKinds kinds → MixedFits kinds p → IsMixedAccepted kinds p → IsTrueProof kinds p
true_proof kinds p networks are fits accepted = record {
  bound = true_bound kinds p networks are fits accepted;
  root = true_root kinds p (least_of kinds p networks are fits accepted) p.root accepted.root;
}

pub exact_cost : (kinds : List Network) (p : MixedProof) (over : ℕ) (shares : List MixedShare) → IsMixedAccepted kinds p → p.root ≡ Exact over shares → IsExactCover kinds p.weight p.prices over (kind_shares shares)
exact_cost kinds p over shares accepted is = subst (λ (r : MixedRoot). RootHolds kinds p r) is accepted.root
