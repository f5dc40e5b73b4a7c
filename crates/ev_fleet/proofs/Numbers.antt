-- A section has one bound, and what it says of the bounds of leaves.
use Rattle.std.proofs.Common.{◌≡◌, ◌∙◌, ℕ, ◌*◌, ◌≤◌, Option, Some, None, inl, inr, refl, sym, ap, arith, mul-le-mul_right}
use Rattle.std.proofs.lemmas.Int.{ints}
use Rattle.fleet_model.specs.Prices.{price_total}
use Rattle.fleet_model.specs.Section.{Section}
use Rattle.fleet_model.specs.Tree.{IsBoundedBy}
use Rattle.certificate_check.proofs.RoundedSums.{rounded_is_one}
use Rattle.ev_fleet.specs.Bounds.{IsAtMost, IsBoundOf}

pub bound_is_one : (s : Section) (b c : Option ℕ) → IsBoundOf s b → IsBoundOf s c → b ≡ c
bound_is_one s None None first second = refl
bound_is_one s None (Some c) first second = absurd (elim second [
  | inl some ↦ omega (arith, first.0, some.0)
  | inr none ↦ let up = first.1 in let down = none.1 in omega (arith, ints, up, down)
])
bound_is_one s (Some b) None first second = absurd (elim first [
  | inl some ↦ omega (arith, second.0, some.0)
  | inr none ↦ let up = second.1 in let down = none.1 in omega (arith, ints, up, down)
])
bound_is_one s (Some b) (Some c) first second = elim first [
  | inl some ↦ elim second [
    | inl other ↦ ap Some (rounded_is_one (price_total s.prices) s.weight b c some.1 other.1)
    | inr none ↦ absurd (omega (arith, some.0, none.0))
  ]
  | inr none ↦ elim second [
    | inl other ↦ absurd (omega (arith, other.0, none.0))
    | inr zero ↦ ap Some (none.2 ∙ sym zero.2)
  ]
]

-- a number that is not above the bound of a section is at most its bound
pub bounded : (s : Section) (own bound : Option ℕ) → IsBoundOf s own → IsAtMost bound own → IsBoundedBy s bound
bounded s None None is most = is
bounded s (Some own) None is most = absurd most
bounded s None (Some bound) is most =
    let zero : bound * s.weight ≡ 0 = ap (λ w. bound * w) is.0 ∙ omega arith in
    let up = is.1 in
    let none = is.0 in
    inl (omega (arith, ints, zero, up, none))
bounded s (Some own) (Some bound) is most = elim is [
  | inl some ↦
      let down : bound * s.weight ≤ own * s.weight = mul-le-mul_right s.weight most in
      let least = some.1.least in
      inl (omega (arith, ints, down, least))
  | inr none ↦
      let zero : bound ≡ 0 = omega (arith, most, none.2) in
      inr (none.0, zero)
]
