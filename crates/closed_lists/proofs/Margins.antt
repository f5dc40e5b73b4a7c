-- Division rounded up as a margin of time.
use Rattle.std.proofs.Common.{◌≡◌, ℕ, ◌+◌, ◌*◌, ◌/◌, ◌%◌, ◌<◌, ◌≤◌, min, arith, inl, inr, ℤ, pos, ◌+ℤ◌, ◌-ℤ◌, ◌≤ℤ◌, ◌<ℤ◌, unsigned_abs}
use Rattle.std.specs.Int.{div_ceil}
use Rattle.std.proofs.Math.Nat.{div-add-mod', mod-lt, mul-le-mul_right}
use Rattle.std.proofs.lemmas.Bool.{cases_lt}
use Rattle.std.proofs.lemmas.Int.{ints}
use Rattle.fleet_model.specs.Margins.{IsMargin}

ceil_enough : (gap w : ℕ) → 0 < w → gap ≤ div_ceil gap w * w
ceil_enough gap w some =
    let parts = div-add-mod' gap w in
    let less = mod-lt gap some in
    elim (cases_lt 0 (gap % w)) [
      | inl rest ↦
          let one : min 1 (gap % w) ≡ 1 = omega (arith, rest) in
          let grown : (gap / w + min 1 (gap % w)) * w ≡ gap / w * w + w = rw one (omega arith) in
          omega (arith, parts, less, grown)
      | inr none ↦
          let zero_is : min 1 (gap % w) ≡ 0 = omega (arith, none) in
          let same : (gap / w + min 1 (gap % w)) * w ≡ gap / w * w = rw zero_is (omega arith) in
          omega (arith, parts, none, same)
    ]

ceil_least : (gap w other : ℕ) → 0 < w → gap ≤ other * w → div_ceil gap w ≤ other
ceil_least gap w other some le =
    let parts = div-add-mod' gap w in
    let less = mod-lt gap some in
    elim (cases_lt other (gap / w + min 1 (gap % w))) [
      | inl over ↦
          elim (cases_lt 0 (gap % w)) [
            | inl rest ↦
                let one : min 1 (gap % w) ≡ 1 = omega (arith, rest) in
                let scaled : other * w ≤ gap / w * w = mul-le-mul_right w (omega (arith, one, over)) in
                absurd (omega (arith, parts, scaled, le, rest))
            | inr none ↦
                let zero_is : min 1 (gap % w) ≡ 0 = omega (arith, none) in
                let scaled : (other + 1) * w ≤ gap / w * w = mul-le-mul_right w (omega (arith, zero_is, over)) in
                let grown : (other + 1) * w ≡ other * w + w = omega arith in
                absurd (omega (arith, parts, scaled, grown, le, none, some))
          ]
      | inr under ↦ under
    ]

pub no_less : (own theirs : ℤ) (w : ℕ) → theirs ≤ℤ own → IsMargin w own theirs 0
no_less own theirs w le = record {
  enough = omega (arith, ints, le);
  least = λ other enough. omega arith;
}

pub ceil_margin : (own theirs : ℤ) (w gap : ℕ) → 0 < w → own <ℤ theirs → gap ≡ unsigned_abs (theirs -ℤ own) → IsMargin w own theirs (div_ceil gap w)
ceil_margin own theirs w gap some less is =
    let enough = ceil_enough gap w some in
    record {
      enough = omega (arith, ints, less, is, enough);
      least = λ other le. ceil_least gap w other some (omega (arith, ints, less, is, le));
    }

-- no margin below a bound
pub none_below : (own theirs : ℤ) (w gap bound : ℕ) → 0 < w → own <ℤ theirs → gap ≡ unsigned_abs (theirs -ℤ own) → bound ≤ div_ceil gap w → (other : ℕ) → theirs ≤ℤ (own +ℤ pos (other * w)) → bound ≤ other
none_below own theirs w gap bound some less is past other le =
    let least = (ceil_margin own theirs w gap some less is).least other le in
    omega (arith, past, least)

pub none_at_zero : (own theirs : ℤ) (w : ℕ) → w ≡ 0 → own <ℤ theirs → (other : ℕ) → theirs ≤ℤ (own +ℤ pos (other * w)) → ⊥
none_at_zero own theirs w zero_is less other le =
    let nothing : other * w ≡ 0 = rw zero_is (omega arith) in
    omega (arith, ints, less, le, nothing)
