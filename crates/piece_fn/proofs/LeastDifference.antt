-- A difference of two functions that bends upward at marked places alone is least at an end or at a marked place.
use Rattle.std.proofs.Common.{◌≡◌, ℕ, zero, suc, ◌+◌, ◌-◌, ◌*◌, ◌<◌, ◌≤◌, Bool, true, false, arith, ◌⊎◌, inl, inr}
use Rattle.std.proofs.lemmas.Bool.{cases_Bool, cases_eq, cases_lt}

-- the difference of up and down does not bend upward at y
abbrev pub Bends : (ℕ → ℕ) → (ℕ → ℕ) → ℕ → Type 0
Bends up down y = up (y + 1) + up (y - 1) + 2 * down y ≤ 2 * up y + down (y + 1) + down (y - 1)

pub record IsLeastAt (up down : ℕ → ℕ) (marked : ℕ → Bool) (low high y : ℕ) : Type 0 where
  pub at : ℕ
  pub above : low ≤ at
  pub below : at ≤ high
  pub place : (at ≡ low) ⊎ (at ≡ high) ⊎ (marked at ≡ true)
  pub less : up at + down y ≤ up y + down at

-- to the right, while the difference does not rise
right : (up down : ℕ → ℕ) (marked : ℕ → Bool) (low high : ℕ) → ((y : ℕ) → low < y → y < high → marked y ≡ false → Bends up down y)
    → (n y : ℕ) → low ≤ y → y + n ≡ high → 0 < n → up (y + 1) + down y ≤ up y + down (y + 1) → IsLeastAt up down marked low high y
right up down marked low high bends zero y ly at some falls = absurd (omega arith)
right up down marked low high bends (suc n) y ly at some falls = elim (cases_eq (y + 1) high) [
  | inl end ↦ record { at = y + 1; above = omega arith; below = omega (arith, end); place = inr (inl end); less = falls }
  | inr inside ↦ elim (cases_Bool (marked (y + 1))) [
    | inl there ↦ record { at = y + 1; above = omega arith; below = omega (arith, at); place = inr (inr there); less = falls }
    | inr plain ↦
        let left_is : y + 1 - 1 ≡ y = omega arith in
        let bent : Bends up down (y + 1) = bends (y + 1) (omega arith) (omega (arith, at, inside)) plain in
        let bent_here : up (y + 1 + 1) + up y + 2 * down (y + 1) ≤ 2 * up (y + 1) + down (y + 1 + 1) + down y = rw left_is at bent in
        let rest = right up down marked low high bends n (y + 1) (omega arith) (omega (arith, at)) (omega (arith, at, inside)) (omega (arith, bent_here, falls)) in
        record { at = rest.at; above = rest.above; below = rest.below; place = rest.place; less = omega (arith, rest.less, falls) }
  ]
]

-- to the left, while the difference does not fall
left : (up down : ℕ → ℕ) (marked : ℕ → Bool) (low high : ℕ) → ((y : ℕ) → low < y → y < high → marked y ≡ false → Bends up down y)
    → (n y : ℕ) → y ≤ high → low + n ≡ y → 0 < n → up (y - 1) + down y ≤ up y + down (y - 1) → IsLeastAt up down marked low high y
left up down marked low high bends zero y yh at some falls = absurd (omega arith)
left up down marked low high bends (suc n) y yh at some falls = elim (cases_eq (y - 1) low) [
  | inl end ↦ record { at = y - 1; above = omega (arith, end); below = omega arith; place = inl end; less = falls }
  | inr inside ↦ elim (cases_Bool (marked (y - 1))) [
    | inl there ↦ record { at = y - 1; above = omega (arith, at); below = omega arith; place = inr (inr there); less = falls }
    | inr plain ↦
        let right_is : y - 1 + 1 ≡ y = omega (arith, at) in
        let bent : Bends up down (y - 1) = bends (y - 1) (omega (arith, at, inside)) (omega (arith, at)) plain in
        let bent_here : up y + up (y - 1 - 1) + 2 * down (y - 1) ≤ 2 * up (y - 1) + down y + down (y - 1 - 1) = rw right_is at bent in
        let rest = left up down marked low high bends n (y - 1) (omega arith) (omega (arith, at)) (omega (arith, at, inside)) (omega (arith, bent_here, falls)) in
        record { at = rest.at; above = rest.above; below = rest.below; place = rest.place; less = omega (arith, rest.less, falls) }
  ]
]

pub least_at : (up down : ℕ → ℕ) (marked : ℕ → Bool) (low high : ℕ) → ((y : ℕ) → low < y → y < high → marked y ≡ false → Bends up down y)
    → (y : ℕ) → low ≤ y → y ≤ high → IsLeastAt up down marked low high y
least_at up down marked low high bends y ly yh = elim (cases_eq y low) [
  | inl first ↦ record { at = y; above = ly; below = yh; place = inl first; less = omega arith }
  | inr above ↦ elim (cases_eq y high) [
    | inl last ↦ record { at = y; above = ly; below = yh; place = inr (inl last); less = omega arith }
    | inr under ↦ elim (cases_Bool (marked y)) [
      | inl there ↦ record { at = y; above = ly; below = yh; place = inr (inr there); less = omega arith }
      | inr plain ↦
          let bent : Bends up down y = bends y (omega (arith, above)) (omega (arith, under)) plain in
          elim (cases_lt (up y + down (y + 1)) (up (y + 1) + down y)) [
            | inl rises ↦ left up down marked low high bends (y - low) y yh (omega arith) (omega (arith, above)) (omega (arith, bent, rises))
            | inr falls ↦ right up down marked low high bends (high - y) y ly (omega arith) (omega (arith, under)) falls
          ]
    ]
  ]
]

-- so one function is below another, by a margin, where it is at both ends and at each marked place between
pub below_between : (up down : ℕ → ℕ) (marked : ℕ → Bool) (low high extra : ℕ) → ((y : ℕ) → low < y → y < high → marked y ≡ false → Bends up down y)
    → down low + extra ≤ up low → down high + extra ≤ up high → ((y : ℕ) → low ≤ y → y ≤ high → marked y ≡ true → down y + extra ≤ up y)
    → (y : ℕ) → low ≤ y → y ≤ high → down y + extra ≤ up y
below_between up down marked low high extra bends first last at_marks y ly yh =
    let found = least_at up down marked low high bends y ly yh in
    let there : down found.at + extra ≤ up found.at = elim found.place [
      | inl is ↦ rw is first
      | inr (inl is) ↦ rw is last
      | inr (inr is) ↦ at_marks found.at found.above found.below is
    ] in
    omega (arith, found.less, there)
