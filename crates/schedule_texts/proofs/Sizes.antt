-- Numbers that the program holds.
use Rattle.std.proofs.Common.{◌≡◌, ℕ, ◌+◌, ◌*◌, ◌/◌, ◌%◌, ◌^◌, ◌<◌, ◌≤◌, inl, inr, subst, arith}
use Rattle.std.proofs.Math.Nat.{div-le_self, div-mul-le_self, div-one, mod-lt, mod-one, mul-le-mul}
use Rattle.std.proofs.lemmas.Bool.{cases_lt}
use Rattle.schedule_texts.specs.Decimals.{part_of}

-- hundredths of what is left above whole units
pub part_small : (d x : ℕ) → 1 ≤ d → d < 2 ^ 64 → part_of d x < 2 ^ 73
part_small d x some small =
    let rest : x % d < d = mod-lt x some in
    let most : part_of d x ≤ x % d * 200 + d = div-le_self (x % d * 200 + d) (2 * d) in
    omega (arith, rest, most)

fits_one : (x : ℕ) → x < 2 ^ 128 → x / 1 + part_of 1 x / 100 < 2 ^ 128
fits_one x small = rw (div-one x, mod-one x) (omega (arith, small))

fits_more : (d x : ℕ) → 2 ≤ d → d < 2 ^ 64 → x < 2 ^ 128 → x / d + part_of d x / 100 < 2 ^ 128
fits_more d x two small fits =
    let same : x / d ≤ x / d = omega arith in
    let halves : x / d * 2 ≤ x / d * d = mul-le-mul same two in
    let whole : x / d * d ≤ x = div-mul-le_self x d in
    let some : 1 ≤ d = omega (arith, two) in
    let part = part_small d x some small in
    let less : part_of d x / 100 ≤ part_of d x = div-le_self (part_of d x) 100 in
    omega (arith, halves, whole, part, less, fits)

-- a whole number and what hundredths carry
pub whole_fits : (d x : ℕ) → 1 ≤ d → d < 2 ^ 64 → x < 2 ^ 128 → x / d + part_of d x / 100 < 2 ^ 128
whole_fits d x some small fits = elim (cases_lt 1 d) [
  | inl more ↦ fits_more d x (omega (arith, more)) small fits
  | inr one ↦ let is : 1 ≡ d = omega (arith, one, some) in subst (λ n. x / n + part_of n x / 100 < 2 ^ 128) is (fits_one x fits)
]

-- the marks of an axis stand within its span
pub mark_within : (number step span : ℕ) → number < span / step + 1 → number * step ≤ span
mark_within number step span below =
    let up_to : number ≤ span / step = omega (arith, below) in
    let same : step ≤ step = omega arith in
    let most : number * step ≤ span / step * step = mul-le-mul up_to same in
    let whole : span / step * step ≤ span = div-mul-le_self span step in
    omega (arith, most, whole)

pub mark_fits : (h d : ℕ) → h < 2 ^ 71 → d ≤ 10 ^ 9 → h * d < 2 ^ 102
mark_fits h d small few =
    let up_to : h ≤ 2 ^ 71 = omega (arith, small) in
    let most : h * d ≤ 2 ^ 71 * 10 ^ 9 = mul-le-mul up_to few in
    omega (arith, most)

pub mark_wide : (h d width : ℕ) → h < 2 ^ 71 → d ≤ 10 ^ 9 → width ≤ 52000 → h * d * width < 2 ^ 118
mark_wide h d width small few narrow =
    let fits = mark_fits h d small few in
    let up_to : h * d ≤ 2 ^ 102 = omega (arith, fits) in
    let most : h * d * width ≤ 2 ^ 102 * 52000 = mul-le-mul up_to narrow in
    omega (arith, most)

pub mark_small : (h d width over : ℕ) → h < 2 ^ 71 → d ≤ 10 ^ 9 → width ≤ 52000 → h * d * width / over < 2 ^ 118
mark_small h d width over small few narrow =
    let most = mark_wide h d width small few narrow in
    let less : h * d * width / over ≤ h * d * width = div-le_self (h * d * width) over in
    omega (arith, most, less)

-- the levels between stand up to a full battery
pub step_within : (number step full : ℕ) → number < full / step → (number + 1) * step ≤ full
step_within number step full below =
    let up_to : number + 1 ≤ full / step = omega (arith, below) in
    let same : step ≤ step = omega arith in
    let most : (number + 1) * step ≤ full / step * step = mul-le-mul up_to same in
    let whole : full / step * step ≤ full = div-mul-le_self full step in
    omega (arith, most, whole)

-- where panels stand
pub top_small : (at rise : ℕ) → at < 2 ^ 64 → rise ≤ 1000 → at * (2800 + rise) < 2 ^ 78
top_small at rise small low =
    let up_to : at ≤ 2 ^ 64 = omega (arith, small) in
    let few : 2800 + rise ≤ 3800 = omega (arith, low) in
    let most : at * (2800 + rise) ≤ 2 ^ 64 * 3800 = mul-le-mul up_to few in
    omega (arith, most)

pub span_small : (latest d : ℕ) → latest < 2 ^ 64 → latest * 100 / d < 2 ^ 71
span_small latest d small =
    let less : latest * 100 / d ≤ latest * 100 = div-le_self (latest * 100) d in
    omega (arith, less, small)

pub x_fits : (time width : ℕ) → time < 2 ^ 102 → width ≤ 52000 → time * width < 2 ^ 118
x_fits time width small narrow =
    let up_to : time ≤ 2 ^ 102 = omega (arith, small) in
    let most : time * width ≤ 2 ^ 102 * 52000 = mul-le-mul up_to narrow in
    omega (arith, most)

pub x_small : (time width latest : ℕ) → time < 2 ^ 102 → width ≤ 52000 → time * width / latest < 2 ^ 118
x_small time width latest small narrow =
    let most = x_fits time width small narrow in
    let less : time * width / latest ≤ time * width = div-le_self (time * width) latest in
    omega (arith, most, less)

-- the parts of a second
pub part_fits : (d p : ℕ) → d ≤ 10 ^ 9 → p ≤ 10 ^ 9 → d * p ≤ 10 ^ 18
part_fits d p small few = let most : d * p ≤ 10 ^ 9 * 10 ^ 9 = mul-le-mul small few in omega (arith, most)

pub part_narrow : (d p : ℕ) → d ≤ 10 ^ 9 → p ≤ 10 ^ 9 → d * p < 2 ^ 128
part_narrow d p small few = let most = part_fits d p small few in omega (arith, most)

pub part_some : (d p : ℕ) → 1 ≤ d → 1 ≤ p → 1 ≤ d * p
part_some d p some more = let least : 1 * 1 ≤ d * p = mul-le-mul some more in omega (arith, least)

pub second_fits : (time seconds : ℕ) → time < 2 ^ 64 → seconds ≤ 3600 → time * seconds < 2 ^ 76
second_fits time seconds small short =
    let up_to : time ≤ 2 ^ 64 = omega (arith, small) in
    let most : time * seconds ≤ 2 ^ 64 * 3600 = mul-le-mul up_to short in
    omega (arith, most)

pub second_small : (sum over : ℕ) → sum < 2 ^ 80 → sum / over < 2 ^ 80
second_small sum over small = let less : sum / over ≤ sum = div-le_self sum over in omega (arith, less, small)

pub ruleset height_small = (top_small)

pub ruleset part_sizes = (part_fits, part_narrow, part_some)

pub ruleset second_sizes = (second_fits, second_small)

pub ruleset x_sizes = (x_fits, x_small)

pub ruleset mark_sizes = (mark_fits, mark_wide, mark_small)
