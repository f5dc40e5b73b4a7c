-- Entries of the table and the places that they stand for.
use Rattle.std.proofs.Common.{◌≡◌, ◌∙◌, ℕ, ◌+◌, ◌-◌, ◌*◌, ◌/◌, ◌%◌, ◌<◌, ◌≤◌, Bool, true, false, List, length, nat_eq, ap, refl, arith}
use Rattle.std.proofs.Math.Nat.{mod-lt, mul-le-mul_right, div-lt_iff_lt-mul}
use Rattle.std.proofs.lemmas.Nat.{div-mul-add, mod-mul-add}
use Rattle.ev_model.specs.Network.{Network}
use Rattle.level_table.specs.Stations.{stations}
use Rattle.level_table.specs.Answer.{cell_count}
use Rattle.level_table.specs.Places.{IsHome, IsPlace, entry_count, index_of, place_of}
use Rattle.level_table.specs.Entries.{entry_in_cell}
use Rattle.level_table.specs.declared.place.Place.{Place}

-- a cell of a row below the last
within : (r n m p s l : ℕ) → p < r → s < n → l < m → (p * n + s) * m + l < r * n * m
within r n m p s l row slot level =
    let rows : (p + 1) * n ≤ r * n = mul-le-mul_right n (omega arith) in
    let before : p * n + s + 1 ≤ r * n = omega (arith, rows) in
    let cells : (p * n + s + 1) * m ≤ r * n * m = mul-le-mul_right m before in
    omega (arith, cells)

entry-small : (plugged : Bool) → entry_in_cell plugged < 2
entry-small true = omega arith
entry-small false = omega arith

entry-plugged : (plugged : Bool) → nat_eq (entry_in_cell plugged) 0 ≡ plugged
entry-plugged true = refl
entry-plugged false = refl

pub place-below : (g : Network) (route : List ℕ) (place : Place) → IsPlace g route place → index_of g place < entry_count g route
place-below g route place is =
    let cell = within (length route - 1) (length (stations g) + 1) (g.capacity + 1) place.passed place.slot place.level is.passed
    (omega (arith, is.slot)) (omega (arith, is.level)) in
    let entry = entry-small place.plugged in
    omega (arith, cell, entry)

pub home-index : (g : Network) (route : List ℕ) (place : Place) → IsHome g route place →
    index_of g place ≡ entry_count g route + (place.level * 2 + entry_in_cell place.plugged)
home-index g route place is = rw (is.passed, is.slot) (omega arith)

-- a place at the end of the route has an entry
pub home-below : (g : Network) (route : List ℕ) (place : Place) → IsHome g route place → index_of g place < entry_count g route + (g.capacity + 1) * 2
home-below g route place is =
    let at = home-index g route place is in
    let entry = entry-small place.plugged in
    omega (arith, at, entry, is.level)

-- an entry before the end of the route has a place on the way
pub entry-place : (g : Network) (route : List ℕ) (index : ℕ) → index < entry_count g route → IsPlace g route (place_of g index)
entry-place g route index below =
    let cell : index / 2 < cell_count g route = (div-lt_iff_lt-mul {k = 2} {x = index} {y = cell_count g route} (omega arith)).1 below in
    record {
      passed = (div-lt_iff_lt-mul {k = length (stations g) + 1} {x = index / 2 / (g.capacity + 1)} {y = length route - 1} (omega arith)).1
          ((div-lt_iff_lt-mul {k = g.capacity + 1} {x = index / 2} {y = (length route - 1) * (length (stations g) + 1)} (omega arith)).1 cell);
      slot = let small : index / 2 / (g.capacity + 1) % (length (stations g) + 1) < length (stations g) + 1 = mod-lt (index / 2 / (g.capacity + 1)) (omega arith) in omega (arith, small);
      level = let small : index / 2 % (g.capacity + 1) < g.capacity + 1 = mod-lt (index / 2) (omega arith) in omega (arith, small);
    }

same_place : (passed slot level : ℕ) (plugged : Bool) (p s l : ℕ) (b : Bool) → p ≡ passed → s ≡ slot → l ≡ level → b ≡ plugged →
    ◌≡◌ {A = Place} (record { passed = p; slot = s; level = l; plugged = b }) (record { passed = passed; slot = slot; level = level; plugged = plugged })
same_place passed slot level plugged p s l b first second third fourth = cc

-- the entry of a place stands for it
pub place-of_index : (g : Network) (route : List ℕ) (place : Place) → place.slot ≤ length (stations g) → place.level ≤ g.capacity → place_of g (index_of g place) ≡ place
place-of_index g route place slot level =
    let m = g.capacity + 1 in
    let n = length (stations g) + 1 in
    let row = place.passed * n + place.slot in
    let cell = row * m + place.level in
    let entry = entry_in_cell place.plugged in
    let low : place.level < m = omega arith in
    let few : place.slot < n = omega arith in
    let small : entry < 2 = entry-small place.plugged in
    let cell_is : (cell * 2 + entry) / 2 ≡ cell = div-mul-add cell 2 entry small in
    let entry_is : (cell * 2 + entry) % 2 ≡ entry = mod-mul-add cell 2 entry small in
    let row_is : cell / m ≡ row = div-mul-add row m place.level low in
    let level_is : cell % m ≡ place.level = mod-mul-add row m place.level low in
    let passed_is : row / n ≡ place.passed = div-mul-add place.passed n place.slot few in
    let slot_is : row % n ≡ place.slot = mod-mul-add place.passed n place.slot few in
    same_place place.passed place.slot place.level place.plugged
    ((cell * 2 + entry) / 2 / m / n) ((cell * 2 + entry) / 2 / m % n) ((cell * 2 + entry) / 2 % m) (nat_eq ((cell * 2 + entry) % 2) 0)
    (ap (λ x. x / m / n) cell_is ∙ ap (λ x. x / n) row_is ∙ passed_is) (ap (λ x. x / m % n) cell_is ∙ ap (λ x. x % n) row_is ∙ slot_is)
    (ap (λ x. x % m) cell_is ∙ level_is) (ap (λ x. nat_eq x 0) entry_is ∙ entry-plugged place.plugged)
