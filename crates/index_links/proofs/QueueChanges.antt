-- Which pairs a queue has after the calls of `IndexHeap`. The crates above cite these.
use Rattle.std.proofs.Common.{◌≡◌, ℕ, ◌<◌, List, ◌++◌, inl, inr, length, replicate, set, sym, ◌∙◌, ap, arith, length-set, get_or-set_same, get_or-set_other, Option, Some, None}
use Rattle.std.proofs.lemmas.Bool.{cases_lt}
use Rattle.std.proofs.lemmas.List.{get_or_past}
use Rattle.std.proofs.lemmas.Option.{same_Some}
use Rattle.index_links.specs.Queue.{key_at, IsLeast}
use Rattle.index_links.proofs.ListChanges.{get_or-padded}

-- after `grow`
pub key_at-grown : (keys : List (Option ℕ)) (n i : ℕ) → key_at (keys ++ replicate n None) i ≡ key_at keys i
key_at-grown keys n i = get_or-padded keys n i None

-- after `put`
pub key_at-put : (keys : List (Option ℕ)) (i key : ℕ) → i < length keys → key_at (set keys i (Some key)) i ≡ Some key
key_at-put keys i key l = get_or-set_same keys i (Some key) None l

pub key_at-put_other : (keys : List (Option ℕ)) (i j key : ℕ) → (j ≡ i → ⊥) → key_at (set keys i (Some key)) j ≡ key_at keys j
key_at-put_other keys i j key n = get_or-set_other keys i j (Some key) None n

-- after `remove` and `take_least`
pub key_at-removed : (keys : List (Option ℕ)) (i : ℕ) → key_at (set keys i None) i ≡ None
key_at-removed keys i =
    elim (cases_lt i (length keys)) [
      | inl l ↦ get_or-set_same keys i None None l
      | inr g ↦ get_or_past (set keys i None) i None (omega (arith, length-set keys i None))
    ]

pub key_at-removed_other : (keys : List (Option ℕ)) (i j : ℕ) → (j ≡ i → ⊥) → key_at (set keys i None) j ≡ key_at keys j
key_at-removed_other keys i j n = get_or-set_other keys i j None None n

-- two pairs that are both least are one
pub IsLeast-same : (keys : List (Option ℕ)) (key i other j : ℕ) → IsLeast keys key i → IsLeast keys other j → (key ≡ other) × (i ≡ j)
IsLeast-same keys key i other j a b =
    let e : i ≡ j =
    elim (a.least other j b.held) [
      | inl q ↦ sym q
      | inr x ↦ elim (b.least key i a.held) [
        | inl q ↦ q
        | inr y ↦ elim x [
          | inl u ↦ elim y [ inl v ↦ absurd (omega arith) | inr v ↦ absurd (omega arith) ]
          | inr u ↦ elim y [ inl v ↦ absurd (omega arith) | inr v ↦ absurd (omega arith) ]
        ]
      ]
    ] in
    (same_Some key other (sym a.held ∙ ap (key_at keys) e ∙ b.held), e)
