-- Lasts after which coming next earns the same, since each counted set has both or neither.
use Rattle.std.proofs.Common.{◌≡◌, ◌∙◌, ℕ, ◌+◌, ◌<◌, ◌≤◌, Bool, true, false, not, List, [], ◌∷◌, refl, sym, ap, arith, inl, inr}
use Rattle.std.specs.Prelude.{ℤ, pos, ◌+ℤ◌, ◌&&◌, if◌then◌else◌, slice_index_or}
use Rattle.std.proofs.lemmas.Bool.{cases_Bool, false≢true, le-ltb}
use Rattle.std.proofs.lemmas.Int.{ints}
use Rattle.certificate_parts.specs.Ranges.{customer_count}
use Rattle.customer_sets.specs.CustSet.{has, IsWithin}
use Rattle.ev_model.specs.Network.{Network}
use Rattle.fleet_model.proofs.Numbers.{counted}
use Rattle.near_tree.specs.Branches.{Counted}
use Rattle.near_tree.specs.Entries.{is_in}
use Rattle.near_tree.specs.Follows.{entries_earned, entry_earned, StandsFor}
use Rattle.near_tree.specs.Lasts.{are_counted_alike, AreRows, has_alike, IsMayRow, last_at}
use Rattle.near_tree.specs.Sections.{after, anybody, Last}
use Rattle.near_tree.specs.Sites.{leaf_at}
use Rattle.near_tree.specs.declared.path.Turn.{Turn}
use Rattle.near_tree.specs.declared.proof.LeafSection.{LeafSection}
use Rattle.near_tree.proofs.Standing.{may_by_row, may_not_by_row}

same_both : (a b : Bool) → (if a then b else not b) ≡ true → a ≡ b
same_both true b is = sym is
same_both false true is = absurd (false≢true is)
same_both false false is = refl

entry_same : (set : List ℕ) (price : ℤ) (i k j : ℕ) → has_alike set i k ≡ true → entry_earned set price (after i) j ≡ entry_earned set price (after k) j
entry_same set price i k j is = ap (λ b. if is_in set j && not b then price else pos 0) (same_both (is_in set i) (is_in set k) is)

entries_same : (cs : List Counted) (prices : List ℤ) (i k j : ℕ) → are_counted_alike cs i k ≡ true → entries_earned cs prices (after i) j ≡ entries_earned cs prices (after k) j
entries_same [] prices i k j is = refl
entries_same (c ∷ cs) [] i k j is = refl
entries_same (c ∷ cs) (price ∷ prices) i k j is = elim (cases_Bool (has_alike c.set i k)) [
  | inl here ↦
      let rest : are_counted_alike cs i k ≡ true = sym (ap (λ b. if b then are_counted_alike cs i k else false) here) ∙ is in
      ap (λ z. z +ℤ entries_earned cs prices (after i) j) (entry_same c.set price i k j here)
      ∙ ap (λ z. entry_earned c.set price (after k) j +ℤ z) (entries_same cs prices i k j rest)
  | inr other ↦ absurd (false≢true (sym (ap (λ b. if b then are_counted_alike cs i k else false) other) ∙ is))
]

-- the last with a place that isn't past the customers
low_last : (n k : ℕ) → k ≤ n → last_at n k ≡ after k
low_last n k low = ap (λ b. if b then anybody else after k) (le-ltb n k low)

pub earned_same : (cs : List Counted) (prices : List ℤ) (n last other : ℕ) → last ≤ n → other ≤ n → are_counted_alike cs last other ≡ true → (next : ℕ) → entries_earned cs prices (last_at n other) next ≡ entries_earned cs prices (last_at n last) next
earned_same cs prices n last other low less is next =
    ap (λ (l : Last). entries_earned cs prices l next) (low_last n other less)
    ∙ sym (entries_same cs prices last other next is)
    ∙ sym (ap (λ (l : Last). entries_earned cs prices l next) (low_last n last low))

-- whoever may come next after one last may do so after the other, and earns the same
pub stands_alike : (g : Network) (path : List Turn) (s : LeafSection) (rows : List (List ℕ)) (last other : ℕ) (mine theirs : List ℕ) → AreRows (IsMayRow (customer_count g) path) (customer_count g + 2) rows → last < customer_count g + 2 → other < customer_count g + 2
    → mine ≡ slice_index_or rows last mine → theirs ≡ slice_index_or rows other theirs → IsWithin theirs mine
    → ((next : ℕ) → entries_earned (leaf_at path s).branch.counted (leaf_at path s).section.entry_prices (last_at (customer_count g) other) next ≡ entries_earned (leaf_at path s).branch.counted (leaf_at path s).section.entry_prices (last_at (customer_count g) last) next)
    → StandsFor g (leaf_at path s).branch (leaf_at path s).section (last_at (customer_count g) last) (last_at (customer_count g) other)
stands_alike g path s rows last other mine theirs are low less is its within same j few may =
    let n = customer_count g in
    let known : j ≤ customer_count g = omega (arith, few, counted g) in
    let there : has theirs j ≡ true = elim (cases_Bool (has theirs j)) [
      | inl held ↦ held
      | inr missing ↦ absurd (may_not_by_row n path rows other j (last_at n other) are less known refl theirs (sym (ap (λ r. has r j) its) ∙ missing) may)
    ] in
    (may_by_row n path rows last j (last_at n last) are low known refl mine (sym (ap (λ r. has r j) is) ∙ within j there), omega (arith, ints, same j))
