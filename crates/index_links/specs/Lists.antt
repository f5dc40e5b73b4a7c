-- Lists of item numbers, as the callers of `Rings` see them.
use Rattle.std.specs.Prelude.{◌≡◌, ℕ, ◌-◌, ◌<◌, List, [], ◌∷◌, ◌++◌, ◌⊎◌, nat_eq, cond, get_or, length, replicate, set, map}

-- the lists by number, and how many item numbers there are
pub record Lists : Type 0 where
  pub lists : List (List ℕ)
  pub items : ℕ

-- i is an item of the list
abbrev pub IsIn : ℕ → List ℕ → Type 0
IsIn i [] = ⊥
IsIn i (x ∷ xs) = (i ≡ x) ⊎ IsIn i xs

-- no item stands twice in the list
abbrev pub EachOnce : List ℕ → Type 0
EachOnce [] = Unit {0}
EachOnce (x ∷ xs) = (IsIn x xs → ⊥) × EachOnce xs

-- the list of number k, or no item where there is no such list
abbrev pub list_at : List (List ℕ) → ℕ → List ℕ
list_at ls k = get_or ls k []

-- i is an item of one of the lists
abbrev pub IsLinked : List (List ℕ) → ℕ → Type 0
IsLinked ls i = (k : ℕ) × IsIn i (list_at ls k)

-- no item stands twice, neither in one list nor in two, and each is one of the item numbers
pub record AreDisjoint (o : Lists) : Type 0 where
  pub once : (k : ℕ) → EachOnce (list_at o.lists k)
  pub one_list : (i j k : ℕ) → IsIn i (list_at o.lists j) → IsIn i (list_at o.lists k) → j ≡ k
  pub in_range : (i k : ℕ) → IsIn i (list_at o.lists k) → i < o.items

-- the list without the item i, the others in their order
abbrev pub without : ℕ → List ℕ → List ℕ
without i [] = []
without i (x ∷ xs) = cond (nat_eq i x) (without i xs) (x ∷ without i xs)

-- the list with i directly before the item `next`, where that item stands in it
abbrev pub with_before : ℕ → ℕ → List ℕ → List ℕ
with_before next i [] = []
with_before next i (x ∷ xs) = cond (nat_eq next x) (i ∷ x ∷ xs) (x ∷ with_before next i xs)

-- the lists with i at the end of list k
abbrev pub lists_with_last : List (List ℕ) → ℕ → ℕ → List (List ℕ)
lists_with_last ls k i = set ls k (list_at ls k ++ i ∷ [])

-- the lists with i directly before the item `next`
abbrev pub lists_with_before : List (List ℕ) → ℕ → ℕ → List (List ℕ)
lists_with_before ls next i = map (with_before next i) ls

-- the lists without the item i
abbrev pub lists_without : List (List ℕ) → ℕ → List (List ℕ)
lists_without ls i = map (without i) ls

-- the lists, and empty ones behind them where they are fewer than n
abbrev pub lists_padded : List (List ℕ) → ℕ → List (List ℕ)
lists_padded ls n = ls ++ replicate (n - length ls) []
