-- A queue's items as trees that are ordered by their pairs.
use Rattle.std.specs.Prelude.{◌≡◌, ◌⊎◌, ℕ, List, length, Option, Some}
use Rattle.index_links.specs.Lists.{Lists, IsIn, IsLinked, list_at}
use Rattle.index_links.specs.Queue.{HasPair, Precedes}

-- both items are held, and the pair of i comes before that of j
pub record IsAbove (keys : List (Option ℕ)) (i j : ℕ) : Type 0 where
  pub key : ℕ
  pub other : ℕ
  pub held : HasPair keys key i
  pub other_held : HasPair keys other j
  pub before : Precedes key i other j

-- list p has the children of item p, and each item comes before its children
pub record IsForest (keys : List (Option ℕ)) (children : Lists) : Type 0 where
  pub items : children.items ≡ length keys
  pub lists : length children.lists ≡ length keys
  pub ordered : (p c : ℕ) → IsIn c (list_at children.lists p) → IsAbove keys p c

-- the same items have a parent
abbrev pub SameLinked : List (List ℕ) → List (List ℕ) → Type 0
SameLinked old new = (j : ℕ) → (IsLinked new j → IsLinked old j) × (IsLinked old j → IsLinked new j)

-- the held items are one tree with that root, or none is held
pub record IsHeap (keys : List (Option ℕ)) (children : Lists) (root : Option ℕ) : Type 0 where
  pub forest : IsForest keys children
  pub rooted : (i key : ℕ) → HasPair keys key i → (root ≡ Some i) ⊎ IsLinked children.lists i
  pub top : (r : ℕ) → root ≡ Some r →
      ((key : ℕ) × HasPair keys key r) × (IsLinked children.lists r → ⊥)

-- the trees under i were melded into one with the root c, and that one was taken off
pub record IsCut (keys : List (Option ℕ)) (old new : List (List ℕ)) (i : ℕ) (c : Option ℕ) : Type 0 where
  pub bare : (j : ℕ) → IsIn j (list_at new i) → ⊥
  pub stays : (j : ℕ) → IsLinked old j → (c ≡ Some j) ⊎ IsLinked new j
  pub was : (j : ℕ) → IsLinked new j → IsLinked old j
  pub below : (j : ℕ) → c ≡ Some j → IsAbove keys i j
  pub loose : (j : ℕ) → c ≡ Some j → IsLinked new j → ⊥
