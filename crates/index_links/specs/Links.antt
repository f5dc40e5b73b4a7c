-- How links spell lists.
use Rattle.std.specs.Prelude.{◌≡◌, ℕ, zero, suc, ◌<◌, List, [], ◌∷◌, length, map, get_or, set, Option, Some, None}
use Rattle.index_links.specs.Lists.{IsIn, EachOnce, list_at}
use Rattle.index_links.specs.declared.rings.Slot.{Slot}
use Rattle.index_links.specs.declared.rings.Ends.{Ends}

-- the slot of an item that stands in no list
abbrev pub unlinked : Slot
unlinked = record { list = None; prev = None; next = None }

abbrev pub slot_at : List Slot → ℕ → Slot
slot_at s i = get_or s i unlinked

-- the ends of a list without items
abbrev pub no_ends : Ends
no_ends = record { first = None; last = None }

abbrev pub ends_at : List Ends → ℕ → Ends
ends_at es k = get_or es k no_ends

-- the last item, or b where there is none
abbrev pub last_of : Option ℕ → List ℕ → Option ℕ
last_of b [] = b
last_of b (x ∷ xs) = last_of (Some x) xs

-- the forward links lead from `from` over the items xs, all of list k, to `to`, and each back link
-- leads to the item before, that of the first to b
abbrev pub IsChain : List Slot → ℕ → Option ℕ → Option ℕ → List ℕ → Option ℕ → Type 0
IsChain s k b from [] to = from ≡ to
IsChain s k b from (x ∷ xs) to =
    (from ≡ Some x) × (x < length s) × ((slot_at s x).list ≡ Some k) × ((slot_at s x).prev ≡ b) ×
    IsChain s k (Some x) (slot_at s x).next xs to

-- the list k with these ends has the items xs
pub record IsRing (s : List Slot) (k : ℕ) (e : Ends) (xs : List ℕ) : Type 0 where
  pub chain : IsChain s k None e.first xs None
  pub ending : e.last ≡ last_of None xs
  pub once : EachOnce xs

-- the links spell the lists ls, and an item that knows its list stands in it
pub record Spells (es : List Ends) (s : List Slot) (ls : List (List ℕ)) : Type 0 where
  pub count : length ls ≡ length es
  pub rings : (k : ℕ) → k < length es → IsRing s k (ends_at es k) (list_at ls k)
  pub homes : (i k : ℕ) → (slot_at s i).list ≡ Some k → IsIn i (list_at ls k)

-- the items from `from` on by the forward links, at most n of them
abbrev pub items_from : List Slot → ℕ → Option ℕ → List ℕ
items_from s zero from = []
items_from s (suc n) None = []
items_from s (suc n) (Some x) = x ∷ items_from s n (slot_at s x).next

-- the lists that links spell: no list is longer than there are slots
abbrev pub spelled_lists : List Ends → List Slot → List (List ℕ)
spelled_lists es s = map (λ e. items_from s (length s) e.first) es

-- the slots with the forward link of an item set, where there is that item
abbrev pub slots_with_next : List Slot → Option ℕ → Option ℕ → List Slot
slots_with_next s None to = s
slots_with_next s (Some p) to =
    set s p (record { list = (slot_at s p).list; prev = (slot_at s p).prev; next = to })

-- the slots with the back link of an item set, where there is that item
abbrev pub slots_with_prev : List Slot → Option ℕ → Option ℕ → List Slot
slots_with_prev s None to = s
slots_with_prev s (Some p) to =
    set s p (record { list = (slot_at s p).list; prev = to; next = (slot_at s p).next })

-- the ends with the first item of list k set, where no item stands before
abbrev pub ends_with_first : List Ends → ℕ → Option ℕ → Option ℕ → List Ends
ends_with_first es k None to = set es k (record { first = to; last = (ends_at es k).last })
ends_with_first es k (Some p) to = es

-- the ends with the last item of list k set, where no item stands behind
abbrev pub ends_with_last : List Ends → ℕ → Option ℕ → Option ℕ → List Ends
ends_with_last es k None to = set es k (record { first = (ends_at es k).first; last = to })
ends_with_last es k (Some p) to = es
