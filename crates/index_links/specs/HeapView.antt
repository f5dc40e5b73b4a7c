-- What an `IndexHeap` is, by its fields.
use Rattle.std.specs.Prelude.{ℕ, List, Option}
use Rattle.index_links.specs.Forest.{IsHeap}
use Rattle.index_links.specs.declared.heap.IndexHeap.TheInside.{Inside}

-- the key of each item number, where the item is held
abbrev pub keys_of : Inside → List (Option ℕ)
keys_of h = h.keys.items

-- the links of the children are a heap of these keys
abbrev pub IsSoundHeap : Inside → Type 0
IsSoundHeap h = IsHeap h.keys.items h.children h.root
