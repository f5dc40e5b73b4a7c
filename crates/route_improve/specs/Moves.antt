-- Moves of customers between lists and within one (relocation and exchange: Savelsbergh 1992), and
-- orders that none makes cheaper.
use Rattle.std.specs.Prelude.{◌≡◌, ℕ, ◌<◌, ◌≤◌, Bool, false, true, List, [], ◌∷◌, ◌++◌, filter, insert, length, remove, set, slice_index}
use Rattle.ev_model.specs.Network.{Network}
use Rattle.index_links.specs.Lists.{list_at}
use Rattle.route_improve.specs.Orders.{HaveCost}

-- list a has a customer at place i
pub record HasPlace (lists : List (List ℕ)) (a i : ℕ) : Type 0 where
  pub list : a < length lists
  pub place : i < length (list_at lists a)

-- the customer at place i of list a
abbrev pub customer_at : List (List ℕ) → ℕ → ℕ → ℕ
customer_at lists a i = slice_index (list_at lists a) i

-- the lists without the customer at place i of list a
abbrev pub taken_out : List (List ℕ) → ℕ → ℕ → List (List ℕ)
taken_out lists a i = set lists a (remove (list_at lists a) i)

-- the lists with the customer x put at place j of list b
abbrev pub put_in : List (List ℕ) → ℕ → ℕ → ℕ → List (List ℕ)
put_in lists b j x = set lists b (insert (list_at lists b) j x)

-- the lists with the customer x in the place of the one at place j of list b
abbrev pub put_over : List (List ℕ) → ℕ → ℕ → ℕ → List (List ℕ)
put_over lists b j x = set lists b (set (list_at lists b) j x)

-- the lists with the customer at place i of list a taken out and put at place j of list b
abbrev pub relocated : List (List ℕ) → ℕ → ℕ → ℕ → ℕ → List (List ℕ)
relocated lists a i b j = put_in (taken_out lists a i) b j (customer_at lists a i)

-- the lists with the customers at place i of list a and at place j of list b swapped
abbrev pub exchanged : List (List ℕ) → ℕ → ℕ → ℕ → ℕ → List (List ℕ)
exchanged lists a i b j =
    put_over (put_over lists a i (customer_at lists b j)) b j (customer_at lists a i)

abbrev pub has_customer : List ℕ → Bool
has_customer [] = false
has_customer (x ∷ xs) = true

-- the lists that have customers
abbrev pub with_customers : List (List ℕ) → List (List ℕ)
with_customers lists = filter has_customer lists

-- A relocation takes one customer out and puts it at a place of its own list, at any place of
-- another, or into a new list by itself, which is the one behind the last; a list that becomes
-- empty goes. (Where it comes back to its own place, nothing changes.)
pub record IsRelocation (orders moved : List (List ℕ)) : Type 0 where
  pub a : ℕ
  pub i : ℕ
  pub b : ℕ
  pub j : ℕ
  pub from : HasPlace orders a i
  pub to : b ≤ length orders
  pub place : j ≤ length (list_at (taken_out orders a i) b)
  pub is : moved ≡ with_customers (relocated (orders ++ [] ∷ []) a i b j)

-- An exchange swaps two customers, also of one list.
pub record IsExchange (orders moved : List (List ℕ)) : Type 0 where
  pub a : ℕ
  pub i : ℕ
  pub b : ℕ
  pub j : ℕ
  pub one : HasPlace orders a i
  pub other : HasPlace orders b j
  pub is : moved ≡ exchanged orders a i b j

-- Orders are settled where none that one relocation or exchange gives have a defined cost that is
-- smaller.
pub record IsSettled (g : Network) (orders : List (List ℕ)) : Type 0 where
  pub relocations : (moved : List (List ℕ)) (cost other : ℕ) → IsRelocation orders moved →
      HaveCost g orders cost → HaveCost g moved other → cost ≤ other
  pub exchanges : (moved : List (List ℕ)) (cost other : ℕ) → IsExchange orders moved →
      HaveCost g orders cost → HaveCost g moved other → cost ≤ other
