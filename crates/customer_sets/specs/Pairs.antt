-- Pairs of places that may follow each other on a route: place 0 is the depot, place c + 1 the customer with
-- number c.
use Rattle.std.specs.Prelude.{◌≡◌, ◌≢◌, ℕ, zero, suc, ◌+◌, ◌-◌, ◌<◌, ◌≤◌, Bool, true, false, not, ◌&&◌, ◌||◌, nat_eq, List, [], length, slice_index_or}
use Rattle.customer_sets.specs.CustSet.{has}

-- each place may follow each
abbrev pub any_pair : ℕ → ℕ → Bool
any_pair a b = true

-- j may not follow i any more
abbrev pub forbid : ℕ → ℕ → (ℕ → ℕ → Bool) → ℕ → ℕ → Bool
forbid i j allows a b = allows a b && not (nat_eq a i && nat_eq b j)

-- j has to follow i: no other place follows i, and j follows no other place
abbrev pub require : ℕ → ℕ → (ℕ → ℕ → Bool) → ℕ → ℕ → Bool
require i j allows a b =
    allows a b && (nat_eq a b
    || (not (nat_eq a i && not (nat_eq b j)) && not (nat_eq b j && not (nat_eq a i))))

-- forbidden pairs among the places of so many customers
pub record ForbiddenPairs : Type 0 where
  pub customers : ℕ
  -- by place: the numbers of the customers who may not follow it
  pub after : List (List ℕ)
  -- the numbers of the customers after whom the route may not end
  pub home : List ℕ

-- the customers who may not follow a place
abbrev pub row_of : ForbiddenPairs → ℕ → List ℕ
row_of p a = slice_index_or p.after a []

-- the place b may not follow the place a
abbrev pub is_forbidden : ForbiddenPairs → ℕ → ℕ → Bool
is_forbidden p a zero = has p.home (a - 1)
is_forbidden p a (suc c) = has (row_of p a) c

-- the place b may follow the place a; a place may always follow itself
abbrev pub allows_of : ForbiddenPairs → ℕ → ℕ → Bool
allows_of p a b = nat_eq a b || not (is_forbidden p a b)

-- what holds of all forbidden pairs: they are of two different places
pub record IsPairs (p : ForbiddenPairs) : Type 0 where
  pub few : p.customers ≤ 128
  pub rows : length p.after ≡ 129
  pub places : (a c : ℕ) → has (row_of p a) c ≡ true →
      (a ≤ p.customers) × (c < p.customers) × (c + 1 ≢ a)
  pub ends : (c : ℕ) → has p.home c ≡ true → c < p.customers

-- requiring that j follows i would forbid a further pair
abbrev pub IsNarrowedBy : ForbiddenPairs → ℕ → ℕ → Type 0
IsNarrowedBy p i j =
    (a b : ℕ) × (a ≤ p.customers) × (b ≤ p.customers)
    × (allows_of p a b ≡ true) × (require i j (allows_of p) a b ≡ false)

-- no customer may follow another where requiring it would forbid a further pair
abbrev pub IsDecidedFrom : ForbiddenPairs → ℕ → Type 0
IsDecidedFrom p i =
    (j : ℕ) → 0 < j → j ≤ p.customers → i ≢ j → allows_of p i j ≡ true → IsNarrowedBy p i j → ⊥

abbrev pub IsDecided : ForbiddenPairs → Type 0
IsDecided p = (i : ℕ) → 0 < i → i ≤ p.customers → IsDecidedFrom p i
