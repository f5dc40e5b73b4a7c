-- What a table of lasts tells of two of them.
use Rattle.std.proofs.Common.{◌≡◌, ◌∙◌, ℕ, ◌+◌, ◌<◌, ◌≤◌, true, false, List, [], sym, ap, subst, arith}
use Rattle.std.specs.Prelude.{slice_index_or}
use Rattle.std.proofs.lemmas.Bool.{false≢true}
use Rattle.std.proofs.lemmas.List.{get_or_default}
use Rattle.certificate_parts.specs.Ranges.{customer_count}
use Rattle.customer_sets.specs.CustSet.{has}
use Rattle.ev_model.specs.Network.{is_customer, Network}
use Rattle.fleet_model.specs.Places.{customer_number, place_of}
use Rattle.fleet_model.proofs.Numbers.{counted}
use Rattle.near_tree.specs.Follows.{MayFollow, StandsFor}
use Rattle.near_tree.specs.Lasts.{AreRows, IsMayRow, IsServedAt, IsStandRow, last_at}
use Rattle.near_tree.specs.Paths.{branch_at}
use Rattle.near_tree.specs.Rules.{Leaf}
use Rattle.near_tree.specs.Sections.{Last}
use Rattle.near_tree.specs.declared.path.Turn.{Turn}
use Rattle.near_tree.proofs.Paths.{follows_may, may_follow}

module _ (g : Network) (f : Leaf) (rows : List (List ℕ)) (k other : ℕ) (last : Last) (are : AreRows (IsStandRow g f) (customer_count g + 2) rows) (low : k < customer_count g + 2) (less : other < customer_count g + 2) (is : last_at (customer_count g) k ≡ last) where
  row_of : (d : List ℕ) → slice_index_or rows k d ≡ slice_index_or rows k []
  row_of d = get_or_default rows k d [] (omega (arith, are.count_is, low))

  pub stands_by : (d : List ℕ) → (has (slice_index_or rows k d) other ≡ true) → StandsFor g f.branch f.section last (last_at (customer_count g) other)
  stands_by d told = subst (λ (l : Last). StandsFor g f.branch f.section l (last_at (customer_count g) other)) is ((are.each k low other less).0 (sym (ap (λ r. has r other) (row_of d)) ∙ told))

  pub stands_not_by : (d : List ℕ) → (has (slice_index_or rows k d) other ≡ false) → StandsFor g f.branch f.section last (last_at (customer_count g) other) → ⊥
  stands_not_by d told stands = false≢true (sym told ∙ ap (λ r. has r other) (row_of d) ∙ (are.each k low other less).1 (subst (λ (l : Last). StandsFor g f.branch f.section l (last_at (customer_count g) other)) (sym is) stands))

module _ (n : ℕ) (path : List Turn) (rows : List (List ℕ)) (k next : ℕ) (last : Last) (are : AreRows (IsMayRow n path) (n + 2) rows) (low : k < n + 2) (high : next ≤ n) (is : last_at n k ≡ last) where
  may_of : (d : List ℕ) → slice_index_or rows k d ≡ slice_index_or rows k []
  may_of d = get_or_default rows k d [] (omega (arith, are.count_is, low))

  pub may_by_row : (d : List ℕ) → has (slice_index_or rows k d) next ≡ true → MayFollow (branch_at path) last next
  may_by_row d told = subst (λ (l : Last). MayFollow (branch_at path) l next) is (may_follow n path k next (sym (are.each k low next high) ∙ sym (ap (λ r. has r next) (may_of d)) ∙ told))

  pub may_not_by_row : (d : List ℕ) → has (slice_index_or rows k d) next ≡ false → MayFollow (branch_at path) last next → ⊥
  may_not_by_row d told may = false≢true (sym told ∙ ap (λ r. has r next) (may_of d) ∙ are.each k low next high ∙ follows_may n path k next (subst (λ (l : Last). MayFollow (branch_at path) l next) (sym is) may))

-- a last stands for another where each place is served
pub stands_all : (g : Network) (f : Leaf) (last other : ℕ) → ((next : ℕ) → next < customer_count g + 1 → IsServedAt (customer_count g) f last other next) → StandsFor g f.branch f.section (last_at (customer_count g) last) (last_at (customer_count g) other)
stands_all g f last other each = λ j low may. each j (omega (arith, low, counted g)) may

pub stands_nowhere : (g : Network) (f : Leaf) (last other next : ℕ) → next < customer_count g + 1 → (IsServedAt (customer_count g) f last other next → ⊥) → StandsFor g f.branch f.section (last_at (customer_count g) last) (last_at (customer_count g) other) → ⊥
stands_nowhere g f last other next low never stands = never (λ may. stands next (omega (arith, low, counted g)) may)

-- the place of a customer is one more than the number
pub at_place : (g : Network) (x n : ℕ) → is_customer g x ≡ true → n ≡ customer_number g x → place_of g x ≡ n + 1
at_place g x n is number = rw is (omega (arith, number))
