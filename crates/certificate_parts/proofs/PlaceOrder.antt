-- Places rise as their nodes do.
use Rattle.std.proofs.Common.{◌≡◌, ℕ, zero, suc, ◌+◌, ◌-◌, ◌<◌, ◌≤◌, Bool, true, false, not, ◌&&◌, List, get_or, length, nat_eq, nat_lt, refl, sym, ap, subst, arith}
use Rattle.std.specs.List.{All, range_with_len}
use Rattle.std.specs.List.Sorted.{IsStrictlyIncreasing}
use Rattle.std.proofs.lemmas.Bool.{false≢true, ltb-false, ltb-true}
use Rattle.std.proofs.lemmas.List.Elements.{All-get_or}
use Rattle.ev_model.specs.Network.{Network, is_customer, node_count}
use Rattle.instance_reader.specs.Instance.{customer_nodes}
use Rattle.instance_reader.proofs.InstanceLemmas.{All-filter-true, customers_rise}
use Rattle.certificate_parts.specs.Ranges.{customer_count}
use Rattle.certificate_parts.specs.Written.{customer_node, place_node}

-- numbers that rise, at places that are further apart
rise_by : (xs : List ℕ) → IsStrictlyIncreasing xs → (gap k : ℕ) → k + (gap + 1) < length xs → get_or xs k 0 < get_or xs (k + (gap + 1)) 0
rise_by xs rises zero k within = rises k within
rise_by xs rises (suc gap) k within =
    let before = rise_by xs rises gap k (omega (arith, within)) in
    let same : k + (suc gap + 1) ≡ (k + (gap + 1)) + 1 = omega arith in
    let next = rises (k + (gap + 1)) (subst (λ (n : ℕ). n < length xs) same within) in
    let later : get_or xs k 0 < get_or xs ((k + (gap + 1)) + 1) 0 = omega (arith, before, next) in
    subst (λ (n : ℕ). get_or xs k 0 < get_or xs n 0) (sym same) later

gap_of : (a b : ℕ) → a < b → (gap : ℕ) × (b ≡ a + (gap + 1))
gap_of a b less = (b - (a + 1), omega (arith, less))

pub customers_in_order : (g : Network) (a b : ℕ) → a < b → b < customer_count g → customer_node g a < customer_node g b
customers_in_order g a b less within =
    let gap = gap_of a b less in
    let inside : a + (gap.0 + 1) < length (customer_nodes g) = subst (λ (n : ℕ). n < length (customer_nodes g)) gap.1 within in
    subst (λ (n : ℕ). get_or (customer_nodes g) a 0 < get_or (customer_nodes g) n 0) (sym gap.1) (rise_by (customer_nodes g) (customers_rise g) gap.0 a inside)

no_depot : (b more : Bool) → (not b && more) ≡ true → b ≡ false
no_depot true more is = absurd (false≢true is)
no_depot false more is = refl

all_at : {X : Type 0} (P : X → Type 0) (d : X) (xs : List X) (i : ℕ) → All P xs → i < length xs → P (get_or xs i d)
all_at P d xs i all within = All-get_or P xs i d within all

some_node : (node : ℕ) → nat_eq node 0 ≡ false → 0 < node
some_node zero is = absurd (false≢true (sym is))
some_node (suc n) is = omega arith

pub customer_is_some : (g : Network) (c : ℕ) → c < customer_count g → 0 < customer_node g c
customer_is_some g c within =
    let is = all_at (λ node. is_customer g node ≡ true) 0 (customer_nodes g) c (All-filter-true (is_customer g) (range_with_len 0 (node_count g))) within in
    some_node (customer_node g c) (no_depot (nat_eq (customer_node g c) 0) _ is)

-- a place below another has a smaller node
pub places_in_order : (g : Network) (a b : ℕ) → a < b → b ≤ customer_count g → place_node g a < place_node g b
places_in_order g a zero less within = absurd (omega (arith, less))
places_in_order g zero (suc b) less within = customer_is_some g b (omega (arith, within))
places_in_order g (suc a) (suc b) less within = customers_in_order g a b (omega (arith, less)) (omega (arith, within))

-- and the other way round
pub below_by_node : (g : Network) (a b : ℕ) → a ≤ customer_count g → place_node g a < place_node g b → a < b
below_by_node g a b within less = by (nat_lt a b) (nat_lt b a) refl refl
  where
    by : (first second : Bool) → nat_lt a b ≡ first → nat_lt b a ≡ second → a < b
    by true second is other = ltb-true a b is
    by false true isnt is = absurd (let n = places_in_order g b a (ltb-true b a is) within in omega (arith, n, less))
    by false false isnt none =
        let x = ltb-false a b isnt in
        let y = ltb-false b a none in
        let same : a ≡ b = omega (arith, x, y) in
        absurd (let n = ap (place_node g) same in omega (arith, n, less))

pub same_by_node : (g : Network) (a b : ℕ) → a ≤ customer_count g → b ≤ customer_count g → place_node g a ≡ place_node g b → a ≡ b
same_by_node g a b first second same = by (nat_lt a b) (nat_lt b a) refl refl
  where
    by : (less more : Bool) → nat_lt a b ≡ less → nat_lt b a ≡ more → a ≡ b
    by true more is _ = absurd (let n = places_in_order g a b (ltb-true a b is) second in omega (arith, n, same))
    by false true _ is = absurd (let n = places_in_order g b a (ltb-true b a is) first in omega (arith, n, same))
    by false false isnt none = let x = ltb-false a b isnt in let y = ltb-false b a none in omega (arith, x, y)
