-- What the fields of an instance say of its network.
use Rattle.std.proofs.Common.{◌≡◌, ◌∙◌, ℕ, ◌+◌, ◌*◌, ◌<◌, ◌≤◌, ◌^◌, List, [], ◌∷◌, Vec, Global, Option, None, Some, Bool, true, false, cond, not, All, IfSome, length, map, filter, get_or, slice_get, option_map, refl, sym, ap, arith}
use Rattle.std.proofs.lemmas.List.{get_or-map, length-map}
use Rattle.std.proofs.Math.Nat.{mul-le-mul}
use Rattle.std.proofs.lemmas.List.Elements.{All-cons, All-filter, All-from_get_or, All-get_or, All-nil}
use Rattle.std.proofs.lemmas.List.FromFn.{get_or-range_with_len, length-range_with_len}
use Rattle.std.proofs.lemmas.List.Filters.{length-filter_both}
use Rattle.std.proofs.lemmas.List.Kept.{IsStrictlyIncreasing-filter}
use Rattle.std.proofs.lemmas.Option.{slice_get_read, slice_get_within}
use Rattle.std.specs.List.{range_with_len}
use Rattle.std.specs.List.Sorted.{IsStrictlyIncreasing}
use Rattle.ev_model.specs.Network.{Network, curve_at, is_customer, most_nodes, node_count}
use Rattle.instance_reader.specs.Inside.{IsInstance, network_inside, points_at}
use Rattle.instance_reader.specs.Instance.{IsCurveAt, IsCustomerNumber, TellsChargeTime, customer_nodes}
use Rattle.instance_reader.specs.declared.curves.StationCurve.{StationCurve}
use Rattle.instance_reader.specs.declared.instance.Instance.TheInside.{Inside}

-- an entry of a matrix of small numbers
pub small_at : (rows : List (Vec ℕ Global)) (n i j : ℕ) (row : Vec ℕ Global) (x : ℕ) →
    All (λ row. length row ≡ n) (map (λ row. row.items) rows) → All (All (λ number. number ≤ 10 ^ 9)) (map (λ row. row.items) rows) →
    i < length rows → j < n → row ≡ get_or rows i row → x ≡ get_or row.items j x → x ≤ 10 ^ 9
small_at rows n i j row x lengths small hi hj is_row is_x =
    let within : i < length (map (λ row. row.items) rows) = rw length-map hi in
    let same : get_or (map (λ row. row.items) rows) i row.items ≡ row.items =
    get_or-map (λ row. row.items) rows i row row.items hi ∙ ap (λ row. row.items) (sym is_row) in
    let long : length row.items ≡ n = rw (← same) (All-get_or (λ row. length row ≡ n) (map (λ row. row.items) rows) i row.items within lengths) in
    let all : All (λ number. number ≤ 10 ^ 9) row.items =
    rw (← same) (All-get_or (All (λ number. number ≤ 10 ^ 9)) (map (λ row. row.items) rows) i row.items within small) in
    let inside : j < length row.items = omega arith in
    rw is_x (All-get_or (λ number. number ≤ 10 ^ 9) row.items j x inside all)

-- the scaled curve that a node's number leads to
pub curve_at_number : (a : Inside) (node number : ℕ) (o : Option ℕ) (c : StationCurve) → IsInstance a →
    node < node_count (network_inside a) → o ≡ get_or a.curve_numbers.items node o → o ≡ Some number → c ≡ get_or a.curves.items number c →
    IsCurveAt (network_inside a) node c.scaled
curve_at_number a node number o c is h is_o some is_c =
    let count : length a.curve_numbers.items ≡ node_count (network_inside a) =
    sym (length-map a.curve_numbers.items (points_at a.curves.items)) ∙ is.network.curve_count in
    let within : node < length a.curve_numbers.items = omega arith in
    let known : IfSome (get_or a.curve_numbers.items node o) (λ n. n < length a.curves.items) =
    All-get_or (λ o. IfSome o (λ n. n < length a.curves.items)) a.curve_numbers.items node o within is.known in
    let inside : number < length a.curves.items = rw (← is_o, some) at known in
    let found : slice_get a.curves.items number ≡ Some c = slice_get_read a.curves.items (length a.curves.items) number c refl inside is_c in
    let points : curve_at (network_inside a) node ≡ Some c.curve.points =
    get_or-map (points_at a.curves.items) a.curve_numbers.items node o None within
    ∙ ap (points_at a.curves.items) (sym is_o ∙ some) ∙ ap (option_map (λ c. c.curve.points)) found in
    let tells : TellsChargeTime a.max_q a.denominator c.curve.points c.scaled =
    rw is_c (All-get_or (λ c. TellsChargeTime a.max_q a.denominator c.curve.points c.scaled) a.curves.items number c inside is.scaled) in
    (c.curve.points, points, tells)

-- a scaled time
pub scaled_small : (d time : ℕ) → d ≤ 10 ^ 9 → time ≤ 10 ^ 9 → d * time ≤ 10 ^ 18
scaled_small d time hd ht = mul-le-mul hd ht

-- ---- the customers' nodes

passed : {X : Type 0} (p : X → Bool) (x : X) (xs : List X) (b : Bool) → p x ≡ b → All (λ x. p x ≡ true) (filter p xs) →
    All (λ x. p x ≡ true) (cond b (x ∷ filter p xs) (filter p xs))
passed p x xs true is all = All-cons (λ x. p x ≡ true) x (filter p xs) is all
passed p x xs false is all = all

pub All-filter-true : {X : Type 0} (p : X → Bool) (xs : List X) → All (λ x. p x ≡ true) (filter p xs)
All-filter-true p [] = All-nil (λ x. p x ≡ true)
All-filter-true p (x ∷ xs) = passed p x xs (p x) refl (All-filter-true p xs)

pub customers_known : (g : Network) → All (λ node. node < node_count g) (customer_nodes g)
customers_known g =
    All-filter (is_customer g) (λ node. node < node_count g) (range_with_len 0 (node_count g))
    (All-from_get_or (λ node. node < node_count g) (range_with_len 0 (node_count g)) 0
    (λ i within.
    let inside : i < node_count g = rw length-range_with_len at within in
    rw (get_or-range_with_len 0 (node_count g) i 0 inside) (omega arith)))

pub customers_rise : (g : Network) → IsStrictlyIncreasing (customer_nodes g)
customers_rise g =
    IsStrictlyIncreasing-filter (is_customer g) (range_with_len 0 (node_count g))
    (λ k within.
    let inside : k + 1 < node_count g = rw length-range_with_len at within in
    let before : k < node_count g = omega arith in
    rw (get_or-range_with_len 0 (node_count g) k 0 before, get_or-range_with_len 0 (node_count g) (k + 1) 0 inside) (omega arith))

pub customer_within : (g : Network) (node : ℕ) (o : Option ℕ) → IsCustomerNumber g node o → IfSome o (λ number. number < length (customer_nodes g))
customer_within g node None h = tt
customer_within g node (Some number) h = slice_get_within (customer_nodes g) number node h.1

pub customers_are_nodes : (g : Network) → length (customer_nodes g) ≤ node_count g
customers_are_nodes g =
    let parts = length-filter_both (is_customer g) (λ node. not (is_customer g node)) (λ node. refl) (range_with_len 0 (node_count g)) in
    omega (arith, parts, length-range_with_len 0 (node_count g))

-- the number of a customer is small
pub number_small : (g : Network) (node : ℕ) (o : Option ℕ) → node_count g ≤ most_nodes → IsCustomerNumber g node o → IfSome o (λ number. number < most_nodes)
number_small g node None few is = tt
number_small g node (Some number) few is =
    let within = slice_get_within (customer_nodes g) number node is.1 in
    omega (arith, within, few, customers_are_nodes g)
