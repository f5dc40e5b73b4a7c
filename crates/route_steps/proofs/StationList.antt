-- The nodes that have a curve.
use Rattle.std.proofs.Common.{◌≡◌, ◌∙◌, ℕ, zero, suc, ◌+◌, ◌<◌, List, [], ◌∷◌, ◌++◌, Option, Some, None, Bool, true, false, length, filter, get_or, is_some, refl, ap, inl, inr, arith}
use Rattle.std.specs.Prelude.{MatchOption}
use Rattle.instance_reader.specs.Instance.{IsCurveAt}
use Rattle.std.specs.Option.{IsSome}
use Rattle.std.specs.List.{All, range_with_len}
use Rattle.std.proofs.lemmas.Bool.{cases_Bool}
use Rattle.std.proofs.lemmas.List.{append-nil, map-id}
use Rattle.std.proofs.lemmas.List.Elements.{All-filter, All-from_get_or, All-get_or, filter-append}
use Rattle.std.proofs.lemmas.List.FromFn.{get_or-range_with_len, length-range_with_len, map-range_with_len_more}
use Rattle.ev_model.specs.Network.{Network, curve_at, node_count}
use Rattle.route_steps.specs.Stations.{stations}

passes_head : (p : ℕ → Bool) (x : ℕ) (ys : List ℕ) (j : ℕ) → p x ≡ true → ((i : ℕ) → i < length ys → p (get_or ys i 0) ≡ true) →
    j < length (x ∷ ys) → p (get_or (x ∷ ys) j 0) ≡ true
passes_head p x ys zero passed rest h = passed
passes_head p x ys (suc j) passed rest h = rest j (omega arith)

-- what is left by a test passes it
passes : (p : ℕ → Bool) (xs : List ℕ) (j : ℕ) → j < length (filter p xs) → p (get_or (filter p xs) j 0) ≡ true
passes p [] j h = absurd (omega arith)
passes p (x ∷ xs) j h = elim (cases_Bool (p x)) [
  | inl passed ↦ rw passed (passes_head p x (filter p xs) j passed (passes p xs) (rw passed at h))
  | inr failed ↦ rw failed (passes p xs j (rw failed at h))
]

-- what passes a test is left by it
left : (p : ℕ → Bool) (xs : List ℕ) (i : ℕ) → i < length xs → p (get_or xs i 0) ≡ true →
    (j : ℕ) × (j < length (filter p xs)) × (get_or (filter p xs) j 0 ≡ get_or xs i 0)
left p [] i h passed = absurd (omega arith)
left p (x ∷ xs) zero h passed = rw passed (0, omega arith, refl)
left p (x ∷ xs) (suc i) h passed =
    let rest = left p xs i (omega arith) passed in
    elim (cases_Bool (p x)) [
      | inl first ↦ rw first (suc rest.0, omega (arith, rest.1), rest.2)
      | inr failed ↦ rw failed rest
    ]

numbers_below : (n : ℕ) → All (λ x. x < n) (range_with_len 0 n)
numbers_below n = All-from_get_or (λ x. x < n) (range_with_len 0 n) 0
    (λ i h. let small : i < n = rw (length-range_with_len 0 n) at h in rw (get_or-range_with_len 0 n i 0 small) (omega arith))

-- a station is a node
pub station-known : (g : Network) (j : ℕ) → j < length (stations g) → get_or (stations g) j 0 < node_count g
unfolding stations
station-known g j h =
    let all = All-filter (λ node. is_some (curve_at g node)) (λ x. x < node_count g) (range_with_len 0 (node_count g)) (numbers_below (node_count g)) in
    All-get_or (λ x. x < node_count g) (stations g) j 0 h all

-- a station has a curve
pub station-curve : (g : Network) (j : ℕ) → j < length (stations g) → IsSome (curve_at g (get_or (stations g) j 0))
unfolding stations
station-curve g j h =
    passes (λ node. is_some (curve_at g node)) (range_with_len 0 (node_count g)) j h

-- a node with a curve is a station
pub station-number : (g : Network) (node : ℕ) → node < node_count g → IsSome (curve_at g node) →
    (j : ℕ) × (j < length (stations g)) × (get_or (stations g) j 0 ≡ node)
unfolding stations
station-number g node known curve =
    let is_node : get_or (range_with_len 0 (node_count g)) node 0 ≡ node = get_or-range_with_len 0 (node_count g) node 0 known ∙ omega arith in
    let within : node < length (range_with_len 0 (node_count g)) = rw (length-range_with_len 0 (node_count g)) known in
    let passed : is_some (curve_at g (get_or (range_with_len 0 (node_count g)) node 0)) ≡ true = rw is_node curve in
    let found = left (λ x. is_some (curve_at g x)) (range_with_len 0 (node_count g)) node within passed in
    (found.0, found.1, found.2 ∙ is_node)

-- the nodes below a number that have a curve
abbrev pub stations_below : Network → ℕ → List ℕ
stations_below g n = filter (λ node. is_some (curve_at g node)) (range_with_len 0 n)

pub stations_below-all : (g : Network) (n : ℕ) → n ≡ node_count g → stations_below g n ≡ stations g
unfolding stations
stations_below-all g n is = ap (stations_below g) is

one_more : (g : Network) (n : ℕ) → stations_below g (n + 1) ≡ stations_below g n ++ filter (λ node. is_some (curve_at g node)) (n ∷ [])
one_more g n =
    let numbers : range_with_len 0 (n + 1) ≡ range_with_len 0 n ++ n ∷ [] = let more = map-range_with_len_more (λ x. x) 0 n n (omega arith) in simp map-id at more in
    ap (λ xs. filter (λ node. is_some (curve_at g node)) xs) numbers ∙ filter-append (λ node. is_some (curve_at g node)) (range_with_len 0 n) (n ∷ [])

-- the next node is a station
pub stations_below-station : (g : Network) (n : ℕ) → is_some (curve_at g n) ≡ true → stations_below g (n + 1) ≡ stations_below g n ++ n ∷ []
stations_below-station g n has = let more = one_more g n in rw has at more

-- the next node is none
pub stations_below-other : (g : Network) (n : ℕ) → is_some (curve_at g n) ≡ false → stations_below g (n + 1) ≡ stations_below g n
stations_below-other g n none = let more = one_more g n in (rw none at more) ∙ append-nil (stations_below g n)

-- what is told of a node's curve
pub has_curve : {X : Type 0} (now : X → List (ℕ × ℕ)) (g : Network) (node : ℕ) (told : Option X) →
    MatchOption told (curve_at g node ≡ None) (λ s. IsCurveAt g node (now s)) → is_some (curve_at g node) ≡ is_some told
has_curve now g node None is = rw is refl
has_curve now g node (Some s) is = rw is.1 refl
