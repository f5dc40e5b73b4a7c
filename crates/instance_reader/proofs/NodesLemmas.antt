-- The numbers of stations by node, one station after another.
use Rattle.std.proofs.Common.{◌≡◌, ℕ, ◌+◌, ◌<◌, ◌||◌, true, false, List, [], ◌∷◌, ◌++◌, Option, None, Some, length, map, take, drop, get_or, set, is_some, not, nat_eq, nat_lt, refl, sym, ap, inl, inr, arith, add-one, length-append, length-set}
use Rattle.std.proofs.lemmas.Bool.{cases_lt, or_parts}
use Rattle.std.proofs.lemmas.Bool.Decides.{eqb_tells, nat_tests}
use Rattle.std.proofs.lemmas.Grind.{common_steps}
use Rattle.std.proofs.lemmas.List.{take_more, map-append}
use Rattle.std.proofs.lemmas.List.Folds.{find-append}
use Rattle.std.proofs.Math.Seq.{drop-cons}
use Rattle.instance_reader.proofs.ListLemmas.{list_any-find, option_or-none_right, slice_get-append, slice_get-seam, slice_get-within}
use Rattle.instance_reader.specs.Contents.{Station}
use Rattle.instance_reader.specs.Nodes.{AreStationNumbers, IsStationNumber, is_station_among, node_place, station_at, wrong_node_in}
use Rattle.instance_reader.specs.Views.{station_view}
use Rattle.instance_reader.specs.declared.fields.StationEntry.{StationEntry}

found_is_some : (stations : List Station) (node : ℕ) (o : Option ℕ) → IsStationNumber stations node o → is_some (station_at stations node) ≡ is_some o
found_is_some stations node None h = ap is_some h
found_is_some stations node (Some n) h = rw h.1 (slice_get-within stations n h.0)

-- a node has a station among those so far exactly where it has a number
pub is_station_among-numbers : (stations : List Station) (nodes : ℕ) (numbers : List (Option ℕ)) (node : ℕ) →
    AreStationNumbers stations nodes numbers → node < nodes → is_station_among node stations ≡ is_some (get_or numbers node None)
is_station_among-numbers stations nodes numbers node a h =
    rw list_any-find (found_is_some stations node (get_or numbers node None) (a.each node h))

-- one more station leaves the other nodes as they were
other_node : (stations : List Station) (s : Station) (node : ℕ) (o : Option ℕ) → nat_eq s.node node ≡ false →
    IsStationNumber stations node o → IsStationNumber (stations ++ s ∷ []) node o
other_node stations s node None e h = rw (find-append (λ s. nat_eq s.node node) stations (s ∷ []), h, e) refl
other_node stations s node (Some n) e h = (
  omega (arith, length-append stations (s ∷ [])),
  rw (find-append (λ s. nat_eq s.node node) stations (s ∷ []), e, option_or-none_right, h.1, slice_get-append stations (s ∷ []) n h.0) refl,
)

-- the node of the new station gets its number
same_node : (stations : List Station) (s : Station) (node : ℕ) → nat_eq s.node node ≡ true →
    IsStationNumber stations node None → IsStationNumber (stations ++ s ∷ []) node (Some (length stations))
same_node stations s node e h = (
  omega (arith, length-append stations (s ∷ [])),
  rw (find-append (λ s. nat_eq s.node node) stations (s ∷ []), h, e, slice_get-seam stations s) refl,
)

pub AreStationNumbers-push : (stations : List Station) (nodes : ℕ) (numbers : List (Option ℕ)) (s : Station) →
    AreStationNumbers stations nodes numbers → s.node < nodes → get_or numbers s.node None ≡ None →
    AreStationNumbers (stations ++ s ∷ []) nodes (set numbers s.node (Some (length stations)))
AreStationNumbers-push stations nodes numbers s a h n = record {
  all = rw length-set a.all;
  each = λ node within. elim (eqb_tells s.node node) [
    | inl e ↦
        let here : get_or (set numbers s.node (Some (length stations))) node None ≡ Some (length stations) = grind (arith, common_steps, a.all) in
        let was = rw n at (a.each s.node h) in
        let none : IsStationNumber stations node None = rw (← e.1) was in
        rw here (same_node stations s node e.0 none)
    | inr e ↦
        let there : get_or (set numbers s.node (Some (length stations))) node None ≡ get_or numbers node None = grind (arith, common_steps) in
        rw there (other_node stations s node (get_or numbers node None) e.0 (a.each node within))
  ];
}

is_none_from : (o : Option ℕ) → is_some o ≡ false → o ≡ None
is_none_from None h = refl
is_none_from (Some n) h = cc

-- the stations so far, and the next one
next_station : (xs : List StationEntry) (i : ℕ) (x : StationEntry) → i < length xs → x ≡ get_or xs i x →
    map station_view (take (i + 1) xs) ≡ map station_view (take i xs) ++ station_view x ∷ []
next_station xs i x h is =
    rw (take_more xs i x h, map-append station_view (take i xs) (get_or xs i x ∷ []), ← is) refl

-- the stations from here on
rest : (xs : List StationEntry) (i : ℕ) (x : StationEntry) → i < length xs → x ≡ get_or xs i x →
    map station_view (drop i xs) ≡ station_view x ∷ map station_view (drop (i + 1) xs)
rest xs i x h is = rw (drop-cons xs i x h, ← is, add-one) refl

-- the rule's test and the code's are the same
same_test : (stations : List Station) (nodes : ℕ) (numbers : List (Option ℕ)) (node : ℕ) → AreStationNumbers stations nodes numbers →
    (not (nat_lt node nodes) || is_station_among node stations) ≡ (not (nat_lt node (length numbers)) || is_some (get_or numbers node None))
same_test stations nodes numbers node a = rw a.all (elim (cases_lt node nodes) [
  | inl lt ↦ ap (λ b. not (nat_lt node nodes) || b) (is_station_among-numbers stations nodes numbers node a lt)
  | inr ge ↦ let past : nat_lt node nodes ≡ false = grind (arith, nat_tests) in rw past refl
])

-- a node that the instance doesn't have, or that has a station already, is the first such
pub wrong_node_here : (xs : List StationEntry) (nodes : ℕ) (numbers : List (Option ℕ)) (i : ℕ) (x : StationEntry) → i < length xs → x ≡ get_or xs i x →
    AreStationNumbers (map station_view (take i xs)) nodes numbers →
    true ≡ (not (nat_lt x.node (length numbers)) || is_some (get_or numbers x.node None)) →
    wrong_node_in nodes i (map station_view (take i xs)) (map station_view (drop i xs)) ≡ Some (node_place i)
wrong_node_here xs nodes numbers i x h is a wrong =
    rw (rest xs i x h is, same_test (map station_view (take i xs)) nodes numbers x.node a, ← wrong) refl

-- any other node is passed
pub right_node_here : (xs : List StationEntry) (nodes : ℕ) (numbers : List (Option ℕ)) (i : ℕ) (x : StationEntry) → i < length xs → x ≡ get_or xs i x →
    AreStationNumbers (map station_view (take i xs)) nodes numbers →
    false ≡ (not (nat_lt x.node (length numbers)) || is_some (get_or numbers x.node None)) →
    wrong_node_in nodes (i + 1) (map station_view (take (i + 1) xs)) (map station_view (drop (i + 1) xs))
    ≡ wrong_node_in nodes i (map station_view (take i xs)) (map station_view (drop i xs))
right_node_here xs nodes numbers i x h is a right =
    rw (rest xs i x h is, same_test (map station_view (take i xs)) nodes numbers x.node a, ← right, next_station xs i x h is) refl

-- its number is the next
pub AreStationNumbers-next : (xs : List StationEntry) (nodes : ℕ) (numbers : List (Option ℕ)) (i : ℕ) (x : StationEntry) → i < length xs → x ≡ get_or xs i x →
    AreStationNumbers (map station_view (take i xs)) nodes numbers →
    false ≡ (not (nat_lt x.node (length numbers)) || is_some (get_or numbers x.node None)) →
    AreStationNumbers (map station_view (take (i + 1) xs)) nodes (set numbers x.node (Some i))
AreStationNumbers-next xs nodes numbers i x h is a right =
    let parts = or_parts (not (nat_lt x.node (length numbers))) (is_some (get_or numbers x.node None)) (sym right) in
    let within : x.node < nodes = grind (arith, nat_tests, parts, a.all) in
    let none : get_or numbers x.node None ≡ None = is_none_from (get_or numbers x.node None) parts.1 in
    let count : length (map station_view (take i xs)) ≡ i = grind (arith, common_steps) in
    let pushed = AreStationNumbers-push (map station_view (take i xs)) nodes numbers (station_view x) a within none in
    rw (next_station xs i x h is) (rw count at pushed)
