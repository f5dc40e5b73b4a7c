-- The contents of a made instance break no rule on sizes, shapes, stations, types and curves.
use Rattle.std.proofs.Common.{◌≡◌, ◌∙◌, ℕ, zero, suc, ◌+◌, ◌<◌, ◌≤◌, ◌%◌, ◌==◌, Bool, true, false, if◌then◌else◌, List, [], ◌∷◌, ◌++◌, None, ap, arith, codes, length, length-append, lit≤, map, not, refl, replicate, sym}
use Rattle.std.proofs.lemmas.Bool.{eq-eqb, le-ltb, lt-ltb, ne_eqb}
use Rattle.std.proofs.lemmas.List.{length-map, length-replicate}
use Rattle.std.specs.Bool.{then_some}
use Rattle.std.specs.Prelude.{◌||◌, nat_eq, nat_lt}
use Rattle.ev_model.specs.Network.{most_nodes}
use Rattle.instance_maker.proofs.MadeLemmas.{AllOf, IsInSquare, length-tabulate}
use Rattle.instance_maker.specs.Lists.{tabulate}
use Rattle.instance_maker.specs.Locations.{distance_between, location_of, locations_of}
use Rattle.instance_reader.specs.Contents.{Station}
use Rattle.instance_reader.specs.Curves.{bad_curve_in}
use Rattle.instance_reader.specs.Faults.{early_fault, size_fault, station_fault}
use Rattle.instance_reader.specs.Nodes.{first_wrong_node, is_station_among, wrong_node_in}
use Rattle.instance_reader.specs.Places.{at_key, item_of}
use Rattle.instance_reader.specs.Shapes.{first_wrong_shape, odd_row, odd_row_in}
use Rattle.instance_reader.specs.Search.{first_along}
use Rattle.instance_reader.specs.Sizes.{first_large, large, large_in, large_in_rows, most_number}
use Rattle.instance_reader.specs.Types.{first_wrong_type, is_among, names_of, type_place, unlisted}
use Rattle.instance_reader.specs.Values.{text}
use Rattle.instance_reader.specs.declared.faults.ReadFault.TheVariants as fault
use Rattle.instance_reader.specs.declared.places.Key.{Key}
use Rattle.instance_reader.specs.declared.places.Key.TheVariants.{Css, Energy, Service, Time}
use Rattle.instance_reader.specs.declared.places.Place.{Place}
use Rattle.std.specs.Option.{option_map}
use Rattle.instance_maker.proofs.Along.{AllOf-append, AllOf-below, AllOf-each, AllOf-map, AllOf-replicate, AllOf-tabulate, along_none, none_then, not_past}
use Rattle.instance_maker.specs.MadeContents.{curves_made, distances_made, made_contents, process_times_made, station_made}

pub all_inside : (seed nodes : ℕ) → AllOf IsInSquare (locations_of seed nodes)
all_inside seed nodes = AllOf-tabulate IsInSquare (location_of seed) nodes (λ node. (omega arith, omega arith))

-- ---- sizes

abbrev IsSmall : ℕ → Type 0
IsSmall n = n ≤ most_number

near : (p q : _) → IsInSquare p → IsInSquare q → distance_between p q ≤ most_number
near p q here there = omega (arith, here.0, here.1, there.0, there.1)

none_large : (place : Place) (ns : List ℕ) → AllOf IsSmall ns → large_in place ns ≡ None
none_large place ns all =
    along_none (λ number. large (item_of place number)) IsSmall (λ k n within. not_past most_number n (item_of place k) within) 0 ns all

no_row_large : (place : Place) (rows : List (List ℕ)) → AllOf (AllOf IsSmall) rows → large_in_rows place rows ≡ None
no_row_large place rows all =
    along_none (λ number. large_in (item_of place number)) (AllOf IsSmall) (λ k row each. none_large (item_of place k) row each) 0 rows all

rows_small : (locations : List _) → AllOf IsInSquare locations → AllOf (AllOf IsSmall) (map (λ from. map (λ to. distance_between from to) locations) locations)
rows_small locations inside =
    AllOf-map IsInSquare (AllOf IsSmall) (λ from. map (λ to. distance_between from to) locations)
    (λ from here. AllOf-map IsInSquare IsSmall (λ to. distance_between from to) (λ to there. near from to here there) locations inside) locations inside

times_small : (customers stations : ℕ) → AllOf IsSmall (process_times_made customers stations)
times_small customers stations =
    (lit≤ tt, AllOf-append IsSmall (replicate customers 5) (replicate stations 0) (AllOf-replicate IsSmall customers 5 (lit≤ tt)) (AllOf-replicate IsSmall stations 0 (lit≤ tt)))

no_number_is_large : (seed customers stations : ℕ) → first_large (made_contents seed customers stations) ≡ None
unfolding first_large made_contents
no_number_is_large seed customers stations =
    let locations = locations_of seed (1 + customers + stations) in
    let small = rows_small locations (all_inside seed (1 + customers + stations)) in
    none_then _ _ refl (none_then _ _ refl (none_then _ _ (none_large (at_key Service) (process_times_made customers stations) (times_small customers stations))
    (none_then _ _ (no_row_large (at_key Energy) (distances_made seed (1 + customers + stations)) small)
    (none_then _ _ (no_row_large (at_key Time) (distances_made seed (1 + customers + stations)) small) (none_then _ _ refl (none_then _ _ refl refl))))))

-- ---- shapes

count_of_rows : (seed nodes : ℕ) → length (distances_made seed nodes) ≡ nodes
count_of_rows seed nodes =
    let locations = locations_of seed nodes in
    length-map locations (λ from. map (λ to. distance_between from to) locations) ∙ length-tabulate (location_of seed) nodes

not_other : {A : Type 0} (m n : ℕ) (x : A) → m ≡ n → then_some (not (nat_eq m n)) x ≡ None
not_other m n x same = rw (eq-eqb m n same) refl

some_few : {A : Type 0} (n : ℕ) (x : A) → 1 ≤ n → n ≤ most_nodes → then_some (nat_eq n 0 || nat_lt most_nodes n) x ≡ None
some_few n x some few = rw (ne_eqb n 0 (λ is. absurd (omega (arith, some, is))), le-ltb most_nodes n few) refl

rows_even : (key : Key) (nodes : ℕ) (locations : List _) → length locations ≡ nodes → odd_row_in nodes (at_key key) (map (λ from. map (λ to. distance_between from to) locations) locations) ≡ None
rows_even key nodes locations is =
    along_none (λ number. odd_row nodes (item_of (at_key key) number)) (λ row. length row ≡ nodes) (λ k row same. not_other (length row) nodes (item_of (at_key key) k) same) 0 (map (λ from. map (λ to. distance_between from to) locations) locations)
    (AllOf-map (λ from. Unit {0}) (λ row. length row ≡ nodes) (λ from. map (λ to. distance_between from to) locations) (λ from any. length-map locations (λ to. distance_between from to) ∙ is) locations
    (AllOf-each (λ from. Unit {0}) (λ from. tt) locations))

times_count : (customers stations : ℕ) → length (process_times_made customers stations) ≡ 1 + customers + stations
times_count customers stations =
    let served : List ℕ = replicate customers 5 in
    let idle : List ℕ = replicate stations 0 in
    let both : length (served ++ idle) ≡ length served + length idle = length-append served idle in
    let of_served : length served ≡ customers = length-replicate customers 5 in
    let of_idle : length idle ≡ stations = length-replicate stations 0 in
    omega (arith, both, of_served, of_idle)

no_shape_is_wrong : (seed customers stations : ℕ) → customers + stations ≤ 399 → first_wrong_shape (made_contents seed customers stations) ≡ None
unfolding first_wrong_shape made_contents
no_shape_is_wrong seed customers stations few =
    let nodes = 1 + customers + stations in
    let locations = locations_of seed nodes in
    let count : ℕ = length (distances_made seed nodes) in
    let rows : length (distances_made seed nodes) ≡ nodes = count_of_rows seed nodes in
    let given : length locations ≡ nodes = length-tabulate (location_of seed) nodes in
    let each : length locations ≡ length (distances_made seed nodes) = given ∙ sym rows in
    let times : length (process_times_made customers stations) ≤ length (distances_made seed nodes) = omega (arith, times_count customers stations, rows) in
    let some : 1 ≤ length (distances_made seed nodes) = omega (arith, rows) in
    let within : length (distances_made seed nodes) ≤ most_nodes = omega (arith, rows, few) in
    none_then _ _ refl (none_then _ _ refl (none_then _ _ (not_past count (length (process_times_made customers stations)) (at_key Service) times)
    (none_then _ _ (some_few count (at_key Energy) some within) (none_then _ _ (rows_even Energy count locations each)
    (none_then _ _ (not_other count count (at_key Time) refl) (none_then _ _ (rows_even Time count locations each) refl))))))

-- ---- the nodes of stations

-- the nodes rise, from `low` on
Rise : ℕ → List Station → Type 0
Rise low [] = Unit {0}
Rise low (s ∷ ss) = (low ≤ s.node) × Rise (s.node + 1) ss

rise_on : (low : ℕ) (ss : List Station) (s : Station) → Rise low ss → low ≤ s.node → AllOf (λ e. e.node < s.node) ss → Rise low (ss ++ s ∷ [])
unfolding Rise
rise_on low [] s rise above below = (above, tt)
rise_on low (e ∷ ss) s rise above below = (rise.0, rise_on (e.node + 1) ss s rise.1 (omega (arith, below.0)) below.1)

made_rise : (customers count : ℕ) → Rise 0 (tabulate (station_made customers) count)
unfolding Rise
made_rise customers zero = tt
made_rise customers (suc count) =
    rise_on 0 (tabulate (station_made customers) count) (station_made customers count) (made_rise customers count) (omega arith)
    (AllOf-below (λ (e : Station). e.node < (station_made customers count).node) (station_made customers) count (λ k below. omega (arith, below)))

ne_node : (m n : ℕ) → m < n → nat_eq m n ≡ false
ne_node m n below = ne_eqb m n (λ same. absurd (omega (arith, below, same)))

not_among : (node : ℕ) (earlier : List Station) → AllOf (λ e. e.node < node) earlier → is_station_among node earlier ≡ false
not_among node [] below = refl
not_among node (e ∷ earlier) below = rw (ne_node e.node node below.0) (not_among node earlier below.1)

further : (low : ℕ) (earlier : List Station) (s : Station) → low ≤ s.node → AllOf (λ e. e.node < low) earlier → AllOf (λ e. e.node < s.node + 1) (earlier ++ s ∷ [])
further low [] s above below = (omega arith, tt)
further low (e ∷ earlier) s above below = (omega (arith, above, below.0), further low earlier s above below.1)

lower : (low node : ℕ) (earlier : List Station) → low ≤ node → AllOf (λ e. e.node < low) earlier → AllOf (λ e. e.node < node) earlier
lower low node [] above below = tt
lower low node (e ∷ earlier) above below = (omega (arith, above, below.0), lower low node earlier above below.1)

nodes_pass : (nodes number low : ℕ) (earlier ss : List Station) → AllOf (λ s. s.node < nodes) ss → Rise low ss → AllOf (λ e. e.node < low) earlier → wrong_node_in nodes number earlier ss ≡ None
unfolding Rise
nodes_pass nodes number low earlier [] within rise below = refl
nodes_pass nodes number low earlier (s ∷ ss) within rise below =
    rw (lt-ltb s.node nodes within.0, not_among s.node earlier (lower low s.node earlier rise.0 below))
    (nodes_pass nodes (number + 1) (s.node + 1) (earlier ++ s ∷ []) ss within.1 rise.1 (further low earlier s rise.0 below))

no_node_is_wrong : (seed customers stations : ℕ) → first_wrong_node (made_contents seed customers stations) ≡ None
unfolding first_wrong_node made_contents
no_node_is_wrong seed customers stations =
    let nodes = length (distances_made seed (1 + customers + stations)) in
    let rows : nodes ≡ 1 + customers + stations = count_of_rows seed (1 + customers + stations) in
    nodes_pass nodes 0 0 [] (tabulate (station_made customers) stations)
    (AllOf-below (λ (s : Station). s.node < nodes) (station_made customers) stations (λ k below. omega (arith, below, rows)))
    (made_rise customers stations) tt

-- ---- types

listed : (is_even : Bool) → is_among (text (if is_even then codes "fast" else codes "slow")) (names_of curves_made) ≡ true
listed true = refl
listed false = refl

not_unlisted : {A : Type 0} (b : Bool) (x : A) → b ≡ true → then_some (not b) x ≡ None
not_unlisted true x is = refl
not_unlisted false x is = cc

types_pass : (customers stations : ℕ) → first_along (unlisted (names_of curves_made)) 0 (tabulate (station_made customers) stations) ≡ None
types_pass customers stations =
    along_none (unlisted (names_of curves_made)) (λ s. is_among s.type_name (names_of curves_made) ≡ true) (λ k s is. not_unlisted (is_among s.type_name (names_of curves_made)) (type_place Css k) is) 0 (tabulate (station_made customers) stations)
    (AllOf-tabulate (λ s. is_among s.type_name (names_of curves_made) ≡ true) (station_made customers) stations (λ k. listed (k % 2 == 0)))

no_type_is_wrong : (seed customers stations : ℕ) → first_wrong_type (made_contents seed customers stations) ≡ None
unfolding first_wrong_type made_contents
no_type_is_wrong seed customers stations = none_then _ _ refl (none_then _ _ (types_pass customers stations) refl)

-- ---- all of them

sizes_pass : (seed customers stations : ℕ) → customers + stations ≤ 399 → size_fault (made_contents seed customers stations) ≡ None
sizes_pass seed customers stations few =
    none_then _ _ (ap (option_map fault.TooLarge) (no_number_is_large seed customers stations))
    (none_then _ _ (ap (option_map fault.Shape) (no_shape_is_wrong seed customers stations few)) refl)

stations_pass : (seed customers stations : ℕ) → station_fault (made_contents seed customers stations) ≡ None
stations_pass seed customers stations =
    none_then _ _ (ap (option_map fault.Node) (no_node_is_wrong seed customers stations))
    (none_then _ _ (ap (option_map fault.TypeName) (no_type_is_wrong seed customers stations)) refl)

curves_pass : (seed customers stations : ℕ) → bad_curve_in (made_contents seed customers stations).capacity (made_contents seed customers stations).curves ≡ None
unfolding made_contents
curves_pass seed customers stations = refl

pub no_rule_is_broken_early : (seed customers stations : ℕ) → customers + stations ≤ 399 → early_fault (made_contents seed customers stations) ≡ None
no_rule_is_broken_early seed customers stations few =
    none_then _ _ (sizes_pass seed customers stations few) (none_then _ _ (stations_pass seed customers stations) (none_then _ _ (curves_pass seed customers stations) refl))
