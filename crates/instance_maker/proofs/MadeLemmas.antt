-- How long and how deep a made value is.
use Rattle.std.proofs.Common.{◌≡◌, refl, ℕ, zero, suc, ◌+◌, ◌*◌, ◌%◌, ◌^◌, ◌<◌, ◌≤◌, ◌==◌, Bool, true, false, if◌then◌else◌, List, [], ◌∷◌, ◌++◌, length, map, replicate, codes, arith, length-append, lit<, lit≤, Result, Ok, Err, IfOk}
use Rattle.std.proofs.lemmas.List.{length-map, length-replicate}
use Rattle.std.proofs.lemmas.Fmt.{length-decimal-le}
use Rattle.serde_json.specs.Data.{Data, string, object, Members, no_members, member, depth, items_depth, members_depth}
use Rattle.serde_json.specs.View.{items_of}
use Rattle.serde_json.specs.Written.{has_float, items_have_float, members_have_float, compact_text, items_text, members_text, comma_if}
use Rattle.serde_json.proofs.OnLiterals.{serde_json_on_literals}
use Rattle.instance_maker.specs.Lists.{tabulate}
use Rattle.instance_maker.specs.Locations.{location_of, locations_of, distance_between}
use Rattle.instance_maker.specs.declared.plane.Location.{Location}
use Rattle.instance_maker.specs.MadeInstance.{whole, array_of, curve_value, curves_value, type_of, station_value, stations_value, distances_value, process_times_value, made_value}

-- No number of the value is a float, and its depth and the length of its text are within bounds.
pub record IsSmall (deep long : ℕ) (d : Data) : Type 0 where
  pub no_float : has_float d ≡ false
  pub shallow : depth d ≤ deep
  pub short : length (compact_text d) ≤ long

abbrev pub AllOf : {A : Type 0} → (A → Type 0) → List A → Type 0
AllOf P [] = Unit {0}
AllOf P (x ∷ xs) = P x × AllOf P xs

-- The location is within the square of 1000 by 1000.
abbrev pub IsInSquare : Location → Type 0
IsInSquare p = (p.x < 1000) × (p.y < 1000)

abbrev pub AllSmall : ℕ → ℕ → List Data → Type 0
AllSmall deep long [] = Unit {0}
AllSmall deep long (d ∷ ds) = IsSmall deep long d × AllSmall deep long ds

items_have_float-small : (deep long : ℕ) (ds : List Data) → AllSmall deep long ds → items_have_float (items_of ds) ≡ false
items_have_float-small deep long [] h = refl
items_have_float-small deep long (d ∷ ds) h = rw (h.0.no_float) (items_have_float-small deep long ds h.1)

items_depth-small : (deep long : ℕ) (ds : List Data) → AllSmall deep long ds → items_depth (items_of ds) ≤ deep
items_depth-small deep long [] h = omega arith
items_depth-small deep long (d ∷ ds) h = omega (arith, h.0.shallow, items_depth-small deep long ds h.1)

length-comma_if : (later : Bool) → length (comma_if later) ≤ 1
length-comma_if true = omega arith
length-comma_if false = omega arith

items_text-small : (deep long : ℕ) (later : Bool) (ds : List Data) → AllSmall deep long ds → length (items_text later (items_of ds)) ≤ (long + 1) * length ds + 1
items_text-small deep long later [] h = omega arith
items_text-small deep long later (d ∷ ds) h =
    let rest = items_text true (items_of ds) in
    omega (arith, h.0.short, length-comma_if later, items_text-small deep long true ds h.1, length-append (comma_if later) (compact_text d ++ rest), length-append (compact_text d) rest)

pub IsSmall-array : (deep long : ℕ) (ds : List Data) → AllSmall deep long ds → IsSmall (deep + 1) ((long + 1) * length ds + 2) (array_of ds)
IsSmall-array deep long ds h = record {
  no_float = items_have_float-small deep long ds h;
  shallow = omega (arith, items_depth-small deep long ds h);
  short = omega (arith, items_text-small deep long false ds h);
}

pub IsSmall-whole : (k n : ℕ) → 0 < k → n < 10 ^ k → n < 2 ^ 64 → IsSmall 0 k (whole n)
IsSmall-whole k n positive below fits = record {
  no_float = refl;
  shallow = omega arith;
  short = length-decimal-le k n positive below fits;
}

-- The same for members.
pub record AreSmall (deep long : ℕ) (ms : Members) : Type 0 where
  pub no_float : members_have_float ms ≡ false
  pub shallow : members_depth ms ≤ deep
  pub short : (later : Bool) → length (members_text later ms) ≤ long

pub AreSmall-none : (deep : ℕ) → AreSmall deep 1 no_members
AreSmall-none deep = record { no_float = refl; shallow = omega arith; short = λ later. omega arith }

pub AreSmall-member : (deep long below after : ℕ) (key : List ℕ) (d : Data) (ms : Members) → IsSmall below long d → below ≤ deep → AreSmall deep after ms → AreSmall deep (length (compact_text (string key)) + long + after + 2) (member key d ms)
AreSmall-member deep long below after key d ms h within more = record {
  no_float = rw (h.no_float) more.no_float;
  shallow = omega (arith, h.shallow, more.shallow);
  short = λ later.
      let rest = members_text true ms in
      omega (arith, h.short, more.short true, length-comma_if later, length-append (comma_if later) (compact_text (string key) ++ 58 ∷ (compact_text d ++ rest)), length-append (compact_text (string key)) (58 ∷ (compact_text d ++ rest)), length-append (compact_text d) rest);
}

pub IsSmall-object : (deep long : ℕ) (ms : Members) → AreSmall deep long ms → IsSmall (deep + 1) (long + 1) (object ms)
IsSmall-object deep long ms h = record { no_float = h.no_float; shallow = omega (arith, h.shallow); short = omega (arith, h.short false) }

-- ---- lists whose elements are all small

pub AllSmall-append : (deep long : ℕ) (ds es : List Data) → AllSmall deep long ds → AllSmall deep long es → AllSmall deep long (ds ++ es)
AllSmall-append deep long [] es h k = k
AllSmall-append deep long (d ∷ ds) es h k = (h.0, AllSmall-append deep long ds es h.1 k)

pub AllSmall-replicate : (deep long count : ℕ) (d : Data) → IsSmall deep long d → AllSmall deep long (replicate count d)
AllSmall-replicate deep long zero d h = tt
AllSmall-replicate deep long (suc count) d h = (h, AllSmall-replicate deep long count d h)

pub AllSmall-tabulate : (deep long : ℕ) (f : ℕ → Data) (count : ℕ) → ((k : ℕ) → k < count → IsSmall deep long (f k)) → AllSmall deep long (tabulate f count)
AllSmall-tabulate deep long f zero h = tt
AllSmall-tabulate deep long f (suc count) h = AllSmall-append deep long (tabulate f count) (f count ∷ []) (AllSmall-tabulate deep long f count (λ k below. h k (omega arith))) (h count (omega arith), tt)

-- ---- the parts of a made instance

pub AllSmall-map : {A : Type 0} (deep long : ℕ) (f : A → Data) (P : A → Type 0) (xs : List A) → AllOf P xs → ((x : A) → P x → IsSmall deep long (f x)) → AllSmall deep long (map f xs)
AllSmall-map deep long f P [] h each = tt
AllSmall-map deep long f P (x ∷ xs) h each = (each x h.0, AllSmall-map deep long f P xs h.1 each)

AllOf-append : {A : Type 0} (P : A → Type 0) (xs ys : List A) → AllOf P xs → AllOf P ys → AllOf P (xs ++ ys)
AllOf-append P [] ys h k = k
AllOf-append P (x ∷ xs) ys h k = (h.0, AllOf-append P xs ys h.1 k)

AllOf-tabulate : {A : Type 0} (P : A → Type 0) (f : ℕ → A) (count : ℕ) → ((k : ℕ) → P (f k)) → AllOf P (tabulate f count)
AllOf-tabulate P f zero h = tt
AllOf-tabulate P f (suc count) h = AllOf-append P (tabulate f count) (f count ∷ []) (AllOf-tabulate P f count h) (h count, tt)

pub length-tabulate : {A : Type 0} (f : ℕ → A) (count : ℕ) → length (tabulate f count) ≡ count
length-tabulate f zero = refl
length-tabulate f (suc count) = omega (arith, length-append (tabulate f count) (f count ∷ []), length-tabulate f count)

IsSmall-within : (deep long deeper longer : ℕ) (d : Data) → IsSmall deep long d → deep ≤ deeper → long ≤ longer → IsSmall deeper longer d
IsSmall-within deep long deeper longer d h k l = record { no_float = h.no_float; shallow = omega (arith, h.shallow); short = omega (arith, h.short) }

IsSmall-string : (long : ℕ) (text : List ℕ) → length (compact_text (string text)) ≤ long → IsSmall 0 long (string text)
IsSmall-string long text short = record { no_float = refl; shallow = omega arith; short = short }

IsSmall-numbers : (numbers : List ℕ) → AllOf (λ n. n < 10 ^ 4) numbers → length numbers ≤ 4 → IsSmall 1 22 (array_of (map whole numbers))
IsSmall-numbers numbers below few =
    let each = λ (n : ℕ) (h : n < 10 ^ 4). IsSmall-whole 4 n (lit< tt) h (omega arith) in
    IsSmall-within _ _ 1 22 _ (IsSmall-array 0 4 (map whole numbers) (AllSmall-map 0 4 whole (λ n. n < 10 ^ 4) numbers below each)) (omega arith) (omega (arith, length-map numbers whole))

IsSmall-curve : (kind times : List ℕ) → length (compact_text (string kind)) ≤ 6 → AllOf (λ n. n < 10 ^ 4) times → length times ≤ 4 → IsSmall 2 100 (curve_value kind times)
unfolding serde_json_on_literals
IsSmall-curve kind times short below few =
    let charges = IsSmall-numbers (0 ∷ 1360 ∷ 1520 ∷ 1600 ∷ []) (lit< tt, (lit< tt, (lit< tt, (lit< tt, tt)))) (lit≤ tt) in
    let ending = AreSmall-member 1 22 1 1 (codes "time") _ _ (IsSmall-numbers times below few) (lit≤ tt) (AreSmall-none 1) in
    let typed = AreSmall-member 1 6 0 _ (codes "cs_type") _ _ (IsSmall-string 6 kind short) (lit≤ tt) ending in
    IsSmall-within _ _ 2 100 _ (IsSmall-object 1 _ _ (AreSmall-member 1 22 1 _ (codes "charge") _ _ charges (lit≤ tt) typed)) (lit≤ tt) (lit≤ tt)

IsSmall-curves : IsSmall 3 210 curves_value
unfolding serde_json_on_literals
IsSmall-curves =
    let fast = IsSmall-curve (codes "fast") (0 ∷ 310 ∷ 390 ∷ 510 ∷ []) (lit≤ tt) (lit< tt, (lit< tt, (lit< tt, (lit< tt, tt)))) (lit≤ tt) in
    let slow = IsSmall-curve (codes "slow") (0 ∷ 1260 ∷ 1540 ∷ 2040 ∷ []) (lit≤ tt) (lit< tt, (lit< tt, (lit< tt, (lit< tt, tt)))) (lit≤ tt) in
    let curves : List Data = curve_value (codes "fast") (0 ∷ 310 ∷ 390 ∷ 510 ∷ []) ∷ curve_value (codes "slow") (0 ∷ 1260 ∷ 1540 ∷ 2040 ∷ []) ∷ [] in
    IsSmall-within _ _ 3 210 _ (IsSmall-array 2 100 curves (fast, (slow, tt))) (lit≤ tt) (lit≤ tt)

length-type : (is_even : Bool) → length (compact_text (string (if is_even then codes "fast" else codes "slow"))) ≤ 6
unfolding serde_json_on_literals
length-type true = lit≤ tt
length-type false = lit≤ tt

IsSmall-station : (station node : ℕ) → node < 10 ^ 3 → IsSmall 1 40 (station_value station node)
unfolding serde_json_on_literals
IsSmall-station station node below =
    let at = AreSmall-member 0 3 0 1 (codes "node_id") _ _ (IsSmall-whole 3 node (lit< tt) below (omega arith)) (lit≤ tt) (AreSmall-none 0) in
    let typed = AreSmall-member 0 6 0 _ (codes "cs_type") _ _ (IsSmall-string 6 (type_of station) (length-type (station % 2 == 0))) (lit≤ tt) at in
    IsSmall-within _ _ 1 40 _ (IsSmall-object 0 _ _ typed) (lit≤ tt) (lit≤ tt)

IsSmall-stations : (customers stations : ℕ) → customers + stations ≤ 399 → IsSmall 2 16400 (stations_value customers stations)
IsSmall-stations customers stations few =
    let entry : ℕ → Data = λ station. station_value station (1 + customers + station) in
    let each = AllSmall-tabulate 1 40 entry stations (λ k below. IsSmall-station k (1 + customers + k) (omega arith)) in
    IsSmall-within _ _ 2 16400 _ (IsSmall-array 1 40 (tabulate entry stations) each) (lit≤ tt) (omega (arith, length-tabulate entry stations))

distance-below : (p q : Location) → IsInSquare p → IsInSquare q → distance_between p q < 10 ^ 4
distance-below p q h k = omega (arith, h.0, h.1, k.0, k.1)

IsSmall-row : (from : Location) (locations : List Location) → IsInSquare from → AllOf IsInSquare locations → length locations ≤ 400 → IsSmall 1 2002 (array_of (map (λ to. whole (distance_between from to)) locations))
IsSmall-row from locations here inside few =
    let entry : Location → Data = λ to. whole (distance_between from to) in
    let each = λ (to : Location) (h : IsInSquare to). let below : distance_between from to < 10 ^ 4 = distance-below from to here h in IsSmall-whole 4 (distance_between from to) (lit< tt) below (omega (arith, below)) in
    IsSmall-within _ _ 1 2002 _ (IsSmall-array 0 4 (map entry locations) (AllSmall-map 0 4 entry IsInSquare locations inside each)) (lit≤ tt) (omega (arith, length-map locations entry))

IsSmall-distances : (locations : List Location) → AllOf IsInSquare locations → length locations ≤ 400 → IsSmall 2 801300 (distances_value locations)
IsSmall-distances locations inside few =
    let row : Location → Data = λ from. array_of (map (λ to. whole (distance_between from to)) locations) in
    let each = λ (from : Location) (h : IsInSquare from). IsSmall-row from locations h inside few in
    IsSmall-within _ _ 2 801300 _ (IsSmall-array 1 2002 (map row locations) (AllSmall-map 1 2002 row IsInSquare locations inside each)) (lit≤ tt) (omega (arith, length-map locations row))

IsSmall-process_times : (customers stations : ℕ) → customers + stations ≤ 399 → IsSmall 1 810 (process_times_value customers stations)
IsSmall-process_times customers stations few =
    let five = IsSmall-whole 1 5 (lit< tt) (lit< tt) (lit< tt) in
    let none = IsSmall-whole 1 0 (lit< tt) (lit< tt) (lit< tt) in
    let served = AllSmall-replicate 0 1 customers (whole 5) five in
    let idle = AllSmall-replicate 0 1 stations (whole 0) none in
    let all = AllSmall-append 0 1 (whole 0 ∷ replicate customers (whole 5)) (replicate stations (whole 0)) (none, served) idle in
    IsSmall-within _ _ 1 810 _ (IsSmall-array 0 1 (whole 0 ∷ replicate customers (whole 5) ++ replicate stations (whole 0)) all) (lit≤ tt) (omega (arith, length-append (whole 0 ∷ replicate customers (whole 5)) (replicate stations (whole 0)), length-replicate customers (whole 5), length-replicate stations (whole 0)))

pub IsSmall-made : (seed customers stations : ℕ) → customers + stations ≤ 399 → IsSmall 4 1700000 (made_value seed customers stations)
unfolding serde_json_on_literals made_value
IsSmall-made seed customers stations few =
    let locations : List Location = locations_of seed (1 + customers + stations) in
    let inside = AllOf-tabulate IsInSquare (location_of seed) (1 + customers + stations) (λ node. (omega arith, omega arith)) in
    let matrix = IsSmall-distances locations inside (omega (arith, length-tabulate (location_of seed) (1 + customers + stations))) in
    let m6 = AreSmall-member 3 801300 2 1 (codes "time_matrix") _ _ matrix (lit≤ tt) (AreSmall-none 3) in
    let m5 = AreSmall-member 3 810 1 _ (codes "process_times") _ _ (IsSmall-process_times customers stations few) (lit≤ tt) m6 in
    let m4 = AreSmall-member 3 4 0 _ (codes "max_q") _ _ (IsSmall-whole 4 1600 (lit< tt) (lit< tt) (lit< tt)) (lit≤ tt) m5 in
    let m3 = AreSmall-member 3 801300 2 _ (codes "energy_matrix") _ _ matrix (lit≤ tt) m4 in
    let m2 = AreSmall-member 3 16400 2 _ (codes "css") _ _ (IsSmall-stations customers stations few) (lit≤ tt) m3 in
    let m1 = AreSmall-member 3 210 3 _ (codes "breakpoints_by_type") _ _ IsSmall-curves (lit≤ tt) m2 in
    IsSmall-within _ _ 4 1700000 _ (IsSmall-object 3 _ _ m1) (lit≤ tt) (lit≤ tt)

-- what follows from what a success has
pub IfOk-map : {T E : Type 0} (r : Result T E) (P Q : T → Type 0) → ((x : T) → P x → Q x) → IfOk r P → IfOk r Q
IfOk-map (Ok x) P Q f h = f x h
IfOk-map (Err e) P Q f h = tt
