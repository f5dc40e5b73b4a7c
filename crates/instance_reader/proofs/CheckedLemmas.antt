-- What it means that the rules on sizes and on shapes find nothing.
use Rattle.std.proofs.Common.{◌≡◌, ℕ, ◌+◌, ◌≤◌, ◌^◌, ◌||◌, List, [], ◌∷◌, Option, None, Some, Bool, true, false, All, length, zip, nat_lt, nat_eq, not, refl, arith}
use Rattle.std.proofs.lemmas.Bool.{or_parts}
use Rattle.std.proofs.lemmas.Bool.Decides.{nat_tests}
use Rattle.std.proofs.lemmas.List.Elements.{All-cons, All-head, All-nil, All-tail}
use Rattle.std.specs.Bool.{then_some}
use Rattle.std.specs.Option.{option_or}
use Rattle.charge_curve.specs.CutCurve.{IsSmall}
use Rattle.ev_model.specs.Network.{most_nodes}
use Rattle.instance_reader.specs.Checked.{HasLevels, HasShape, HasSmallNumbers}
use Rattle.instance_reader.specs.Contents.{Contents, CurveOfType, nodes_of, points_of}
use Rattle.instance_reader.specs.Levels.{first_level_past_full}
use Rattle.instance_reader.specs.Places.{at_key, item_of, part_of}
use Rattle.instance_reader.specs.Search.{first_along, look_along}
use Rattle.instance_reader.specs.Shapes.{first_wrong_shape, most_types, odd_row, odd_row_in, uneven}
use Rattle.instance_reader.specs.Sizes.{first_large, large, large_in, large_in_curve, large_in_rows, most_number}
use Rattle.instance_reader.specs.declared.places.Key.TheVariants.{MaxQ, Breaks, Service, Energy, Time, MinQ, HomeQ}
use Rattle.instance_reader.specs.declared.places.Part.TheVariants as part
use Rattle.instance_reader.specs.declared.places.Place.{Place}

-- neither of two searches finds anything
pub neither : {A : Type 0} (a b : Option A) → option_or a b ≡ None → (a ≡ None) × (b ≡ None)
neither None b h = (refl, h)
neither (Some x) b h = cc

pub unbroken : {A : Type 0} (b : Bool) (x : A) → then_some b x ≡ None → b ≡ false
unbroken true x h = cc
unbroken false x h = refl

-- a search along a list finds nothing, so each item has what the search looks for the lack of
pub nothing_along : {A B : Type 0} (search_in : ℕ → A → Option B) (P : A → Type 0) → ((number : ℕ) (x : A) → search_in number x ≡ None → P x) →
    (number : ℕ) (xs : List A) → first_along search_in number xs ≡ None → All P xs
nothing_along search_in P each number [] h = All-nil P
nothing_along search_in P each number (x ∷ xs) h =
    let both = neither (search_in number x) (first_along search_in (number + 1) xs) h in
    All-cons P x xs (each number x both.0) (nothing_along search_in P each (number + 1) xs both.1)

small_number : (place : Place) (number : ℕ) → large place number ≡ None → number ≤ 10 ^ 9
small_number place number h =
    let test = unbroken (nat_lt most_number number) place h in
    grind (arith, nat_tests, test)

small_numbers : (place : Place) (numbers : List ℕ) → large_in place numbers ≡ None → All (λ number. number ≤ 10 ^ 9) numbers
small_numbers place numbers h =
    nothing_along (λ number. large (item_of place number)) (λ number. number ≤ 10 ^ 9) (λ number. small_number (item_of place number)) 0 numbers h

small_rows : (place : Place) (rows : List (List ℕ)) → large_in_rows place rows ≡ None → All (All (λ number. number ≤ 10 ^ 9)) rows
small_rows place rows h =
    nothing_along (λ number. large_in (item_of place number)) (All (λ number. number ≤ 10 ^ 9)) (λ number. small_numbers (item_of place number)) 0 rows h

pub All-zip-first : (P : ℕ → Type 0) (xs ys : List ℕ) → All P xs → All (λ p. P p.0) (zip xs ys)
All-zip-first P [] ys h = All-nil (λ p. P p.0)
All-zip-first P (x ∷ xs) [] h = All-nil (λ p. P p.0)
All-zip-first P (x ∷ xs) (y ∷ ys) h = All-cons (λ p. P p.0) (x, y) (zip xs ys) (All-head P x xs h) (All-zip-first P xs ys (All-tail P x xs h))

pub All-zip-second : (P : ℕ → Type 0) (xs ys : List ℕ) → All P ys → All (λ p. P p.1) (zip xs ys)
All-zip-second P [] ys h = All-nil (λ p. P p.1)
All-zip-second P (x ∷ xs) [] h = All-nil (λ p. P p.1)
All-zip-second P (x ∷ xs) (y ∷ ys) h = All-cons (λ p. P p.1) (x, y) (zip xs ys) (All-head P y ys h) (All-zip-second P xs ys (All-tail P y ys h))

small_curve : (capacity : ℕ) → capacity ≤ 10 ^ 9 → (place : Place) (curve : CurveOfType) → large_in_curve place curve ≡ None →
    IsSmall (points_of curve) capacity
small_curve capacity small place curve h =
    let first_two = neither (large_in (part_of place part.Time) curve.times) _ h in
    let second = neither (large_in (part_of place part.Charge) curve.charges) _ first_two.1 in
    record {
      times = All-zip-first (λ number. number ≤ 10 ^ 9) curve.times curve.charges (small_numbers (part_of place part.Time) curve.times first_two.0);
      charges = All-zip-second (λ number. number ≤ 10 ^ 9) curve.times curve.charges (small_numbers (part_of place part.Charge) curve.charges second.0);
      full = small;
    }

small_plug_time : (place : Place) (curve : CurveOfType) → large_in_curve place curve ≡ None → curve.plug_time ≤ 10 ^ 9
small_plug_time place curve h =
    let first_two = neither (large_in (part_of place part.Time) curve.times) _ h in
    let second = neither (large_in (part_of place part.Charge) curve.charges) _ first_two.1 in
    let third = neither (large (part_of place part.Plug) curve.plug_time) None second.1 in
    small_number (part_of place part.Plug) curve.plug_time third.0

pub small_contents : (c : Contents) → first_large c ≡ None → HasSmallNumbers c
unfolding first_large
small_contents c h =
    let a = neither (large (at_key MaxQ) c.capacity) _ h in
    let b = neither (look_along large_in_curve (at_key Breaks) c.curves) _ a.1 in
    let d = neither (large_in (at_key Service) c.process_times) _ b.1 in
    let e = neither (large_in_rows (at_key Energy) c.energies) _ d.1 in
    let f = neither (large_in_rows (at_key Time) c.times) _ e.1 in
    let capacity = small_number (at_key MaxQ) c.capacity a.0 in
    record {
      capacity = capacity;
      curves = nothing_along (λ number. large_in_curve (item_of (at_key Breaks) number)) (λ curve. IsSmall (points_of curve) c.capacity)
          (λ number curve none. small_curve c.capacity capacity (item_of (at_key Breaks) number) curve none) 0 c.curves b.0;
      plug_times = nothing_along (λ number. large_in_curve (item_of (at_key Breaks) number)) (λ curve. curve.plug_time ≤ 10 ^ 9)
          (λ number curve none. small_plug_time (item_of (at_key Breaks) number) curve none) 0 c.curves b.0;
      process_times = small_numbers (at_key Service) c.process_times d.0;
      energies = small_rows (at_key Energy) c.energies e.0;
      times = small_rows (at_key Time) c.times f.0;
    }

right_row : (nodes : ℕ) (place : Place) (row : List ℕ) → odd_row nodes place row ≡ None → length row ≡ nodes
right_row nodes place row h =
    let test = unbroken (not (nat_eq (length row) nodes)) place h in
    grind (arith, nat_tests, test)

right_rows : (nodes : ℕ) (place : Place) (rows : List (List ℕ)) → odd_row_in nodes place rows ≡ None → All (λ row. length row ≡ nodes) rows
right_rows nodes place rows h =
    nothing_along (λ number. odd_row nodes (item_of place number)) (λ row. length row ≡ nodes) (λ number. right_row nodes (item_of place number)) 0 rows h

pub shaped_contents : (c : Contents) → first_wrong_shape c ≡ None → HasShape c
unfolding first_wrong_shape
shaped_contents c h =
    let a = neither (then_some (nat_lt most_types (length c.curves)) (at_key Breaks)) _ h in
    let b = neither (look_along uneven (at_key Breaks) c.curves) _ a.1 in
    let d = neither (then_some (nat_lt (nodes_of c) (length c.process_times)) (at_key Service)) _ b.1 in
    let e = neither (then_some (nat_eq (nodes_of c) 0 || nat_lt most_nodes (nodes_of c)) (at_key Energy)) _ d.1 in
    let f = neither (odd_row_in (nodes_of c) (at_key Energy) c.energies) _ e.1 in
    let g = neither (then_some (not (nat_eq (length c.times) (nodes_of c))) (at_key Time)) _ f.1 in
    let i = neither (odd_row_in (nodes_of c) (at_key Time) c.times) None g.1 in
    let few_times = unbroken (nat_lt (nodes_of c) (length c.process_times)) (at_key Service) d.0 in
    let range = or_parts (nat_eq (nodes_of c) 0) (nat_lt most_nodes (nodes_of c)) (unbroken (nat_eq (nodes_of c) 0 || nat_lt most_nodes (nodes_of c)) (at_key Energy) e.0) in
    let count = unbroken (not (nat_eq (length c.times) (nodes_of c))) (at_key Time) g.0 in
    record {
      some_node = grind (arith, nat_tests, range);
      few_nodes = grind (arith, nat_tests, range);
      process_times = grind (arith, nat_tests, few_times);
      energy_rows = right_rows (nodes_of c) (at_key Energy) c.energies f.0;
      time_count = grind (arith, nat_tests, count);
      time_rows = right_rows (nodes_of c) (at_key Time) c.times i.0;
    }

level_within : (capacity level : ℕ) (place : Place) → then_some (nat_lt capacity level) place ≡ None → level ≤ capacity
level_within capacity level place h =
    let test = unbroken (nat_lt capacity level) place h in
    grind (arith, nat_tests, test)

pub levels_within : (c : Contents) → first_level_past_full c ≡ None → HasLevels c
levels_within c h =
    let a = neither (then_some (nat_lt c.capacity c.reserve) (at_key MinQ)) _ h in
    let b = neither (then_some (nat_lt c.capacity c.home_level) (at_key HomeQ)) None a.1 in
    record {
      reserve = level_within c.capacity c.reserve (at_key MinQ) a.0;
      home_level = level_within c.capacity c.home_level (at_key HomeQ) b.0;
    }
