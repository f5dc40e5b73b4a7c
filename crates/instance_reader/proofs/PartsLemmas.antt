-- An instance that is put together from its parts.
use Rattle.std.proofs.Common.{◌≡◌, ◌∙◌, ℕ, ◌-◌, ◌<◌, ◌≤◌, ◌^◌, ◌&&◌, ◌++◌, List, [], ◌∷◌, Option, None, Some, Bool, true, false, All, IfSome, length, map, filter, get_or, slice_get, is_none, is_some, not, nat_eq, option_map, replicate, refl, sym, ap, subst, inl, inr, arith, length-append}
use Rattle.std.proofs.lemmas.Bool.{cases_lt}
use Rattle.std.proofs.lemmas.List.{get_or-map, get_or_past, length-map, length-replicate, same_lists}
use Rattle.std.proofs.lemmas.List.Elements.{All-append, All-from_get_or, All-get_or, All-map, All-replicate}
use Rattle.std.proofs.lemmas.List.FromFn.{get_or-map-range_with_len, length-map-range_with_len}
use Rattle.std.proofs.lemmas.Option.{slice_get-map}
use Rattle.std.proofs.lemmas.Simd.{map-map}
use Rattle.std.proofs.Math.ListN.{get_or-map as get_or-map_anywhere}
use Rattle.std.specs.List.{range_with_len}
use Rattle.ev_model.specs.Curve.{IsCurve, IsMultipleOfSlopes}
use Rattle.ev_model.specs.Network.{HasFittingCurve, IsNetwork, is_customer, node_count}
use Rattle.instance_reader.proofs.ListLemmas.{All-slice_get, slice_get-within}
use Rattle.instance_reader.specs.Contents.{Contents, CurveOfType, nodes_of, points_of}
use Rattle.instance_reader.specs.Curves.{all_points, cut_curve}
use Rattle.instance_reader.specs.Customers.{AreCustomers, IsIndexOf, has_customer}
use Rattle.instance_reader.specs.Inside.{IsInstance, network_inside, points_at}
use Rattle.instance_reader.specs.Instance.{IsCustomerNumber, customer_nodes}
use Rattle.instance_reader.specs.Meaning.{IsCurveNumber, curve_at_node, network_of, plug_time_at, plug_time_of, plug_time_of_number}
use Rattle.instance_reader.specs.Parts.{AreParts}
use Rattle.instance_reader.specs.declared.curves.StationCurve.{StationCurve}
use Rattle.instance_reader.specs.declared.instance.Instance.TheInside.{Inside}

-- what holds of what each element stands for
pub All-unmap : {X Y : Type 0} (P : Y → Type 0) (f : X → Y) (xs : List X) → All P (map f xs) → All (λ x. P (f x)) xs
All-unmap P f xs all k d within =
    subst P (get_or-map f xs k d (f d) within) (All-get_or P (map f xs) k (f d) (rw length-map within) all)

filter-same : {X : Type 0} (p q : X → Bool) (xs : List X) → ((x : X) → p x ≡ q x) → filter p xs ≡ filter q xs
filter-same p q [] same = refl
filter-same p q (x ∷ xs) same = rw (same x, filter-same p q xs same) refl

-- ---- the curves

-- the breakpoints of the curves are those of the file
curve_points : (c : Contents) (curves : List StationCurve) (numbers : List (Option ℕ)) (d limit : ℕ) → AreParts c curves numbers d limit →
    map (λ s. s.curve.points) curves ≡ all_points c.curves
curve_points c curves numbers d limit h =
    sym (map-map (λ k. k.points) (λ s. s.curve) curves) ∙ ap (map (λ k. k.points)) h.given ∙ map-map (λ k. k.points) (cut_curve c.capacity) c.curves

curve_count : (c : Contents) (curves : List StationCurve) (numbers : List (Option ℕ)) (d limit : ℕ) → AreParts c curves numbers d limit →
    length curves ≡ length c.curves
curve_count c curves numbers d limit h =
    sym (length-map curves (λ s. s.curve)) ∙ ap length h.given ∙ length-map c.curves (cut_curve c.capacity)

-- the breakpoints that a number leads to
points_of_number : (c : Contents) (curves : List StationCurve) (numbers : List (Option ℕ)) (d limit : ℕ) → AreParts c curves numbers d limit →
    (node : ℕ) (o : Option ℕ) → IsCurveNumber c node o → points_at curves o ≡ curve_at_node c node
points_of_number c curves numbers d limit h node None is = ap (option_map points_of) (sym is)
points_of_number c curves numbers d limit h node (Some number) is =
    sym (slice_get-map (λ s. s.curve.points) curves number)
    ∙ ap (λ points. slice_get points number) (curve_points c curves numbers d limit h)
    ∙ slice_get-map points_of c.curves number ∙ ap (option_map points_of) (sym is.1)

-- the curves by node
curves_by_node : (c : Contents) (curves : List StationCurve) (numbers : List (Option ℕ)) (d limit : ℕ) → AreParts c curves numbers d limit →
    map (points_at curves) numbers ≡ map (curve_at_node c) (range_with_len 0 (nodes_of c))
curves_by_node c curves numbers d limit h =
    same_lists (map (points_at curves) numbers) (map (curve_at_node c) (range_with_len 0 (nodes_of c)))
    (length-map numbers (points_at curves) ∙ h.by_node.all ∙ sym (length-map-range_with_len (curve_at_node c) 0 (nodes_of c)))
    (λ node e within.
    let count : length (map (points_at curves) numbers) ≡ length numbers = length-map numbers (points_at curves) in
    let inside : node < length numbers = omega arith in
    let known : node < nodes_of c = omega (arith, h.by_node.all) in
    get_or-map (points_at curves) numbers node None e inside
    ∙ points_of_number c curves numbers d limit h node (get_or numbers node None) (h.by_node.each node known)
    ∙ sym (get_or-map-range_with_len (curve_at_node c) 0 (nodes_of c) node node e known (omega arith)))

-- a curve that a number leads to fits
fitting : (c : Contents) (curves : List StationCurve) (d : ℕ) (o : Option StationCurve) →
    (IfSome o (λ s. IsCurve c.capacity s.curve.points × IsMultipleOfSlopes c.capacity s.curve.points d)) →
    HasFittingCurve c.capacity d (option_map (λ s. s.curve.points) o)
fitting c curves d None h = tt
fitting c curves d (Some s) h = h

both : {X : Type 0} (P Q : X → Type 0) (xs : List X) → All P xs → All Q xs → All (λ x. P x × Q x) xs
both P Q xs p q k e within = (p k e within, q k e within)

IfSome-slice_get : {X : Type 0} (P : X → Type 0) (xs : List X) (i : ℕ) (o : Option X) → All P xs → slice_get xs i ≡ o → IfSome o P
IfSome-slice_get P xs i None all is = tt
IfSome-slice_get P xs i (Some x) all is = All-slice_get P xs i x all is

fitting_number : (c : Contents) (curves : List StationCurve) (numbers : List (Option ℕ)) (d limit : ℕ) → AreParts c curves numbers d limit →
    (o : Option ℕ) → HasFittingCurve c.capacity d (points_at curves o)
fitting_number c curves numbers d limit h None = tt
fitting_number c curves numbers d limit h (Some number) =
    let points = curve_points c curves numbers d limit h in
    let good : All (IsCurve c.capacity) (map (λ s. s.curve.points) curves) = rw points h.good in
    let multiple : All (λ p. IsMultipleOfSlopes c.capacity p d) (map (λ s. s.curve.points) curves) = rw points h.denominator.multiple in
    let all = both (λ s. IsCurve c.capacity s.curve.points) (λ s. IsMultipleOfSlopes c.capacity s.curve.points d) curves
    (All-unmap (IsCurve c.capacity) (λ s. s.curve.points) curves good)
    (All-unmap (λ p. IsMultipleOfSlopes c.capacity p d) (λ s. s.curve.points) curves multiple) in
    fitting c curves d (slice_get curves number)
    (IfSome-slice_get (λ s. IsCurve c.capacity s.curve.points × IsMultipleOfSlopes c.capacity s.curve.points d) curves number (slice_get curves number) all refl)

fitting_curves : (c : Contents) (curves : List StationCurve) (numbers : List (Option ℕ)) (d limit : ℕ) → AreParts c curves numbers d limit →
    All (HasFittingCurve c.capacity d) (map (points_at curves) numbers)
fitting_curves c curves numbers d limit h =
    All-map (HasFittingCurve c.capacity d) (points_at curves) numbers (λ k e within. fitting_number c curves numbers d limit h (get_or numbers k e))

known_number : (c : Contents) (curves : List StationCurve) (node : ℕ) (o : Option ℕ) → length curves ≡ length c.curves → IsCurveNumber c node o →
    IfSome o (λ number. number < length curves)
known_number c curves node None count is = tt
known_number c curves node (Some number) count is = rw count is.0

known_numbers : (c : Contents) (curves : List StationCurve) (numbers : List (Option ℕ)) (d limit : ℕ) → AreParts c curves numbers d limit →
    All (λ o. IfSome o (λ number. number < length curves)) numbers
known_numbers c curves numbers d limit h =
    All-from_get_or (λ o. IfSome o (λ number. number < length curves)) numbers None
    (λ node within. known_number c curves node (get_or numbers node None) (curve_count c curves numbers d limit h)
    (h.by_node.each node (rw (sym h.by_node.all) within)))

-- ---- the times to plug in

plug_time_same : (c : Contents) (node : ℕ) (o : Option ℕ) → IsCurveNumber c node o → plug_time_of_number c.curves o ≡ plug_time_at c node
plug_time_same c node None is = ap plug_time_of (sym is)
plug_time_same c node (Some number) is = ap plug_time_of (sym is.1)

-- the times to plug in by node
pub plug_times_by_node : (c : Contents) (curves : List StationCurve) (numbers : List (Option ℕ)) (d limit : ℕ) → AreParts c curves numbers d limit →
    map (plug_time_of_number c.curves) numbers ≡ map (plug_time_at c) (range_with_len 0 (nodes_of c))
plug_times_by_node c curves numbers d limit h =
    same_lists (map (plug_time_of_number c.curves) numbers) (map (plug_time_at c) (range_with_len 0 (nodes_of c)))
    (length-map numbers (plug_time_of_number c.curves) ∙ h.by_node.all ∙ sym (length-map-range_with_len (plug_time_at c) 0 (nodes_of c)))
    (λ node e within.
    let count : length (map (plug_time_of_number c.curves) numbers) ≡ length numbers = length-map numbers (plug_time_of_number c.curves) in
    let inside : node < length numbers = omega arith in
    let known : node < nodes_of c = omega (arith, h.by_node.all) in
    get_or-map (plug_time_of_number c.curves) numbers node None e inside
    ∙ plug_time_same c node (get_or numbers node None) (h.by_node.each node known)
    ∙ sym (get_or-map-range_with_len (plug_time_at c) 0 (nodes_of c) node node e known (omega arith)))

small_plug_of : (o : Option CurveOfType) → IfSome o (λ curve. curve.plug_time ≤ 10 ^ 9) → plug_time_of o ≤ 10 ^ 9
small_plug_of None h = omega arith
small_plug_of (Some curve) h = h

small_plug_number : (curves : List CurveOfType) → All (λ curve. curve.plug_time ≤ 10 ^ 9) curves → (o : Option ℕ) → plug_time_of_number curves o ≤ 10 ^ 9
small_plug_number curves all None = omega arith
small_plug_number curves all (Some number) =
    small_plug_of (slice_get curves number) (IfSome-slice_get (λ curve. curve.plug_time ≤ 10 ^ 9) curves number (slice_get curves number) all refl)

small_plug_times : (curves : List CurveOfType) (numbers : List (Option ℕ)) → All (λ curve. curve.plug_time ≤ 10 ^ 9) curves →
    All (λ time. time ≤ 10 ^ 9) (map (plug_time_of_number curves) numbers)
small_plug_times curves numbers all =
    All-map (λ time. time ≤ 10 ^ 9) (plug_time_of_number curves) numbers (λ k e within. small_plug_number curves all (get_or numbers k e))

-- ---- the customers

some_stays : {X Y : Type 0} (f : X → Y) (o : Option X) → is_some o ≡ true → is_none (option_map f o) ≡ false
some_stays f None h = cc
some_stays f (Some x) h = refl

none_same : (curves : List StationCurve) (o : Option ℕ) → IfSome o (λ number. number < length curves) → is_none (points_at curves o) ≡ is_none o
none_same curves None h = refl
none_same curves (Some number) h = some_stays (λ s. s.curve.points) (slice_get curves number) (slice_get-within curves number h)

-- a number leads to a curve, also past the last node, where there is none
known_anywhere : (curves : List StationCurve) (numbers : List (Option ℕ)) → All (λ o. IfSome o (λ number. number < length curves)) numbers →
    (node : ℕ) → IfSome (get_or numbers node None) (λ number. number < length curves)
known_anywhere curves numbers all node = elim (cases_lt node (length numbers)) [
  | inl lt ↦ all node None lt
  | inr ge ↦ rw (get_or_past numbers node None ge) tt
]

-- a node has a customer by the network exactly where it has one by the numbers of the curves
same_customer : (a : Inside) → All (λ o. IfSome o (λ number. number < length a.curves.items)) a.curve_numbers.items →
    (node : ℕ) → is_customer (network_inside a) node ≡ has_customer a.curve_numbers.items node
same_customer a known node =
    ap (λ b. not (nat_eq node 0) && b)
    (ap is_none (get_or-map_anywhere (points_at a.curves.items) a.curve_numbers.items node None)
    ∙ none_same a.curves.items (get_or a.curve_numbers.items node None) (known_anywhere a.curves.items a.curve_numbers.items known node))

customer_number : (a : Inside) (customers : List ℕ) (node : ℕ) (o : Option ℕ) →
    ((node : ℕ) → is_customer (network_inside a) node ≡ has_customer a.curve_numbers.items node) → customers ≡ customer_nodes (network_inside a) →
    IsIndexOf a.curve_numbers.items customers node o → IsCustomerNumber (network_inside a) node o
customer_number a customers node None same list is = same node ∙ is
customer_number a customers node (Some number) same list is = (same node ∙ is.0, ap (λ xs. slice_get xs number) (sym list) ∙ is.1)

-- ---- the whole

node_total : (a : Inside) (c : Contents) → map (λ row. row.items) a.energies.items ≡ c.energies → node_count (network_inside a) ≡ nodes_of c
node_total a c energies = ap length energies

network_of_parts : (a : Inside) (c : Contents) → a.max_q ≡ c.capacity → a.min_q ≡ c.reserve → a.home_q ≡ c.home_level →
    a.plug_times.items ≡ map (plug_time_of_number c.curves) a.curve_numbers.items →
    map (λ row. row.items) a.energies.items ≡ c.energies → map (λ row. row.items) a.times.items ≡ c.times →
    a.process_times.items ≡ c.process_times ++ replicate (nodes_of c - length c.process_times) 0 →
    AreParts c a.curves.items a.curve_numbers.items a.denominator a.limit → IsNetwork (network_inside a)
network_of_parts a c capacity reserve home plugs energies times process_times h =
    let total : node_count (network_inside a) ≡ nodes_of c = node_total a c energies in
    record {
      depot = rw energies h.shape.some_node;
      few_nodes = rw energies h.shape.few_nodes;
      energy_rows = rw energies h.shape.energy_rows;
      time_count = rw (times, energies) h.shape.time_count;
      time_rows = rw (times, energies) h.shape.time_rows;
      process_count =
          let sum : length (c.process_times ++ replicate (nodes_of c - length c.process_times) 0) ≡ nodes_of c =
          rw (length-append, length-replicate) (omega (arith, h.shape.process_times)) in
          ap length process_times ∙ sum ∙ sym total;
      curve_count = length-map a.curve_numbers.items (points_at a.curves.items) ∙ h.by_node.all ∙ sym total;
      curves = rw capacity (fitting_curves c a.curves.items a.curve_numbers.items a.denominator a.limit h);
      plug_count = ap length plugs ∙ length-map a.curve_numbers.items (plug_time_of_number c.curves) ∙ h.by_node.all ∙ sym total;
      small_capacity = rw capacity h.small.capacity;
      reserve_within = rw (reserve, capacity) h.levels.reserve;
      home_within = rw (home, capacity) h.levels.home_level;
      small_plug_times = rw plugs (small_plug_times c.curves a.curve_numbers.items h.small.plug_times);
      small_energies = rw energies h.small.energies;
      small_times = rw times h.small.times;
      small_process_times = rw process_times (All-append (λ time. time ≤ 10 ^ 9) c.process_times (replicate (nodes_of c - length c.process_times) 0)
          h.small.process_times (All-replicate (λ time. time ≤ 10 ^ 9) (nodes_of c - length c.process_times) 0 (omega arith)));
      some_denominator = h.denominator.some;
      small_denominator = h.small_denominator;
      small_limit = h.small_limit;
    }

pub parts_make_an_instance : (a : Inside) (c : Contents) → a.max_q ≡ c.capacity → a.min_q ≡ c.reserve → a.home_q ≡ c.home_level →
    a.plug_times.items ≡ map (plug_time_of_number c.curves) a.curve_numbers.items →
    map (λ row. row.items) a.energies.items ≡ c.energies → map (λ row. row.items) a.times.items ≡ c.times →
    a.process_times.items ≡ c.process_times ++ replicate (nodes_of c - length c.process_times) 0 →
    AreParts c a.curves.items a.curve_numbers.items a.denominator a.limit →
    AreCustomers a.curve_numbers.items (nodes_of c) a.customers.items a.customer_numbers.items → IsInstance a
parts_make_an_instance a c capacity reserve home plugs energies times process_times h customers =
    let network = network_of_parts a c capacity reserve home plugs energies times process_times h in
    let total : node_count (network_inside a) ≡ nodes_of c = node_total a c energies in
    let rows : node_count (network_inside a) ≡ length a.energies.items = length-map a.energies.items (λ row. row.items) in
    let known = known_numbers c a.curves.items a.curve_numbers.items a.denominator a.limit h in
    let same = same_customer a known in
    let list : a.customers.items ≡ customer_nodes (network_inside a) =
    customers.list ∙ rw total (sym (filter-same (is_customer (network_inside a)) (has_customer a.curve_numbers.items) (range_with_len 0 (nodes_of c)) same)) in
    record {
      network = network;
      energy_rows = All-unmap (λ row. length row ≡ length a.energies.items) (λ row. row.items) a.energies.items (rw (← rows) network.energy_rows);
      time_rows = All-unmap (λ row. length row ≡ length a.energies.items) (λ row. row.items) a.times.items (rw (← rows) network.time_rows);
      known = known;
      scaled = rw capacity h.tells;
      customers = list;
      numbers = record {
        all = customers.all ∙ sym total;
        each = λ node within.
            customer_number a a.customers.items node (get_or a.customer_numbers.items node None) same list (customers.each node (rw (← total) within));
      };
    }

pub parts_make_the_network : (a : Inside) (c : Contents) → a.max_q ≡ c.capacity → a.min_q ≡ c.reserve → a.home_q ≡ c.home_level →
    a.plug_times.items ≡ map (plug_time_of_number c.curves) a.curve_numbers.items →
    map (λ row. row.items) a.energies.items ≡ c.energies → map (λ row. row.items) a.times.items ≡ c.times →
    a.process_times.items ≡ c.process_times ++ replicate (nodes_of c - length c.process_times) 0 →
    AreParts c a.curves.items a.curve_numbers.items a.denominator a.limit →
    network_inside a ≡ record (network_of a.denominator c) { limit = a.limit }
unfolding network_of
parts_make_the_network a c capacity reserve home plugs energies times process_times h =
    rw (
      capacity,
      reserve,
      home,
      energies,
      times,
      process_times,
      curves_by_node c a.curves.items a.curve_numbers.items a.denominator a.limit h,
      plugs ∙ plug_times_by_node c a.curves.items a.curve_numbers.items a.denominator a.limit h,
    ) refl
