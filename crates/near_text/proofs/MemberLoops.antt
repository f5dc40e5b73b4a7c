-- Reading the members of a set that has its own customer, one after another.
use Rattle.std.proofs.Common.{◌≡◌, ◌∙◌, inl, inr, ℕ, zero, suc, ◌+◌, ◌-◌, ◌<◌, ◌≤◌, Bool, true, false, ◌||◌, ◌&&◌, List, [], ◌∷◌, ◌++◌, None, Some, get_or, length, length-drop, length-append, nat_eq, nat_lt, Ok, Err, codes, decimal, refl, sym, ap, append_assoc, append-nil, arith, if◌then◌else◌}
use Rattle.std.proofs.lemmas.Bool.{cases_eq, eq-eqb, false≢true, ltb-false, ltb-true, ne_eqb}
use Rattle.customer_sets.specs.CustSet.{has}
use Rattle.ev_model.specs.Network.{Network}
use Rattle.ev_text.specs.Readers.{optional_at}
use Rattle.ev_text.specs.Scans.{and_then, rest_of}
use Rattle.ev_text.specs.declared.TextFault.{TextFault}
use Rattle.ev_text.proofs.ChoiceLaws.{optional_taken}
use Rattle.ev_text.proofs.Loops.{in_front, in_front-twice}
use Rattle.ev_text.proofs.Readings.{first_digit}
use Rattle.instance_reader.specs.Instance.{customer_nodes}
use Rattle.certificate_parts.specs.Places.{IsPlaceOf}
use Rattle.certificate_parts.specs.Ranges.{customer_count}
use Rattle.certificate_parts.specs.Reading.{customer_at, is_above}
use Rattle.certificate_parts.specs.Written.{customer_node, nodes_in, place_node}
use Rattle.certificate_parts.specs.declared.reading.nodes.Place.{Place}
use Rattle.certificate_parts.proofs.PlaceOrder.{below_by_node, same_by_node}
use Rattle.certificate_parts.proofs.SetReading.{IsSetUpTo}
use Rattle.certificate_parts.proofs.Shorter.{member_shorter}
use Rattle.near_text.specs.Reading.{few_own, own_end}
use Rattle.near_text.specs.Written.{written_set}
use Rattle.ev_text.specs.declared.TextFault.TheVariants.{End, TooLarge}
use Rattle.ev_text.specs.Scans.{whole_at}
use Rattle.ev_text.proofs.Readings.{whole_at-end}
use Rattle.ev_text.proofs.Results.{no_bytes}
use Rattle.route_plan.specs.Limits.{greatest_number}
use Rattle.certificate_parts.specs.Reading.{is_customer_node}
use Rattle.near_text.proofs.OwnSets.{member, onward, own_behind}

absent : (set : List ℕ) (c x : ℕ) → ((y : ℕ) → has set y ≡ true → y < c) → c ≤ x → has set x ≡ false
absent set c x below le = by (has set x) refl
  where
    by : (b : Bool) → has set x ≡ b → b ≡ false
    by false is = refl
    by true is = absurd (let less = below x is in omega (arith, less, le))

none_in : (set ns : List ℕ) (number : ℕ) → ((x : ℕ) → number ≤ x → has set x ≡ false) → nodes_in set number ns ≡ []
none_in set [] number none = refl
none_in set (n ∷ ns) number none =
    let here : has set number ≡ false = none number (omega arith) in
    rw here (none_in set ns (number + 1) (λ x le. none x (omega (arith, le))))

-- a member above the others is behind them
nodes_more : (set more : List ℕ) (c : ℕ) (ns : List ℕ) (number : ℕ) → ((x : ℕ) → has more x ≡ (nat_eq c x || has set x)) → ((x : ℕ) → has set x ≡ true → x < c)
    → number ≤ c → c < number + length ns → nodes_in more number ns ≡ nodes_in set number ns ++ get_or ns (c - number) 0 ∷ []
nodes_more set more c [] number told below le lt = absurd (omega (arith, le, lt))
nodes_more set more c (n ∷ ns) number told below le lt =
    by (nat_lt number c) refl (λ less. nodes_more set more c ns (number + 1) told below (omega (arith, less)) (omega (arith, lt)))
  where
    by : (is_less : Bool) → nat_lt number c ≡ is_less → (number < c → nodes_in more (number + 1) ns ≡ nodes_in set (number + 1) ns ++ get_or ns (c - (number + 1)) 0 ∷ []) → nodes_in more number (n ∷ ns) ≡ nodes_in set number (n ∷ ns) ++ get_or (n ∷ ns) (c - number) 0 ∷ []
    by false is step =
        let past = ltb-false number c is in
        let same : c ≡ number = omega (arith, le, past) in
        let here : has more number ≡ true = told number ∙ ap (λ b. b || has set number) (eq-eqb c number same) in
        let own : has set number ≡ false = absent set c number below past in
        let rest_more : nodes_in more (number + 1) ns ≡ [] = none_in more ns (number + 1) (λ x after. told x ∙ ap (λ b. b || has set x) (ne_eqb c x (λ e. omega (arith, e, after, same))) ∙ absent set c x below (omega (arith, after, same))) in
        let rest_set : nodes_in set (number + 1) ns ≡ [] = none_in set ns (number + 1) (λ x after. absent set c x below (omega (arith, after, same))) in
        let first : c - number ≡ 0 = omega (arith, same) in
        rw (here, own, rest_more, rest_set, first) refl
    by true is step =
        let less = ltb-true number c is in
        let same_here : has more number ≡ has set number = told number ∙ ap (λ b. b || has set number) (ne_eqb c number (λ e. omega (arith, e, less))) in
        let rest : nodes_in more (number + 1) ns ≡ nodes_in set (number + 1) ns ++ get_or ns (c - (number + 1)) 0 ∷ [] = step less in
        let later : c - number ≡ suc (c - (number + 1)) = omega (arith, less) in
        rw (same_here, rest, later) (sym (append_assoc (if has set number then n ∷ [] else []) (nodes_in set (number + 1) ns) (get_or ns (c - (number + 1)) 0 ∷ [])))

or_turned : (a b : Bool) → (a || b) ≡ (b || a)
or_turned true true = refl
or_turned true false = refl
or_turned false true = refl
or_turned false false = refl

module _ (g : Network) (c : ℕ) (within : c < customer_count g) where
  abbrev own : ℕ
  own = customer_node g c

  node_of : (p : Place) → 1 ≤ p.place → IsPlaceOf g p → get_or (customer_nodes g) (p.place - 1) 0 ≡ p.node
  node_of p some place =
      let same : suc (p.place - 1) ≡ p.place = omega (arith, some) in
      ap (place_node g) same ∙ place.node_is

  with_place : (set more : List ℕ) (p : Place) → 1 ≤ p.place → IsPlaceOf g p → ((x : ℕ) → has more x ≡ (nat_eq (p.place - 1) x || has set x)) → ((x : ℕ) → has set x ≡ true → x < p.place - 1)
      → written_set g more ≡ written_set g set ++ p.node ∷ []
  with_place set more p some place told below =
      let whole : p.place - 1 - 0 ≡ p.place - 1 = omega arith in
      nodes_more set more (p.place - 1) (customer_nodes g) 0 told below (omega arith) (let inside = place.within in omega (arith, some, inside))
      ∙ ap (λ k. nodes_in set 0 (customer_nodes g) ++ get_or (customer_nodes g) k 0 ∷ []) whole
      ∙ ap (λ n. nodes_in set 0 (customer_nodes g) ++ n ∷ []) (node_of p some place)

  members_below : (set more : List ℕ) (p : Place) → 1 ≤ p.place → ((x : ℕ) → has more x ≡ (nat_eq (p.place - 1) x || has set x)) → ((x : ℕ) → has set x ≡ true → x < p.place - 1) → (x : ℕ) → has more x ≡ true → x < p.place
  members_below set more p some told below x is = by (nat_lt x p.place) refl
    where
      by : (less : Bool) → nat_lt x p.place ≡ less → x < p.place
      by true less = ltb-true x p.place less
      by false past =
          let le = ltb-false x p.place past in
          let no : has more x ≡ false = told x ∙ ap (λ b. b || has set x) (ne_eqb (p.place - 1) x (λ e. omega (arith, e, le, some))) ∙ absent set (p.place - 1) x below (omega (arith, le)) in
          absurd (false≢true (sym no ∙ is))

  -- the own customer is told by the node as by the number
  own_by_node : (p : Place) → 1 ≤ p.place → IsPlaceOf g p → nat_eq (p.place - 1) c ≡ nat_eq p.node own
  own_by_node p some place = elim (cases_eq (p.place - 1) c) [
    | inl same ↦
        let place_is : p.place ≡ suc c = omega (arith, same, some) in
        eq-eqb (p.place - 1) c same ∙ sym (eq-eqb p.node own (sym place.node_is ∙ ap (place_node g) place_is))
    | inr other ↦
        let inside = place.within in
        ne_eqb (p.place - 1) c other
        ∙ sym (ne_eqb p.node own (λ same. other (let places = same_by_node g p.place (suc c) inside (omega (arith, within)) (place.node_is ∙ same) in omega (arith, places, some))))
  ]

  own_told : (set more : List ℕ) (p : Place) → 1 ≤ p.place → IsPlaceOf g p → ((x : ℕ) → has more x ≡ (nat_eq (p.place - 1) x || has set x)) → has more c ≡ (has set c || nat_eq p.node own)
  own_told set more p some place told =
      told c ∙ ap (λ b. b || has set c) (own_by_node p some place) ∙ or_turned (nat_eq p.node own) (has set c)

  -- the place is that of the last member so far, which stands at a place of the text
  pub record IsOwnUpTo (start : List ℕ × ℕ) (set : List ℕ) (at : ℕ) (p : Place) (s : List ℕ × ℕ) : Type 0 where
    pub up : IsSetUpTo g set p
    pub most : ℕ
    pub le : length (rest_of s) ≤ most
    pub so_far : in_front (written_set g set) (own_behind g own most (has set c) at p.node s) ≡ few_own g own (length start.0) false None start

  first_step : (start s : List ℕ × ℕ) (n most : ℕ) → customer_at g None start ≡ Ok (n, s) → most ≡ length start.0 → (fewer : ℕ) × (length (rest_of s) ≤ fewer) × (few_own g own most false None start ≡ in_front (n ∷ []) (own_behind g own fewer (nat_eq n own) start.1 n s))
  first_step start s n zero found most =
      let stands = (member g own None).standing start s n found in
      let small = (member g own None).loose n stands.0 in
      let digit = first_digit n (omega (arith, small)) in
      absurd (omega (arith, most, length-drop start.1 start.0, ap (λ (xs : List ℕ). length xs) stands.1, length-append (decimal n) (rest_of s), ap (λ (xs : List ℕ). length xs) digit.2))
  first_step start s n (suc most) found is =
      let stands = (member g own None).standing start s n found in
      let small = (member g own None).loose n stands.0 in
      let digit = first_digit n (omega (arith, small)) in (
        most,
        omega (arith, is, length-drop start.1 start.0, ap (λ (xs : List ℕ). length xs) stands.1, length-append (decimal n) (rest_of s), ap (λ (xs : List ℕ). length xs) digit.2),
        ap (λ r. and_then r (onward g own most false start.1)) found,
      )

  pub own-begin : (start s : List ℕ × ℕ) (set more : List ℕ) (at : ℕ) (p : Place) → at ≡ start.1 → customer_at g None start ≡ Ok (p.node, s) → 1 ≤ p.place → IsPlaceOf g p → set ≡ [] → ((x : ℕ) → has more x ≡ (nat_eq (p.place - 1) x || has set x)) → IsOwnUpTo start more at p s
  own-begin start s set more at p there found some place none told =
      let nobody : (x : ℕ) → has set x ≡ false = λ x. ap (λ (xs : List ℕ). has xs x) none in
      let below : (x : ℕ) → has set x ≡ true → x < p.place - 1 = λ x is. absurd (false≢true (sym (nobody x) ∙ is)) in
      let empty : written_set g set ≡ [] = none_in set (customer_nodes g) 0 (λ x le. nobody x) in
      let nodes : written_set g more ≡ p.node ∷ [] = with_place set more p some place told below ∙ ap (λ xs. xs ++ p.node ∷ []) empty in
      let had : has more c ≡ nat_eq p.node own = own_told set more p some place told ∙ ap (λ b. b || nat_eq p.node own) (nobody c) in
      let step = first_step start s p.node (length start.0) found refl in
      record {
        up = record { some = some; place = place; below = members_below set more p some told below };
        most = step.0;
        le = step.1;
        so_far = ap (λ xs. in_front xs (own_behind g own step.0 (has more c) at p.node s)) nodes
            ∙ ap (λ (b : Bool). in_front (p.node ∷ []) (own_behind g own step.0 b at p.node s)) had
            ∙ ap (λ (k : ℕ). in_front (p.node ∷ []) (own_behind g own step.0 (nat_eq p.node own) k p.node s)) there
            ∙ sym step.2;
      }

  -- the first member is none
  pub no_first : (start : List ℕ × ℕ) (fault : TextFault) → customer_at g None start ≡ Err fault → few_own g own (length start.0) false None start ≡ Err fault
  no_first start fault found = by (length start.0) refl
    where
      by : (most : ℕ) → length start.0 ≡ most → few_own g own most false None start ≡ Err fault
      by zero none =
          let nothing : rest_of start ≡ [] = no_bytes (rest_of start) (omega (arith, none, length-drop start.1 start.0)) in
          let early : whole_at greatest_number start ≡ Err (End start.1) = (whole_at-end greatest_number start).1 nothing in
          let tested : customer_at g None start ≡ Err (End start.1) = ap (λ r. and_then r (λ found. if is_customer_node g found.0 && is_above None found.0 then Ok found else Err (TooLarge start.1))) early in
          let both : customer_at g None start ≡ Err fault = found in
          let same : End start.1 ≡ fault = cc in
          ap (λ f. Err f) same
      by (suc most) is = ap (λ r. and_then r (onward g own most false start.1)) found

  pub own-shorter : (s t u : List ℕ × ℕ) (p q : Place) → optional_at (codes ",") s ≡ Ok (true, t) → customer_at g (Some p.node) t ≡ Ok (q.node, u) → length (rest_of u) < length (rest_of s)
  own-shorter s t u p q mark found =
      let first : length (rest_of s) ≡ suc (length (rest_of t)) = ap (λ (xs : List ℕ). length xs) (optional_taken (codes ",") s t mark).0 in
      let second = member_shorter g (Some p.node) t u q.node found in
      omega (arith, first, second)

  next_step : (s t u : List ℕ × ℕ) (most : ℕ) (had : Bool) (at before n : ℕ) → length (rest_of s) ≤ most → optional_at (codes ",") s ≡ Ok (true, t) → customer_at g (Some before) t ≡ Ok (n, u)
      → (fewer : ℕ) × (length (rest_of u) ≤ fewer) × (own_behind g own most had at before s ≡ in_front (n ∷ []) (own_behind g own fewer (had || nat_eq n own) t.1 n u))
  next_step s t u zero had at before n le mark found = absurd (omega (arith, le, ap (λ (xs : List ℕ). length xs) (optional_taken (codes ",") s t mark).0))
  next_step s t u (suc most) had at before n le mark found =
      let second = member_shorter g (Some before) t u n found in (
        most,
        omega (arith, le, second, ap (λ (xs : List ℕ). length xs) (optional_taken (codes ",") s t mark).0),
        rw mark (ap (λ r. and_then r (onward g own most had t.1)) found),
      )

  pub own-go_on : (start s t u : List ℕ × ℕ) (set more : List ℕ) (at later : ℕ) (p q : Place) → IsOwnUpTo start set at p s → later ≡ t.1 → optional_at (codes ",") s ≡ Ok (true, t) → customer_at g (Some p.node) t ≡ Ok (q.node, u)
      → 1 ≤ q.place → IsPlaceOf g q → is_above (Some p.node) q.node ≡ true → ((x : ℕ) → has more x ≡ (nat_eq (q.place - 1) x || has set x)) → IsOwnUpTo start more later q u
  own-go_on start s t u set more at later p q own_so_far there mark found some place above told =
      let up = own_so_far.up in
      let le = own_so_far.le in
      let less : p.node < q.node = ltb-true p.node q.node above in
      let nodes : place_node g p.place < place_node g q.place = let a = up.place.node_is in let b = place.node_is in omega (arith, less, a, b) in
      let rises : p.place < q.place = below_by_node g p.place q.place up.place.within nodes in
      let below : (x : ℕ) → has set x ≡ true → x < q.place - 1 = λ x is. let lower = up.below x is in omega (arith, lower, rises) in
      let more_nodes : written_set g more ≡ written_set g set ++ q.node ∷ [] = with_place set more q some place told below in
      let had : has more c ≡ (has set c || nat_eq q.node own) = own_told set more q some place told in
      let step = next_step s t u own_so_far.most (has set c) at p.node q.node le mark found in
      record {
        up = record { some = some; place = place; below = members_below set more q some told below };
        most = step.0;
        le = step.1;
        so_far = ap (λ xs. in_front xs (own_behind g own step.0 (has more c) later q.node u)) more_nodes
            ∙ ap (λ (b : Bool). in_front (written_set g set ++ q.node ∷ []) (own_behind g own step.0 b later q.node u)) had
            ∙ ap (λ (k : ℕ). in_front (written_set g set ++ q.node ∷ []) (own_behind g own step.0 (has set c || nat_eq q.node own) k q.node u)) there
            ∙ sym (in_front-twice (written_set g set) q.node (own_behind g own step.0 (has set c || nat_eq q.node own) t.1 q.node u))
            ∙ ap (λ r. in_front (written_set g set) r) (sym step.2)
            ∙ own_so_far.so_far;
      }

  pub own-break : (start s t : List ℕ × ℕ) (set : List ℕ) (at : ℕ) (p : Place) (fault : TextFault) → IsOwnUpTo start set at p s → optional_at (codes ",") s ≡ Ok (true, t) → customer_at g (Some p.node) t ≡ Err fault → few_own g own (length start.0) false None start ≡ Err fault
  own-break start s t set at p fault own_so_far mark found = sym own_so_far.so_far ∙ ap (λ r. in_front (written_set g set) r) (by own_so_far.most own_so_far.le)
    where
      by : (most : ℕ) → length (rest_of s) ≤ most → own_behind g own most (has set c) at p.node s ≡ Err fault
      by zero le = absurd (omega (arith, le, ap (λ (xs : List ℕ). length xs) (optional_taken (codes ",") s t mark).0))
      by (suc most) le = rw (mark, found) refl

  pub own-ends : (start s t u : List ℕ × ℕ) (set : List ℕ) (at : ℕ) (p : Place) (told : Bool) → told ≡ has set c → IsOwnUpTo start set at p s → optional_at (codes ",") s ≡ Ok (false, t) → own_end told at t ≡ Ok ([], u)
      → few_own g own (length start.0) false None start ≡ Ok (written_set g set, u)
  own-ends start s t u set at p told told_is own_so_far none found =
      let ended : own_end (has set c) at t ≡ Ok ([], u) = ap (λ (b : Bool). own_end b at t) (sym told_is) ∙ found in
      let last : own_behind g own own_so_far.most (has set c) at p.node s ≡ Ok ([], u) = rw none ended in
      sym own_so_far.so_far ∙ ap (λ r. in_front (written_set g set) r) last ∙ ap (λ (xs : List ℕ). Ok (xs, u)) (append-nil (written_set g set))

  pub own-no_end : (start s t : List ℕ × ℕ) (set : List ℕ) (at : ℕ) (p : Place) (told : Bool) → told ≡ has set c → (fault : TextFault) → IsOwnUpTo start set at p s → optional_at (codes ",") s ≡ Ok (false, t) → own_end told at t ≡ Err fault
      → few_own g own (length start.0) false None start ≡ Err fault
  own-no_end start s t set at p told told_is fault own_so_far none found =
      let ended : own_end (has set c) at t ≡ Err fault = ap (λ (b : Bool). own_end b at t) (sym told_is) ∙ found in
      let last : own_behind g own own_so_far.most (has set c) at p.node s ≡ Err fault = rw none ended in
      sym own_so_far.so_far ∙ ap (λ r. in_front (written_set g set) r) last

  pub own-among : (start s : List ℕ × ℕ) (set : List ℕ) (at : ℕ) (p : Place) → IsOwnUpTo start set at p s → (x : ℕ) → has set x ≡ true → x < customer_count g
  own-among start s set at p own_so_far x is = let below = own_so_far.up.below x is in let inside = own_so_far.up.place.within in omega (arith, below, inside)
