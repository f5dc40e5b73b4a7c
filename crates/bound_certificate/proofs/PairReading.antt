-- Reading forbidden pairs, one after another: each is above those before it, so it stands behind them.
use Rattle.std.proofs.Common.{◌≡◌, ◌≢◌, ◌∙◌, ℕ, zero, suc, ◌+◌, ◌<◌, ◌≤◌, Bool, true, false, ◌&&◌, ◌||◌, List, [], ◌∷◌, ◌++◌, Option, None, Some, nat_eq, nat_lt, Ok, Err, refl, sym, ap, subst, append_assoc, append-nil, arith}
use Rattle.std.proofs.lemmas.Bool.{eq-eqb, eqb-true, ltb-false, ltb-true, ne_eqb}
use Rattle.customer_sets.specs.Pairs.{ForbiddenPairs, allows_of, forbid}
use Rattle.ev_model.specs.Network.{Network}
use Rattle.ev_text.specs.Readers.{many_from}
use Rattle.ev_text.specs.declared.TextFault.{TextFault}
use Rattle.ev_text.proofs.RunLoops.{IsRunTo, run-begins, run-breaks, run-ends, run-goes_on}
use Rattle.certificate_parts.specs.Places.{IsPlaceOf}
use Rattle.certificate_parts.specs.Ranges.{customer_count}
use Rattle.bound_certificate.specs.Reading.{pair_at, rises_from}
use Rattle.certificate_parts.specs.Written.{place_node}
use Rattle.bound_certificate.specs.Written.{if_forbidden, pairs_after, pairs_from, written_pairs}
use Rattle.bound_certificate.specs.WrittenRanges.{next_pair}
use Rattle.certificate_parts.specs.declared.reading.nodes.Place.{Place}
use Rattle.certificate_parts.proofs.PlaceOrder.{below_by_node, same_by_node}
use Rattle.certificate_parts.proofs.PointReading.{both_true}

module _ (g : Network) where
  -- places that all may follow
  none_after : (p : ForbiddenPairs) (a b more : ℕ) → ((y : ℕ) → b ≤ y → allows_of p a y ≡ true) → pairs_after g p a b more ≡ []
  none_after p a b zero allowed = refl
  none_after p a b (suc more) allowed =
      let here : allows_of p a b ≡ true = allowed b (omega arith) in
      rw here (none_after p a (b + 1) more (λ y le. allowed y (omega (arith, le))))

  none_from : (p : ForbiddenPairs) (a more : ℕ) → ((x y : ℕ) → a ≤ x → allows_of p x y ≡ true) → pairs_from g p a more ≡ []
  none_from p a zero allowed = refl
  none_from p a (suc more) allowed =
      let row : pairs_after g p a 0 (customer_count g + 1) ≡ [] = none_after p a 0 (customer_count g + 1) (λ y le. allowed a y (omega arith)) in
      rw row (none_from p (a + 1) more (λ x y le. allowed x y (omega (arith, le))))

  same_after : (p q : ForbiddenPairs) (a b more : ℕ) → ((y : ℕ) → allows_of q a y ≡ allows_of p a y) → pairs_after g q a b more ≡ pairs_after g p a b more
  same_after p q a b zero same = refl
  same_after p q a b (suc more) same =
      let here : allows_of q a b ≡ allows_of p a b = same b in
      let rest : pairs_after g q a (b + 1) more ≡ pairs_after g p a (b + 1) more = same_after p q a (b + 1) more same in
      rw (here, rest) refl

  -- from a pair on each is allowed
  pub record IsOpenFrom (p : ForbiddenPairs) (i j : ℕ) : Type 0 where
    pub rows : (x y : ℕ) → i < x → allows_of p x y ≡ true
    pub row : (y : ℕ) → j ≤ y → allows_of p i y ≡ true

  -- a pair more, from which on each was allowed
  module _ (p q : ForbiddenPairs) (i j : ℕ) (open_from : IsOpenFrom p i j) (told : (a b : ℕ) → allows_of q a b ≡ forbid i j (allows_of p) a b) where
    own : allows_of q i j ≡ false
    own =
        let first : nat_eq i i ≡ true = eq-eqb i i refl in
        let second : nat_eq j j ≡ true = eq-eqb j j refl in
        told i j ∙ (rw (first, second) (no_more (allows_of p i j)))
      where
        no_more : (b : Bool) → (b && false) ≡ false
        no_more true = refl
        no_more false = refl

    stays_true : (b : Bool) → (b && true) ≡ b
    stays_true true = refl
    stays_true false = refl

    other_row : (a y : ℕ) → a ≢ i → allows_of q a y ≡ allows_of p a y
    other_row a y other =
        let row : nat_eq a i ≡ false = ne_eqb a i other in
        told a y ∙ (rw row (stays_true (allows_of p a y)))

    other_place : (y : ℕ) → y ≢ j → allows_of q i y ≡ allows_of p i y
    other_place y other =
        let first : nat_eq i i ≡ true = eq-eqb i i refl in
        let place : nat_eq y j ≡ false = ne_eqb y j other in
        told i y ∙ (rw (first, place) (stays_true (allows_of p i y)))

    row_more : (b more : ℕ) → b ≤ j → j < b + more → pairs_after g q i b more ≡ pairs_after g p i b more ++ (place_node g i, place_node g j) ∷ []
    row_more b zero le less = absurd (omega (arith, le, less))
    row_more b (suc more) le less = by (nat_lt b j) refl (λ below. row_more (b + 1) more (omega (arith, below)) (omega (arith, less)))
      where
        by : (below : Bool) → nat_lt b j ≡ below → (b < j → pairs_after g q i (b + 1) more ≡ pairs_after g p i (b + 1) more ++ (place_node g i, place_node g j) ∷ [])
            → pairs_after g q i b (suc more) ≡ pairs_after g p i b (suc more) ++ (place_node g i, place_node g j) ∷ []
        by true is step =
            let below = ltb-true b j is in
            let here : allows_of q i b ≡ allows_of p i b = other_place b (λ same. omega (arith, same, below)) in
            let rest : pairs_after g q i (b + 1) more ≡ pairs_after g p i (b + 1) more ++ (place_node g i, place_node g j) ∷ [] = step below in
            rw (here, rest) (sym (append_assoc (if_forbidden g p i b) (pairs_after g p i (b + 1) more) ((place_node g i, place_node g j) ∷ [])))
        by false is step =
            let past = ltb-false b j is in
            let same : b ≡ j = omega (arith, past, le) in
            let here : allows_of q i b ≡ false = ap (λ n. allows_of q i n) same ∙ own in
            let before : allows_of p i b ≡ true = open_from.row b past in
            let rest_q : pairs_after g q i (b + 1) more ≡ [] = none_after q i (b + 1) more (λ y after. other_place y (λ e. omega (arith, e, after, same)) ∙ open_from.row y (omega (arith, after, same))) in
            let rest_p : pairs_after g p i (b + 1) more ≡ [] = none_after p i (b + 1) more (λ y after. open_from.row y (omega (arith, after, same))) in
            let node : place_node g b ≡ place_node g j = ap (place_node g) same in
            rw (here, before, rest_q, rest_p, node) refl

    pub from_more : (a more : ℕ) → a ≤ i → i < a + more → j ≤ customer_count g → pairs_from g q a more ≡ pairs_from g p a more ++ (place_node g i, place_node g j) ∷ []
    from_more a zero le less within = absurd (omega (arith, le, less))
    from_more a (suc more) le less within = by (nat_lt a i) refl (λ below. from_more (a + 1) more (omega (arith, below)) (omega (arith, less)) within)
      where
        by : (below : Bool) → nat_lt a i ≡ below → (a < i → pairs_from g q (a + 1) more ≡ pairs_from g p (a + 1) more ++ (place_node g i, place_node g j) ∷ [])
            → pairs_from g q a (suc more) ≡ pairs_from g p a (suc more) ++ (place_node g i, place_node g j) ∷ []
        by true is step =
            let below = ltb-true a i is in
            let row : pairs_after g q a 0 (customer_count g + 1) ≡ pairs_after g p a 0 (customer_count g + 1) = same_after p q a 0 (customer_count g + 1) (λ y. other_row a y (λ same. omega (arith, same, below))) in
            let rest : pairs_from g q (a + 1) more ≡ pairs_from g p (a + 1) more ++ (place_node g i, place_node g j) ∷ [] = step below in
            rw (row, rest) (sym (append_assoc (pairs_after g p a 0 (customer_count g + 1)) (pairs_from g p (a + 1) more) ((place_node g i, place_node g j) ∷ [])))
        by false is step =
            let past = ltb-false a i is in
            let same : a ≡ i = omega (arith, past, le) in
            let row : pairs_after g q a 0 (customer_count g + 1) ≡ pairs_after g p a 0 (customer_count g + 1) ++ (place_node g i, place_node g j) ∷ [] =
            subst (λ (n : ℕ). pairs_after g q n 0 (customer_count g + 1) ≡ pairs_after g p n 0 (customer_count g + 1) ++ (place_node g i, place_node g j) ∷ []) (sym same) (row_more 0 (customer_count g + 1) (omega arith) (omega (arith, within))) in
            let rest_q : pairs_from g q (a + 1) more ≡ [] = none_from q (a + 1) more (λ x y after. other_row x y (λ e. omega (arith, e, after, same)) ∙ open_from.rows x y (omega (arith, after, same))) in
            let rest_p : pairs_from g p (a + 1) more ≡ [] = none_from p (a + 1) more (λ x y after. open_from.rows x y (omega (arith, after, same))) in
            rw (row, rest_q, rest_p) (append-nil (pairs_after g p a 0 (customer_count g + 1) ++ (place_node g i, place_node g j) ∷ []) ∙ ap (λ xs. xs ++ (place_node g i, place_node g j) ∷ []) (sym (append-nil (pairs_after g p a 0 (customer_count g + 1)))))

    pub open_after : (x y : ℕ) → i < x → allows_of q x y ≡ true
    open_after x y less = other_row x y (λ same. omega (arith, same, less)) ∙ open_from.rows x y less

    pub open_behind_it : (y : ℕ) → j < y → allows_of q i y ≡ true
    open_behind_it y less = other_place y (λ same. omega (arith, same, less)) ∙ open_from.row y (omega (arith, less))

  -- behind a pair, given by its nodes, each is allowed
  pub record IsOpenBehind (p : ForbiddenPairs) (nodes : ℕ × ℕ) : Type 0 where
    pub i : ℕ
    pub j : ℕ
    pub first : i ≤ customer_count g
    pub second : j ≤ customer_count g
    pub first_node : place_node g i ≡ nodes.0
    pub second_node : place_node g j ≡ nodes.1
    pub rows : (x y : ℕ) → i < x → allows_of p x y ≡ true
    pub row : (y : ℕ) → j < y → allows_of p i y ≡ true

  abbrev pub IsBehind : ForbiddenPairs → Option (ℕ × ℕ) → Type 0
  IsBehind p None = (x y : ℕ) → allows_of p x y ≡ true
  IsBehind p (Some nodes) = IsOpenBehind p nodes

  opens : (p : ForbiddenPairs) (last : Option (ℕ × ℕ)) (a b : Place) → IsBehind p last → IsPlaceOf g a → IsPlaceOf g b → rises_from last (a.node, b.node) ≡ true → IsOpenFrom p a.place b.place
  opens p None a b all first second rises = record { rows = λ x y less. all x y; row = λ y le. all a.place y }
  opens p (Some nodes) a b behind first second rises = by (nat_lt nodes.0 a.node) refl rises
    where
      by : (less : Bool) → nat_lt nodes.0 a.node ≡ less → (less || (nat_eq nodes.0 a.node && nat_lt nodes.1 b.node)) ≡ true → IsOpenFrom p a.place b.place
      by true is any =
          let less = ltb-true nodes.0 a.node is in
          let order : behind.i < a.place = below_by_node g behind.i a.place behind.first (let x = behind.first_node in let y = first.node_is in omega (arith, less, x, y)) in
          record { rows = λ x y after. behind.rows x y (omega (arith, order, after)); row = λ y le. behind.rows a.place y order }
      by false is both =
          let parts = both_true (nat_eq nodes.0 a.node) (nat_lt nodes.1 b.node) both in
          let equal = eqb-true nodes.0 a.node parts.0 in
          let less = ltb-true nodes.1 b.node parts.1 in
          let same : behind.i ≡ a.place = same_by_node g behind.i a.place behind.first first.within (behind.first_node ∙ equal ∙ sym first.node_is) in
          let order : behind.j < b.place = below_by_node g behind.j b.place behind.second (let x = behind.second_node in let y = second.node_is in omega (arith, less, x, y)) in
          record {
            rows = λ x y after. behind.rows x y (omega (arith, same, after));
            row = λ y le. subst (λ (n : ℕ). allows_of p n y ≡ true) same (behind.row y (omega (arith, order, le)));
          }

  pub record ArePairsTo (start : List ℕ × ℕ) (count : ℕ) (pairs : ForbiddenPairs) (last : Option (ℕ × ℕ)) (left : ℕ) (s : List ℕ × ℕ) : Type 0 where
    pub so_far : IsRunTo (pair_at g) next_pair (many_from (pair_at g) next_pair count None start) (written_pairs g pairs) left last s
    pub behind : IsBehind pairs last
    pub size : pairs.customers ≡ customer_count g

  pub pairs-begin : (start : List ℕ × ℕ) (count left : ℕ) (pairs : ForbiddenPairs) → left ≡ count → ((x y : ℕ) → allows_of pairs x y ≡ true) → pairs.customers ≡ customer_count g → ArePairsTo start count pairs None left start
  pairs-begin start count left pairs same all size = record {
    so_far = run-begins (pair_at g) next_pair count left (written_pairs g pairs) None start same (none_from pairs 0 (customer_count g + 1) (λ x y le. all x y));
    behind = all;
    size = size;
  }

  pub pairs-go_on : (start s t : List ℕ × ℕ) (count left fewer : ℕ) (pairs more : ForbiddenPairs) (last : Option (ℕ × ℕ)) (a b : Place) → left ≡ suc fewer → ArePairsTo start count pairs last left s → pair_at g last s ≡ Ok ((a.node, b.node), t)
      → IsPlaceOf g a → IsPlaceOf g b → rises_from last (a.node, b.node) ≡ true → ((x y : ℕ) → allows_of more x y ≡ forbid a.place b.place (allows_of pairs) x y) → more.customers ≡ pairs.customers
      → ArePairsTo start count more (Some (a.node, b.node)) fewer t
  pairs-go_on start s t count left fewer pairs more last a b one before found first second rises told size =
      let open_from = opens pairs last a b before.behind first second rises in
      let grown : written_pairs g more ≡ written_pairs g pairs ++ (a.node, b.node) ∷ [] =
      from_more pairs more a.place b.place open_from told 0 (customer_count g + 1) (omega arith) (let w = first.within in omega (arith, w)) second.within
      ∙ (λ n. written_pairs g pairs ++ (first.node_is n, second.node_is n) ∷ []) in
      record {
        so_far = run-goes_on (pair_at g) next_pair (many_from (pair_at g) next_pair count None start) s t left fewer last (written_pairs g pairs) (written_pairs g more) (a.node, b.node) one before.so_far found grown;
        behind = record {
          i = a.place;
          j = b.place;
          first = first.within;
          second = second.within;
          first_node = first.node_is;
          second_node = second.node_is;
          rows = open_after pairs more a.place b.place open_from told;
          row = open_behind_it pairs more a.place b.place open_from told;
        };
        size = size ∙ before.size;
      }

  pub pairs-break : (start s : List ℕ × ℕ) (count left fewer : ℕ) (pairs : ForbiddenPairs) (last : Option (ℕ × ℕ)) (fault : TextFault) → left ≡ suc fewer → ArePairsTo start count pairs last left s → pair_at g last s ≡ Err fault
      → many_from (pair_at g) next_pair count None start ≡ Err fault
  pairs-break start s count left fewer pairs last fault one before found = run-breaks (pair_at g) next_pair (many_from (pair_at g) next_pair count None start) s left fewer last (written_pairs g pairs) fault one before.so_far found

  pub pairs-end : (start s : List ℕ × ℕ) (count left : ℕ) (pairs : ForbiddenPairs) (last : Option (ℕ × ℕ)) → left ≡ 0 → ArePairsTo start count pairs last left s → many_from (pair_at g) next_pair count None start ≡ Ok (written_pairs g pairs, s)
  pairs-end start s count left pairs last none before = run-ends (pair_at g) next_pair (many_from (pair_at g) next_pair count None start) s left last (written_pairs g pairs) none before.so_far
