-- Reading the members of a set, one after another: each is above those before it, so it stands behind them.
use Rattle.std.proofs.Common.{◌≡◌, ◌∙◌, ℕ, suc, ◌+◌, ◌-◌, ◌<◌, ◌≤◌, Bool, true, false, ◌||◌, List, [], ◌∷◌, ◌++◌, None, Some, get_or, length, nat_eq, nat_lt, Ok, Err, codes, refl, sym, ap, append_assoc, arith, if◌then◌else◌}
use Rattle.std.proofs.lemmas.Bool.{eq-eqb, false≢true, ltb-false, ltb-true, ne_eqb}
use Rattle.customer_sets.specs.CustSet.{has}
use Rattle.ev_model.specs.Network.{Network}
use Rattle.ev_text.specs.Readers.{optional_at}
use Rattle.ev_text.specs.Scans.{rest_of, word_at}
use Rattle.ev_text.specs.declared.TextFault.{TextFault}
use Rattle.ev_text.proofs.RunLoops.{IsEachTo, each_from-begins, each_from-breaks, each_from-breaks_off, each_from-ends, each_from-goes_on, each_from-shorter}
use Rattle.instance_reader.specs.Instance.{customer_nodes}
use Rattle.certificate_parts.specs.Places.{IsPlaceOf}
use Rattle.certificate_parts.specs.Reading.{customer_at, is_above, set_at, set_behind}
use Rattle.certificate_parts.specs.Written.{nodes_in, place_node}
use Rattle.certificate_parts.specs.WrittenRanges.{next_member}
use Rattle.certificate_parts.specs.declared.reading.nodes.Place.{Place}
use Rattle.certificate_parts.proofs.PlaceOrder.{below_by_node}
use Rattle.certificate_parts.proofs.Shorter.{member_shorter}

absent : (set : List ℕ) (c x : ℕ) → ((y : ℕ) → has set y ≡ true → y < c) → c ≤ x → has set x ≡ false
absent set c x below le = by (has set x) refl
  where
    by : (b : Bool) → has set x ≡ b → b ≡ false
    by false is = refl
    by true is = absurd (let less = below x is in omega (arith, less, le))

none_in : (set ns : List ℕ) (number : ℕ) → ((x : ℕ) → number ≤ x → has set x ≡ false) → nodes_in set number ns ≡ []
none_in set [] number none = refl
none_in set (n ∷ ns) number none =
    let here : has set number ≡ false = none number (omega arith) in
    rw here (none_in set ns (number + 1) (λ x le. none x (omega (arith, le))))

-- a member above the others is behind them
nodes_more : (set more : List ℕ) (c : ℕ) (ns : List ℕ) (number : ℕ) → ((x : ℕ) → has more x ≡ (nat_eq c x || has set x)) → ((x : ℕ) → has set x ≡ true → x < c)
    → number ≤ c → c < number + length ns → nodes_in more number ns ≡ nodes_in set number ns ++ get_or ns (c - number) 0 ∷ []
nodes_more set more c [] number told below le lt = absurd (omega (arith, le, lt))
nodes_more set more c (n ∷ ns) number told below le lt =
    by (nat_lt number c) refl (λ less. nodes_more set more c ns (number + 1) told below (omega (arith, less)) (omega (arith, lt)))
  where
    by : (is_less : Bool) → nat_lt number c ≡ is_less → (number < c → nodes_in more (number + 1) ns ≡ nodes_in set (number + 1) ns ++ get_or ns (c - (number + 1)) 0 ∷ []) → nodes_in more number (n ∷ ns) ≡ nodes_in set number (n ∷ ns) ++ get_or (n ∷ ns) (c - number) 0 ∷ []
    by false is step =
        let past = ltb-false number c is in
        let same : c ≡ number = omega (arith, le, past) in
        let here : has more number ≡ true = told number ∙ ap (λ b. b || has set number) (eq-eqb c number same) in
        let own : has set number ≡ false = absent set c number below past in
        let rest_more : nodes_in more (number + 1) ns ≡ [] = none_in more ns (number + 1) (λ x after. told x ∙ ap (λ b. b || has set x) (ne_eqb c x (λ e. omega (arith, e, after, same))) ∙ absent set c x below (omega (arith, after, same))) in
        let rest_set : nodes_in set (number + 1) ns ≡ [] = none_in set ns (number + 1) (λ x after. absent set c x below (omega (arith, after, same))) in
        let first : c - number ≡ 0 = omega (arith, same) in
        rw (here, own, rest_more, rest_set, first) refl
    by true is step =
        let less = ltb-true number c is in
        let same_here : has more number ≡ has set number = told number ∙ ap (λ b. b || has set number) (ne_eqb c number (λ e. omega (arith, e, less))) in
        let rest : nodes_in more (number + 1) ns ≡ nodes_in set (number + 1) ns ++ get_or ns (c - (number + 1)) 0 ∷ [] = step less in
        let later : c - number ≡ suc (c - (number + 1)) = omega (arith, less) in
        rw (same_here, rest, later) (sym (append_assoc (if has set number then n ∷ [] else []) (nodes_in set (number + 1) ns) (get_or ns (c - (number + 1)) 0 ∷ [])))

-- the set without a member
pub nobody_read : (g : Network) (mark : ℕ) (s t u : List ℕ × ℕ) (set : List ℕ) → optional_at (codes "-") s ≡ Ok (true, t) → word_at (mark ∷ []) t ≡ Ok u → set ≡ [] → set_at g mark s ≡ Ok (nodes_in set 0 (customer_nodes g), u)
nobody_read g mark s t u set minus space empty =
    let none : nodes_in set 0 (customer_nodes g) ≡ [] = none_in set (customer_nodes g) 0 (λ x le. ap (λ (xs : List ℕ). has xs x) empty) in
    rw (minus, space, none) refl

-- the place is that of the last member so far
pub record IsSetUpTo (g : Network) (set : List ℕ) (p : Place) : Type 0 where
  pub some : 1 ≤ p.place
  pub place : IsPlaceOf g p
  pub below : (x : ℕ) → has set x ≡ true → x < p.place

module _ (g : Network) where
  own_node : (p : Place) → 1 ≤ p.place → IsPlaceOf g p → get_or (customer_nodes g) (p.place - 1) 0 ≡ p.node
  own_node p some place =
      let same : suc (p.place - 1) ≡ p.place = omega (arith, some) in
      ap (place_node g) same ∙ place.node_is

  with_place : (set more : List ℕ) (p : Place) → 1 ≤ p.place → IsPlaceOf g p → ((x : ℕ) → has more x ≡ (nat_eq (p.place - 1) x || has set x)) → ((x : ℕ) → has set x ≡ true → x < p.place - 1)
      → nodes_in more 0 (customer_nodes g) ≡ nodes_in set 0 (customer_nodes g) ++ p.node ∷ []
  with_place set more p some place told below =
      let whole : p.place - 1 - 0 ≡ p.place - 1 = omega arith in
      nodes_more set more (p.place - 1) (customer_nodes g) 0 told below (omega arith) (let within = place.within in omega (arith, some, within))
      ∙ ap (λ k. nodes_in set 0 (customer_nodes g) ++ get_or (customer_nodes g) k 0 ∷ []) whole
      ∙ ap (λ n. nodes_in set 0 (customer_nodes g) ++ n ∷ []) (own_node p some place)

  members_below : (set more : List ℕ) (p : Place) → 1 ≤ p.place → ((x : ℕ) → has more x ≡ (nat_eq (p.place - 1) x || has set x)) → ((x : ℕ) → has set x ≡ true → x < p.place - 1) → (x : ℕ) → has more x ≡ true → x < p.place
  members_below set more p some told below x is = by (nat_lt x p.place) refl
    where
      by : (less : Bool) → nat_lt x p.place ≡ less → x < p.place
      by true less = ltb-true x p.place less
      by false past =
          let le = ltb-false x p.place past in
          let no : has more x ≡ false = told x ∙ ap (λ b. b || has set x) (ne_eqb (p.place - 1) x (λ e. omega (arith, e, le, some))) ∙ absent set (p.place - 1) x below (omega (arith, le)) in
          absurd (false≢true (sym no ∙ is))

  -- up to the byte that ends the set
  module _ (mark : ℕ) where
    abbrev pub AreMembersTo : List ℕ × ℕ → List ℕ → Place → List ℕ × ℕ → Type 0
    AreMembersTo start set p s =
        IsEachTo 44 mark [] (customer_at g) next_member (member_shorter g) (set_behind g mark false start) (nodes_in set 0 (customer_nodes g)) (Some p.node) s × IsSetUpTo g set p

    pub members-begin : (start s : List ℕ × ℕ) (set more : List ℕ) (p : Place) → customer_at g None start ≡ Ok (p.node, s) → 1 ≤ p.place → IsPlaceOf g p → set ≡ [] → ((x : ℕ) → has more x ≡ (nat_eq (p.place - 1) x || has set x)) → AreMembersTo start more p s
    members-begin start s set more p found some place none told =
        let nobody : (x : ℕ) → has set x ≡ false = λ x. ap (λ (xs : List ℕ). has xs x) none in
        let below : (x : ℕ) → has set x ≡ true → x < p.place - 1 = λ x is. absurd (false≢true (sym (nobody x) ∙ is)) in
        let only : nodes_in more 0 (customer_nodes g) ≡ p.node ∷ [] =
        with_place set more p some place told below ∙ ap (λ xs. xs ++ p.node ∷ []) (none_in set (customer_nodes g) 0 (λ x le. nobody x)) in (
          each_from-begins 44 mark [] (customer_at g) next_member (member_shorter g) (set_behind g mark false start) (nodes_in more 0 (customer_nodes g)) (Some p.node) s (rw (found, only) refl),
          record { some = some; place = place; below = members_below set more p some told below },
        )

    pub members-shorter : (p q : Place) (s t u : List ℕ × ℕ) → optional_at (codes ",") s ≡ Ok (true, t) → customer_at g (Some p.node) t ≡ Ok (q.node, u) → length (rest_of u) < length (rest_of s)
    members-shorter p q s t u comma found = each_from-shorter 44 mark [] (customer_at g) next_member (member_shorter g) (Some p.node) s t u q.node comma found

    pub members-go_on : (start s t u : List ℕ × ℕ) (set more : List ℕ) (p q : Place) → AreMembersTo start set p s → optional_at (codes ",") s ≡ Ok (true, t) → customer_at g (Some p.node) t ≡ Ok (q.node, u)
        → 1 ≤ q.place → IsPlaceOf g q → is_above (Some p.node) q.node ≡ true → ((x : ℕ) → has more x ≡ (nat_eq (q.place - 1) x || has set x)) → AreMembersTo start more q u
    members-go_on start s t u set more p q so_far comma found some place above told =
        let up = so_far.1 in
        let less : p.node < q.node = ltb-true p.node q.node above in
        let nodes : place_node g p.place < place_node g q.place = let a = up.place.node_is in let b = place.node_is in omega (arith, less, a, b) in
        let rises : p.place < q.place = below_by_node g p.place q.place up.place.within nodes in
        let below : (x : ℕ) → has set x ≡ true → x < q.place - 1 = λ x is. let lower = up.below x is in omega (arith, lower, rises) in (
          each_from-goes_on 44 mark [] (customer_at g) next_member (member_shorter g) (set_behind g mark false start) (Some p.node) s t u (nodes_in set 0 (customer_nodes g)) (nodes_in more 0 (customer_nodes g)) q.node
              so_far.0 comma found (with_place set more q some place told below),
          record { some = some; place = place; below = members_below set more q some told below },
        )

    pub members-break : (start s t : List ℕ × ℕ) (set : List ℕ) (p : Place) (fault : TextFault) → AreMembersTo start set p s → optional_at (codes ",") s ≡ Ok (true, t) → customer_at g (Some p.node) t ≡ Err fault → set_behind g mark false start ≡ Err fault
    members-break start s t set p fault so_far comma found =
        each_from-breaks 44 mark [] (customer_at g) next_member (member_shorter g) (set_behind g mark false start) (Some p.node) s t (nodes_in set 0 (customer_nodes g)) fault so_far.0 comma found

    pub members-end : (start s t u : List ℕ × ℕ) (set : List ℕ) (p : Place) → AreMembersTo start set p s → optional_at (codes ",") s ≡ Ok (false, t) → word_at (mark ∷ []) t ≡ Ok u → set_behind g mark false start ≡ Ok (nodes_in set 0 (customer_nodes g), u)
    members-end start s t u set p so_far none found =
        each_from-ends 44 mark [] (customer_at g) next_member (member_shorter g) (set_behind g mark false start) (Some p.node) s t u (nodes_in set 0 (customer_nodes g)) so_far.0 none found

    pub members-break_off : (start s t : List ℕ × ℕ) (set : List ℕ) (p : Place) (fault : TextFault) → AreMembersTo start set p s → optional_at (codes ",") s ≡ Ok (false, t) → word_at (mark ∷ []) t ≡ Err fault → set_behind g mark false start ≡ Err fault
    members-break_off start s t set p fault so_far none found =
        each_from-breaks_off 44 mark [] (customer_at g) next_member (member_shorter g) (set_behind g mark false start) (Some p.node) s t (nodes_in set 0 (customer_nodes g)) fault so_far.0 none found
