-- A walk over all nodes finds the first of those that are looked at.
use Rattle.std.proofs.Common.{◌≡◌, ◌∙◌, ℕ, ◌<◌, ◌≤◌, Bool, true, false, List, [], ◌∷◌, ◌⊎◌, inl, inr, refl, sym, subst, arith, Option, Some, None, Contains}
use Rattle.std.proofs.lemmas.Bool.{cases_Bool, false≢true}
use Rattle.std.proofs.lemmas.Option.{none-some, same_Some}
use Rattle.slab.specs.Slab.{Slab, entries}
use Rattle.slab.proofs.SlabLemmas.{Contains-cons, Contains-cons_cases, Contains-entries}
use Rattle.branching.specs.Nodes.{IsLeastBound, IsNext, NoneIsLive, NoneIsOpen}
use Rattle.branching.specs.Walk.{first_from, first_of, IsBefore, IsFirst, is_wanted, precedes}
use Rattle.branching.specs.declared.node.Node.{Node}

before_before : (a b c : ℕ × ℕ) → IsBefore a b → IsBefore b c → IsBefore a c
before_before a b c first second = elim first [
  | inl less ↦ elim second [
    | inl more ↦ inl (omega (arith, less, more))
    | inr tie ↦ let same = tie.0 in inl (omega (arith, less, same))
  ]
  | inr tie ↦ elim second [
    | inl more ↦ let same = tie.0 in inl (omega (arith, more, same))
    | inr other ↦
        let one = tie.0 in
        let two = other.0 in
        let low = tie.1 in
        let high = other.1 in
        inr (omega (arith, one, two), omega (arith, low, high))
  ]
]

before_same : (a : ℕ × ℕ) → IsBefore a a
before_same a = inr (refl, omega arith)

told_before : (a : ℕ × ℕ) (key bound : ℕ) → precedes a key bound ≡ true → IsBefore a (key, bound)
told_before a key bound is = grind (arith, is)

told_behind : (a : ℕ × ℕ) (key bound : ℕ) → precedes a key bound ≡ false → IsBefore (key, bound) a
told_behind a key bound miss = grind (arith, miss)

module _ (taken_too : Bool) where
  -- a key and a bound are those of a node that is looked at
  abbrev pub IsWantedAt : List (ℕ × Node) → ℕ × ℕ → Type 0
  IsWantedAt es at = (node : Node) × Contains es (at.0, node) × (is_wanted taken_too node ≡ true) × (node.bound ≡ at.1)

  pub record IsFoundAt (start : Option (ℕ × ℕ)) (es : List (ℕ × Node)) (first : ℕ × ℕ) : Type 0 where
    pub from : (start ≡ Some first) ⊎ IsWantedAt es first
    pub low : (s : ℕ × ℕ) → start ≡ Some s → IsBefore first s
    pub least : (key : ℕ) (node : Node) → Contains es (key, node) → is_wanted taken_too node ≡ true → IsBefore first (key, node.bound)

  -- what a walk over the entries answers that begins with what was found so far
  abbrev pub IsFound : Option (ℕ × ℕ) → List (ℕ × Node) → Option (ℕ × ℕ) → Type 0
  IsFound start es None = (start ≡ None) × ((key : ℕ) (node : Node) → Contains es (key, node) → is_wanted taken_too node ≡ true → ⊥)
  IsFound start es (Some first) = IsFoundAt start es first

  nothing_listed : (entry : ℕ × Node) → Contains [] entry → ⊥
  nothing_listed entry listed = omega (arith, listed.1)

  found_end : (start : Option (ℕ × ℕ)) → IsFound start [] start
  found_end None = (refl, λ key node listed is. nothing_listed (key, node) listed)
  found_end (Some s) = record {
    from = inl refl;
    low = λ other same. subst (λ x. IsBefore s x) (same_Some s other same) (before_same s);
    least = λ key node listed is. absurd (nothing_listed (key, node) listed);
  }

  listed_first : (entry : ℕ × Node) (es : List (ℕ × Node)) → Contains (entry ∷ es) entry
  listed_first entry es = (0, omega arith, refl)

  listed_later : (entry other : ℕ × Node) (es : List (ℕ × Node)) → Contains es other → Contains (entry ∷ es) other
  listed_later entry other es listed = Contains-cons entry other es listed

  -- a node that is looked at comes first
  taken_up : (start : Option (ℕ × ℕ)) (key : ℕ) (node : Node) (es : List (ℕ × Node)) (result : Option (ℕ × ℕ)) → is_wanted taken_too node ≡ true
      → ((s : ℕ × ℕ) → start ≡ Some s → IsBefore (key, node.bound) s) → IsFound (Some (key, node.bound)) es result → IsFound start ((key, node) ∷ es) result
  taken_up start key node es None wanted low found = absurd (none-some (key, node.bound) (sym found.0))
  taken_up start key node es (Some first) wanted low found =
      let here : IsBefore first (key, node.bound) = found.low (key, node.bound) refl in
      record {
        from = elim found.from [
          | inl same ↦
              let is : (key, node.bound) ≡ first = same_Some (key, node.bound) first same in
              inr (subst (λ x. IsWantedAt ((key, node) ∷ es) x) is (node, listed_first (key, node) es, wanted, refl))
          | inr there ↦ inr (there.0, listed_later (key, node) (first.0, there.0) es there.1, there.2, there.3)
        ];
        low = λ s is. before_before first (key, node.bound) s here (low s is);
        least = λ k o listed is. elim (Contains-cons_cases (key, node) (k, o) es listed) [
          | inl same ↦ subst (λ (x : ℕ × Node). IsBefore first (x.0, x.1.bound)) same here
          | inr later ↦ found.least k o later is
        ];
      }

  -- it doesn't
  passed_over : (start : Option (ℕ × ℕ)) (key : ℕ) (node : Node) (es : List (ℕ × Node)) (result : Option (ℕ × ℕ))
      → (is_wanted taken_too node ≡ true → (s : ℕ × ℕ) × (start ≡ Some s) × IsBefore s (key, node.bound)) → IsFound start es result → IsFound start ((key, node) ∷ es) result
  passed_over start key node es None behind found = (
    found.0,
    λ k o listed is. elim (Contains-cons_cases (key, node) (k, o) es listed) [
      | inl same ↦
          let some = behind (subst (λ (x : ℕ × Node). is_wanted taken_too x.1 ≡ true) (sym same) is) in
          none-some some.0 (sym found.0 ∙ some.1)
      | inr later ↦ found.1 k o later is
    ],
  )
  passed_over start key node es (Some first) behind found = record {
    from = elim found.from [
      | inl same ↦ inl same
      | inr there ↦ inr (there.0, listed_later (key, node) (first.0, there.0) es there.1, there.2, there.3)
    ];
    low = found.low;
    least = λ k o listed is. elim (Contains-cons_cases (key, node) (k, o) es listed) [
      | inl same ↦
          let some = behind (subst (λ (x : ℕ × Node). is_wanted taken_too x.1 ≡ true) (sym same) is) in
          let up = before_before first some.0 (key, node.bound) (found.low some.0 some.1) some.2 in
          subst (λ (x : ℕ × Node). IsBefore first (x.0, x.1.bound)) same up
      | inr later ↦ found.least k o later is
    ];
  }

  found_step : (start : Option (ℕ × ℕ)) (key : ℕ) (node : Node) (es : List (ℕ × Node)) (result : Option (ℕ × ℕ)) → IsFound (first_of taken_too start key node) es result
      → IsFound start ((key, node) ∷ es) result
  found_step None key node es result found = elim (cases_Bool (is_wanted taken_too node)) [
    | inl is ↦ taken_up None key node es result is (λ s e. absurd (none-some s e)) (rw is at found)
    | inr miss ↦ passed_over None key node es result (λ is. absurd (false≢true (sym miss ∙ is))) (rw miss at found)
  ]
  found_step (Some s) key node es result found = elim (cases_Bool (is_wanted taken_too node)) [
    | inl is ↦ elim (cases_Bool (precedes s key node.bound)) [
      | inl before ↦ passed_over (Some s) key node es result (λ _. (s, refl, told_before s key node.bound before)) (rw (is, before) at found)
      | inr behind ↦
          taken_up (Some s) key node es result is (λ other same. subst (λ x. IsBefore (key, node.bound) x) (same_Some s other same) (told_behind s key node.bound behind)) (rw (is, behind) at found)
    ]
    | inr miss ↦ passed_over (Some s) key node es result (λ is. absurd (false≢true (sym miss ∙ is))) (rw miss at found)
  ]

  pub found_all : (start : Option (ℕ × ℕ)) (es : List (ℕ × Node)) → IsFound start es (first_from taken_too start es)
  found_all start [] = found_end start
  found_all start (entry ∷ es) =
      found_step start entry.0 entry.1 es (first_from taken_too (first_of taken_too start entry.0 entry.1) es) (found_all (first_of taken_too start entry.0 entry.1) es)

  -- of the nodes of a slab
  pub found_first : (s : Slab Node) (result : Option (ℕ × ℕ)) → IsFound None (entries s) result → IsFirst s.slots taken_too result
  found_first s None found = λ key node here is. found.1 key node ((Contains-entries s key node).1 here) is
  found_first s (Some first) found = elim found.from [
    | inl same ↦ absurd (none-some first same)
    | inr there ↦ record {
      node = there.0;
      here = (Contains-entries s first.0 there.0).0 there.1;
      wanted = there.2;
      bound = there.3;
      least = λ key o here is. found.least key o ((Contains-entries s key o).1 here) is;
    }
  ]

pub first_node_is : (s : Slab Node) (taken_too : Bool) → IsFirst s.slots taken_too (first_from taken_too None (entries s))
first_node_is s taken_too = found_first taken_too s (first_from taken_too None (entries s)) (found_all taken_too None (entries s))

pub next_is : (nodes : List (Option Node)) (first : ℕ × ℕ) → IsFirst nodes false (Some first) → (node : Node) × IsNext nodes first.0 node
next_is nodes first is = (
  is.node,
  record {
    here = is.here;
    waits = is.wanted;
    least = λ other o here waits. subst (λ b. (b < o.bound) ⊎ ((b ≡ o.bound) × (first.0 ≤ other))) (sym is.bound) (is.least other o here waits);
  },
)

pub none_is_open : (nodes : List (Option Node)) → IsFirst nodes false None → NoneIsOpen nodes
none_is_open nodes is key has = is key has.node has.here has.is

pub some_is_open : (nodes : List (Option Node)) (first : ℕ × ℕ) → IsFirst nodes false (Some first) → NoneIsOpen nodes → ⊥
some_is_open nodes first is none = none first.0 (record { node = is.node; here = is.here; is = is.wanted })

pub least_is : (nodes : List (Option Node)) (first : ℕ × ℕ) → IsFirst nodes true (Some first) → IsLeastBound nodes first.1
least_is nodes first is = record {
  some = (first.0, record { node = is.node; here = is.here; is = (is.wanted, is.bound) });
  least = λ key o here live. elim (is.least key o here live) [ inl less ↦ omega (arith, less) | inr tie ↦ let same = tie.0 in omega (arith, same) ];
}

pub none_is_live : (nodes : List (Option Node)) → IsFirst nodes true None → NoneIsLive nodes
none_is_live nodes is key has = is key has.node has.here has.is

pub some_is_live : (nodes : List (Option Node)) (first : ℕ × ℕ) → IsFirst nodes true (Some first) → NoneIsLive nodes → ⊥
some_is_live nodes first is none = none first.0 (record { node = is.node; here = is.here; is = is.wanted })
