-- The helpers that follow first entries: those of the rows that are left.
use Rattle.std.proofs.Common.{◌≡◌, ◌≢◌, ◌∙◌, ℕ, zero, suc, ◌+◌, ◌<◌, ◌≤◌, arith, refl, sym, ap, subst, Bool, true, false, cond, nat_eq, eq-eqb, ne_eqb, List, [], ◌∷◌, ◌++◌, map, length, get_or, append_assoc, append-nil, ◌⊎◌, inl, inr, ◌||◌}
use Rattle.std.proofs.lemmas.Bool.{cases_Bool, cases_eq, both_ways}
use Rattle.std.proofs.lemmas.List.{map-append}
use Rattle.customer_sets.specs.CustSet.{has}
use Rattle.fleet_model.specs.Equations.{Column, helper}
use Rattle.fleet_model.specs.Basis.{AreIndependent}
use Rattle.fleet_model.specs.Wide.{Follow}
use Rattle.master_table.specs.Leaving.{AreOnce, left_rows}
use Rattle.master_table.proofs.Dependence.{first_independent}

-- ---- first entries have one list of helpers that follow
pub follow_once : (n more c : ℕ) (before : List Column) (xs ys : List ℕ) → Follow n more c before xs → Follow n more c before ys → xs ≡ ys
follow_once n zero c before [] [] f g = refl
follow_once n zero c before [] (y ∷ ys) f g = absurd g
follow_once n zero c before (x ∷ xs) ys f g = absurd f
follow_once n (suc more) c before [] [] f g = refl
follow_once n (suc more) c before [] (y ∷ ys) f (inl g) = absurd (f.0 g.1)
follow_once n (suc more) c before [] (y ∷ ys) f (inr g) = follow_once n more (suc c) before [] (y ∷ ys) f.1 g.1
follow_once n (suc more) c before (x ∷ xs) [] (inl f) g = absurd (g.0 f.1)
follow_once n (suc more) c before (x ∷ xs) [] (inr f) g = follow_once n more (suc c) before (x ∷ xs) [] f.1 g.1
follow_once n (suc more) c before (x ∷ xs) (y ∷ ys) (inl f) (inl g) =
    let rest = follow_once n more (suc c) (before ++ helper c ∷ []) xs ys f.2 g.2 in
    let head : x ≡ y = sym f.0 ∙ g.0 in
    cc
follow_once n (suc more) c before (x ∷ xs) (y ∷ ys) (inl f) (inr g) = absurd (g.0 f.1)
follow_once n (suc more) c before (x ∷ xs) (y ∷ ys) (inr f) (inl g) = absurd (f.0 g.1)
follow_once n (suc more) c before (x ∷ xs) (y ∷ ys) (inr f) (inr g) = follow_once n more (suc c) before (x ∷ xs) (y ∷ ys) f.1 g.1

-- ---- rows that are left
left_taken : (taken : List ℕ) (more c : ℕ) → has taken c ≡ true → left_rows taken (suc more) c ≡ left_rows taken more (suc c)
left_taken taken more c e = ap (λ b. cond b (left_rows taken more (suc c)) (c ∷ left_rows taken more (suc c))) e

left_free : (taken : List ℕ) (more c : ℕ) → has taken c ≡ false → left_rows taken (suc more) c ≡ c ∷ left_rows taken more (suc c)
left_free taken more c e = ap (λ b. cond b (left_rows taken more (suc c)) (c ∷ left_rows taken more (suc c))) e

pub left_all : (more c : ℕ) → length (left_rows [] more c) ≡ more
left_all zero c = refl
left_all (suc more) c = ap suc (left_all more (suc c))

-- each is in range and not taken
abbrev pub IsLeft : List ℕ → ℕ → ℕ → ℕ → Type 0
IsLeft taken more c x = (c ≤ x) × (x < c + more) × (has taken x ≡ false)

left_more : (taken : List ℕ) (more c x : ℕ) → IsLeft taken more (suc c) x → IsLeft taken (suc more) c x
left_more taken more c x h = (omega (arith, h.0), omega (arith, h.1), h.2)

pub left_at : (taken : List ℕ) (more c j : ℕ) → j < length (left_rows taken more c) → IsLeft taken more c (get_or (left_rows taken more c) j 0)
left_at taken zero c j lt = absurd (omega arith)
left_at taken (suc more) c j lt = by_cases (cases_Bool (has taken c)) (λ k l. left_at taken more (suc c) k l) j lt
  where
    by_cases : (has taken c ≡ true) ⊎ (has taken c ≡ false) → ((k : ℕ) → k < length (left_rows taken more (suc c)) → IsLeft taken more (suc c) (get_or (left_rows taken more (suc c)) k 0))
        → (j : ℕ) → j < length (left_rows taken (suc more) c) → IsLeft taken (suc more) c (get_or (left_rows taken (suc more) c) j 0)
    by_cases (inl held) later j lt =
        let e = left_taken taken more c held in
        subst (λ xs. IsLeft taken (suc more) c (get_or xs j 0)) (sym e) (left_more taken more c (get_or (left_rows taken more (suc c)) j 0) (later j (let s = ap length e in omega arith)))
    by_cases (inr free) later zero lt =
        let e = left_free taken more c free in
        subst (λ xs. IsLeft taken (suc more) c (get_or xs 0 0)) (sym e) (omega arith, omega arith, free)
    by_cases (inr free) later (suc j) lt =
        let e = left_free taken more c free in
        subst (λ xs. IsLeft taken (suc more) c (get_or xs (suc j) 0)) (sym e) (left_more taken more c (get_or (left_rows taken more (suc c)) j 0) (later j (let s = ap length e in omega arith)))

-- they rise
pub left_rise : (taken : List ℕ) (more c i j : ℕ) → i < j → j < length (left_rows taken more c) → get_or (left_rows taken more c) i 0 < get_or (left_rows taken more c) j 0
left_rise taken zero c i j lt lj = absurd (omega arith)
left_rise taken (suc more) c i j lt lj = by_cases (cases_Bool (has taken c)) (λ a b l u. left_rise taken more (suc c) a b l u) i j lt lj
  where
    by_cases : (has taken c ≡ true) ⊎ (has taken c ≡ false) → ((i j : ℕ) → i < j → j < length (left_rows taken more (suc c)) → get_or (left_rows taken more (suc c)) i 0 < get_or (left_rows taken more (suc c)) j 0)
        → (i j : ℕ) → i < j → j < length (left_rows taken (suc more) c) → get_or (left_rows taken (suc more) c) i 0 < get_or (left_rows taken (suc more) c) j 0
    by_cases (inl held) later i j lt lj =
        let e = left_taken taken more c held in
        subst (λ xs. get_or xs i 0 < get_or xs j 0) (sym e) (later i j lt (let s = ap length e in omega arith))
    by_cases (inr free) later i zero lt lj = absurd (omega arith)
    by_cases (inr free) later zero (suc j) lt lj =
        let e = left_free taken more c free in
        let good = left_at taken more (suc c) j (let s = ap length e in omega arith) in
        subst (λ xs. get_or xs 0 0 < get_or xs (suc j) 0) (sym e) (omega (arith, good.0))
    by_cases (inr free) later (suc i) (suc j) lt lj =
        let e = left_free taken more c free in
        subst (λ xs. get_or xs (suc i) 0 < get_or xs (suc j) 0) (sym e) (later i j (omega arith) (let s = ap length e in omega arith))

-- each row that isn't taken is one of them
abbrev pub Finds : List ℕ → ℕ → Type 0
Finds xs x = (j : ℕ) × (j < length xs) × (get_or xs j 0 ≡ x)

pub left_has : (taken : List ℕ) (more c x : ℕ) → c ≤ x → x < c + more → has taken x ≡ false → Finds (left_rows taken more c) x
left_has taken zero c x le lt free = absurd (omega arith)
left_has taken (suc more) c x le lt free = by_cases (cases_Bool (has taken c)) (cases_eq c x) (λ l. left_has taken more (suc c) x l (omega arith) free)
  where
    by_cases : (has taken c ≡ true) ⊎ (has taken c ≡ false) → (c ≡ x) ⊎ (c ≢ x) → (suc c ≤ x → Finds (left_rows taken more (suc c)) x) → Finds (left_rows taken (suc more) c) x
    by_cases (inl held) (inl e) later = absurd (both_ways (has taken c) (ap (has taken) e ∙ free) held)
    by_cases (inl held) (inr apart) later = subst (λ xs. Finds xs x) (sym (left_taken taken more c held)) (later (omega (arith, apart, le)))
    by_cases (inr here) (inl e) later = subst (λ xs. Finds xs x) (sym (left_free taken more c here)) (0, omega arith, e)
    by_cases (inr here) (inr apart) later =
        let found = later (omega (arith, apart, le)) in
        subst (λ xs. Finds xs x) (sym (left_free taken more c here)) (suc found.0, omega (arith, found.1), found.2)

-- with one row more taken there is one less
pub left_same : (old new : List ℕ) (more c : ℕ) → ((x : ℕ) → c ≤ x → x < c + more → has new x ≡ has old x) → left_rows new more c ≡ left_rows old more c
left_same old new zero c h = refl
left_same old new (suc more) c h =
    let here = h c (omega arith) (omega arith) in
    let rest = left_same old new more (suc c) (λ x le lt. h x (omega arith) (omega arith)) in
    cc

pub left_less : (old new : List ℕ) (r more c : ℕ) → c ≤ r → r < c + more → has old r ≡ false → has new r ≡ true → ((x : ℕ) → x ≢ r → has new x ≡ has old x) → suc (length (left_rows new more c)) ≡ length (left_rows old more c)
left_less old new r zero c le lt free held h = absurd (omega arith)
left_less old new r (suc more) c le lt free held h = by_cases (cases_eq c r) (λ l. left_less old new r more (suc c) l (omega arith) free held h)
  where
    further : c ≢ r → suc (length (left_rows new more (suc c))) ≡ length (left_rows old more (suc c)) → (has old c ≡ true) ⊎ (has old c ≡ false) → suc (length (left_rows new (suc more) c)) ≡ length (left_rows old (suc more) c)
    further apart rest (inl gone) = ap (λ xs. suc (length xs)) (left_taken new more c (h c apart ∙ gone)) ∙ rest ∙ ap length (sym (left_taken old more c gone))
    further apart rest (inr stays) = ap (λ xs. suc (length xs)) (left_free new more c (h c apart ∙ stays)) ∙ ap suc rest ∙ ap length (sym (left_free old more c stays))

    by_cases : (c ≡ r) ⊎ (c ≢ r) → (suc c ≤ r → suc (length (left_rows new more (suc c))) ≡ length (left_rows old more (suc c))) → suc (length (left_rows new (suc more) c)) ≡ length (left_rows old (suc more) c)
    by_cases (inl e) later =
        let rest = left_same old new more (suc c) (λ x l u. h x (λ s. omega (arith, s, e, l))) in
        ap (λ xs. suc (length xs)) (left_taken new more c (ap (has new) e ∙ held)) ∙ ap (λ xs. suc (length xs)) rest ∙ ap length (sym (left_free old more c (ap (has old) e ∙ free)))
    by_cases (inr apart) later = further apart (later (omega (arith, apart, le))) (cases_Bool (has old c))

-- ---- numbers in a list
pub has_at : (xs : List ℕ) (x : ℕ) → has xs x ≡ true → Finds xs x
has_at [] x e = absurd (both_ways false refl e)
has_at (y ∷ ys) x e = by_cases (cases_eq y x) (λ l. has_at ys x l)
  where
    by_cases : (y ≡ x) ⊎ (y ≢ x) → (has ys x ≡ true → Finds ys x) → Finds (y ∷ ys) x
    by_cases (inl same) rest = (0, omega arith, same)
    by_cases (inr apart) rest =
        let later : has ys x ≡ true = sym (ap (λ b. b || has ys x) (ne_eqb y x apart)) ∙ e in
        let found = rest later in
        (suc found.0, omega (arith, found.1), found.2)

pub at_has : (xs : List ℕ) (j : ℕ) → j < length xs → has xs (get_or xs j 0) ≡ true
at_has [] j lt = absurd (omega arith)
at_has (y ∷ ys) zero lt = ap (λ b. b || has ys y) (eq-eqb y y refl)
at_has (y ∷ ys) (suc j) lt = let rest = at_has ys j (omega arith) in later (nat_eq y (get_or ys j 0)) (has ys (get_or ys j 0)) rest
  where
    later : (a b : Bool) → b ≡ true → (a || b) ≡ true
    later true b e = refl
    later false b e = e

pub once_apart : (xs : List ℕ) (i j : ℕ) → AreOnce xs → i < j → j < length xs → get_or xs i 0 ≢ get_or xs j 0
once_apart [] i j h lt lj = absurd (omega arith)
once_apart (x ∷ xs) i zero h lt lj = absurd (omega arith)
once_apart (x ∷ xs) zero (suc j) h lt lj = λ e. both_ways (has xs x) h.0 (ap (has xs) e ∙ at_has xs j (omega arith))
once_apart (x ∷ xs) (suc i) (suc j) h lt lj = once_apart xs i j h.1 (omega arith) (omega arith)

pub has_last : (xs : List ℕ) (r x : ℕ) → has (xs ++ r ∷ []) x ≡ (nat_eq r x || has xs x)
has_last [] r x = refl
has_last (y ∷ ys) r x = let rest = has_last ys r x in ap (λ b. nat_eq y x || b) rest ∙ swap (nat_eq y x) (nat_eq r x) (has ys x)
  where
    swap : (a b c : Bool) → (a || (b || c)) ≡ (b || (a || c))
    swap true true c = refl
    swap true false c = refl
    swap false b c = refl

pub once_last : (xs : List ℕ) (r : ℕ) → AreOnce xs → has xs r ≡ false → AreOnce (xs ++ r ∷ [])
once_last [] r h none = (refl, tt)
once_last (y ∷ ys) r h none = by_cases (cases_eq y r) (λ l. once_last ys r h.1 l)
  where
    by_cases : (y ≡ r) ⊎ (y ≢ r) → (has ys r ≡ false → AreOnce (ys ++ r ∷ [])) → AreOnce (y ∷ (ys ++ r ∷ []))
    by_cases (inl e) later = absurd (both_ways (has (y ∷ ys) r) none (ap (λ b. b || has ys r) (eq-eqb y r e)))
    by_cases (inr apart) later =
        let rest : has ys r ≡ false = sym (ap (λ b. b || has ys r) (ne_eqb y r apart)) ∙ none in
        let other = ne_eqb r y (λ s. apart (sym s)) in
        (has_last ys r y ∙ ap (λ b. b || has ys y) other ∙ h.0, later rest)

-- ---- the rows that are left are the customers that follow
left_last : (taken : List ℕ) (more c x : ℕ) → c + more ≡ x → left_rows taken (suc more) c ≡ left_rows taken more c ++ left_rows taken (suc zero) x
left_last taken zero c x e = ap (left_rows taken (suc zero)) (let s : c ≡ x = omega arith in s)
left_last taken (suc more) c x e = by_cases (cases_Bool (has taken c)) (left_last taken more (suc c) x (omega arith))
  where
    by_cases : (has taken c ≡ true) ⊎ (has taken c ≡ false) → left_rows taken (suc more) (suc c) ≡ left_rows taken more (suc c) ++ left_rows taken (suc zero) x
        → left_rows taken (suc (suc more)) c ≡ left_rows taken (suc more) c ++ left_rows taken (suc zero) x
    by_cases (inl held) rest = left_taken taken (suc more) c held ∙ rest ∙ ap (λ xs. xs ++ left_rows taken (suc zero) x) (sym (left_taken taken more c held))
    by_cases (inr free) rest = left_free taken (suc more) c free ∙ ap (λ xs. c ∷ xs) rest ∙ ap (λ xs. xs ++ left_rows taken (suc zero) x) (sym (left_free taken more c free))

pub left_split : (taken : List ℕ) (a b c d : ℕ) → c + a ≡ d → left_rows taken (a + b) c ≡ left_rows taken a c ++ left_rows taken b d
left_split taken zero b c d e =
    let s : c ≡ d = omega arith in
    let z : zero + b ≡ b = omega arith in
    ap (λ k. left_rows taken k c) z ∙ ap (left_rows taken b) s
left_split taken (suc a) b c d e = by_cases (cases_Bool (has taken c)) (left_split taken a b (suc c) d (omega arith)) (omega arith)
  where
    by_cases : (has taken c ≡ true) ⊎ (has taken c ≡ false) → left_rows taken (a + b) (suc c) ≡ left_rows taken a (suc c) ++ left_rows taken b d → suc a + b ≡ suc (a + b)
        → left_rows taken (suc a + b) c ≡ left_rows taken (suc a) c ++ left_rows taken b d
    by_cases (inl held) rest more = ap (λ k. left_rows taken k c) more ∙ left_taken taken (a + b) c held ∙ rest ∙ ap (λ xs. xs ++ left_rows taken b d) (sym (left_taken taken a c held))
    by_cases (inr free) rest more = ap (λ k. left_rows taken k c) more ∙ left_free taken (a + b) c free ∙ ap (λ xs. c ∷ xs) rest ∙ ap (λ xs. xs ++ left_rows taken b d) (sym (left_free taken a c free))

follow_skip : (n more c : ℕ) (before : List Column) (xs : List ℕ) → (AreIndependent n (before ++ helper c ∷ []) → ⊥) → Follow n more (suc c) before xs → Follow n (suc more) c before xs
follow_skip n more c before [] none rest = (none, rest)
follow_skip n more c before (x ∷ xs) none rest = inr (none, rest)

module _ (n : ℕ) (taken : List ℕ) (first : List Column)
    (none : (x : ℕ) → x < n → has taken x ≡ true → AreIndependent n ((first ++ map helper (left_rows taken x 0)) ++ helper x ∷ []) → ⊥) where
  follow_from : (more c : ℕ) → c + more ≡ n → AreIndependent n ((first ++ map helper (left_rows taken c 0)) ++ map helper (left_rows taken more c)) → Follow n more c (first ++ map helper (left_rows taken c 0)) (left_rows taken more c)
  follow_from zero c e free = tt
  follow_from (suc more) c e free = by_cases (cases_Bool (has taken c)) (follow_from more (suc c) (omega arith)) (omega arith)
    where
      by_cases : (has taken c ≡ true) ⊎ (has taken c ≡ false)
          → (AreIndependent n ((first ++ map helper (left_rows taken (suc c) 0)) ++ map helper (left_rows taken more (suc c))) → Follow n more (suc c) (first ++ map helper (left_rows taken (suc c) 0)) (left_rows taken more (suc c)))
          → c < n → Follow n (suc more) c (first ++ map helper (left_rows taken c 0)) (left_rows taken (suc more) c)
      by_cases (inl held) goes_on inside =
          let z : 0 + c ≡ c = omega arith in
          let last = left_last taken c 0 c z ∙ ap (λ xs. left_rows taken c 0 ++ xs) (left_taken taken zero c held) ∙ append-nil (left_rows taken c 0) in
          let same : first ++ map helper (left_rows taken (suc c) 0) ≡ first ++ map helper (left_rows taken c 0) = ap (λ xs. first ++ map helper xs) last in
          let cut = left_taken taken more c held in
          let free2 : AreIndependent n ((first ++ map helper (left_rows taken (suc c) 0)) ++ map helper (left_rows taken more (suc c))) =
          subst (λ xs. AreIndependent n (xs ++ map helper (left_rows taken more (suc c)))) (sym same) (subst (λ xs. AreIndependent n ((first ++ map helper (left_rows taken c 0)) ++ map helper xs)) cut free) in
          let rest = subst (λ xs. Follow n more (suc c) xs (left_rows taken more (suc c))) same (goes_on free2) in
          subst (λ xs. Follow n (suc more) c (first ++ map helper (left_rows taken c 0)) xs) (sym cut) (follow_skip n more c (first ++ map helper (left_rows taken c 0)) (left_rows taken more (suc c)) (none c inside held) rest)
      by_cases (inr mine) goes_on inside =
          let z : 0 + c ≡ c = omega arith in
          let last = left_last taken c 0 c z ∙ ap (λ xs. left_rows taken c 0 ++ xs) (left_free taken zero c mine) in
          let same : first ++ map helper (left_rows taken (suc c) 0) ≡ (first ++ map helper (left_rows taken c 0)) ++ helper c ∷ [] =
          ap (λ xs. first ++ map helper xs) last ∙ ap (λ xs. first ++ xs) (map-append helper (left_rows taken c 0) (c ∷ [])) ∙ sym (append_assoc first (map helper (left_rows taken c 0)) (helper c ∷ [])) in
          let cut = left_free taken more c mine in
          let longer : AreIndependent n (((first ++ map helper (left_rows taken c 0)) ++ helper c ∷ []) ++ map helper (left_rows taken more (suc c))) =
          subst (AreIndependent n) (sym (append_assoc (first ++ map helper (left_rows taken c 0)) (helper c ∷ []) (map helper (left_rows taken more (suc c)))))
          (subst (λ xs. AreIndependent n ((first ++ map helper (left_rows taken c 0)) ++ map helper xs)) cut free) in
          let free2 : AreIndependent n ((first ++ map helper (left_rows taken (suc c) 0)) ++ map helper (left_rows taken more (suc c))) = subst (λ xs. AreIndependent n (xs ++ map helper (left_rows taken more (suc c)))) (sym same) longer in
          let rest = subst (λ xs. Follow n more (suc c) xs (left_rows taken more (suc c))) same (goes_on free2) in
          let here = first_independent n ((first ++ map helper (left_rows taken c 0)) ++ helper c ∷ []) (map helper (left_rows taken more (suc c))) longer in
          subst (λ xs. Follow n (suc more) c (first ++ map helper (left_rows taken c 0)) xs) (sym cut) (inl (refl, here, rest))

  pub follows : AreIndependent n (first ++ map helper (left_rows taken n 0)) → Follow n n 0 first (left_rows taken n 0)
  follows free =
      let nothing = append-nil first in
      subst (λ xs. Follow n n 0 xs (left_rows taken n 0)) nothing
      (follow_from n 0 (omega arith) (subst (λ xs. AreIndependent n (xs ++ map helper (left_rows taken n 0))) (sym nothing) free))
