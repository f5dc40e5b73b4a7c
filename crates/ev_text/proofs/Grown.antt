-- A text that goes on is read as before, up to where it ended.
use Rattle.std.proofs.Common.{◌≡◌, ◌≢◌, ◌∙◌, ◌⊎◌, inl, inr, ℕ, ◌≤◌, List, [], ◌∷◌, ◌++◌, length, length-append, length-drop, Result, Ok, Err, refl, sym, ap, subst, append_assoc, append-nil, arith}
use Rattle.std.proofs.lemmas.List.{drop-append-le}
use Rattle.ev_text.specs.Scans.{and_then, past, rest_of, word_at, IsPrefixOf, IsProperPrefix}
use Rattle.ev_text.specs.Texts.{IsNoEnd}
use Rattle.ev_text.specs.declared.TextFault.{TextFault}
use Rattle.ev_text.specs.declared.TextFault.TheVariants.{End, Word}
use Rattle.ev_text.proofs.Readings.{word_at-cases, word_at-differs, word_at-word}

-- the same place in a text that goes on
abbrev pub grown : List ℕ → List ℕ × ℕ → List ℕ × ℕ
grown more s = (s.0 ++ more, s.1)

abbrev pub Within : List ℕ × ℕ → Type 0
Within s = s.1 ≤ length s.0

pub rest_of-grown : (more : List ℕ) (s : List ℕ × ℕ) → Within s → rest_of (grown more s) ≡ rest_of s ++ more
rest_of-grown more s within = drop-append-le s.1 s.0 more within

-- what an answer tells of the answer in a text that goes on: a value stands if something is left behind it, a fault if it is no
-- early end and Still says that it stands however the text goes on; and at the end of the text there is no other fault
abbrev pub Stays : {A : Type 0} → (TextFault → List ℕ → List ℕ → Type 0) → List ℕ → List ℕ × ℕ → Result (A × (List ℕ × ℕ)) TextFault → Result (A × (List ℕ × ℕ)) TextFault → Type 0
Stays Still more s (Ok found) later = (found.1.0 ≡ s.0) × Within found.1 × (rest_of s ≡ [] → rest_of found.1 ≡ []) × (rest_of found.1 ≢ [] → later ≡ Ok (found.0, grown more found.1))
Stays Still more s (Err fault) later = (rest_of s ≡ [] → IsNoEnd fault → ⊥) × (IsNoEnd fault → Still fault s.0 more → later ≡ Err fault)

-- each fault that is no early end stands
abbrev pub Always : TextFault → List ℕ → List ℕ → Type 0
Always fault text more = Unit {0}

abbrev pub Keeps : {A : Type 0} → List ℕ → List ℕ × ℕ → Result (A × (List ℕ × ℕ)) TextFault → Result (A × (List ℕ × ℕ)) TextFault → Type 0
Keeps more s here later = Stays Always more s here later

module _ (Still : TextFault → List ℕ → List ℕ → Type 0) where
  -- what always stands
  pub stays-of_keeps : {A : Type 0} (more : List ℕ) (s : List ℕ × ℕ) (here later : Result (A × (List ℕ × ℕ)) TextFault) → Keeps more s here later → Stays Still more s here later
  stays-of_keeps more s (Ok found) later keeps = keeps
  stays-of_keeps more s (Err fault) later keeps = (keeps.0, λ no_end still. keeps.1 no_end tt)

  -- from a later place on
  stays-from : {A : Type 0} (more : List ℕ) (s t : List ℕ × ℕ) (here later : Result (A × (List ℕ × ℕ)) TextFault) → t.0 ≡ s.0 → (rest_of s ≡ [] → rest_of t ≡ []) → Stays Still more t here later → Stays Still more s here later
  stays-from more s t (Ok found) later same ended stays = (stays.0 ∙ same, stays.1, λ none. stays.2 (ended none), stays.3)
  stays-from more s t (Err fault) later same ended stays =
      (λ none. stays.0 (ended none), λ no_end still. stays.1 no_end (subst (λ (xs : List ℕ). Still fault xs more) (sym same) still))

  -- one reader behind another
  pub stays-then : {A B : Type 0} (more : List ℕ) (s : List ℕ × ℕ) (here later : Result (A × (List ℕ × ℕ)) TextFault) (next next_later : A × (List ℕ × ℕ) → Result (B × (List ℕ × ℕ)) TextFault)
      → Stays Still more s here later
      → ((value : A) (t : List ℕ × ℕ) → here ≡ Ok (value, t) → Within t → Stays Still more t (next (value, t)) (next_later (value, grown more t)))
      → Stays Still more s (and_then here next) (and_then later next_later)
  stays-then more s (Err fault) later next next_later stays nexts = (stays.0, λ no_end still. ap (λ r. and_then r next_later) (stays.1 no_end still))
  stays-then {A} {B} more s (Ok (value, t)) later next next_later stays nexts = by (next (value, t)) (nexts value t refl stays.1)
    where
      by : (answer : Result (B × (List ℕ × ℕ)) TextFault) → Stays Still more t answer (next_later (value, grown more t)) → Stays Still more s answer (and_then later next_later)
      by (Ok found) then = (
        then.0 ∙ stays.0,
        then.1,
        λ none. then.2 (stays.2 none),
        λ some. ap (λ r. and_then r next_later) (stays.3 (λ none. some (then.2 none))) ∙ then.3 some,
      )
      by (Err fault) then = (
        λ none. then.0 (stays.2 none),
        λ no_end still. ap (λ r. and_then r next_later) (stays.3 (λ none. then.0 none no_end)) ∙ then.1 no_end (subst (λ (xs : List ℕ). Still fault xs more) (sym stays.0) still),
      )

pub keeps-ok : {A : Type 0} (more : List ℕ) (s : List ℕ × ℕ) (value : A) → Within s → Keeps more s (Ok (value, s)) (Ok (value, grown more s))
keeps-ok more s value within = (refl, within, λ none. none, λ some. refl)

-- a word that stands at a place ends within the text
pub past_within : (word rest : List ℕ) (s : List ℕ × ℕ) → Within s → rest_of s ≡ word ++ rest → Within (past word s)
past_within word rest s within e = omega (arith, length-drop s.1 s.0, ap (λ xs. length xs) e, length-append word rest)

pub no_list_is_shorter : (b : ℕ) (bs rest : List ℕ) → (b ∷ bs) ++ rest ≡ [] → ⊥
no_list_is_shorter b bs rest same = cc

-- two texts that begin alike: one is the beginning of the other
shared_front : (xs ys zs ws : List ℕ) → xs ++ ys ≡ zs ++ ws → IsPrefixOf zs xs ⊎ IsPrefixOf xs zs
shared_front [] ys zs ws e = inr (zs, refl)
shared_front (x ∷ xs) ys [] ws e = inl (x ∷ xs, refl)
shared_front (x ∷ xs) ys (z ∷ zs) ws e =
    let first : x ≡ z = cc in
    let others : xs ++ ys ≡ zs ++ ws = cc in
    elim (shared_front xs ys zs ws others) [ inl h ↦ inl (h.0, λ i. first i ∷ h.1 i) | inr h ↦ inr (h.0, λ i. (sym first) i ∷ h.1 i) ]

-- a text that differs from a word differs from it however it goes on
still_differs : (word rest more : List ℕ) → ¬ (IsPrefixOf word rest) → ¬ (IsProperPrefix rest word) → ¬ (IsPrefixOf word (rest ++ more))
still_differs word rest more other uncut (r, e) = elim (shared_front rest more word r e) [ inl h ↦ other h | inr h ↦ by h.0 h.1 ]
  where
    by : (c : List ℕ) → word ≡ rest ++ c → ⊥
    by [] is = other ([], sym (append-nil word ∙ is ∙ append-nil rest))
    by (x ∷ xs) is = uncut (x ∷ xs, is, λ none. absurd (cc))

still_uncut : (word rest more : List ℕ) → ¬ (IsProperPrefix rest word) → ¬ (IsProperPrefix (rest ++ more) word)
still_uncut word rest more uncut (m, e, some) = uncut (more ++ m, e ∙ append_assoc rest more m, λ none. some (behind_nothing more m none))
  where
    behind_nothing : (xs ys : List ℕ) → xs ++ ys ≡ [] → ys ≡ []
    behind_nothing [] ys none = none
    behind_nothing (x ∷ xs) ys none = absurd (cc)

-- the answers for a word, each with what it tells of the answer in a text that goes on
pub word_at-grown : (b : ℕ) (bs more : List ℕ) (s : List ℕ × ℕ) (P : Result (List ℕ × ℕ) TextFault → Result (List ℕ × ℕ) TextFault → Type 0) → Within s
    → ((t : List ℕ × ℕ) → Within t → t ≡ past (b ∷ bs) s → rest_of s ≢ [] → P (Ok t) (Ok (grown more t)))
    → ((later : Result (List ℕ × ℕ) TextFault) → IsProperPrefix (rest_of s) (b ∷ bs) → P (Err (End s.1)) later)
    → (rest_of s ≢ [] → P (Err (Word s.1)) (Err (Word s.1)))
    → P (word_at (b ∷ bs) s) (word_at (b ∷ bs) (grown more s))
word_at-grown b bs more s P within stands cut differs =
    word_at-cases (b ∷ bs) s (λ r. P r (word_at (b ∷ bs) (grown more s)))
    (λ (rest, e).
    let t = past (b ∷ bs) s in
    let later : word_at (b ∷ bs) (grown more s) ≡ Ok (grown more t) = word_at-word (b ∷ bs) (rest ++ more) (grown more s) (is ∙ ap (λ xs. xs ++ more) e ∙ append_assoc (b ∷ bs) rest more) in
    subst (λ (r : Result (List ℕ × ℕ) TextFault). P (Ok t) r) (sym later) (stands t (past_within (b ∷ bs) rest s within e) refl (λ none. no_list_is_shorter b bs rest (sym e ∙ none))))
    (λ short. cut (word_at (b ∷ bs) (grown more s)) short)
    (λ other uncut.
    let later : word_at (b ∷ bs) (grown more s) ≡ Err (Word s.1) =
    (word_at-differs (b ∷ bs) (grown more s)).1 (
      λ h. still_differs (b ∷ bs) (rest_of s) more other uncut (h.0, sym is ∙ h.1),
      λ h. still_uncut (b ∷ bs) (rest_of s) more uncut (h.0, h.1 ∙ ap (λ xs. xs ++ h.0) is, h.2),
    ) in
    subst (λ (r : Result (List ℕ × ℕ) TextFault). P (Err (Word s.1)) r) (sym later) (differs (λ none. uncut (b ∷ bs, ap (λ xs. xs ++ (b ∷ bs)) (sym none), λ same. absurd (cc)))))
  where
    is : rest_of (grown more s) ≡ rest_of s ++ more
    is = rest_of-grown more s within

module _ (Still : TextFault → List ℕ → List ℕ → Type 0) where
  -- a word, and what follows it
  pub stays-word : {B : Type 0} (b : ℕ) (bs more : List ℕ) (s : List ℕ × ℕ) (next next_later : List ℕ × ℕ → Result (B × (List ℕ × ℕ)) TextFault)
      → Within s
      → ((t : List ℕ × ℕ) → Within t → Stays Still more t (next t) (next_later (grown more t)))
      → Stays Still more s (and_then (word_at (b ∷ bs) s) next) (and_then (word_at (b ∷ bs) (grown more s)) next_later)
  stays-word {B} b bs more s next next_later within nexts =
      word_at-grown b bs more s (λ here later. Stays Still more s (and_then here next) (and_then later next_later)) within
      (λ t inside moved some. stays-from Still more s t (next t) (next_later (grown more t)) (ap (λ (u : List ℕ × ℕ). u.0) moved) (λ none. absurd (some none)) (nexts t inside))
      (λ later short. (λ none no_end. no_end, λ no_end still. absurd no_end))
      (λ some. (λ none no_end. some none, λ no_end still. refl))
