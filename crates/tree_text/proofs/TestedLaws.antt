-- What a reader owes whose value is tested once it is whole, and one in whose place a byte may not stand.
use Rattle.std.proofs.Common.{◌≡◌, ◌∙◌, inl, inr, ℕ, ◌+◌, ◌<◌, Bool, true, false, List, [], ◌∷◌, ◌++◌, Option, None, Some, length, length-append, length-take, take, drop, Result, Ok, Err, refl, sym, ap, subst, append_assoc, arith, if◌then◌else◌}
use Rattle.std.proofs.lemmas.Bool.{false≢true}
use Rattle.std.proofs.lemmas.List.{take-append-drop}
use Rattle.ev_text.specs.Readers.{Reader, optional_at}
use Rattle.ev_text.specs.Scans.{and_then, rest_of}
use Rattle.ev_text.specs.Texts.{IsNoEnd, IsTextOf, fault_place}
use Rattle.ev_text.specs.declared.TextFault.{TextFault}
use Rattle.ev_text.specs.declared.TextFault.TheVariants.{TooLarge}
use Rattle.ev_text.proofs.ChoiceLaws.{BeginsOtherwise, keeps-optional, optional_is_left, optional_left, optional_never_fails, optional_stands, optional_taken}
use Rattle.ev_text.proofs.Grown.{Stays, Within, grown, rest_of-grown, stays-of_keeps, stays-then}
use Rattle.ev_text.proofs.Mended.{IsMended, mended-here}
use Rattle.ev_text.proofs.Numbers.{Anything}
use Rattle.ev_text.proofs.ReadingLaws.{Reads, Takes}
use Rattle.ev_text.proofs.Results.{Err-ne-Ok, Ok-injective, and_then-ok, fault_of_two}
use Rattle.tree_text.specs.Asked.{or_told, tested_at, unless_byte}

Some-ne-None : {A : Type 0} (a : A) → ◌≡◌ {A = Option A} (Some a) None → ⊥
Some-ne-None a same = cc

module _ {A : Type 0} (Still : TextFault → List ℕ → List ℕ → Type 0) (read : Reader A) (broken : A → Option ℕ) (text : A → List ℕ) (Fits Loose : A → Type 0)
    (reader : Reads Still read text Fits Loose Anything) (inside : (a : A) (place : ℕ) → Fits a → broken a ≡ Some place → place < length (text a)) where
  abbrev onward : ℕ → A × (List ℕ × ℕ) → Result (A × (List ℕ × ℕ)) TextFault
  onward at found = or_told at found (broken found.0)

  abbrev PassesToo : A → Type 0
  PassesToo a = Fits a × (broken a ≡ None)

  passed : (s t : List ℕ × ℕ) (a : A) → tested_at read broken s ≡ Ok (a, t) → (read s ≡ Ok (a, t)) × (broken a ≡ None)
  passed s t a is =
      let found = and_then-ok (read s) (onward s.1) (a, t) is in
      by found.0 found.1 (broken found.0.0) refl found.2
    where
      by : (found : A × (List ℕ × ℕ)) → read s ≡ Ok found → (answer : Option ℕ) → broken found.0 ≡ answer → or_told s.1 found answer ≡ Ok (a, t) → (read s ≡ Ok (a, t)) × (broken a ≡ None)
      by found is_found None none e =
          let same = Ok-injective found (a, t) e in
          (is_found ∙ ap (λ f. Ok f) same, ap (λ (p : A × (List ℕ × ℕ)). broken p.0) (sym same) ∙ none)
      by found is_found (Some place) some e = absurd (Err-ne-Ok (TooLarge (s.1 + place)) (a, t) e)

  -- a value that was taken is taken too where the text goes on
  again : (more : List ℕ) (s t : List ℕ × ℕ) (a : A) → Within s → read s ≡ Ok (a, t) → Takes (read (grown more s)) a (rest_of t ++ more)
  again more s t a within is =
      let stands = reader.standing s t a is in
      reader.taken a (rest_of t ++ more) (grown more s) stands.0 tt (rest_of-grown more s within ∙ ap (λ xs. xs ++ more) stands.1 ∙ append_assoc (text a) (rest_of t) more)

  told : (more : List ℕ) (s : List ℕ × ℕ) → Within s → (a : A) (t : List ℕ × ℕ) → read s ≡ Ok (a, t) → Within t → (answer : Option ℕ) → broken a ≡ answer
      → Stays Still more s (or_told s.1 (a, t) answer) (tested_at read broken (grown more s))
  told more s within a t is after None none =
      let stays = subst (λ (r : Result (A × (List ℕ × ℕ)) TextFault). Stays Still more s r (read (grown more s))) is (reader.stays more s within) in
      (stays.0, stays.1, stays.2, λ left. ap (λ r. and_then r (onward s.1)) (stays.3 left) ∙ ap (λ answer. or_told s.1 (a, grown more t) answer) none)
  told more s within a t is after (Some place) some =
      let stands = reader.standing s t a is in
      let later = again more s t a within is in (
        λ none no_end. (let low = inside a place stands.0 some in omega (arith, low, ap (λ xs. length xs) (sym stands.1 ∙ none), length-append (text a) (rest_of t))),
        λ no_end still. ap (λ r. and_then r (onward s.1)) later.is ∙ ap (λ answer. or_told s.1 (a, later.after) answer) some,
      )

  pub reads-tested : Reads Still (tested_at read broken) text PassesToo Loose Anything
  reads-tested = record {
    example = reader.example;
    loose = λ a fits. reader.loose a fits.0;
    standing = λ s t a is.
        let found = passed s t a is in
        let stands = reader.standing s t a found.0 in
        ((stands.0, found.1), stands.1);
    taken = λ a rest s fits before e.
        let takes = reader.taken a rest s fits.0 tt e in
        record { after = takes.after; is = ap (λ r. and_then r (onward s.1)) takes.is ∙ ap (λ answer. or_told s.1 (a, takes.after) answer) fits.1; left = takes.left };
    stays = λ more s within. stay more s within (read s) refl;
    mended = λ s fault within is. elim (fault_of_two (read s) (onward s.1) fault is) [
      | inl none ↦ reader.mended s fault within none
      | inr h ↦ mend s fault h.0.0 h.0.1 h.1 (broken h.0.0) refl h.2
    ];
  }
    where
      stay : (more : List ℕ) (s : List ℕ × ℕ) → Within s → (r : Result (A × (List ℕ × ℕ)) TextFault) → read s ≡ r → Stays Still more s (and_then r (onward s.1)) (tested_at read broken (grown more s))
      stay more s within (Ok (a, t)) is =
          let stays = subst (λ (r : Result (A × (List ℕ × ℕ)) TextFault). Stays Still more s r (read (grown more s))) is (reader.stays more s within) in
          told more s within a t is stays.1 (broken a) refl
      stay more s within (Err fault) is =
          let stays = subst (λ (r : Result (A × (List ℕ × ℕ)) TextFault). Stays Still more s r (read (grown more s))) is (reader.stays more s within) in
          (stays.0, λ no_end still. ap (λ r. and_then r (onward s.1)) (stays.1 no_end still))

      mend : (s : List ℕ × ℕ) (fault : TextFault) (a : A) (t : List ℕ × ℕ) → read s ≡ Ok (a, t) → (answer : Option ℕ) → broken a ≡ answer → or_told s.1 (a, t) answer ≡ Err fault → IsMended (IsTextOf text Loose) s fault
      mend s fault a t is None none e = absurd (Err-ne-Ok fault (a, t) (sym e))
      mend s fault a t is (Some place) some e =
          let same : TooLarge (s.1 + place) ≡ fault = cc in
          let stands = reader.standing s t a is in
          let low = inside a place stands.0 some in
          record {
            front = take place (text a);
            back = drop place (text a) ++ rest_of t;
            parts = stands.1 ∙ ap (λ xs. xs ++ rest_of t) (sym (take-append-drop place (text a))) ∙ append_assoc (take place (text a)) (drop place (text a)) (rest_of t);
            place = omega (arith, ap fault_place (sym same), length-take place (text a), low);
            before = (drop place (text a), (a, reader.loose a stands.0, sym (take-append-drop place (text a))));
            ended = λ end. absurd (end (subst IsNoEnd same tt));
          }

-- a value in whose place a byte may not stand
module _ {A : Type 0} (Still : TextFault → List ℕ → List ℕ → Type 0) (b : ℕ) (read : Reader A) (text : A → List ℕ) (Fits Loose : A → Type 0)
    (reader : Reads Still read text Fits Loose Anything) (otherwise : (a : A) (rest : List ℕ) → Fits a → BeginsOtherwise b (text a ++ rest)) where
  abbrev unmarked : ℕ → Bool × (List ℕ × ℕ) → Result (A × (List ℕ × ℕ)) TextFault
  unmarked at marked = if marked.0 then Err (TooLarge at) else read marked.1

  stay : (more : List ℕ) (s : List ℕ × ℕ) → Within s → Stays Still more s (unless_byte b read s) (unless_byte b read (grown more s))
  stay more s within = by (optional_at (b ∷ []) s) refl
    where
      by : (here : Result (Bool × (List ℕ × ℕ)) TextFault) → optional_at (b ∷ []) s ≡ here → Stays Still more s (and_then here (unmarked s.1)) (unless_byte b read (grown more s))
      by (Err fault) is = absurd (optional_never_fails (b ∷ []) s fault is)
      by (Ok (true, t)) is =
          let stands = (optional_taken (b ∷ []) s t is).0 in
          let grows : rest_of (grown more s) ≡ (b ∷ []) ++ (rest_of t ++ more) = rest_of-grown more s within ∙ ap (λ xs. xs ++ more) stands in (
            λ none no_end. (let same : b ∷ rest_of t ≡ [] = sym stands ∙ none in cc),
            λ no_end still. ap (λ r. and_then r (unmarked s.1)) (optional_stands (b ∷ []) (rest_of t ++ more) (grown more s) grows),
          )
      by (Ok (false, t)) is =
          subst (λ (r : Result (Bool × (List ℕ × ℕ)) TextFault). Stays Still more s (and_then r (unmarked s.1)) (unless_byte b read (grown more s))) is
          (stays-then Still more s (optional_at (b ∷ []) s) (optional_at (b ∷ []) (grown more s)) (unmarked s.1) (unmarked s.1)
          (stays-of_keeps Still more s (optional_at (b ∷ []) s) (optional_at (b ∷ []) (grown more s)) (keeps-optional b more s within))
          (λ mark u found inside. left mark u (Ok-injective (false, t) (mark, u) (sym is ∙ found)) inside))
        where
          left : (mark : Bool) (u : List ℕ × ℕ) → ◌≡◌ {A = Bool × (List ℕ × ℕ)} (false, t) (mark, u) → Within u → Stays Still more u (unmarked s.1 (mark, u)) (unmarked s.1 (mark, grown more u))
          left true u same inside = absurd (false≢true (ap (λ (p : Bool × (List ℕ × ℕ)). p.0) same))
          left false u same inside = reader.stays more u inside

  pub reads-unless : Reads Still (unless_byte b read) text Fits Loose Anything
  reads-unless = record {
    example = reader.example;
    loose = reader.loose;
    standing = stood;
    taken = λ a rest s fits before e.
        let none = optional_is_left b [] (text a ++ rest) s e (otherwise a rest fits) in
        let takes = reader.taken a rest s fits tt e in
        record { after = takes.after; is = ap (λ r. and_then r (unmarked s.1)) none ∙ takes.is; left = takes.left };
    stays = stay;
    mended = λ s fault within is. elim (fault_of_two (optional_at (b ∷ []) s) (unmarked s.1) fault is) [
      | inl none ↦ absurd (optional_never_fails (b ∷ []) s fault none)
      | inr h ↦ mend s fault within h.0.0 h.0.1 h.1 h.2
    ];
  }
    where
      stood : (s t : List ℕ × ℕ) (a : A) → unless_byte b read s ≡ Ok (a, t) → Fits a × (rest_of s ≡ text a ++ rest_of t)
      stood s t a is =
          let marked = and_then-ok (optional_at (b ∷ []) s) (unmarked s.1) (a, t) is in
          by marked.0.0 marked.0.1 marked.1 marked.2
        where
          by : (mark : Bool) (u : List ℕ × ℕ) → optional_at (b ∷ []) s ≡ Ok (mark, u) → unmarked s.1 (mark, u) ≡ Ok (a, t) → Fits a × (rest_of s ≡ text a ++ rest_of t)
          by true u mark e = absurd (Err-ne-Ok (TooLarge s.1) (a, t) e)
          by false u mark e =
              let stands = reader.standing u t a e in
              (stands.0, ap rest_of (sym (optional_left (b ∷ []) s u mark)) ∙ stands.1)

      mend : (s : List ℕ × ℕ) (fault : TextFault) → Within s → (mark : Bool) (u : List ℕ × ℕ) → optional_at (b ∷ []) s ≡ Ok (mark, u) → unmarked s.1 (mark, u) ≡ Err fault → IsMended (IsTextOf text Loose) s fault
      mend s fault within true u mark e =
          let same : TooLarge s.1 ≡ fault = cc in
          mended-here (IsTextOf text Loose) s fault (text reader.example.0) (reader.example.0, reader.example.1, refl) (ap fault_place (sym same)) (λ end. absurd (end (subst IsNoEnd same tt)))
      mend s fault within false u mark e =
          let same : u ≡ s = optional_left (b ∷ []) s u mark in
          reader.mended s fault within (ap read (sym same) ∙ e)
