-- What readers of runs owe: so many items, where the rule for each depends on a state that goes from item to item.
use Rattle.std.proofs.Common.{◌≡◌, ◌∙◌, ℕ, zero, suc, List, [], ◌∷◌, ◌++◌, length, refl, sym, ap, subst, append_assoc, append-nil, arith}
use Rattle.std.specs.List.{All}
use Rattle.std.proofs.lemmas.List.Elements.{All-cons, All-head, All-nil, All-tail}
use Rattle.ev_text.specs.Readers.{Reader, answer, behind_word, exactly_from, many_from, so_many, then_reads}
use Rattle.ev_text.specs.Texts.{AreLooseRun, AreRun, ConsFrom, ConsLoose, joined_texts, marked_texts}
use Rattle.ev_text.specs.declared.TextFault.{TextFault}
use Rattle.ev_text.proofs.ListLaws.{cons_text}
use Rattle.ev_text.proofs.MarkedLaws.{ended_text}
use Rattle.ev_text.proofs.ReadingLaws.{Reads, reads-answer, reads-as, reads-behind, reads-then}

abbrev front_or : {A : Type 0} → A → List A → A
front_or some [] = some
front_or some (a ∷ all) = a

abbrev back : {A : Type 0} → List A → List A
back [] = []
back (a ∷ all) = all

abbrev pub ConsBehind : {A : Type 0} → (List A → List ℕ → Type 0) → List A → List ℕ → Type 0
ConsBehind MoreBefore [] rest = Unit {0}
ConsBehind MoreBefore (a ∷ all) rest = MoreBefore all rest

module _ {A : Type 0} (Still : TextFault → List ℕ → List ℕ → Type 0) (read : Reader A) (more : A → Reader (List A)) (text : A → List ℕ) (more_text : List A → List ℕ) (Fits Loose : A → Type 0) (MoreFit : A → List A → Type 0) (MoreLoose : List A → Type 0)
    (Before : A → List ℕ → Type 0) (MoreBefore : List A → List ℕ → Type 0) (reader : Reads Still read text Fits Loose Before) (others : (a : A) → Fits a → Reads Still (more a) more_text (MoreFit a) MoreLoose MoreBefore)
    (some_more : (all : List A) × MoreLoose all)
    (before_others : (a : A) (all : List A) (rest : List ℕ) → Fits a → MoreFit a all → MoreBefore all rest → Before a (more_text all ++ rest)) where
  abbrev OwnFits : A → List A → Type 0
  OwnFits a all = ConsFrom Fits MoreFit all × (front_or reader.example.0 all ≡ a)

  abbrev OwnLoose : A → List A → Type 0
  OwnLoose a all = ConsLoose Loose MoreLoose all × (front_or reader.example.0 all ≡ a)

  behind_first : (a : A) → Fits a → Reads Still (then_reads (more a) (λ rest. answer (a ∷ rest))) (λ all. more_text (back all)) (OwnFits a) (OwnLoose a) (ConsBehind MoreBefore)
  behind_first a fits =
      reads-as Still (then_reads (more a) (λ rest. answer (a ∷ rest))) (λ all. more_text (back all) ++ []) (λ all. more_text (back all)) (OwnFits a) (OwnFits a) (OwnLoose a) (OwnLoose a) (ConsBehind MoreBefore) (ConsBehind MoreBefore)
      (record { texts = λ all is. append-nil (more_text (back all)); to = λ all is. is; from = λ all is. is; to_loose = λ all is. is; before = λ all rest is before. before })
      (reads-then Still (more a) (λ rest. answer (a ∷ rest)) more_text (λ rest all. []) (MoreFit a) MoreLoose (OwnFits a) (OwnLoose a) MoreBefore (ConsBehind MoreBefore) back (others a fits)
      (λ rest fit. reads-as Still (answer (a ∷ rest)) (λ all. []) (λ all. []) (λ all. all ≡ a ∷ rest) (λ all. OwnFits a all × (back all ≡ rest)) (λ all. all ≡ a ∷ rest) (λ all. OwnLoose a all × (back all ≡ rest)) (λ all left. Unit {0}) (ConsBehind MoreBefore)
      (record {
        texts = λ all is. refl;
        to = λ all is. made all rest fit is;
        from = λ all is. parts all rest is.0 is.1;
        to_loose = λ all is. loosely_made all rest ((others a fits).loose rest fit) is;
        before = λ all left is before. tt;
      })
      (reads-answer Still (a ∷ rest)))
      fit_behind loosened completed before_behind)
    where
      made : (all rest : List A) → MoreFit a rest → all ≡ a ∷ rest → OwnFits a all × (back all ≡ rest)
      made all rest fit is = subst (λ (xs : List A). (ConsFrom Fits MoreFit xs × (front_or reader.example.0 xs ≡ a)) × (back xs ≡ rest)) (sym is) (((fits, fit), refl), refl)

      loosely_made : (all rest : List A) → MoreLoose rest → all ≡ a ∷ rest → OwnLoose a all × (back all ≡ rest)
      loosely_made all rest loose is = subst (λ (xs : List A). (ConsLoose Loose MoreLoose xs × (front_or reader.example.0 xs ≡ a)) × (back xs ≡ rest)) (sym is) (((reader.loose a fits, loose), refl), refl)

      parts : (all rest : List A) → OwnFits a all → back all ≡ rest → all ≡ a ∷ rest
      parts [] rest own is = absurd own.0
      parts (x ∷ xs) rest own is = λ i. own.1 i ∷ is i

      fit_behind : (all : List A) → OwnFits a all → MoreFit a (back all)
      fit_behind [] own = absurd own.0
      fit_behind (x ∷ xs) own = subst (λ (y : A). MoreFit y xs) own.1 own.0.1

      loosened : (all : List A) → OwnFits a all → OwnLoose a all
      loosened [] own = absurd own.0
      loosened (x ∷ xs) own = ((reader.loose x own.0.0, (others a fits).loose xs (subst (λ (y : A). MoreFit y xs) own.1 own.0.1)), own.1)

      completed : (rest : List A) → MoreLoose rest → (all : List A) × (OwnLoose a all × (back all ≡ rest))
      completed rest loose = (a ∷ rest, (((reader.loose a fits, loose), refl), refl))

      before_behind : (all : List A) (rest : List ℕ) → OwnFits a all → ConsBehind MoreBefore all rest → MoreBefore (back all) rest
      before_behind [] rest own before = absurd own.0
      before_behind (x ∷ xs) rest own before = before

  pub reads-cons : Reads Still (then_reads read (λ first. then_reads (more first) (λ rest. answer (first ∷ rest)))) (cons_text text more_text) (ConsFrom Fits MoreFit) (ConsLoose Loose MoreLoose) (ConsBehind MoreBefore)
  reads-cons =
      reads-as Still (then_reads read (λ first. then_reads (more first) (λ rest. answer (first ∷ rest)))) (λ all. text (front_or reader.example.0 all) ++ more_text (back all)) (cons_text text more_text)
      (ConsFrom Fits MoreFit) (ConsFrom Fits MoreFit) (ConsLoose Loose MoreLoose) (ConsLoose Loose MoreLoose) (ConsBehind MoreBefore) (ConsBehind MoreBefore)
      (record { texts = texts; to = λ all is. is; from = λ all is. is; to_loose = λ all is. is; before = λ all rest is before. before })
      (reads-then Still read (λ first. then_reads (more first) (λ rest. answer (first ∷ rest))) text (λ first all. more_text (back all)) Fits Loose (ConsFrom Fits MoreFit) (ConsLoose Loose MoreLoose) Before (ConsBehind MoreBefore) (front_or reader.example.0)
      reader behind_first fit_front loosened completed before_front)
    where
      texts : (all : List A) → ConsLoose Loose MoreLoose all → text (front_or reader.example.0 all) ++ more_text (back all) ≡ cons_text text more_text all
      texts [] fit = absurd fit
      texts (a ∷ all) fit = refl

      fit_front : (all : List A) → ConsFrom Fits MoreFit all → Fits (front_or reader.example.0 all)
      fit_front [] fit = absurd fit
      fit_front (a ∷ all) fit = fit.0

      loosened : (all : List A) → ConsFrom Fits MoreFit all → ConsLoose Loose MoreLoose all
      loosened [] fit = absurd fit
      loosened (a ∷ all) fit = (reader.loose a fit.0, (others a fit.0).loose all fit.1)

      completed : (a : A) → Loose a → (all : List A) × (ConsLoose Loose MoreLoose all × (front_or reader.example.0 all ≡ a))
      completed a loose = (a ∷ some_more.0, ((loose, some_more.1), refl))

      before_front : (all : List A) (rest : List ℕ) → ConsFrom Fits MoreFit all → ConsBehind MoreBefore all rest → Before (front_or reader.example.0 all) (more_text (back all) ++ rest)
      before_front [] rest fit before = absurd fit
      before_front (a ∷ all) rest fit before = before_others a all rest fit.0 fit.1 before

-- so many items, one behind the other
module _ {A S : Type 0} (Still : TextFault → List ℕ → List ℕ → Type 0) (read : S → Reader A) (next : S → A → S) (text : A → List ℕ) (Fits : S → A → Type 0) (Loose : A → Type 0) (Before : A → List ℕ → Type 0)
    (some : (a : A) × Loose a) (reader : (state : S) → Reads Still (read state) text (Fits state) Loose Before) where
  loose_run : (count : ℕ) → (items : List A) × AreLooseRun Loose count items
  loose_run zero = ([], tt)
  loose_run (suc count) = let rest = loose_run count in (some.0 ∷ rest.0, (some.1, rest.1))

  abbrev Whatever : List A → List ℕ → Type 0
  Whatever items rest = Unit {0}

  pub reads-many : (before_any : (a : A) (rest : List ℕ) → Before a rest) → (count : ℕ) (state : S) → Reads Still (many_from read next count state) (joined_texts text) (AreRun Fits next count state) (AreLooseRun Loose count) Whatever
  reads-many before_any zero state =
      reads-as Still (answer []) (λ items. []) (joined_texts text) (λ items. items ≡ []) (AreRun Fits next 0 state) (λ items. items ≡ []) (AreLooseRun Loose 0) Whatever Whatever
      (record {
        texts = λ items none. ap (joined_texts text) (sym none);
        to = λ items none. subst (AreRun Fits next 0 state) (sym none) (tt, refl);
        from = λ items are. nothing items are.1;
        to_loose = λ items none. subst (AreLooseRun Loose 0) (sym none) tt;
        before = λ items rest are before. tt;
      })
      (reads-answer Still [])
    where
      nothing : (items : List A) → length items ≡ 0 → items ≡ []
      nothing [] none = refl
      nothing (item ∷ items) none = absurd (omega (arith, none))
  reads-many before_any (suc count) state =
      reads-as Still (many_from read next (suc count) state) (cons_text text (joined_texts text)) (joined_texts text) (ConsFrom (Fits state) (λ a. AreRun Fits next count (next state a))) (AreRun Fits next (suc count) state)
      (ConsLoose Loose (AreLooseRun Loose count)) (AreLooseRun Loose (suc count)) (ConsBehind Whatever) Whatever
      (record { texts = texts; to = to; from = from; to_loose = to_loose; before = before })
      (reads-cons Still (read state) (λ a. many_from read next count (next state a)) text (joined_texts text) (Fits state) Loose (λ a. AreRun Fits next count (next state a)) (AreLooseRun Loose count) Before Whatever
      (reader state) (λ a fits. reads-many before_any count (next state a)) (loose_run count) (λ a items rest fits are any. before_any a (joined_texts text items ++ rest)))
    where
      texts : (items : List A) → ConsLoose Loose (AreLooseRun Loose count) items → cons_text text (joined_texts text) items ≡ joined_texts text items
      texts [] fit = absurd fit
      texts (item ∷ items) fit = refl

      to : (items : List A) → ConsFrom (Fits state) (λ a. AreRun Fits next count (next state a)) items → AreRun Fits next (suc count) state items
      to [] fit = absurd fit
      to (item ∷ items) fit = ((fit.0, fit.1.0), ap (λ n. suc n) fit.1.1)

      from : (items : List A) → AreRun Fits next (suc count) state items → ConsFrom (Fits state) (λ a. AreRun Fits next count (next state a)) items
      from [] are = absurd (omega (arith, are.1))
      from (item ∷ items) are = (are.0.0, (are.0.1, omega (arith, are.1)))

      to_loose : (items : List A) → ConsLoose Loose (AreLooseRun Loose count) items → AreLooseRun Loose (suc count) items
      to_loose [] fit = absurd fit
      to_loose (item ∷ items) fit = fit

      before : (items : List A) (rest : List ℕ) → AreRun Fits next (suc count) state items → Whatever items rest → ConsBehind Whatever items rest
      before [] rest are any = tt
      before (item ∷ items) rest are any = tt

  -- so many, each behind a byte, and a word that ends them
  module _ (b e : ℕ) (es : List ℕ) (before_mark : (a : A) (rest : List ℕ) → Before a (b ∷ rest)) (before_end : (a : A) (rest : List ℕ) → Before a (e ∷ rest)) where
    pub reads-exactly : (count : ℕ) (state : S) → Reads Still (exactly_from (b ∷ []) (e ∷ es) read next count state) (ended_text b e es text) (AreRun Fits next count state) (AreLooseRun Loose count) Whatever
    reads-exactly zero state =
        reads-as Still (behind_word (e ∷ es) (answer [])) (λ items. (e ∷ es) ++ []) (ended_text b e es text) (λ items. items ≡ []) (AreRun Fits next 0 state) (λ items. items ≡ []) (AreLooseRun Loose 0) Whatever Whatever
        (record {
          texts = λ items none. append-nil (e ∷ es) ∙ ap (ended_text b e es text) (sym none);
          to = λ items none. subst (AreRun Fits next 0 state) (sym none) (tt, refl);
          from = λ items are. nothing items are.1;
          to_loose = λ items none. subst (AreLooseRun Loose 0) (sym none) tt;
          before = λ items rest are before. tt;
        })
        (reads-behind Still e es (answer []) (λ items. []) (λ items. items ≡ []) (λ items. items ≡ []) Whatever (reads-answer Still []))
      where
        nothing : (items : List A) → length items ≡ 0 → items ≡ []
        nothing [] none = refl
        nothing (item ∷ items) none = absurd (omega (arith, none))
    reads-exactly (suc count) state =
        reads-as Still (exactly_from (b ∷ []) (e ∷ es) read next (suc count) state) (λ items. (b ∷ []) ++ cons_text text ended items) ended (ConsFrom (Fits state) (λ a. AreRun Fits next count (next state a))) (AreRun Fits next (suc count) state)
        (ConsLoose Loose (AreLooseRun Loose count)) (AreLooseRun Loose (suc count)) (ConsBehind Whatever) Whatever
        (record { texts = texts; to = to; from = from; to_loose = to_loose; before = before })
        (reads-behind Still b [] (then_reads (read state) (λ first. then_reads (exactly_from (b ∷ []) (e ∷ es) read next count (next state first)) (λ others. answer (first ∷ others)))) (cons_text text ended)
        (ConsFrom (Fits state) (λ a. AreRun Fits next count (next state a))) (ConsLoose Loose (AreLooseRun Loose count)) (ConsBehind Whatever)
        (reads-cons Still (read state) (λ a. exactly_from (b ∷ []) (e ∷ es) read next count (next state a)) text ended (Fits state) Loose (λ a. AreRun Fits next count (next state a)) (AreLooseRun Loose count) Before Whatever
        (reader state) (λ a fits. reads-exactly count (next state a)) (loose_run count) (λ a items rest fits are any. before_others a items rest)))
      where
        ended : List A → List ℕ
        ended = ended_text b e es text

        texts : (items : List A) → ConsLoose Loose (AreLooseRun Loose count) items → (b ∷ []) ++ cons_text text (ended_text b e es text) items ≡ ended_text b e es text items
        texts [] fit = absurd fit
        texts (item ∷ items) fit = ap (λ xs. b ∷ xs) (sym (append_assoc (text item) (marked_texts (b ∷ []) text items) (e ∷ es)))

        to : (items : List A) → ConsFrom (Fits state) (λ a. AreRun Fits next count (next state a)) items → AreRun Fits next (suc count) state items
        to [] fit = absurd fit
        to (item ∷ items) fit = ((fit.0, fit.1.0), ap (λ n. suc n) fit.1.1)

        from : (items : List A) → AreRun Fits next (suc count) state items → ConsFrom (Fits state) (λ a. AreRun Fits next count (next state a)) items
        from [] are = absurd (omega (arith, are.1))
        from (item ∷ items) are = (are.0.0, (are.0.1, omega (arith, are.1)))

        to_loose : (items : List A) → ConsLoose Loose (AreLooseRun Loose count) items → AreLooseRun Loose (suc count) items
        to_loose [] fit = absurd fit
        to_loose (item ∷ items) fit = fit

        before : (items : List A) (rest : List ℕ) → AreRun Fits next (suc count) state items → Whatever items rest → ConsBehind Whatever items rest
        before [] rest are any = tt
        before (item ∷ items) rest are any = tt

        before_others : (a : A) (items : List A) (rest : List ℕ) → Before a (ended_text b e es text items ++ rest)
        before_others a [] rest = before_end a (es ++ rest)
        before_others a (item ∷ items) rest = before_mark a ((text item ++ marked_texts (b ∷ []) text items) ++ (e ∷ es) ++ rest)

-- so many items, each by itself
module _ {A : Type 0} (Still : TextFault → List ℕ → List ℕ → Type 0) (read : Reader A) (text : A → List ℕ) (Fits Loose : A → Type 0) (Before : A → List ℕ → Type 0) (reader : Reads Still read text Fits Loose Before)
    (before_any : (a : A) (rest : List ℕ) → Before a rest) where
  abbrev AnythingBehind : List A → List ℕ → Type 0
  AnythingBehind items rest = Unit {0}

  abbrev AreMany : ℕ → List A → Type 0
  AreMany count items = All Fits items × (length items ≡ count)

  loose_many : (count : ℕ) → (items : List A) × AreLooseRun Loose count items
  loose_many zero = ([], tt)
  loose_many (suc count) = let rest = loose_many count in (reader.example.0 ∷ rest.0, (reader.example.1, rest.1))

  pub reads-so_many : (count : ℕ) → Reads Still (so_many count read) (joined_texts text) (λ items. All Fits items × (length items ≡ count)) (AreLooseRun Loose count) AnythingBehind
  reads-so_many zero =
      reads-as Still (answer []) (λ items. []) (joined_texts text) (λ items. items ≡ []) (AreMany 0) (λ items. items ≡ []) (AreLooseRun Loose 0) AnythingBehind AnythingBehind
      (record {
        texts = λ items none. ap (joined_texts text) (sym none);
        to = λ items none. subst (AreMany 0) (sym none) (All-nil Fits, refl);
        from = λ items are. nothing items are.1;
        to_loose = λ items none. subst (AreLooseRun Loose 0) (sym none) tt;
        before = λ items rest are before. tt;
      })
      (reads-answer Still [])
    where
      nothing : (items : List A) → length items ≡ 0 → items ≡ []
      nothing [] none = refl
      nothing (item ∷ items) none = absurd (omega (arith, none))
  reads-so_many (suc count) =
      reads-as Still (so_many (suc count) read) (cons_text text (joined_texts text)) (joined_texts text) (ConsFrom Fits (λ a. AreMany count)) (AreMany (suc count))
      (ConsLoose Loose (AreLooseRun Loose count)) (AreLooseRun Loose (suc count)) (ConsBehind AnythingBehind) AnythingBehind
      (record { texts = texts; to = to; from = from; to_loose = to_loose; before = before })
      (reads-cons Still read (λ a. so_many count read) text (joined_texts text) Fits Loose (λ a. AreMany count) (AreLooseRun Loose count) Before AnythingBehind
      reader (λ a fits. reads-so_many count) (loose_many count) (λ a items rest fits are any. before_any a (joined_texts text items ++ rest)))
    where
      texts : (items : List A) → ConsLoose Loose (AreLooseRun Loose count) items → cons_text text (joined_texts text) items ≡ joined_texts text items
      texts [] fit = absurd fit
      texts (item ∷ items) fit = refl

      to : (items : List A) → ConsFrom Fits (λ a. AreMany count) items → AreMany (suc count) items
      to [] fit = absurd fit
      to (item ∷ items) fit = (All-cons Fits item items fit.0 fit.1.0, ap (λ n. suc n) fit.1.1)

      from : (items : List A) → AreMany (suc count) items → ConsFrom Fits (λ a. AreMany count) items
      from [] are = absurd (omega (arith, are.1))
      from (item ∷ items) are = (All-head Fits item items are.0, (All-tail Fits item items are.0, omega (arith, are.1)))

      to_loose : (items : List A) → ConsLoose Loose (AreLooseRun Loose count) items → AreLooseRun Loose (suc count) items
      to_loose [] fit = absurd fit
      to_loose (item ∷ items) fit = fit

      before : (items : List A) (rest : List ℕ) → AreMany (suc count) items → AnythingBehind items rest → ConsBehind AnythingBehind items rest
      before [] rest are any = tt
      before (item ∷ items) rest are any = tt
