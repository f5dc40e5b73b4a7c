-- A reader of a record reads its parts one after another, and answers what is made of them. It is proved from its parts: a line or
-- two for each, and then how the parts and the record belong together.
use Rattle.std.proofs.Common.{◌≡◌, ◌∙◌, inl, inr, ℕ, List, [], ◌∷◌, ◌++◌, Result, Ok, Err, refl, sym, ap, subst, append_assoc}
use Rattle.ev_text.specs.Readers.{Reader, answer, behind_word, then_reads}
use Rattle.ev_text.specs.Scans.{and_then, past, rest_of, word_at}
use Rattle.ev_text.specs.Texts.{Begins, IsTextOf}
use Rattle.ev_text.specs.declared.TextFault.{TextFault}
use Rattle.ev_text.proofs.Grown.{Stays, Within, grown, past_within, stays-then, stays-word}
use Rattle.ev_text.proofs.Mended.{IsMended, behind, mended-behind, mended-map, mended-word}
use Rattle.ev_text.proofs.Readings.{TakesWord-from_word_at, word_read}
use Rattle.ev_text.proofs.ReadingLaws.{Reads, Takes, reads-moves}
use Rattle.ev_text.proofs.Results.{Err-ne-Ok, Ok-injective, and_then-ok, fault_of_two}

-- a reader reads the texts of parts that fit, in front of what may stand behind them, and answers what is made of them; what
-- stands before a fault begins the text of parts that fit loosely
pub record ReadsParts {R B : Type 0} (Still : TextFault → List ℕ → List ℕ → Type 0) (read : Reader B) (make : R → B) (text : R → List ℕ) (Fits Loose : R → Type 0) (Before : R → List ℕ → Type 0) : Type 0 where
  pub example : (parts : R) × Loose parts
  pub loose : (parts : R) → Fits parts → Loose parts
  -- what was taken stands there
  pub standing : (s t : List ℕ × ℕ) (value : B) → read s ≡ Ok (value, t) → (parts : R) × Fits parts × (make parts ≡ value) × (rest_of s ≡ text parts ++ rest_of t)
  -- what stands there is taken
  pub taken : (parts : R) (rest : List ℕ) (s : List ℕ × ℕ) → Fits parts → Before parts rest → rest_of s ≡ text parts ++ rest → Takes (read s) (make parts) rest
  -- a text that goes on is read as before
  pub stays : (more : List ℕ) (s : List ℕ × ℕ) → Within s → Stays Still more s (read s) (read (grown more s))
  -- what stands before a fault can be continued
  pub mended : (s : List ℕ × ℕ) (fault : TextFault) → Within s → read s ≡ Err fault → IsMended (IsTextOf text Loose) s fault

-- ---- the last part

-- no part is left
pub parts-none : {B : Type 0} {Still : TextFault → List ℕ → List ℕ → Type 0} (own : B) → ReadsParts {R = Unit {0}} Still (answer own) (λ none. own) (λ none. []) (λ none. Unit {0}) (λ none. Unit {0}) (λ none rest. Unit {0})
parts-none {B} {Still} own = record {
  example = (tt, tt);
  loose = λ none fits. tt;
  standing = λ s t value is.
      let same = Ok-injective (own, s) (value, t) is in
      (tt, tt, ap (λ (p : B × (List ℕ × ℕ)). p.0) same, ap (λ (p : B × (List ℕ × ℕ)). rest_of p.1) same);
  taken = λ none rest s fits before e. record { after = s; is = refl; left = e };
  stays = λ more s within. (refl, within, λ none. none, λ some. refl);
  mended = λ s fault within is. absurd (Err-ne-Ok fault (own, s) (sym is));
}

-- what is read is the value
pub parts-own : {B : Type 0} {Still : TextFault → List ℕ → List ℕ → Type 0} {read : Reader B} {text : B → List ℕ} {Fits Loose : B → Type 0} {Before : B → List ℕ → Type 0}
    → Reads Still read text Fits Loose Before → ReadsParts Still read (λ value. value) text Fits Loose Before
parts-own {B} {Still} {read} {text} {Fits} {Loose} {Before} reader = record {
  example = reader.example;
  loose = reader.loose;
  standing = λ s t value is. let stands = reader.standing s t value is in (value, stands.0, refl, stands.1);
  taken = reader.taken;
  stays = reader.stays;
  mended = reader.mended;
}

abbrev made_of : {A B : Type 0} → (A → B) → A × (List ℕ × ℕ) → Result (B × (List ℕ × ℕ)) TextFault
made_of make found = Ok (make found.0, found.1)

-- the value is made of one part
pub parts-last : {A B : Type 0} {Still : TextFault → List ℕ → List ℕ → Type 0} {read : Reader A} {text : A → List ℕ} {Fits Loose : A → Type 0} {Before : A → List ℕ → Type 0}
    → Reads Still read text Fits Loose Before → (make : A → B) → ReadsParts Still (then_reads read (λ a. answer (make a))) make text Fits Loose Before
parts-last {A} {B} {Still} {read} {text} {Fits} {Loose} {Before} reader make = record {
  example = reader.example;
  loose = reader.loose;
  standing = λ s t value is.
      let found = and_then-ok (read s) (made_of make) (value, t) is in
      let stands = reader.standing s found.0.1 found.0.0 found.1 in
      let same = Ok-injective (make found.0.0, found.0.1) (value, t) found.2 in
      (found.0.0, stands.0, ap (λ (p : B × (List ℕ × ℕ)). p.0) same, stands.1 ∙ ap (λ (p : B × (List ℕ × ℕ)). text found.0.0 ++ rest_of p.1) same);
  taken = λ a rest s fits before e.
      let takes = reader.taken a rest s fits before e in
      record { after = takes.after; is = ap (λ r. and_then r (made_of make)) takes.is; left = takes.left };
  stays = λ more s within.
      stays-then Still more s (read s) (read (grown more s)) (made_of make) (made_of make) (reader.stays more s within) (λ a t is inside. (refl, inside, λ none. none, λ some. refl));
  mended = λ s fault within is. elim (fault_of_two (read s) (made_of make) fault is) [
    | inl none ↦ reader.mended s fault within none
    | inr h ↦ absurd (Err-ne-Ok fault (make h.0.0, h.0.1) (sym h.2))
  ];
}

-- ---- a word in front of parts

pub parts-behind : {R B : Type 0} {Still : TextFault → List ℕ → List ℕ → Type 0} {read : Reader B} {make : R → B} {text : R → List ℕ} {Fits Loose : R → Type 0} {Before : R → List ℕ → Type 0} (b : ℕ) (bs : List ℕ)
    → ReadsParts Still read make text Fits Loose Before → ReadsParts Still (behind_word (b ∷ bs) read) make (λ parts. (b ∷ bs) ++ text parts) Fits Loose Before
parts-behind {R} {B} {Still} {read} {make} {text} {Fits} {Loose} {Before} b bs reader = record {
  example = reader.example;
  loose = reader.loose;
  standing = λ s t value is.
      let found = and_then-ok (word_at (b ∷ bs) s) read (value, t) is in
      let takes = TakesWord-from_word_at (b ∷ bs) s found.0 found.1 in
      let stands = reader.standing found.0 t value found.2 in
      (stands.0, stands.1, stands.2, takes.standing ∙ ap (λ xs. (b ∷ bs) ++ xs) stands.3 ∙ sym (append_assoc (b ∷ bs) (text stands.0) (rest_of t)));
  taken = λ parts rest s fits before e.
      let word = word_read (b ∷ bs) (text parts ++ rest) s (e ∙ append_assoc (b ∷ bs) (text parts) rest) in
      let takes = reader.taken parts rest (past (b ∷ bs) s) fits before word.1 in
      record { after = takes.after; is = ap (λ r. and_then r read) word.0 ∙ takes.is; left = takes.left };
  stays = λ more s within. stays-word Still b bs more s read read within (λ t inside. reader.stays more t inside);
  mended = λ s fault within is. elim (fault_of_two (word_at (b ∷ bs) s) read fault is) [
    | inl none ↦ mended-word (IsTextOf (λ parts. (b ∷ bs) ++ text parts) Loose) s fault (b ∷ bs) (text reader.example.0) none (reader.example.0, reader.example.1, refl)
    | inr h ↦
        let takes = TakesWord-from_word_at (b ∷ bs) s h.0 h.1 in
        mended-behind (IsTextOf (λ parts. (b ∷ bs) ++ text parts) Loose) s fault (b ∷ bs) h.0 takes.standing (ap (λ (u : List ℕ × ℕ). u.1) takes.moved)
        (mended-map (IsTextOf text Loose) (behind (b ∷ bs) (IsTextOf (λ parts. (b ∷ bs) ++ text parts) Loose)) h.0 fault
        (λ back begins. (begins.0, (begins.1.0, begins.1.1, ap (λ xs. (b ∷ bs) ++ xs) begins.1.2)))
        (reader.mended h.0 fault (subst Within (sym takes.moved) (past_within (b ∷ bs) (rest_of h.0) s within takes.standing)) h.2))
  ];
}

-- ---- a part in front of others

abbrev pub both_text : {A : Type 0} {R : A → Type 0} → (A → List ℕ) → ((a : A) → R a → List ℕ) → (a : A) × R a → List ℕ
both_text text more_text parts = text parts.0 ++ more_text parts.0 parts.1

abbrev pub BothFit : {A : Type 0} {R : A → Type 0} → (A → Type 0) → ((a : A) → R a → Type 0) → (a : A) × R a → Type 0
BothFit Fits MoreFit parts = Fits parts.0 × MoreFit parts.0 parts.1

abbrev onward : {A B : Type 0} → (A → Reader B) → A × (List ℕ × ℕ) → Result (B × (List ℕ × ℕ)) TextFault
onward next found = next found.0 found.1

-- what stands behind a part may depend on it
pub parts-then : {A B : Type 0} {R : A → Type 0} {Still : TextFault → List ℕ → List ℕ → Type 0} {read : Reader A} {next : A → Reader B} {text : A → List ℕ} {Fits Loose : A → Type 0} {Before : A → List ℕ → Type 0}
    {make : (a : A) → R a → B} {more_text : (a : A) → R a → List ℕ} {MoreFit MoreLoose : (a : A) → R a → Type 0} {Behind : (a : A) → R a → List ℕ → Type 0}
    → Reads Still read text Fits Loose Before
    → ((a : A) → ReadsParts Still (next a) (make a) (more_text a) (MoreFit a) (MoreLoose a) (Behind a))
    → ((a : A) (more : R a) (rest : List ℕ) → Fits a → MoreFit a more → Behind a more rest → Before a (more_text a more ++ rest))
    → ReadsParts {R = (a : A) × R a} Still (then_reads read next) (λ parts. make parts.0 parts.1) (both_text text more_text) (BothFit Fits MoreFit) (BothFit Loose MoreLoose) (λ parts rest. Behind parts.0 parts.1 rest)
parts-then {A} {B} {R} {Still} {read} {next} {text} {Fits} {Loose} {Before} {make} {more_text} {MoreFit} {MoreLoose} {Behind} reader others follows = record {
  example = let some = (others reader.example.0).example in ((reader.example.0, some.0), (reader.example.1, some.1));
  loose = λ parts fits. (reader.loose parts.0 fits.0, (others parts.0).loose parts.1 fits.1);
  standing = λ s t value is.
      let found = and_then-ok (read s) (onward next) (value, t) is in
      let a = found.0.0 in
      let front = reader.standing s found.0.1 a found.1 in
      let back = (others a).standing found.0.1 t value found.2 in
      ((a, back.0), (front.0, back.1), back.2, front.1 ∙ ap (λ xs. text a ++ xs) back.3 ∙ sym (append_assoc (text a) (more_text a back.0) (rest_of t)));
  taken = λ parts rest s fits before e.
      let front =
      reader.taken parts.0 (more_text parts.0 parts.1 ++ rest) s fits.0 (follows parts.0 parts.1 rest fits.0 fits.1 before) (e ∙ append_assoc (text parts.0) (more_text parts.0 parts.1) rest) in
      let back = (others parts.0).taken parts.1 rest front.after fits.1 before front.left in
      record { after = back.after; is = ap (λ r. and_then r (onward next)) front.is ∙ back.is; left = back.left };
  stays = λ more s within.
      stays-then Still more s (read s) (read (grown more s)) (onward next) (onward next) (reader.stays more s within) (λ a t is inside. (others a).stays more t inside);
  mended = λ s fault within is. elim (fault_of_two (read s) (onward next) fault is) [
    | inl none ↦ mended-map (IsTextOf text Loose) (IsTextOf (both_text text more_text) (BothFit Loose MoreLoose)) s fault completed (reader.mended s fault within none)
    | inr h ↦
        let a = h.0.0 in
        let u = h.0.1 in
        let front = reader.standing s u a h.1 in
        let moves = reads-moves Still read text Fits Loose Before reader s u a within h.1 in
        mended-behind (IsTextOf (both_text text more_text) (BothFit Loose MoreLoose)) s fault (text a) u front.1 moves.0
        (mended-map (IsTextOf (more_text a) (MoreLoose a)) (behind (text a) (IsTextOf (both_text text more_text) (BothFit Loose MoreLoose))) u fault (in_front a (reader.loose a front.0))
        ((others a).mended u fault moves.1 h.2))
  ];
}
  where
    completed : (front : List ℕ) → Begins (IsTextOf text Loose) front → Begins (IsTextOf (both_text text more_text) (BothFit Loose MoreLoose)) front
    completed front begins =
        let a = begins.1.0 in
        let some = (others a).example in (
          begins.0 ++ more_text a some.0,
          ((a, some.0), (begins.1.1, some.1), ap (λ xs. xs ++ more_text a some.0) begins.1.2 ∙ append_assoc front begins.0 (more_text a some.0)),
        )

    in_front : (a : A) → Loose a → (back : List ℕ) → Begins (IsTextOf (more_text a) (MoreLoose a)) back → Begins (behind (text a) (IsTextOf (both_text text more_text) (BothFit Loose MoreLoose))) back
    in_front a loose back begins = (begins.0, ((a, begins.1.0), (loose, begins.1.1), ap (λ xs. text a ++ xs) begins.1.2))

-- ---- the record

-- how parts and records belong together
pub record IsMadeOf {R B : Type 0} (make : R → B) (text : R → List ℕ) (record_text : B → List ℕ) (Fits Loose : R → Type 0) (RecordFits RecordLoose : B → Type 0) (Before : R → List ℕ → Type 0) (Behind : B → List ℕ → Type 0) : Type 0 where
  -- a record that fits has parts
  pub parts : (value : B) → RecordFits value → (parts : R) × Fits parts × (make parts ≡ value) × ((rest : List ℕ) → Behind value rest → Before parts rest)
  pub fits : (parts : R) → Fits parts → RecordFits (make parts)
  pub loose : (parts : R) → Loose parts → RecordLoose (make parts)
  pub texts : (parts : R) → Loose parts → text parts ≡ record_text (make parts)

-- parts that are arranged otherwise, with what is made of the one as of the other
pub parts-as : {R Q B : Type 0} {Still : TextFault → List ℕ → List ℕ → Type 0} {read : Reader B} {make : R → B} {text : R → List ℕ} {Fits Loose : R → Type 0} {Before : R → List ℕ → Type 0}
    {arrange : R → Q} {new_text : Q → List ℕ} {NewFits NewLoose : Q → Type 0} {Behind : Q → List ℕ → Type 0}
    → ReadsParts Still read make text Fits Loose Before → IsMadeOf arrange text new_text Fits Loose NewFits NewLoose Before Behind
    → (new_make : Q → B) → ((parts : R) → new_make (arrange parts) ≡ make parts) → ReadsParts Still read new_make new_text NewFits NewLoose Behind
parts-as {R} {Q} {B} {Still} {read} {make} {text} {Fits} {Loose} {Before} {arrange} {new_text} {NewFits} {NewLoose} {Behind} reader made new_make same = record {
  example = (arrange reader.example.0, made.loose reader.example.0 reader.example.1);
  loose = λ q fits. let p = made.parts q fits in subst NewLoose p.2 (made.loose p.0 (reader.loose p.0 p.1));
  standing = λ s t value is.
      let p = reader.standing s t value is in
      (arrange p.0, made.fits p.0 p.1, same p.0 ∙ p.2, p.3 ∙ ap (λ xs. xs ++ rest_of t) (made.texts p.0 (reader.loose p.0 p.1)));
  taken = λ q rest s fits before e.
      let p = made.parts q fits in
      let text_is : text p.0 ≡ new_text q = made.texts p.0 (reader.loose p.0 p.1) ∙ ap new_text p.2 in
      subst (λ (v : B). Takes (read s) v rest) (sym (same p.0) ∙ ap new_make p.2) (reader.taken p.0 rest s p.1 (p.3 rest before) (e ∙ ap (λ xs. xs ++ rest) (sym text_is)));
  stays = reader.stays;
  mended = λ s fault within is.
      mended-map (IsTextOf text Loose) (IsTextOf new_text NewLoose) s fault
      (λ front begins. (begins.0, (arrange begins.1.0, made.loose begins.1.0 begins.1.1, sym (made.texts begins.1.0 begins.1.1) ∙ begins.1.2))) (reader.mended s fault within is);
}

-- what is made of the parts is the value
of_own : {B : Type 0} {Still : TextFault → List ℕ → List ℕ → Type 0} {read : Reader B} {text : B → List ℕ} {Fits Loose : B → Type 0} {Before : B → List ℕ → Type 0}
    → ReadsParts Still read (λ value. value) text Fits Loose Before → Reads Still read text Fits Loose Before
of_own {B} {Still} {read} {text} {Fits} {Loose} {Before} reader = record {
  example = reader.example;
  loose = reader.loose;
  standing = λ s t value is.
      let p = reader.standing s t value is in
      (subst Fits p.2 p.1, p.3 ∙ ap (λ (v : B). text v ++ rest_of t) p.2);
  taken = reader.taken;
  stays = reader.stays;
  mended = reader.mended;
}

-- a reader of parts reads the texts of the records that are made of them
pub reads-record : {R B : Type 0} {Still : TextFault → List ℕ → List ℕ → Type 0} {read : Reader B} {make : R → B} {text : R → List ℕ} {Fits Loose : R → Type 0} {Before : R → List ℕ → Type 0}
    {record_text : B → List ℕ} {RecordFits RecordLoose : B → Type 0} {Behind : B → List ℕ → Type 0}
    → ReadsParts Still read make text Fits Loose Before → IsMadeOf make text record_text Fits Loose RecordFits RecordLoose Before Behind → Reads Still read record_text RecordFits RecordLoose Behind
reads-record {R} {B} {Still} {read} {make} {text} {Fits} {Loose} {Before} {record_text} {RecordFits} {RecordLoose} {Behind} reader made = of_own (parts-as reader made (λ value. value) (λ parts. refl))
