-- A reader of texts without range rules: what stands before a fault begins a text that it reads, and a fault that is no early end
-- stands however the text goes on. Here is what its parts owe, each by the law for readers with range rules.
use Rattle.std.proofs.Common.{◌≡◌, ◌≢◌, ◌∙◌, ℕ, ◌+◌, ◌^◌, ◌<◌, ◌≤◌, Bool, true, false, List, [], ◌∷◌, ◌++◌, decimal, length, Result, Ok, Err, nat_eq, refl, sym, ap, arith, if◌then◌else◌}
use Rattle.std.proofs.lemmas.Bool.{eqb-false, ne_eqb}
use Rattle.ev_text.specs.Numerals.{BeginsWithoutDigit}
use Rattle.ev_text.specs.Readers.{Reader, behind_word, answer, positive_at, then_reads}
use Rattle.ev_text.specs.Scans.{and_then, past, rest_of, whole_at}
use Rattle.ev_text.specs.Texts.{IsTextOf}
use Rattle.ev_text.specs.declared.TextFault.{TextFault}
use Rattle.ev_text.specs.declared.TextFault.TheVariants.{NotWhole}
use Rattle.ev_text.proofs.Grown.{Always, Within, grown, stays-of_keeps}
use Rattle.ev_text.proofs.GrownNumbers.{keeps-positive, keeps-whole, unless_zero}
use Rattle.ev_text.proofs.Mended.{mended-positive, mended-whole}
use Rattle.ev_text.proofs.Readings.{TakesNumber-from_whole_at, number_read}
use Rattle.ev_text.proofs.ReadingLaws.{Reads, reads-answer, reads-as, reads-behind, reads-moves, reads-then}
use Rattle.ev_text.proofs.Results.{Err-ne-Ok, Ok-injective, and_then-ok}

-- a reader reads the texts of values that fit, in front of what may stand behind each
abbrev pub IsReader : {A : Type 0} → Reader A → (A → List ℕ) → (A → Type 0) → (A → List ℕ → Type 0) → Type 0
IsReader read text Fits Before = Reads Always read text Fits Fits Before

-- it is one with any range rules as well
pub reads-reader : {A : Type 0} (Still : TextFault → List ℕ → List ℕ → Type 0) (read : Reader A) (text : A → List ℕ) (Fits : A → Type 0) (Before : A → List ℕ → Type 0)
    → IsReader read text Fits Before → Reads Still read text Fits Fits Before
reads-reader Still read text Fits Before reader = record {
  example = reader.example;
  loose = reader.loose;
  standing = reader.standing;
  taken = reader.taken;
  stays = λ more s within. stays-of_keeps Still more s (read s) (read (grown more s)) (reader.stays more s within);
  mended = reader.mended;
}

-- what was taken moves the scan by its text
pub reader-moves : {A : Type 0} (read : Reader A) (text : A → List ℕ) (Fits : A → Type 0) (Before : A → List ℕ → Type 0) → IsReader read text Fits Before
    → (s t : List ℕ × ℕ) (value : A) → Within s → read s ≡ Ok (value, t) → (t.1 ≡ s.1 + length (text value)) × Within t × (t.0 ≡ s.0)
reader-moves read text Fits Before = reads-moves Always read text Fits Fits Before

-- the same reader, by other words
pub record SameTexts {A : Type 0} (text other : A → List ℕ) (Fits Others : A → Type 0) (Before Behind : A → List ℕ → Type 0) : Type 0 where
  pub texts : (value : A) → Fits value → text value ≡ other value
  pub to : (value : A) → Fits value → Others value
  pub from : (value : A) → Others value → Fits value
  pub before : (value : A) (rest : List ℕ) → Others value → Behind value rest → Before value rest

pub reader-as : {A : Type 0} (read : Reader A) (text other : A → List ℕ) (Fits Others : A → Type 0) (Before Behind : A → List ℕ → Type 0)
    → SameTexts text other Fits Others Before Behind → IsReader read text Fits Before → IsReader read other Others Behind
reader-as read text other Fits Others Before Behind same =
    reads-as Always read text other Fits Others Fits Others Before Behind
    (record { texts = same.texts; to = same.to; from = same.from; to_loose = same.to; before = same.before })

-- a value that nothing is read for
pub reader-answer : {A : Type 0} (own : A) → IsReader (answer own) (λ value. []) (λ value. value ≡ own) (λ value rest. Unit {0})
reader-answer own = reads-answer Always own

-- a reader, and what stands behind its value
pub reader-then : {A B : Type 0} (read : Reader A) (next : A → Reader B) (text : A → List ℕ) (rest_text : A → B → List ℕ) (Fits : A → Type 0) (Others : B → Type 0)
    (Before : A → List ℕ → Type 0) (Behind : B → List ℕ → Type 0) (first : B → A) → IsReader read text Fits Before
    → ((value : A) → Fits value → IsReader (next value) (rest_text value) (λ whole. Others whole × (first whole ≡ value)) Behind)
    → ((whole : B) → Others whole → Fits (first whole))
    → ((whole : B) (rest : List ℕ) → Others whole → Behind whole rest → Before (first whole) (rest_text (first whole) whole ++ rest))
    → IsReader (then_reads read next) (λ whole. text (first whole) ++ rest_text (first whole) whole) Others Behind
reader-then read next text rest_text Fits Others Before Behind first reader readers fits_first before_rest =
    reads-then Always read next text rest_text Fits Fits Others Others Before Behind first reader readers fits_first (λ whole others. others)
    (λ value fits. (readers value fits).example) before_rest

-- a word, and what stands behind it
pub reader-behind : {A : Type 0} (b : ℕ) (bs : List ℕ) (read : Reader A) (text : A → List ℕ) (Fits : A → Type 0) (Before : A → List ℕ → Type 0)
    → IsReader read text Fits Before → IsReader (behind_word (b ∷ bs) read) (λ value. (b ∷ bs) ++ text value) Fits Before
reader-behind b bs read text Fits Before = reads-behind Always b bs read text Fits Fits Before

-- a number up to a limit
pub reader-number : (limit : ℕ) → limit < 10 ^ 64 → IsReader (whole_at limit) (λ n. decimal n) (λ n. n ≤ limit) (λ n rest. BeginsWithoutDigit rest)
reader-number limit small = record {
  example = (0, omega arith);
  loose = λ n fits. fits;
  standing = λ s t n is. let takes = TakesNumber-from_whole_at limit s n t small is in (takes.within, takes.number.spelled);
  taken = λ n rest s fits before e. let number = number_read limit n rest s (omega arith) fits e before in record { after = past (decimal n) s; is = number.0; left = number.1 };
  stays = λ more s within. keeps-whole limit more s within;
  mended = λ s fault within is. mended-whole (IsTextOf (λ n. decimal n) (λ n. n ≤ limit)) s fault limit (decimal 0) is (0, omega arith, refl);
}

-- a number from 1 up to a limit
pub reader-positive : (limit : ℕ) → 1 ≤ limit → limit < 10 ^ 64 → IsReader (positive_at limit) (λ n. decimal n) (λ n. (0 < n) × (n ≤ limit)) (λ n rest. BeginsWithoutDigit rest)
reader-positive limit some small = record {
  example = (1, (omega arith, some));
  loose = λ n fits. fits;
  standing = λ s t n is. positive s t n is;
  taken = λ n rest s fits before e.
      let above = fits.0 in
      let within = fits.1 in
      let number = number_read limit n rest s (omega arith) within e before in
      let test : nat_eq n 0 ≡ false = ne_eqb n 0 (λ zero_is. absurd (omega arith)) in
      record { after = past (decimal n) s; is = rw (number.0, test) refl; left = number.1 };
  stays = λ more s within. keeps-positive limit more s small within;
  mended = λ s fault within is. mended-positive (IsTextOf (λ n. decimal n) (λ n. (0 < n) × (n ≤ limit))) s fault limit (decimal 1) is (1, (omega arith, some), refl);
}
  where
    positive : (s t : List ℕ × ℕ) (n : ℕ) → positive_at limit s ≡ Ok (n, t) → ((0 < n) × (n ≤ limit)) × (rest_of s ≡ decimal n ++ rest_of t)
    positive s t n is =
        let parts = and_then-ok (whole_at limit s) (unless_zero s) (n, t) is in
        by (nat_eq parts.0.0 0) parts.0 refl parts.1 parts.2
      where
        by : (zero_test : Bool) (found : ℕ × (List ℕ × ℕ)) → nat_eq found.0 0 ≡ zero_test → whole_at limit s ≡ Ok found → (if zero_test then Err (NotWhole s.1) else Ok found) ≡ Ok (n, t) → ((0 < n) × (n ≤ limit)) × (rest_of s ≡ decimal n ++ rest_of t)
        by true found test is same = absurd (Err-ne-Ok (NotWhole s.1) (n, t) same)
        by false found test is same =
            let found_is : found ≡ (n, t) = Ok-injective found (n, t) same in
            let takes = TakesNumber-from_whole_at limit s n t small (is ∙ same) in
            let above : n ≢ 0 = eqb-false n 0 (ap (λ (p : ℕ × (List ℕ × ℕ)). nat_eq p.0 0) (sym found_is) ∙ test) in
            ((omega arith, takes.within), takes.number.spelled)
