-- Lemmas about any text of certificates: those that the crates below keep to themselves, or have
-- for one text alone.
use Rattle.std.proofs.Common.{◌≡◌, ◌≢◌, ◌∙◌, ℕ, ◌<◌, ◌≤◌, ℤ, false, List, [], ◌∷◌, ◌++◌, get_or, length, map, Ok, Err, refl, sym, ap, append_assoc}
use Rattle.std.specs.List.{All}
use Rattle.std.proofs.lemmas.List.{append_cancel_left, get_or_read}
use Rattle.std.proofs.lemmas.List.Elements.{All-cons, All-head, All-nil, All-tail}
use Rattle.ev_model.specs.Network.{Network}
use Rattle.ev_text.specs.Readers.{Reader, whole_text}
use Rattle.ev_text.specs.Scans.{and_then, rest_of}
use Rattle.ev_text.specs.Texts.{AllFrom}
use Rattle.ev_text.specs.declared.TextFault.{TextFault}
use Rattle.ev_text.specs.declared.TextFault.TheVariants.{Word}
use Rattle.ev_text.proofs.ChoiceLaws.{BeforeChoice}
use Rattle.ev_text.proofs.WholeLaws.{whole_text-end, whole_text-more}
use Rattle.certificate_parts.specs.Limits.{most_bytes}
use Rattle.certificate_parts.specs.Ranges.{IsPrice}
use Rattle.certificate_parts.specs.Refusals.{as_refusal, or_refused}
use Rattle.certificate_parts.specs.Versions.{begins_another, text_in}
use Rattle.certificate_parts.specs.declared.cert_text.CertText.{CertText}
use Rattle.certificate_parts.proofs.ItemLoops.{refused_since}
use Rattle.certificate_parts.proofs.TextLaws.{read_on}
use Rattle.mixed_model.specs.Kinds.{network_of, no_network}

-- ---- lists

pub map_more : {A B : Type 0} (f : B → A) (items : List B) (item : B) → map f (items ++ item ∷ []) ≡ map f items ++ f item ∷ []
map_more f [] item = refl
map_more f (x ∷ xs) item = ap (λ ys. f x ∷ ys) (map_more f xs item)

pub all_both : {A : Type 0} (P Q : A → Type 0) (xs : List A) → All P xs → All Q xs → All (λ x. P x × Q x) xs
all_both P Q [] all every = All-nil (λ x. P x × Q x)
all_both P Q (x ∷ xs) all every = All-cons (λ x. P x × Q x) x xs (All-head P x xs all, All-head Q x xs every) (all_both P Q xs (All-tail P x xs all) (All-tail Q x xs every))

-- the kind that stands at a number
pub kind_is : (kinds : List Network) (kind : ℕ) (g : Network) → kind < length kinds → g ≡ get_or kinds kind g → network_of kinds kind ≡ g
kind_is kinds kind g known is = sym (get_or_read kinds kind g known is no_network)

-- ---- parts

-- a word that differs from a text behind what both begin with
pub other_behind : (front : List ℕ) (b c : ℕ) (word rest : List ℕ) → c ≢ b → BeforeChoice (front ++ b ∷ word) false (front ++ c ∷ rest)
other_behind front b c word rest other = (
  λ h. other (first_byte (append_cancel_left front (c ∷ rest) (b ∷ (word ++ h.0)) (h.1 ∙ append_assoc front (b ∷ word) h.0))),
  λ h. other (sym (first_byte (append_cancel_left front (b ∷ word) (c ∷ (rest ++ h.0)) (h.1 ∙ append_assoc front (c ∷ rest) h.0)))),
)
  where
    first_byte : {x y : ℕ} {xs ys : List ℕ} → x ∷ xs ≡ y ∷ ys → x ≡ y
    first_byte same = cc

pub each_price : (prices : List ℤ) → AllFrom {S = Unit {0}} (λ none price. IsPrice price) (λ none price. none) (tt {0}) prices → All IsPrice prices
each_price [] all = All-nil IsPrice
each_price (p ∷ ps) all = All-cons IsPrice p ps all.0 (each_price ps all.1)

-- ---- a text as a whole, which begins with a word and a version

module _ {A : Type 0} (b : ℕ) (bs : List ℕ) (version : ℕ) (read : Reader A) (bytes : List ℕ) (within : length bytes ≤ most_bytes) (own : begins_another (b ∷ bs) version bytes ≡ false) (s : List ℕ × ℕ) (start : s ≡ (bytes, 0)) where
  pub all_is_read : (t : List ℕ × ℕ) (value : A) → read s ≡ Ok (value, t) → rest_of t ≡ [] → text_in (b ∷ bs) version read bytes ≡ Ok value
  all_is_read t value found none =
      read_on b bs version read bytes within own
      ∙ ap (λ r. or_refused (and_then r whole_text)) (ap read (sym start) ∙ found)
      ∙ ap or_refused (whole_text-end value t none)

  pub fault_inside : (refusal : CertText) → or_refused (read s) ≡ Err refusal → text_in (b ∷ bs) version read bytes ≡ Err refusal
  fault_inside refusal is =
      let found = refused_since (read s) refusal is in
      read_on b bs version read bytes within own
      ∙ ap (λ r. or_refused (and_then r whole_text)) (ap read (sym start) ∙ found.1)
      ∙ ap (λ r. Err r) found.2

  pub fault_behind : (t : List ℕ × ℕ) (value : A) (fault : TextFault) → read s ≡ Ok (value, t) → (rest_of t ≢ []) × (fault ≡ Word t.1) → text_in (b ∷ bs) version read bytes ≡ Err (as_refusal fault)
  fault_behind t value fault found (some, is) =
      read_on b bs version read bytes within own
      ∙ ap (λ r. or_refused (and_then r whole_text)) (ap read (sym start) ∙ found)
      ∙ ap or_refused (whole_text-more value t some)
      ∙ ap (λ f. Err (as_refusal f)) (sym is)
