-- Reading the lines of a certificate, one after another: the values so far, as they are written, in front of those that are left.
use Rattle.std.proofs.Common.{◌≡◌, ◌∙◌, ℕ, zero, suc, List, [], ◌∷◌, ◌++◌, length, map, Result, Ok, Err, refl, sym, ap, subst}
use Rattle.std.specs.List.{All}
use Rattle.std.proofs.lemmas.List.Elements.{All-push}
use Rattle.ev_text.specs.Readers.{Reader, so_many}
use Rattle.ev_text.specs.Scans.{and_then}
use Rattle.ev_text.specs.declared.TextFault.{TextFault}
use Rattle.ev_text.proofs.Loops.{IsReadUpTo, many-begins, many-breaks, many-ends, many-goes_on}
use Rattle.ev_text.proofs.Results.{Ok-injective, and_then-ok}
use Rattle.certificate_parts.specs.Refusals.{as_refusal, or_refused}
use Rattle.certificate_parts.specs.declared.cert_text.CertText.{CertText}

-- the refusal of a text is one of its places
pub refused_since : {A : Type 0} (r : Result A TextFault) (refusal : CertText) → or_refused r ≡ Err refusal → (fault : TextFault) × (r ≡ Err fault) × (as_refusal fault ≡ refusal)
refused_since (Ok value) refusal is = absurd (cc)
refused_since (Err fault) refusal is = (fault, refl, cc)

map_more : {A B : Type 0} (f : B → A) (items : List B) (item : B) → map f (items ++ item ∷ []) ≡ map f items ++ f item ∷ []
map_more f [] item = refl
map_more f (x ∷ xs) item = ap (λ ys. f x ∷ ys) (map_more f xs item)

pub all_more : {A : Type 0} (P : A → Type 0) (items more : List A) (item : A) → All P items → P item → more ≡ items ++ item ∷ [] → All P more
all_more P items more item all one is = subst (All P) (sym is) (All-push P items item all one)

-- so many are as many as asked for
pub many_length : {A : Type 0} (read : Reader A) (count : ℕ) (s t : List ℕ × ℕ) (items : List A) → so_many count read s ≡ Ok (items, t) → length items ≡ count
many_length {A} read zero s t items is = ap (λ (p : List A × (List ℕ × ℕ)). length p.0) (sym (Ok-injective ([], s) (items, t) is))
many_length {A} read (suc count) s t items is =
    let first = and_then-ok (read s) (λ found. and_then (so_many count read found.1) (λ others. Ok (found.0 ∷ others.0, others.1))) (items, t) is in
    let rest = and_then-ok (so_many count read first.0.1) (λ others. Ok (first.0.0 ∷ others.0, others.1)) (items, t) first.2 in
    ap (λ (p : List A × (List ℕ × ℕ)). length p.0) (sym (Ok-injective (first.0.0 ∷ rest.0.0, rest.0.1) (items, t) rest.2)) ∙ ap (λ n. suc n) (many_length read count first.0.1 rest.0.1 rest.0.0 rest.1)

-- so many values, each as it is written
module _ {A B : Type 0} (read : Reader A) (f : B → A) where
  abbrev pub AreTakenTo : List ℕ × ℕ → ℕ → List B → ℕ → List ℕ × ℕ → Type 0
  AreTakenTo start count items left s = IsReadUpTo read (so_many count read start) (map f items) left s

  pub taken-begins : (start : List ℕ × ℕ) (count left : ℕ) (items : List B) → left ≡ count → items ≡ [] → AreTakenTo start count items left start
  taken-begins start count left items same none = many-begins read count left (map f items) start same (ap (λ xs. map f xs) none)

  pub taken-goes_on : (start s t : List ℕ × ℕ) (count left fewer : ℕ) (items more : List B) (item : B) → left ≡ suc fewer → AreTakenTo start count items left s
      → read s ≡ Ok (f item, t) → more ≡ items ++ item ∷ [] → AreTakenTo start count more fewer t
  taken-goes_on start s t count left fewer items more item one so_far found is =
      many-goes_on read (so_many count read start) s t left fewer (map f items) (map f more) (f item) one so_far found (ap (λ xs. map f xs) is ∙ map_more f items item)

  pub taken-breaks : (start s : List ℕ × ℕ) (count left fewer : ℕ) (items : List B) (refusal : CertText) → left ≡ suc fewer → AreTakenTo start count items left s
      → or_refused (read s) ≡ Err refusal → or_refused (so_many count read start) ≡ Err refusal
  taken-breaks start s count left fewer items refusal one so_far is =
      let found = refused_since (read s) refusal is in
      ap or_refused (many-breaks read (so_many count read start) s left fewer (map f items) found.0 one so_far found.1) ∙ ap (λ r. Err r) found.2

  pub taken-ends : (start s : List ℕ × ℕ) (count left : ℕ) (items : List B) → left ≡ 0 → AreTakenTo start count items left s → so_many count read start ≡ Ok (map f items, s)
  taken-ends start s count left items none so_far = many-ends read (so_many count read start) s left (map f items) none so_far

-- so many values, as they are
module _ {A : Type 0} (read : Reader A) where
  abbrev pub AreManyTo : List ℕ × ℕ → ℕ → List A → ℕ → List ℕ × ℕ → Type 0
  AreManyTo start count items left s = IsReadUpTo read (so_many count read start) items left s

  pub goes_on : (start s t : List ℕ × ℕ) (count left fewer : ℕ) (items more : List A) (item : A) → left ≡ suc fewer → AreManyTo start count items left s
      → read s ≡ Ok (item, t) → more ≡ items ++ item ∷ [] → AreManyTo start count more fewer t
  goes_on start s t count left fewer items more item one so_far found is = many-goes_on read (so_many count read start) s t left fewer items more item one so_far found is

  pub breaks : (start s : List ℕ × ℕ) (count left fewer : ℕ) (items : List A) (refusal : CertText) → left ≡ suc fewer → AreManyTo start count items left s
      → or_refused (read s) ≡ Err refusal → or_refused (so_many count read start) ≡ Err refusal
  breaks start s count left fewer items refusal one so_far is =
      let found = refused_since (read s) refusal is in
      ap or_refused (many-breaks read (so_many count read start) s left fewer items found.0 one so_far found.1) ∙ ap (λ r. Err r) found.2
