-- What is written of a certificate tells it, but for how its forbidden pairs are kept; so bytes are the text of one at most.
use Rattle.std.proofs.Common.{◌≡◌, Ok, ◌≢◌, ◌∙◌, ℕ, zero, suc, ◌+◌, ◌-◌, ◌<◌, ◌≤◌, Bool, true, false, not, ◌||◌, List, [], ◌∷◌, ◌++◌, length, map, nat_eq, if◌then◌else◌, ap, ap₂, arith, inl, inr, refl, subst, sym}
use Rattle.std.specs.List.{All}
use Rattle.std.proofs.lemmas.Bool.{cases_eq, cases_lt, false≢true}
use Rattle.std.proofs.lemmas.List.{length-map}
use Rattle.std.proofs.lemmas.List.Elements.{All-append, All-cons, All-head, All-nil, All-tail, All-weaker}
use Rattle.customer_sets.specs.Pairs.{ForbiddenPairs, IsPairs, allows_of, is_forbidden}
use Rattle.ev_model.specs.Network.{IsNetwork, Network}
use Rattle.ev_text.proofs.Results.{Ok-injective}
use Rattle.ev_text.proofs.WholeReads.{ranged-spells}
use Rattle.ev_text.specs.Readers.{whole_with}
use Rattle.ev_text.specs.Texts.{StandsUnlessLonger}
use Rattle.route_plan.specs.declared.plan.RoutePlan.{RoutePlan}
use Rattle.certificate_parts.proofs.PlaceOrder.{places_in_order, same_by_node}
use Rattle.bound_certificate.specs.CertificateIn.{certificate_in}
use Rattle.bound_certificate.specs.CertificateTexts.{certificate_text}
use Rattle.certificate_parts.specs.Ranges.{HasSet, EntryFits, LabelFits, customer_count}
use Rattle.bound_certificate.specs.Kept.{AreSame, IsKept, IsSpelledBy, said_by}
use Rattle.bound_certificate.specs.Ranges.{Fits, LineFits, RootFits, SectionFits}
use Rattle.certificate_parts.specs.Written.{place_node, written_entry, written_label}
use Rattle.bound_certificate.specs.Written.{Written, WrittenSection, pairs_after, pairs_from, written, written_line, written_pairs, written_root, written_section}
use Rattle.certificate_parts.specs.declared.entry.BasisEntry.{BasisEntry}
use Rattle.bound_certificate.specs.declared.certificate.Certificate.{Certificate}
use Rattle.bound_certificate.specs.declared.certificate.Root.{Root}
use Rattle.bound_certificate.specs.declared.certificate.Root.TheVariants as root
use Rattle.bound_certificate.specs.declared.certificate.Section.{Section}
use Rattle.bound_certificate.specs.declared.certificate.TreeLine.{TreeLine}
use Rattle.bound_certificate.specs.declared.certificate.TreeLine.TheVariants.{Split, Leaf}
use Rattle.bound_certificate.specs.Reading.{certificate_at}
use Rattle.bound_certificate.specs.WrittenRanges.{WrittenIs, WrittenLoose}
use Rattle.bound_certificate.proofs.CertificateLaws.{certificate_is_spelled, reads}
use Rattle.certificate_parts.proofs.Chosen.{chosen, same_chosen, split_same}
use Rattle.ev_text.proofs.Numbers.{Anything}
use Rattle.bound_certificate.proofs.WrittenWhole.{written_is}
use Rattle.certificate_parts.proofs.OneWritten.{LabelIs, one_entry, one_label, same_items, same_maps}
use Rattle.instance_reader.specs.Instance.{most_customers}

-- ---- forbidden pairs

-- a pair that is forbidden is of places that there are
forbidden_within : (p : ForbiddenPairs) (a b : ℕ) → IsPairs p → is_forbidden p a b ≡ true → (a ≤ p.customers) × (b ≤ p.customers)
forbidden_within p zero zero is forbidden = (omega arith, omega arith)
forbidden_within p (suc a) zero is forbidden = (let below = is.ends (suc a - 1) forbidden in omega (arith, below), omega arith)
forbidden_within p a (suc c) is forbidden =
    let places = is.places a c forbidden in
    (places.0, let below = places.1 in omega (arith, below))

allowed_past : (p : ForbiddenPairs) (a b n : ℕ) → IsPairs p → p.customers ≡ n → (a ≤ n → b ≤ n → ⊥) → allows_of p a b ≡ true
allowed_past p a b n is count past = by (nat_eq a b) (is_forbidden p a b) refl
  where
    by : (same forbidden : Bool) → is_forbidden p a b ≡ forbidden → (same || not forbidden) ≡ true
    by true forbidden told = refl
    by false false told = refl
    by false true told =
        absurd (let within = forbidden_within p a b is told in past (omega (arith, within.0, count)) (omega (arith, within.1, count)))

-- the nodes of two places
abbrev place_pair : Network → ℕ → ℕ → ℕ × ℕ
place_pair g a b = (place_node g a, place_node g b)

module _ (g : Network) (p : ForbiddenPairs) where
  listed_row : (a b more : ℕ) → pairs_after g p a b more ≡ chosen (λ k. not (allows_of p a k)) (place_pair g a) b more
  listed_row a b zero = refl
  listed_row a b (suc more) = by (allows_of p a b) (listed_row a (b + 1) more)
    where
      by : (allowed : Bool) → pairs_after g p a (b + 1) more ≡ chosen (λ k. not (allows_of p a k)) (place_pair g a) (b + 1) more
          → (if allowed then [] else place_pair g a b ∷ []) ++ pairs_after g p a (b + 1) more
          ≡ (if not allowed then place_pair g a b ∷ [] else []) ++ chosen (λ k. not (allows_of p a k)) (place_pair g a) (b + 1) more
      by true later = later
      by false later = ap (λ xs. place_pair g a b ∷ xs) later

  row_first : (a b more : ℕ) → All (λ x. x.0 ≡ place_node g a) (pairs_after g p a b more)
  row_first a b zero = All-nil (λ (x : ℕ × ℕ). x.0 ≡ place_node g a)
  row_first a b (suc more) = by (allows_of p a b) (row_first a (b + 1) more)
    where
      by : (allowed : Bool) → All (λ x. x.0 ≡ place_node g a) (pairs_after g p a (b + 1) more)
          → All (λ x. x.0 ≡ place_node g a) ((if allowed then [] else place_pair g a b ∷ []) ++ pairs_after g p a (b + 1) more)
      by true later = later
      by false later = All-cons (λ (x : ℕ × ℕ). x.0 ≡ place_node g a) (place_pair g a b) (pairs_after g p a (b + 1) more) refl later

  later_above : (a c more : ℕ) → a < c → c + more ≤ customer_count g + 1 → All (λ x. place_node g a < x.0) (pairs_from g p c more)
  later_above a c zero less within = All-nil (λ (x : ℕ × ℕ). place_node g a < x.0)
  later_above a c (suc more) less within =
      let rise = places_in_order g a c less (omega (arith, within)) in
      let one : (x : ℕ × ℕ) → x.0 ≡ place_node g c → place_node g a < x.0 = λ x same. omega (arith, rise, same) in
      All-append (λ (x : ℕ × ℕ). place_node g a < x.0) (pairs_after g p c 0 (customer_count g + 1)) (pairs_from g p (c + 1) more)
      (All-weaker (λ (x : ℕ × ℕ). x.0 ≡ place_node g c) (λ (x : ℕ × ℕ). place_node g a < x.0) one (pairs_after g p c 0 (customer_count g + 1)) (row_first c 0 (customer_count g + 1)))
      (later_above a (c + 1) more (omega (arith, less)) (omega (arith, within)))

-- two rows, each before later ones
split_rows : (node : ℕ) (xs ys us vs : List (ℕ × ℕ)) → All (λ x. x.0 ≡ node) xs → All (λ x. x.0 ≡ node) ys → All (λ x. node < x.0) us → All (λ x. node < x.0) vs
    → xs ++ us ≡ ys ++ vs → (xs ≡ ys) × (us ≡ vs)
split_rows node [] [] us vs first other above over same = (refl, same)
split_rows node [] (y ∷ ys) [] vs first other above over same = absurd cc
split_rows node [] (y ∷ ys) (u ∷ us) vs first other above over same =
    let heads = (split_same u y us (ys ++ vs) same).0 in
    let high = All-head (λ (x : ℕ × ℕ). node < x.0) u us above in
    let low = All-head (λ (x : ℕ × ℕ). x.0 ≡ node) y ys other in
    let one : u.0 ≡ y.0 = ap (λ (x : ℕ × ℕ). x.0) heads in
    absurd (omega (arith, one, high, low))
split_rows node (x ∷ xs) [] us [] first other above over same = absurd cc
split_rows node (x ∷ xs) [] us (v ∷ vs) first other above over same =
    let heads = (split_same x v (xs ++ us) vs same).0 in
    let high = All-head (λ (z : ℕ × ℕ). node < z.0) v vs over in
    let low = All-head (λ (z : ℕ × ℕ). z.0 ≡ node) x xs first in
    let one : x.0 ≡ v.0 = ap (λ (z : ℕ × ℕ). z.0) heads in
    absurd (omega (arith, one, high, low))
split_rows node (x ∷ xs) (y ∷ ys) us vs first other above over same =
    let parts = split_same x y (xs ++ us) (ys ++ vs) same in
    let rest = split_rows node xs ys us vs (All-tail (λ (z : ℕ × ℕ). z.0 ≡ node) x xs first) (All-tail (λ (z : ℕ × ℕ). z.0 ≡ node) y ys other) above over parts.1 in
    (ap₂ (λ (z : ℕ × ℕ) zs. z ∷ zs) parts.0 rest.0, rest.1)

same_unless : (a b : Bool) → not a ≡ not b → a ≡ b
same_unless true true same = refl
same_unless false false same = refl
same_unless true false same = absurd (false≢true same)
same_unless false true same = absurd (false≢true (sym same))

module _ (g : Network) (p q : ForbiddenPairs) where
  same_rows : (a more : ℕ) → a + more ≤ customer_count g + 1 → pairs_from g p a more ≡ pairs_from g q a more
      → (x : ℕ) → a ≤ x → x < a + more → pairs_after g p x 0 (customer_count g + 1) ≡ pairs_after g q x 0 (customer_count g + 1)
  same_rows a zero within same x from below = absurd (omega (arith, from, below))
  same_rows a (suc more) within same x from below =
      let all = customer_count g + 1 in
      let parts = split_rows (place_node g a) (pairs_after g p a 0 all) (pairs_after g q a 0 all) (pairs_from g p (a + 1) more) (pairs_from g q (a + 1) more)
      (row_first g p a 0 all) (row_first g q a 0 all) (later_above g p a (a + 1) more (omega arith) (omega (arith, within))) (later_above g q a (a + 1) more (omega arith) (omega (arith, within))) same in
      elim (cases_eq a x) [
        | inl e ↦ subst (λ (y : ℕ). pairs_after g p y 0 all ≡ pairs_after g q y 0 all) e parts.0
        | inr ne ↦ same_rows (a + 1) more (omega (arith, within)) parts.1 x (omega (arith, from, ne)) (omega (arith, below))
      ]

  pairs_apart : (a i j : ℕ) → 0 ≤ i → i < j → j < 0 + (customer_count g + 1) → place_pair g a i ≢ place_pair g a j
  pairs_apart a i j from less below same =
      let rise = places_in_order g i j less (omega (arith, below)) in
      let one : place_node g i ≡ place_node g j = ap (λ (x : ℕ × ℕ). x.1) same in
      omega (arith, one, rise)

  same_within : written_pairs g p ≡ written_pairs g q → (a b : ℕ) → a ≤ customer_count g → b ≤ customer_count g → allows_of p a b ≡ allows_of q a b
  same_within same a b first second =
      let all = customer_count g + 1 in
      let row = same_rows 0 all (omega arith) same a (omega arith) (omega (arith, first)) in
      same_unless (allows_of p a b) (allows_of q a b)
      (same_chosen (place_pair g a) (λ k. not (allows_of p a k)) (λ k. not (allows_of q a k)) 0 all (pairs_apart a)
      (sym (listed_row g p a 0 all) ∙ row ∙ listed_row g q a 0 all) b (omega arith) (omega (arith, second)))

  same_allowed : IsPairs p → IsPairs q → p.customers ≡ customer_count g → q.customers ≡ customer_count g → written_pairs g p ≡ written_pairs g q → (a b : ℕ) → allows_of p a b ≡ allows_of q a b
  same_allowed is was count counts same a b = elim (cases_lt (customer_count g) a) [
    | inl past ↦ both (λ first second. omega (arith, past, first))
    | inr first ↦ elim (cases_lt (customer_count g) b) [
      | inl past ↦ both (λ one second. omega (arith, past, second))
      | inr second ↦ same_within same a b first second
    ]
  ]
    where
      both : (a ≤ customer_count g → b ≤ customer_count g → ⊥) → allows_of p a b ≡ allows_of q a b
      both past = allowed_past p a b (customer_count g) is count past ∙ sym (allowed_past q a b (customer_count g) was counts past)

-- ---- sections

-- a section that fits, as it is kept
abbrev SectionIs : Network → Section → Type 0
SectionIs g s = SectionFits g s × IsKept s

all_both : {X : Type 0} (P Q : X → Type 0) (xs : List X) → All P xs → All Q xs → All (λ x. P x × Q x) xs
all_both P Q [] all every = All-nil (λ x. P x × Q x)
all_both P Q (x ∷ xs) all every =
    All-cons (λ x. P x × Q x) x xs (All-head P x xs all, All-head Q x xs every) (all_both P Q xs (All-tail P x xs all) (All-tail Q x xs every))

one_section : (g : Network) (s t : Section) → SectionIs g s → SectionIs g t → written_section g s ≡ written_section g t → said_by s ≡ said_by t
one_section g s t (fits, is) (fit, was) same =
    let weight : s.weight ≡ t.weight = ap (λ (w : WrittenSection). w.weight) same in
    let prices : s.prices ≡ t.prices = ap (λ (w : WrittenSection). w.prices) same in
    let pairs = same_allowed g s.pairs t.pairs is.pairs_are was.pairs_are fits.pairs fit.pairs (ap (λ (w : WrittenSection). w.pairs) same) in
    let labels = same_items (written_label g) (LabelIs g) (one_label g) s.labels t.labels
    (all_both (LabelFits g) HasSet s.labels fits.labels is.sets) (all_both (LabelFits g) HasSet t.labels fit.labels was.sets)
    (ap (λ (w : WrittenSection). w.labels) same) in
    λ i. record { weight = weight i; prices = prices i; allows = λ a b. pairs a b i; labels = labels i }

-- ---- the root

columns_of : List RoutePlan → Root → List RoutePlan
columns_of d root.None = d
columns_of d (root.Exact over shares) = d
columns_of d (root.Wide columns basis) = columns

basis_of : List BasisEntry → Root → List BasisEntry
basis_of d root.None = d
basis_of d (root.Exact over shares) = d
basis_of d (root.Wide columns basis) = basis

one_root : (g : Network) (r s : Root) → RootFits (customer_count g) r → RootFits (customer_count g) s → written_root g r ≡ written_root g s → r ≡ s
unfolding columns_of basis_of
one_root g root.None root.None fits fit same = refl
one_root g (root.Exact over shares) (root.Exact under others) fits fit same = same
one_root g (root.Wide columns basis) (root.Wide others other) fits fit same =
    let cols : columns ≡ others = ap (columns_of []) same in
    let entries : map (written_entry g) basis ≡ map (written_entry g) other = ap (basis_of []) same in
    let second = subst (λ (cs : List RoutePlan). All (EntryFits (customer_count g) (length cs)) other) (sym cols) fit.basis_fits.entries in
    ap₂ (λ (cs : List RoutePlan) (b : List BasisEntry). root.Wide cs b) cols
    (same_items (written_entry g) (EntryFits (customer_count g) (length columns)) (one_entry g (length columns)) basis other fits.basis_fits.entries second entries)
one_root g root.None (root.Exact over shares) fits fit same = absurd cc
one_root g root.None (root.Wide columns basis) fits fit same = absurd cc
one_root g (root.Exact over shares) root.None fits fit same = absurd cc
one_root g (root.Exact over shares) (root.Wide columns basis) fits fit same = absurd cc
one_root g (root.Wide columns basis) root.None fits fit same = absurd cc
one_root g (root.Wide columns basis) (root.Exact over shares) fits fit same = absurd cc

-- ---- the tree

first_of : TreeLine → ℕ
first_of (Split i j) = i
first_of (Leaf n) = 0

second_of : TreeLine → ℕ
second_of (Split i j) = j
second_of (Leaf n) = 0

one_line : (g : Network) (sections : ℕ) (l m : TreeLine) → LineFits (customer_count g) sections l → LineFits (customer_count g) sections m → written_line g l ≡ written_line g m → l ≡ m
unfolding first_of second_of
one_line g sections (Split i j) (Split k l) fits fit same =
    ap₂ (λ (a b : ℕ). Split a b) (same_by_node g i k fits.0.1 fit.0.1 (ap first_of same)) (same_by_node g j l fits.1.1 fit.1.1 (ap second_of same))
one_line g sections (Leaf m) (Leaf n) fits fit same = same
one_line g sections (Split i j) (Leaf n) fits fit same = absurd cc
one_line g sections (Leaf n) (Split i j) fits fit same = absurd cc

-- ---- certificates

pub one_written : (g : Network) (c d : Certificate) → Fits g c → Fits g d → All IsKept c.sections → All IsKept d.sections → written g c ≡ written g d → AreSame c d
one_written g c d fits fit kept keeps same =
    let sections : map (written_section g) c.sections ≡ map (written_section g) d.sections = ap (λ (w : Written). w.sections) same in
    let counts : length d.sections ≡ length c.sections = sym (length-map d.sections (written_section g)) ∙ ap (λ xs. length xs) (sym sections) ∙ length-map c.sections (written_section g) in
    let lines = subst (λ (n : ℕ). All (LineFits (customer_count g) n) d.tree) counts fit.lines in
    record {
      bound = ap (λ (w : Written). w.bound) same;
      root_is = one_root g c.root d.root fits.root_fits fit.root_fits (ap (λ (w : Written). w.root) same);
      sections = same_maps (written_section g) said_by (SectionIs g) (one_section g) c.sections d.sections
          (all_both (SectionFits g) IsKept c.sections fits.sections kept) (all_both (SectionFits g) IsKept d.sections fit.sections keeps) sections;
      tree = same_items (written_line g) (LineFits (customer_count g) (length c.sections)) (one_line g (length c.sections)) c.tree d.tree fits.lines lines (ap (λ (w : Written). w.tree) same);
    }

pub spelled_where_read : (g : Network) → IsNetwork g → (bytes : List ℕ) (c : Certificate) → certificate_in g bytes ≡ Ok (written g c) → Fits g c → All IsKept c.sections → IsSpelledBy g bytes c
spelled_where_read g network bytes c is fits kept = record { fits = fits; kept = kept; text = ((certificate_is_spelled g network bytes (written g c)).0 is).text }

module _ (g : Network) (network : IsNetwork g) (few : customer_count g ≤ most_customers) where
  -- the text of a certificate is read as what is written of it
  text_tells : (bytes : List ℕ) (c : Certificate) → IsSpelledBy g bytes c → whole_with (certificate_at g) bytes ≡ Ok (written g c)
  text_tells bytes c is =
      (ranged-spells StandsUnlessLonger (certificate_at g) (certificate_text g) (WrittenIs g) (WrittenLoose g) Anything (reads g network) (λ w fits. tt) bytes (written g c)).1
      (written_is g network few c is.fits, is.text)

  pub one_certificate : (bytes : List ℕ) (c d : Certificate) → IsSpelledBy g bytes c → IsSpelledBy g bytes d → AreSame c d
  one_certificate bytes c d is was =
      one_written g c d is.fits was.fits is.kept was.kept (Ok-injective (written g c) (written g d) (sym (text_tells bytes c is) ∙ text_tells bytes d was))
