-- The written form of prices, a bound and a basis that fit is in its ranges.
use Rattle.std.proofs.Common.{◌≡◌, ◌∙◌, ℕ, ◌≤◌, ℤ, true, false, ◌&&◌, not, List, [], ◌∷◌, Option, None, Some, IfSome, map, nat_lt, refl, arith}
use Rattle.std.specs.List.{All, list_any}
use Rattle.std.proofs.lemmas.Bool.{lt-ltb}
use Rattle.std.proofs.lemmas.List.{length-map}
use Rattle.std.proofs.lemmas.List.Elements.{All-cons, All-head, All-nil, All-tail}
use Rattle.ev_model.specs.Network.{IsNetwork, Network}
use Rattle.ev_text.specs.Texts.{AllFrom, AreRun}
use Rattle.certificate_parts.specs.Limits.{greatest_bound, most_items}
use Rattle.certificate_parts.specs.Ranges.{AreDifferent, EntryFits, IsPrice, customer_count, same_entry, BasisFits}
use Rattle.certificate_parts.specs.Reading.{is_customer_node}
use Rattle.certificate_parts.specs.Written.{customer_node, written_entry}
use Rattle.certificate_parts.specs.WrittenRanges.{BoundIs, EntryIs, next_entry}
use Rattle.certificate_parts.specs.declared.entry.BasisEntry.{BasisEntry}
use Rattle.certificate_parts.specs.declared.entry.BasisEntry.TheVariants.{Helper, Column}
use Rattle.certificate_parts.proofs.EntryReading.{same_number}
use Rattle.certificate_parts.proofs.BasisReading.{either, not_first, swapped_numbers}
use Rattle.certificate_parts.proofs.WrittenParts.{customer_is}

pub prices_run : (prices : List ℤ) → All IsPrice prices → AllFrom {S = Unit {0}} (λ none price. IsPrice price) (λ none price. none) (tt {0}) prices
prices_run [] all = tt
prices_run (p ∷ ps) all = (All-head IsPrice p ps all, prices_run ps (All-tail IsPrice p ps all))

pub bound_is : (b : Option ℕ) → IfSome b (λ n. n ≤ greatest_bound) → BoundIs b
bound_is None fits = tt
bound_is (Some n) fits = fits

module _ (g : Network) (network : IsNetwork g) (columns : ℕ) (few_columns : columns ≤ most_items) where
  abbrev IsClear : List BasisEntry → BasisEntry → Type 0
  IsClear state f = list_any (same_entry (written_entry g f)) state ≡ false

  apart : (e f : BasisEntry) → EntryFits (customer_count g) columns e → EntryFits (customer_count g) columns f → same_entry e f ≡ false → same_entry (written_entry g f) (written_entry g e) ≡ false
  apart (Helper c) (Helper d) first second other = same_number g columns d c second first ∙ swapped_numbers c d other
  apart (Helper c) (Column k) first second other = refl
  apart (Column k) (Helper c) first second other = refl
  apart (Column k) (Column l) first second other = swapped_numbers k l other

  clear_more : (e : BasisEntry) (es state : List BasisEntry) → EntryFits (customer_count g) columns e → All (EntryFits (customer_count g) columns) es → list_any (same_entry e) es ≡ false → All (IsClear state) es → All (IsClear (written_entry g e ∷ state)) es
  clear_more e [] state own fits none clear = All-nil (IsClear (written_entry g e ∷ state))
  clear_more e (f ∷ fs) state own fits none clear =
      let parts = not_first (same_entry e f) (list_any (same_entry e) fs) none in
      All-cons (IsClear (written_entry g e ∷ state)) f fs
      (either (same_entry (written_entry g f) (written_entry g e)) (list_any (same_entry (written_entry g f)) state) (apart e f own (All-head (EntryFits (customer_count g) columns) f fs fits) parts.0) (All-head (IsClear state) f fs clear))
      (clear_more e fs state own (All-tail (EntryFits (customer_count g) columns) f fs fits) parts.1 (All-tail (IsClear state) f fs clear))

  entry_is : (state : List BasisEntry) (e : BasisEntry) → EntryFits (customer_count g) columns e → IsClear state e → EntryIs g columns state (written_entry g e)
  entry_is state (Helper c) fits clear =
      let own = customer_is g network c fits in
      let customer : is_customer_node g (customer_node g c) ≡ true = own.1 in
      (own.0, (λ i. customer i && not (clear i)))
  entry_is state (Column k) fits clear =
      let less : nat_lt k columns ≡ true = lt-ltb k columns fits in
      (omega (arith, few_columns, fits), (λ i. less i && not (clear i)))

  entries_are : (state es : List BasisEntry) → All (EntryFits (customer_count g) columns) es → AreDifferent es → All (IsClear state) es → AllFrom (EntryIs g columns) next_entry state (map (written_entry g) es)
  entries_are state [] fits differ clear = tt
  entries_are state (e ∷ es) fits differ clear =
      let own = All-head (EntryFits (customer_count g) columns) e es fits in
      let others = All-tail (EntryFits (customer_count g) columns) e es fits in
      (entry_is state e own (All-head (IsClear state) e es clear), entries_are (written_entry g e ∷ state) es others differ.1 (clear_more e es state own others differ.0 (All-tail (IsClear state) e es clear)))

  clear_at_first : (es : List BasisEntry) → All (IsClear []) es
  clear_at_first [] = All-nil (IsClear [])
  clear_at_first (e ∷ es) = All-cons (IsClear []) e es refl (clear_at_first es)

  pub basis_is : (basis : List BasisEntry) → BasisFits (customer_count g) columns basis → AreRun (EntryIs g columns) next_entry (customer_count g) [] (map (written_entry g) basis)
  basis_is basis fits = (entries_are [] basis fits.entries fits.different (clear_at_first basis), length-map basis (written_entry g) ∙ fits.count)
