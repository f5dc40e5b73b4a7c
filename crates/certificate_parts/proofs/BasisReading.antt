-- The entries of a basis that is read differ.
use Rattle.std.proofs.Common.{◌≡◌, ◌∙◌, ℕ, Bool, true, false, ◌||◌, not, List, [], ◌∷◌, map, nat_eq, nat_lt, Ok, refl, sym, ap}
use Rattle.std.specs.List.{All, list_any}
use Rattle.std.proofs.lemmas.List.{length-map}
use Rattle.std.proofs.lemmas.Bool.{eq-eqb, false≢true, ne_eqb}
use Rattle.ev_model.specs.Network.{Network}
use Rattle.ev_text.specs.Texts.{AllFrom}
use Rattle.certificate_parts.specs.Ranges.{AreDifferent, BasisFits, EntryFits, customer_count, same_entry}
use Rattle.certificate_parts.specs.Reading.{basis_at, is_customer_node}
use Rattle.certificate_parts.specs.Written.{customer_node, written_entry}
use Rattle.certificate_parts.specs.WrittenRanges.{EntryIs, next_entry}
use Rattle.certificate_parts.specs.declared.entry.BasisEntry.{BasisEntry}
use Rattle.certificate_parts.specs.declared.entry.BasisEntry.TheVariants.{Helper, Column}
use Rattle.certificate_parts.proofs.PointReading.{both_true}
use Rattle.certificate_parts.proofs.BasisLines.{reads-basis}

pub not_first : (b c : Bool) → (b || c) ≡ false → (b ≡ false) × (c ≡ false)
not_first true c is = absurd (false≢true (sym is))
not_first false c is = (refl, is)

pub either : (b c : Bool) → b ≡ false → c ≡ false → (b || c) ≡ false
either b c first second = ap (λ x. x || c) first ∙ second

not_true : (b : Bool) → not b ≡ true → b ≡ false
not_true true is = absurd (false≢true is)
not_true false is = refl

pub swapped_numbers : (m n : ℕ) → nat_eq m n ≡ false → nat_eq n m ≡ false
swapped_numbers m n is = ne_eqb n m (λ same. false≢true (sym is ∙ eq-eqb m n (sym same)))

swapped : (e f : BasisEntry) → same_entry e f ≡ false → same_entry f e ≡ false
swapped (Helper c) (Helper d) is = swapped_numbers c d is
swapped (Helper c) (Column k) is = refl
swapped (Column k) (Helper c) is = refl
swapped (Column k) (Column l) is = swapped_numbers k l is

module _ (g : Network) (columns : ℕ) where
  is_new : (state : List BasisEntry) (entry : BasisEntry) → EntryIs g columns state entry → list_any (same_entry entry) state ≡ false
  is_new state (Helper n) is = not_true (list_any (same_entry (Helper n)) state) (both_true (is_customer_node g n) (not (list_any (same_entry (Helper n)) state)) is.1).1
  is_new state (Column n) is = not_true (list_any (same_entry (Column n)) state) (both_true (nat_lt n columns) (not (list_any (same_entry (Column n)) state)) is.1).1

  -- an entry that stands in the state is none of those that follow
  none_again : (entry : BasisEntry) (state entries : List BasisEntry) → ((f : BasisEntry) → list_any (same_entry f) state ≡ false → same_entry entry f ≡ false) → AllFrom (EntryIs g columns) next_entry state entries
      → list_any (same_entry entry) entries ≡ false
  none_again entry state [] stands all = refl
  none_again entry state (f ∷ fs) stands all =
      either (same_entry entry f) (list_any (same_entry entry) fs) (stands f (is_new state f all.0))
      (none_again entry (f ∷ state) fs (λ h none. stands h (not_first (same_entry h f) (list_any (same_entry h) state) none).1) all.1)

  differ : (state entries : List BasisEntry) → AllFrom (EntryIs g columns) next_entry state entries → AreDifferent entries
  differ state [] all = tt
  differ state (e ∷ es) all = (
    none_again e (e ∷ state) es (λ f none. swapped f e (not_first (same_entry f e) (list_any (same_entry f) state) none).0) all.1,
    differ (e ∷ state) es all.1,
  )

  same_is_written : (e f : BasisEntry) → same_entry (written_entry g e) (written_entry g f) ≡ false → same_entry e f ≡ false
  same_is_written (Helper c) (Helper d) is = ne_eqb c d (λ same. false≢true (sym is ∙ eq-eqb (customer_node g c) (customer_node g d) (ap (customer_node g) same)))
  same_is_written (Helper c) (Column k) is = refl
  same_is_written (Column k) (Helper c) is = refl
  same_is_written (Column k) (Column l) is = is

  none_written : (e : BasisEntry) (fs : List BasisEntry) → list_any (same_entry (written_entry g e)) (map (written_entry g) fs) ≡ false → list_any (same_entry e) fs ≡ false
  none_written e [] none = refl
  none_written e (f ∷ fs) none =
      let parts = not_first (same_entry (written_entry g e) (written_entry g f)) (list_any (same_entry (written_entry g e)) (map (written_entry g) fs)) none in
      either (same_entry e f) (list_any (same_entry e) fs) (same_is_written e f parts.0) (none_written e fs parts.1)

  differ_unwritten : (basis : List BasisEntry) → AreDifferent (map (written_entry g) basis) → AreDifferent basis
  differ_unwritten [] all = tt
  differ_unwritten (e ∷ es) all = (none_written e es all.0, differ_unwritten es all.1)

  pub basis_is_read : (s t : List ℕ × ℕ) (basis : List BasisEntry) → basis_at g columns s ≡ Ok (map (written_entry g) basis, t) → All (EntryFits (customer_count g) columns) basis → BasisFits (customer_count g) columns basis
  basis_is_read s t basis is fit =
      let are = ((reads-basis g columns).standing s t (map (written_entry g) basis) is).0 in
      record {
        count = sym (length-map basis (written_entry g)) ∙ are.1;
        entries = fit;
        different = differ_unwritten basis (differ [] (map (written_entry g) basis) are.0);
      }
