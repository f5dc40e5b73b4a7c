-- Reading an entry of a basis: whether it is one of the earlier ones is told by numbers as it is by nodes.
use Rattle.std.proofs.Common.{◌≡◌, ◌∙◌, ℕ, suc, ◌<◌, Bool, true, false, ◌||◌, List, [], ◌∷◌, map, nat_eq, nat_lt, Result, Ok, Err, IfErr, IfOk, refl, sym, ap, arith}
use Rattle.std.specs.List.{All, list_any}
use Rattle.std.proofs.lemmas.Bool.{eq-eqb, eqb-false, eqb-true, lt-ltb, ne_eqb}
use Rattle.std.proofs.lemmas.List.Elements.{All-head, All-tail}
use Rattle.ev_model.specs.Network.{Network}
use Rattle.ev_text.specs.Scans.{whole_at}
use Rattle.ev_text.specs.declared.TextFault.TheVariants.{TooLarge}
use Rattle.route_plan.specs.Limits.{greatest_number}
use Rattle.certificate_parts.specs.Limits.{most_items}
use Rattle.certificate_parts.specs.Places.{IsState}
use Rattle.certificate_parts.specs.Ranges.{EntryFits, customer_count, same_entry}
use Rattle.certificate_parts.specs.Reading.{entry_behind, is_customer_node}
use Rattle.certificate_parts.specs.Written.{customer_node, written_entry}
use Rattle.certificate_parts.specs.declared.entry.BasisEntry.{BasisEntry}
use Rattle.certificate_parts.specs.declared.entry.BasisEntry.TheVariants.{Helper, Column}
use Rattle.certificate_parts.proofs.PlaceOrder.{same_by_node}

pub if_ok : {A E : Type 0} {P Q : A → Type 0} (r : Result A E) → ((a : A) → P a → Q a) → IfOk r P → IfOk r Q
if_ok (Ok a) f p = f a p
if_ok (Err e) f p = tt

pub if_err : {A E : Type 0} {P Q : E → Type 0} (r : Result A E) → ((e : E) → P e → Q e) → IfErr r P → IfErr r Q
if_err (Ok a) f p = tt
if_err (Err e) f p = f e p

module _ (g : Network) (columns : ℕ) where
  same_column : (n : ℕ) (e : BasisEntry) → same_entry (Column n) (written_entry g e) ≡ same_entry (Column n) e
  same_column n (Helper c) = refl
  same_column n (Column k) = refl

  any_column : (n : ℕ) (es : List BasisEntry) → list_any (same_entry (Column n)) (map (written_entry g) es) ≡ list_any (same_entry (Column n)) es
  any_column n [] = refl
  any_column n (e ∷ es) = λ i. same_column n e i || any_column n es i

  pub same_number : (c d : ℕ) → c < customer_count g → d < customer_count g → nat_eq (customer_node g c) (customer_node g d) ≡ nat_eq c d
  same_number c d first second = by (nat_eq c d) refl
    where
      by : (b : Bool) → nat_eq c d ≡ b → nat_eq (customer_node g c) (customer_node g d) ≡ nat_eq c d
      by true is = eq-eqb (customer_node g c) (customer_node g d) (ap (customer_node g) (eqb-true c d is)) ∙ sym is
      by false is =
          ne_eqb (customer_node g c) (customer_node g d) (λ same.
          let places : suc c ≡ suc d = same_by_node g (suc c) (suc d) (omega (arith, first)) (omega (arith, second)) same in
          eqb-false c d is (omega (arith, places)))
          ∙ sym is

  same_helper : (c : ℕ) (e : BasisEntry) → c < customer_count g → EntryFits (customer_count g) columns e → same_entry (Helper (customer_node g c)) (written_entry g e) ≡ same_entry (Helper c) e
  same_helper c (Helper d) first fits = same_number c d first fits
  same_helper c (Column k) first fits = refl

  any_helper : (c : ℕ) (es : List BasisEntry) → c < customer_count g → All (EntryFits (customer_count g) columns) es → list_any (same_entry (Helper (customer_node g c))) (map (written_entry g) es) ≡ list_any (same_entry (Helper c)) es
  any_helper c [] first fits = refl
  any_helper c (e ∷ es) first fits =
      λ i. same_helper c e first (All-head (EntryFits (customer_count g) columns) e es fits) i || any_helper c es first (All-tail (EntryFits (customer_count g) columns) e es fits) i

  pub column_new : (earlier state : List BasisEntry) (s t : List ℕ × ℕ) (n : ℕ) (entry : BasisEntry) → whole_at most_items s ≡ Ok (n, t) → n < columns → entry ≡ Column n → list_any (same_entry (Column n)) earlier ≡ false → IsState g earlier state
      → entry_behind g columns state false s ≡ Ok (written_entry g entry, t)
  column_new earlier state s t n entry whole less is none are =
      let other : list_any (same_entry (Column n)) state ≡ false = are (Column n) ∙ any_column n earlier ∙ none in
      let within : nat_lt n columns ≡ true = lt-ltb n columns less in
      rw (whole, within, other, is) refl

  pub column_again : (earlier state : List BasisEntry) (s t : List ℕ × ℕ) (n : ℕ) → whole_at most_items s ≡ Ok (n, t) → n < columns → list_any (same_entry (Column n)) earlier ≡ true → IsState g earlier state
      → entry_behind g columns state false s ≡ Err (TooLarge s.1)
  column_again earlier state s t n whole less again are =
      let other : list_any (same_entry (Column n)) state ≡ true = are (Column n) ∙ any_column n earlier ∙ again in
      let within : nat_lt n columns ≡ true = lt-ltb n columns less in
      rw (whole, within, other) refl

  pub helper_new : (earlier state : List BasisEntry) (s t : List ℕ × ℕ) (c node : ℕ) (entry : BasisEntry) → All (EntryFits (customer_count g) columns) earlier → whole_at greatest_number s ≡ Ok (node, t) → c < customer_count g → customer_node g c ≡ node
      → is_customer_node g node ≡ true → entry ≡ Helper c → list_any (same_entry (Helper c)) earlier ≡ false → IsState g earlier state → entry_behind g columns state true s ≡ Ok (written_entry g entry, t)
  helper_new earlier state s t c node entry fits whole less at customer is none are =
      let other : list_any (same_entry (Helper node)) state ≡ false = ap (λ n. list_any (same_entry (Helper n)) state) (sym at) ∙ are (Helper (customer_node g c)) ∙ any_helper c earlier less fits ∙ none in
      let found : entry_behind g columns state true s ≡ Ok (Helper node, t) = rw (whole, customer, other) refl in
      found ∙ ap (λ n. Ok (Helper n, t)) (sym at) ∙ ap (λ e. Ok (written_entry g e, t)) (sym is)

  pub helper_again : (earlier state : List BasisEntry) (s t : List ℕ × ℕ) (c node : ℕ) → All (EntryFits (customer_count g) columns) earlier → whole_at greatest_number s ≡ Ok (node, t) → c < customer_count g → customer_node g c ≡ node
      → is_customer_node g node ≡ true → list_any (same_entry (Helper c)) earlier ≡ true → IsState g earlier state → entry_behind g columns state true s ≡ Err (TooLarge s.1)
  helper_again earlier state s t c node fits whole less at customer again are =
      let other : list_any (same_entry (Helper node)) state ≡ true = ap (λ n. list_any (same_entry (Helper n)) state) (sym at) ∙ are (Helper (customer_node g c)) ∙ any_helper c earlier less fits ∙ again in
      rw (whole, customer, other) refl
