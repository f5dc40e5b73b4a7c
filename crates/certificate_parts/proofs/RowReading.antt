-- Reading prices, and the entries of a basis, one after another on a line.
use Rattle.std.proofs.Common.{◌≡◌, ◌∙◌, ℕ, zero, suc, ◌-◌, ◌<◌, ℤ, Bool, true, false, ◌||◌, List, [], ◌∷◌, ◌++◌, map, Result, Ok, Err, codes, refl, sym, ap, subst, arith}
use Rattle.std.specs.List.{All, list_any}
use Rattle.std.proofs.lemmas.List.Elements.{All-nil, All-push}
use Rattle.ev_model.specs.Network.{Network}
use Rattle.ev_text.specs.Readers.{signed_at}
use Rattle.ev_text.specs.Scans.{word_at}
use Rattle.ev_text.specs.declared.TextFault.{TextFault}
use Rattle.ev_text.proofs.RunLoops.{IsRowTo, row-breaks, row-ends, row-goes_on, row-no_end, row-no_mark}
use Rattle.certificate_parts.specs.Limits.{greatest_price}
use Rattle.certificate_parts.specs.Places.{IsState}
use Rattle.certificate_parts.specs.Ranges.{EntryFits, customer_count, same_entry}
use Rattle.certificate_parts.specs.Reading.{entries_at, entry_at, price_row}
use Rattle.certificate_parts.specs.Written.{written_entry}
use Rattle.certificate_parts.specs.WrittenRanges.{next_entry}
use Rattle.certificate_parts.specs.declared.entry.BasisEntry.{BasisEntry}

abbrev a_price : Unit {0} → List ℕ × ℕ → Result (ℤ × (List ℕ × ℕ)) TextFault
a_price none = signed_at greatest_price

abbrev no_state : Unit {0} → ℤ → Unit {0}
no_state none price = none

abbrev pub ArePricesTo : List ℕ × ℕ → ℕ → List ℤ → ℕ → List ℕ × ℕ → Type 0
ArePricesTo start count prices left s = IsRowTo (codes " ") (10 ∷ []) a_price no_state (price_row count start) prices left (tt {0}) s

pub prices-begin : (start s : List ℕ × ℕ) (count : ℕ) (price : ℤ) (prices : List ℤ) → 0 < count → signed_at greatest_price start ≡ Ok (price, s) → prices ≡ price ∷ [] → ArePricesTo start count prices (count - 1) s
prices-begin start s zero price prices some found is = absurd (omega (arith, some))
prices-begin start s (suc count) price prices some found is = let same : suc count - 1 ≡ count = omega arith in rw (same, found, is) refl

pub no_first_price : (start : List ℕ × ℕ) (count : ℕ) (fault : TextFault) → 0 < count → signed_at greatest_price start ≡ Err fault → price_row count start ≡ Err fault
no_first_price start zero fault some found = absurd (omega (arith, some))
no_first_price start (suc count) fault some found = rw found refl

module _ (start : List ℕ × ℕ) (count : ℕ) where
  pub prices-go_on : (s t u : List ℕ × ℕ) (left fewer : ℕ) (prices more : List ℤ) (price : ℤ) → left ≡ suc fewer → ArePricesTo start count prices left s → word_at (codes " ") s ≡ Ok t → signed_at greatest_price t ≡ Ok (price, u) → more ≡ prices ++ price ∷ [] → ArePricesTo start count more fewer u
  prices-go_on s t u left fewer prices more price one so_far space found is = row-goes_on (codes " ") (10 ∷ []) a_price no_state (price_row count start) s t u left fewer (tt {0}) prices more price one so_far space found is

  pub prices-no_mark : (s : List ℕ × ℕ) (left fewer : ℕ) (prices : List ℤ) (fault : TextFault) → left ≡ suc fewer → ArePricesTo start count prices left s → word_at (codes " ") s ≡ Err fault → price_row count start ≡ Err fault
  prices-no_mark s left fewer prices fault one so_far space = row-no_mark (codes " ") (10 ∷ []) a_price no_state (price_row count start) s left fewer (tt {0}) prices fault one so_far space

  pub prices-break : (s t : List ℕ × ℕ) (left fewer : ℕ) (prices : List ℤ) (fault : TextFault) → left ≡ suc fewer → ArePricesTo start count prices left s → word_at (codes " ") s ≡ Ok t → signed_at greatest_price t ≡ Err fault → price_row count start ≡ Err fault
  prices-break s t left fewer prices fault one so_far space found = row-breaks (codes " ") (10 ∷ []) a_price no_state (price_row count start) s t left fewer (tt {0}) prices fault one so_far space found

  pub prices-end : (s t : List ℕ × ℕ) (left : ℕ) (prices : List ℤ) → left ≡ 0 → ArePricesTo start count prices left s → word_at (10 ∷ []) s ≡ Ok t → price_row count start ≡ Ok (prices, t)
  prices-end s t left prices none so_far feed = row-ends (codes " ") (10 ∷ []) a_price no_state (price_row count start) s t left (tt {0}) prices none so_far feed

  pub prices-no_end : (s : List ℕ × ℕ) (left : ℕ) (prices : List ℤ) (fault : TextFault) → left ≡ 0 → ArePricesTo start count prices left s → word_at (10 ∷ []) s ≡ Err fault → price_row count start ≡ Err fault
  prices-no_end s left prices fault none so_far feed = row-no_end (codes " ") (10 ∷ []) a_price no_state (price_row count start) s left (tt {0}) prices fault none so_far feed

-- the entries of a basis, where each is none of those before it

or_moved : (a b c : Bool) → (a || (b || c)) ≡ (b || (a || c))
or_moved true true c = refl
or_moved true false c = refl
or_moved false true c = refl
or_moved false false c = refl

any_push : (f : BasisEntry → Bool) (xs : List BasisEntry) (x : BasisEntry) → list_any f (xs ++ x ∷ []) ≡ (f x || list_any f xs)
any_push f [] x = refl
any_push f (y ∷ ys) x = ap (λ b. f y || b) (any_push f ys x) ∙ or_moved (f y) (f x) (list_any f ys)

map_push : (f : BasisEntry → BasisEntry) (xs : List BasisEntry) (x : BasisEntry) → map f (xs ++ x ∷ []) ≡ map f xs ++ f x ∷ []
map_push f [] x = refl
map_push f (y ∷ ys) x = ap (λ zs. f y ∷ zs) (map_push f ys x)

module _ (g : Network) (columns : ℕ) where
  pub no_entries : (basis : List BasisEntry) → basis ≡ [] → IsState g basis []
  no_entries basis none entry = ap (λ xs. list_any (same_entry entry) (map (written_entry g) xs)) (sym none)

  one_more : (earlier more state : List BasisEntry) (entry : BasisEntry) → IsState g earlier state → more ≡ earlier ++ entry ∷ [] → IsState g more (written_entry g entry ∷ state)
  one_more earlier more state entry are is other =
      ap (λ b. same_entry other (written_entry g entry) || b) (are other)
      ∙ sym (any_push (same_entry other) (map (written_entry g) earlier) (written_entry g entry))
      ∙ ap (λ xs. list_any (same_entry other) xs) (sym (map_push (written_entry g) earlier entry))
      ∙ ap (λ xs. list_any (same_entry other) (map (written_entry g) xs)) (sym is)

  pub record AreEntriesTo (start : List ℕ × ℕ) (count : ℕ) (basis : List BasisEntry) (left : ℕ) (s : List ℕ × ℕ) : Type 0 where
    pub state : List BasisEntry
    pub are : IsState g basis state
    pub so_far : IsRowTo (codes " ") (10 ∷ []) (entry_at g columns) next_entry (entries_at g columns count start) (map (written_entry g) basis) left state s
    pub fit : All (EntryFits (customer_count g) columns) basis

  -- what a call that reads an entry says
  abbrev pub Reads : List BasisEntry → List ℕ × ℕ → List ℕ × ℕ → BasisEntry → Type 0
  Reads earlier s t entry = (state : List BasisEntry) → IsState g earlier state → entry_at g columns state s ≡ Ok (written_entry g entry, t)

  abbrev pub Breaks : List BasisEntry → List ℕ × ℕ → TextFault → Type 0
  Breaks earlier s fault = (state : List BasisEntry) → IsState g earlier state → entry_at g columns state s ≡ Err fault

  pub entries-begin : (start s : List ℕ × ℕ) (count : ℕ) (entry : BasisEntry) (none basis : List BasisEntry) → 0 < count → none ≡ [] → Reads none start s entry → EntryFits (customer_count g) columns entry → basis ≡ none ++ entry ∷ []
      → AreEntriesTo start count basis (count - 1) s
  entries-begin start s zero entry none basis some empty found fits is = absurd (omega (arith, some))
  entries-begin start s (suc count) entry none basis some empty found fits is =
      let only : basis ≡ entry ∷ [] = is ∙ ap (λ xs. xs ++ entry ∷ []) empty in
      let same : suc count - 1 ≡ count = omega arith in
      let first : entry_at g columns [] start ≡ Ok (written_entry g entry, s) = found [] (no_entries none empty) in
      let written : map (written_entry g) basis ≡ written_entry g entry ∷ [] = ap (λ xs. map (written_entry g) xs) only in
      record {
        state = written_entry g entry ∷ [];
        are = one_more none basis [] entry (no_entries none empty) is;
        so_far = rw (same, first, written) refl;
        fit = subst (All (EntryFits (customer_count g) columns)) (sym only) (All-push (EntryFits (customer_count g) columns) [] entry (All-nil (EntryFits (customer_count g) columns)) fits);
      }

  pub no_first_entry : (start : List ℕ × ℕ) (count : ℕ) (none : List BasisEntry) (fault : TextFault) → 0 < count → none ≡ [] → Breaks none start fault → entries_at g columns count start ≡ Err fault
  no_first_entry start zero none fault some empty found = absurd (omega (arith, some))
  no_first_entry start (suc count) none fault some empty found =
      let first : entry_at g columns [] start ≡ Err fault = found [] (no_entries none empty) in
      rw first refl

  module _ (start : List ℕ × ℕ) (count : ℕ) where
    pub entries-go_on : (s t u : List ℕ × ℕ) (left fewer : ℕ) (basis more : List BasisEntry) (entry : BasisEntry) → left ≡ suc fewer → AreEntriesTo start count basis left s → word_at (codes " ") s ≡ Ok t → Reads basis t u entry
        → EntryFits (customer_count g) columns entry → more ≡ basis ++ entry ∷ [] → AreEntriesTo start count more fewer u
    entries-go_on s t u left fewer basis more entry one before space found fits is = record {
      state = written_entry g entry ∷ before.state;
      are = one_more basis more before.state entry before.are is;
      so_far =
          row-goes_on (codes " ") (10 ∷ []) (entry_at g columns) next_entry (entries_at g columns count start) s t u left fewer before.state (map (written_entry g) basis) (map (written_entry g) more) (written_entry g entry)
          one before.so_far space (found before.state before.are) (ap (λ xs. map (written_entry g) xs) is ∙ map_push (written_entry g) basis entry);
      fit = subst (All (EntryFits (customer_count g) columns)) (sym is) (All-push (EntryFits (customer_count g) columns) basis entry before.fit fits);
    }

    pub entries-no_mark : (s : List ℕ × ℕ) (left fewer : ℕ) (basis : List BasisEntry) (fault : TextFault) → left ≡ suc fewer → AreEntriesTo start count basis left s → word_at (codes " ") s ≡ Err fault → entries_at g columns count start ≡ Err fault
    entries-no_mark s left fewer basis fault one before space =
        row-no_mark (codes " ") (10 ∷ []) (entry_at g columns) next_entry (entries_at g columns count start) s left fewer before.state (map (written_entry g) basis) fault one before.so_far space

    pub entries-break : (s t : List ℕ × ℕ) (left fewer : ℕ) (basis : List BasisEntry) (fault : TextFault) → left ≡ suc fewer → AreEntriesTo start count basis left s → word_at (codes " ") s ≡ Ok t → Breaks basis t fault → entries_at g columns count start ≡ Err fault
    entries-break s t left fewer basis fault one before space found =
        row-breaks (codes " ") (10 ∷ []) (entry_at g columns) next_entry (entries_at g columns count start) s t left fewer before.state (map (written_entry g) basis) fault one before.so_far space (found before.state before.are)

    pub entries-end : (s t : List ℕ × ℕ) (left : ℕ) (basis : List BasisEntry) → left ≡ 0 → AreEntriesTo start count basis left s → word_at (10 ∷ []) s ≡ Ok t → entries_at g columns count start ≡ Ok (map (written_entry g) basis, t)
    entries-end s t left basis none before feed =
        row-ends (codes " ") (10 ∷ []) (entry_at g columns) next_entry (entries_at g columns count start) s t left before.state (map (written_entry g) basis) none before.so_far feed

    pub entries-no_end : (s : List ℕ × ℕ) (left : ℕ) (basis : List BasisEntry) (fault : TextFault) → left ≡ 0 → AreEntriesTo start count basis left s → word_at (10 ∷ []) s ≡ Err fault → entries_at g columns count start ≡ Err fault
    entries-no_end s left basis fault none before feed =
        row-no_end (codes " ") (10 ∷ []) (entry_at g columns) next_entry (entries_at g columns count start) s left before.state (map (written_entry g) basis) fault none before.so_far feed
