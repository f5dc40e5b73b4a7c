-- Reading prices, one after another on a line.
use Rattle.std.proofs.Common.{◌≡◌, ℕ, zero, suc, ◌-◌, ◌<◌, List, [], ◌∷◌, ◌++◌, Ok, Err, codes, length, refl, arith}
use Rattle.std.specs.List.{All}
use Rattle.ev_model.specs.Network.{Network}
use Rattle.ev_text.specs.Scans.{whole_at, word_at}
use Rattle.ev_text.specs.declared.TextFault.{TextFault}
use Rattle.ev_text.proofs.RunLoops.{IsRowTo, row-breaks, row-ends, row-goes_on, row-no_end, row-no_mark}
use Rattle.ev_text.specs.Numbers.{UpTo}
use Rattle.certificate_parts.specs.Ranges.{customer_count}
use Rattle.near_proof.specs.Ranges.{greatest_near_price}
use Rattle.near_text.specs.Reading.{price_at, price_row, prices_at}
use Rattle.near_text.proofs.NearReading.{from_run}
use Rattle.near_text.proofs.PartReading.{reads-prices}

abbrev no_state : Unit {0} → ℕ → Unit {0}
no_state none price = none

abbrev pub ArePricesTo : List ℕ × ℕ → ℕ → List ℕ → ℕ → List ℕ × ℕ → Type 0
ArePricesTo start count prices left s = IsRowTo (codes " ") (10 ∷ []) price_at no_state (price_row count start) prices left (tt {0}) s

pub prices-begin : (start s : List ℕ × ℕ) (count price : ℕ) (prices : List ℕ) → 0 < count → whole_at greatest_near_price start ≡ Ok (price, s) → prices ≡ price ∷ [] → ArePricesTo start count prices (count - 1) s
prices-begin start s zero price prices some found is = absurd (omega (arith, some))
prices-begin start s (suc count) price prices some found is = let same : suc count - 1 ≡ count = omega arith in rw (same, found, is) refl

pub no_first_price : (start : List ℕ × ℕ) (count : ℕ) (fault : TextFault) → 0 < count → whole_at greatest_near_price start ≡ Err fault → price_row count start ≡ Err fault
no_first_price start zero fault some found = absurd (omega (arith, some))
no_first_price start (suc count) fault some found = rw found refl

module _ (start : List ℕ × ℕ) (count : ℕ) where
  pub prices-go_on : (s t u : List ℕ × ℕ) (left fewer : ℕ) (prices more : List ℕ) (price : ℕ) → left ≡ suc fewer → ArePricesTo start count prices left s → word_at (codes " ") s ≡ Ok t → whole_at greatest_near_price t ≡ Ok (price, u) → more ≡ prices ++ price ∷ [] → ArePricesTo start count more fewer u
  prices-go_on s t u left fewer prices more price one so_far space found is = row-goes_on (codes " ") (10 ∷ []) price_at no_state (price_row count start) s t u left fewer (tt {0}) prices more price one so_far space found is

  pub prices-no_mark : (s : List ℕ × ℕ) (left fewer : ℕ) (prices : List ℕ) (fault : TextFault) → left ≡ suc fewer → ArePricesTo start count prices left s → word_at (codes " ") s ≡ Err fault → price_row count start ≡ Err fault
  prices-no_mark s left fewer prices fault one so_far space = row-no_mark (codes " ") (10 ∷ []) price_at no_state (price_row count start) s left fewer (tt {0}) prices fault one so_far space

  pub prices-break : (s t : List ℕ × ℕ) (left fewer : ℕ) (prices : List ℕ) (fault : TextFault) → left ≡ suc fewer → ArePricesTo start count prices left s → word_at (codes " ") s ≡ Ok t → whole_at greatest_near_price t ≡ Err fault → price_row count start ≡ Err fault
  prices-break s t left fewer prices fault one so_far space found = row-breaks (codes " ") (10 ∷ []) price_at no_state (price_row count start) s t left fewer (tt {0}) prices fault one so_far space found

  pub prices-end : (s t : List ℕ × ℕ) (left : ℕ) (prices : List ℕ) → left ≡ 0 → ArePricesTo start count prices left s → word_at (10 ∷ []) s ≡ Ok t → price_row count start ≡ Ok (prices, t)
  prices-end s t left prices none so_far feed = row-ends (codes " ") (10 ∷ []) price_at no_state (price_row count start) s t left (tt {0}) prices none so_far feed

  pub prices-no_end : (s : List ℕ × ℕ) (left : ℕ) (prices : List ℕ) (fault : TextFault) → left ≡ 0 → ArePricesTo start count prices left s → word_at (10 ∷ []) s ≡ Err fault → price_row count start ≡ Err fault
  prices-no_end s left prices fault none so_far feed = row-no_end (codes " ") (10 ∷ []) price_at no_state (price_row count start) s left (tt {0}) prices fault none so_far feed

pub prices_are : (g : Network) (s t : List ℕ × ℕ) (prices : List ℕ) → prices_at g s ≡ Ok (prices, t) → All (UpTo greatest_near_price) prices × (length prices ≡ customer_count g)
prices_are g s t prices is =
    let are = ((reads-prices g).standing s t prices is).0 in
    (from_run prices are.0, are.1)
