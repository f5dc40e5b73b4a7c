-- The reader of prices reads exactly their line.
use Rattle.std.proofs.Common.{◌≡◌, ℕ, ℤ, pos, List, [], ◌∷◌, codes, length, arith, Ok}
use Rattle.std.specs.Fmt.{signed_decimal}
use Rattle.std.specs.List.{All}
use Rattle.ev_model.specs.Network.{Network}
use Rattle.ev_text.specs.Readers.{signed_at}
use Rattle.ev_text.specs.Texts.{AreLooseRun, AreRun, StandsUnlessLonger, AllFrom}
use Rattle.ev_text.proofs.ReadingLaws.{Reads}
use Rattle.ev_text.proofs.SignedLaws.{reads-signed}
use Rattle.ev_text.proofs.Lines.{reads-line}
use Rattle.ev_text.proofs.Numbers.{Anything}
use Rattle.certificate_parts.specs.Texts.{prices_text}
use Rattle.certificate_parts.specs.Limits.{greatest_price}
use Rattle.certificate_parts.specs.Ranges.{IsPrice, customer_count}
use Rattle.std.proofs.lemmas.List.Elements.{All-cons, All-nil}
use Rattle.certificate_parts.specs.Reading.{prices_at}

pub reads-prices : (g : Network) → Reads StandsUnlessLonger (prices_at g) prices_text (AreRun {S = Unit {0}} (λ none price. IsPrice price) (λ none price. none) (customer_count g) (tt {0})) (AreLooseRun IsPrice (customer_count g)) Anything
reads-prices g =
    reads-line {S = Unit {0}} 112 (codes "rices") (λ none. signed_at greatest_price) (λ none price. none) signed_decimal (λ none price. IsPrice price) IsPrice (pos 0, omega arith)
    (λ none. reads-signed StandsUnlessLonger (λ at text more still longer. still longer) greatest_price (omega arith) (omega arith)) (customer_count g) (tt {0})

each_price : (prices : List ℤ) → AllFrom {S = Unit {0}} (λ none price. IsPrice price) (λ none price. none) (tt {0}) prices → All IsPrice prices
each_price [] all = All-nil IsPrice
each_price (p ∷ ps) all = All-cons IsPrice p ps all.0 (each_price ps all.1)

pub prices_are : (g : Network) (s t : List ℕ × ℕ) (prices : List ℤ) → prices_at g s ≡ Ok (prices, t) → All IsPrice prices × (length prices ≡ customer_count g)
prices_are g s t prices is =
    let are = ((reads-prices g).standing s t prices is).0 in
    (each_price prices are.0, are.1)
