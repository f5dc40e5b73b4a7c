-- Roots of proofs at given prices.
use Rattle.std.specs.Prelude.{◌≡◌, ℕ, ℤ, pos, ◌<ℤ◌, List, length}
use Rattle.ev_model.specs.Network.{Network}
use Rattle.fleet_model.specs.Prices.{price_total}
use Rattle.certificate_parts.specs.Ranges.{customer_count}
use Rattle.mixed_model.specs.Accepted.{IsWideRoot}
use Rattle.mixed_model.specs.Covers.{IsExactCover}
use Rattle.mixed_model.specs.Kinds.{first_of}
use Rattle.mixed_model.specs.Meaning.{kind_shares}
use Rattle.mixed_model.specs.Ranges.{ColumnsFit, SharesFit}
use Rattle.mixed_model.specs.declared.proof.MixedRoot.{MixedRoot}
use Rattle.mixed_model.specs.declared.proof.MixedRoot.TheVariants as root
use Rattle.mixed_fleet.specs.Rising.{AreRisingPrices}

-- the root shows what it says of the prices over the weight, and is in its ranges
abbrev pub IsRightRoot : List Network → ℕ → List ℤ → MixedRoot → Type 0
IsRightRoot kinds weight prices root.None = (weight ≡ 0) × (pos 0 <ℤ price_total prices)
IsRightRoot kinds weight prices (root.Exact over shares) =
    SharesFit (length kinds) over shares
    × IsExactCover kinds weight prices over (kind_shares shares)
IsRightRoot kinds weight prices (root.Wide columns basis) =
    ColumnsFit (length kinds) (customer_count (first_of kinds)) columns basis
    × IsWideRoot kinds columns basis × (weight ≡ 1) × AreRisingPrices kinds prices
