-- The least bound of the sections that leaves of a certificate's tree name.
use Rattle.std.specs.Prelude.{◌≡◌, ℕ, ◌≤◌, ◌<◌, min, pos, ◌≤ℤ◌, List, [], ◌∷◌, Option, Some, None, length}
use Rattle.std.specs.List.{All}
use Rattle.fleet_model.specs.Prices.{price_total}
use Rattle.bound_certificate.specs.Ranges.{IsPrice}
use Rattle.bound_certificate.specs.declared.certificate.Section.{Section}
use Rattle.bound_certificate.specs.declared.certificate.TreeLine.{TreeLine}
use Rattle.bound_certificate.specs.declared.certificate.TreeLine.TheVariants.{Split, Leaf}
use Rattle.ev_fleet.specs.Bounds.{HasBound}

-- the prices are so few and small that their sum can be taken, and it isn't below 0
pub record IsSummable (s : Section) : Type 0 where
  pub few : length s.prices ≤ 128
  pub small : All IsPrice s.prices
  pub some : pos 0 ≤ℤ price_total s.prices

-- the lesser of two bounds; `None` is above every number
abbrev pub lesser : Option ℕ → Option ℕ → Option ℕ
lesser None b = b
lesser (Some a) None = Some a
lesser (Some a) (Some b) = Some (min a b)

-- the numbers of the sections that the leaves name
abbrev pub leaf_names : List TreeLine → List ℕ
leaf_names [] = []
leaf_names (Split i j ∷ lines) = leaf_names lines
leaf_names (Leaf section ∷ lines) = section ∷ leaf_names lines

-- each leaf names one of the sections
abbrev pub NameSections : List Section → List TreeLine → Type 0
NameSections sections lines = All (λ number. number < length sections) (leaf_names lines)

-- a bound behind a line: the lesser of the one before and that of the section that the line names, if it is a leaf
abbrev pub IsLesserAt : List Section → Option ℕ → TreeLine → Option ℕ → Type 0
IsLesserAt sections before (Split i j) behind = behind ≡ before
IsLesserAt sections before (Leaf number) behind =
    (own : Option ℕ) × HasBound sections number own × (behind ≡ lesser before own)

-- the bound behind all lines
abbrev pub IsLeastFrom : List Section → Option ℕ → List TreeLine → Option ℕ → Type 0
IsLeastFrom sections before [] bound = bound ≡ before
IsLeastFrom sections before (line ∷ lines) bound =
    (behind : Option ℕ) × IsLesserAt sections before line behind
    × IsLeastFrom sections behind lines bound
