-- A certificate as it is written: customers by their nodes, and forbidden pairs as a list in rising order.
use Rattle.std.specs.Prelude.{ℕ, zero, suc, ◌+◌, ℤ, List, [], ◌∷◌, ◌++◌, Option, map, if◌then◌else◌}
use Rattle.customer_sets.specs.Pairs.{ForbiddenPairs, allows_of}
use Rattle.ev_model.specs.Network.{Network}
use Rattle.certificate_parts.specs.Ranges.{customer_count}
use Rattle.bound_certificate.specs.declared.certificate.Certificate.{Certificate}
use Rattle.bound_certificate.specs.declared.certificate.Root.{Root}
use Rattle.bound_certificate.specs.declared.certificate.Root.TheVariants as root
use Rattle.bound_certificate.specs.declared.certificate.Section.{Section}
use Rattle.bound_certificate.specs.declared.certificate.TreeLine.{TreeLine}
use Rattle.bound_certificate.specs.declared.certificate.TreeLine.TheVariants.{Split, Leaf}
use Rattle.certificate_parts.specs.Written.{WrittenLabel, place_node, written_entry, written_label}

pub record WrittenSection : Type 0 where
  pub weight : ℕ
  pub prices : List ℤ
  -- the forbidden pairs, in rising order; 0 is the depot
  pub pairs : List (ℕ × ℕ)
  pub labels : List WrittenLabel

-- helpers and splits name nodes, in the same data as numbers and places
pub record Written : Type 0 where
  pub bound : Option ℕ
  pub root : Root
  pub sections : List WrittenSection
  pub tree : List TreeLine

-- the pair of two places by their nodes, where it is forbidden
abbrev pub if_forbidden : Network → ForbiddenPairs → ℕ → ℕ → List (ℕ × ℕ)
if_forbidden g p a b = if allows_of p a b then [] else (place_node g a, place_node g b) ∷ []

-- the forbidden pairs of a place with each of `more` places from b on
abbrev pub pairs_after : Network → ForbiddenPairs → ℕ → ℕ → ℕ → List (ℕ × ℕ)
pairs_after g p a b zero = []
pairs_after g p a b (suc more) = if_forbidden g p a b ++ pairs_after g p a (b + 1) more

-- the forbidden pairs of each of `more` places from a on
abbrev pub pairs_from : Network → ForbiddenPairs → ℕ → ℕ → List (ℕ × ℕ)
pairs_from g p a zero = []
pairs_from g p a (suc more) =
    pairs_after g p a 0 (customer_count g + 1) ++ pairs_from g p (a + 1) more

abbrev pub written_pairs : Network → ForbiddenPairs → List (ℕ × ℕ)
written_pairs g p = pairs_from g p 0 (customer_count g + 1)

abbrev pub written_section : Network → Section → WrittenSection
written_section g s = record {
  weight = s.weight;
  prices = s.prices;
  pairs = written_pairs g s.pairs;
  labels = map (written_label g) s.labels;
}

abbrev pub written_root : Network → Root → Root
written_root g root.None = root.None
written_root g (root.Exact over shares) = root.Exact over shares
written_root g (root.Wide columns basis) = root.Wide columns (map (written_entry g) basis)

abbrev pub written_line : Network → TreeLine → TreeLine
written_line g (Split i j) = Split (place_node g i) (place_node g j)
written_line g (Leaf section) = Leaf section

abbrev pub written : Network → Certificate → Written
written g c = record {
  bound = c.bound;
  root = written_root g c.root;
  sections = map (written_section g) c.sections;
  tree = map (written_line g) c.tree;
}
