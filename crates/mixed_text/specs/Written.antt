-- A proof for several kinds of vehicles as it is written: customers by their nodes, which are those
-- of the first kind as of each.
use Rattle.std.specs.Prelude.{ℕ, ℤ, List, Option, map}
use Rattle.ev_model.specs.Network.{Network}
use Rattle.piece_fn.specs.declared.label.Label.{Label}
use Rattle.certificate_parts.specs.Written.{WrittenLabel, written_entry, written_label}
use Rattle.mixed_model.specs.Kinds.{first_of}
use Rattle.mixed_model.specs.declared.proof.MixedProof.{MixedProof}
use Rattle.mixed_model.specs.declared.proof.MixedRoot.{MixedRoot}
use Rattle.mixed_model.specs.declared.proof.MixedRoot.TheVariants as root

pub record WrittenMixed : Type 0 where
  pub bound : Option ℕ
  -- helpers name nodes, in the same data as numbers
  pub root : MixedRoot
  pub weight : ℕ
  pub prices : List ℤ
  -- the labels of each kind, in the order of the kinds
  pub labels : List (List WrittenLabel)

abbrev pub written_labels : Network → List Label → List WrittenLabel
written_labels g labels = map (written_label g) labels

abbrev pub written_mixed_root : Network → MixedRoot → MixedRoot
written_mixed_root g root.None = root.None
written_mixed_root g (root.Exact over shares) = root.Exact over shares
written_mixed_root g (root.Wide columns basis) = root.Wide columns (map (written_entry g) basis)

abbrev pub written_mixed : List Network → MixedProof → WrittenMixed
written_mixed kinds p = record {
  bound = p.bound;
  root = written_mixed_root (first_of kinds) p.root;
  weight = p.weight;
  prices = p.prices;
  labels = map (written_labels (first_of kinds)) p.labels;
}
