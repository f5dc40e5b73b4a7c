-- The tree of bytes, or why they are none: too many bytes, another version, or the first fault from
-- the left.
use Rattle.std.specs.Prelude.{◌≡◌, ℕ, ◌≤◌, Bool, List, Result, codes, length}
use Rattle.std.specs.List.{All}
use Rattle.customer_sets.specs.SetBelow.{IsSetBelow}
use Rattle.ev_model.specs.Network.{Network}
use Rattle.ev_text.specs.Texts.{Begins, IsTextOf}
use Rattle.certificate_parts.specs.Limits.{most_bytes}
use Rattle.certificate_parts.specs.Versions.{BeginsAnother, begins_another, text_in}
use Rattle.certificate_parts.specs.declared.cert_text.CertText.{CertText}
use Rattle.near_tree.specs.Ranges.{TreeFits}
use Rattle.near_tree.specs.declared.proof.LeafSection.{LeafSection}
use Rattle.near_tree.specs.declared.proof.SectionLabel.{SectionLabel}
use Rattle.near_tree.specs.declared.proof.TreeNode.{TreeNode}
use Rattle.near_tree.specs.declared.proof.TreeNode.TheVariants as node
use Rattle.near_tree.specs.declared.proof.TreeProof.{TreeProof}
use Rattle.tree_text.specs.Reading.{tree_at}
use Rattle.tree_text.specs.TreeTexts.{tree_text}
use Rattle.tree_text.specs.Written.{WrittenTree, written_tree}
use Rattle.tree_text.specs.WrittenRanges.{TreeIs, TreeLoose}

-- the word in front of the version of a tree
abbrev pub tree_word : List ℕ
tree_word = codes "evroute near tree "

-- the bytes begin with the first line of another version
abbrev pub has_other_version : List ℕ → Bool
has_other_version bytes = begins_another tree_word 1 bytes

-- the tree of the bytes as it is written, or the first cause why there is none
abbrev pub tree_in : Network → List ℕ → Result WrittenTree CertText
tree_in g bytes = text_in tree_word 1 (tree_at g) bytes

-- the bytes begin with the first line of a version that is not the first
abbrev pub BeginsOtherVersion : List ℕ → Type 0
BeginsOtherVersion bytes = BeginsAnother tree_word 1 bytes

-- the bytes are the text of what is written, and are not too many
pub record SpellsWritten (g : Network) (bytes : List ℕ) (w : WrittenTree) : Type 0 where
  pub within : length bytes ≤ most_bytes
  pub ranges : TreeIs g w
  pub text : bytes ≡ tree_text w

-- the bytes can be continued to a text in which each number is in its range by itself
abbrev pub BeginsLoosely : Network → List ℕ → Type 0
BeginsLoosely g bytes = Begins (IsTextOf tree_text (TreeLoose g)) bytes

-- what a set is by its type: numbers below 448, in rising order
abbrev pub IsKeptSet : List ℕ → Type 0
IsKeptSet set = IsSetBelow 448 set

abbrev pub HasMemory : SectionLabel → Type 0
HasMemory l = IsKeptSet l.memory

-- what the sets of a section, and of a node, are by their type
pub record IsKeptSection (s : LeafSection) : Type 0 where
  pub sets : All IsKeptSet s.sets
  pub memories : All HasMemory s.labels

abbrev pub IsKeptNode : TreeNode → Type 0
IsKeptNode (node.Split before after) = Unit {0}
IsKeptNode (node.Entries most set) = IsKeptSet set
IsKeptNode (node.Leaf s) = IsKeptSection s

-- a tree in the ranges of the network whose text these bytes are
pub record IsSpelledBy (g : Network) (bytes : List ℕ) (p : TreeProof) : Type 0 where
  pub fits : TreeFits g p
  pub kept : All IsKeptNode p.nodes
  pub text : bytes ≡ tree_text (written_tree g p)
