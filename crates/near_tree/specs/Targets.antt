-- States of a near route at the levels of a value, and whether labels of a leaf cover them.
use Rattle.std.specs.Prelude.{◌≡◌, ℕ, Bool, List, MatchBool, Some, slice_get}
use Rattle.certificate_parts.specs.Ranges.{customer_count}
use Rattle.ev_model.specs.Network.{Network}
use Rattle.label_steps.specs.Covering.{IsCoveredAll, IsMissed}
use Rattle.piece_fn.specs.PieceFn.{level_times}
use Rattle.near_tree.specs.Covered.{CoversAtLeaf, IsLeafCovered}
use Rattle.near_tree.specs.Lasts.{last_at}
use Rattle.near_tree.specs.Preorder.{leaf_label}
use Rattle.near_tree.specs.Rules.{Leaf}
use Rattle.near_tree.specs.Sections.{LeafState}
use Rattle.near_tree.specs.Sites.{leaf_at}
use Rattle.near_tree.specs.declared.coverage.Target.{Target}
use Rattle.near_tree.specs.declared.path.Turn.{Turn}
use Rattle.near_tree.specs.declared.proof.LeafSection.{LeafSection}
use Rattle.near_tree.specs.declared.proof.SectionLabel.{SectionLabel}

-- the state at a level and a time, among so many customers
abbrev pub state_at : ℕ → Target → ℕ → ℕ → LeafState
state_at customers t level time = record {
  last = last_at customers t.last;
  state = record {
    last = 0;
    node = t.node;
    served = t.memory;
    paid = t.earned;
    level = level;
    time = time;
  };
}

-- the label covers the state with a level at a time
abbrev pub covers_by : Network → Leaf → SectionLabel → Target → ℕ → ℕ → Type 0
covers_by g f l t level time =
    CoversAtLeaf g f.branch f.section (leaf_label l) (state_at (customer_count g) t level time)

-- the states of a target, asked of the labels of a section at the end of a way
pub record Asking : Type 0 where
  pub network : Network
  pub path : List Turn
  pub section : LeafSection
  pub target : Target

-- some label covers the state
abbrev pub IsStateCovered : Network → Leaf → LeafState → Type 0
IsStateCovered g f a = IsLeafCovered g f.branch f.section a

-- the state of a target with a level at a time
abbrev pub covers_at : Network → Leaf → Target → ℕ → ℕ → Type 0
covers_at g f t level time = IsStateCovered g f (state_at (customer_count g) t level time)

abbrev pub covers : Asking → ℕ → ℕ → Type 0
covers a level time = covers_at a.network (leaf_at a.path a.section) a.target level time

-- whether each state of each of the values is covered
abbrev pub TellsEach : (ℕ → ℕ → Type 0) → List (List (ℕ × ℕ)) → Bool → Type 0
TellsEach is_covered values covered = MatchBool covered
    ((k : ℕ) (w : List (ℕ × ℕ)) → slice_get values k ≡ Some w →
    IsCoveredAll is_covered (level_times w))
    ((k : ℕ) × (w : List (ℕ × ℕ)) × (slice_get values k ≡ Some w)
    × IsMissed is_covered (level_times w))
