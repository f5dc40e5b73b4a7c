-- A leaf as a judge looks at it.
use Rattle.std.specs.Prelude.{◌≡◌, ◌≤◌, List, length, map}
use Rattle.std.specs.List.{All}
use Rattle.certificate_parts.specs.Ranges.{customer_count}
use Rattle.near_tree.specs.Counting.{counted_as, IsSmallCount}
use Rattle.near_tree.specs.Paths.{branch_at}
use Rattle.near_tree.specs.Preorder.{section_of}
use Rattle.near_tree.specs.Ranges.{LeafSectionFits}
use Rattle.near_tree.specs.Rules.{Leaf}
use Rattle.near_tree.specs.declared.path.Turn.{Turn}
use Rattle.near_tree.specs.declared.proof.LeafSection.{LeafSection}
use Rattle.near_tree.specs.declared.site.Site.{Site}

-- a section at the end of the way
abbrev pub leaf_at : List Turn → LeafSection → Leaf
leaf_at path s = record { branch = branch_at path; section = section_of s }

-- what is judged
abbrev pub leaf_of : Site → Leaf
leaf_of s = leaf_at s.path.now s.section.now

pub record IsSite (s : Site) : Type 0 where
  pub customers : customer_count s.inst.now ≤ 400
  pub fits : LeafSectionFits s.inst.now s.section.now
  pub counted : map counted_as s.counted.now ≡ (branch_at s.path.now).counted
  pub counts : All IsSmallCount s.counted.now
  pub few : length s.counted.now ≤ 64
  pub one_entry_price : length s.section.now.entry_prices ≡ length s.counted.now
