use Rattle.std.proofs.Common.{◌-◌, length}
use Rattle.certificate_parts.specs.Ranges.{customer_count}
use Rattle.near_tree.specs.Sites.{leaf_of}
use Rattle.near_tree.specs.Targets.{state_at}
use Rattle.near_tree.proofs.CoveredStates.{IsLeft}
use Rattle.near_tree.proofs.coverage.AskedCovering.reach.Given as goal

abbrev pub invariant-loop-entries : goal.invariant-loop-entries
invariant-loop-entries l = IsLeft l.self-inside.judge.site.inst.now (leaf_of l.self-inside.judge.site) l.self-inside.judge.site.section.now.labels (state_at (customer_count l.self-inside.judge.site.inst.now) l.self-inside.target l.level l.time) l.entries l.begin l.at

abbrev pub decreases-loop-entries : goal.decreases-loop-entries
decreases-loop-entries l = length l.entries - l.at
