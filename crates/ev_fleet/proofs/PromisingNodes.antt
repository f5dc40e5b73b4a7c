-- Whether some open node has a bound below the cost.
use Rattle.std.proofs.Common.{◌≡◌, ℕ, true, List, Option, Some, None, refl, ap, arith}
use Rattle.std.proofs.lemmas.Bool.{false≢true}
use Rattle.branching.specs.Nodes.{IsLeastBound, NoneIsLive, awaits, lives}
use Rattle.branching.specs.declared.node.Node.{Node}
use Rattle.branching.specs.declared.node.NodeState.{NodeState}
use Rattle.branching.specs.declared.node.NodeState.TheVariants.{Open, Taken, Closed}
use Rattle.ev_fleet.specs.Bounds.{IsAtMost}
use Rattle.ev_fleet.specs.Outcome.{LeavesGap}
use Rattle.ev_fleet.specs.Searching.{IsDone}
use Rattle.ev_fleet.proofs.Bounds.{most_most}

open_lives : (state : NodeState) → awaits state ≡ true → lives state ≡ true
open_lives Open waits = refl
open_lives Taken waits = absurd (false≢true waits)
open_lives Closed waits = absurd (false≢true waits)

pub done_where_none_lives : (nodes : List (Option Node)) (cost : Option ℕ) → NoneIsLive nodes → IsDone nodes cost
done_where_none_lives nodes cost none key node here waits =
    absurd (none key (record { node = node; here = here; is = open_lives node.state waits }))

pub done_where_costly : (nodes : List (Option Node)) (cost : Option ℕ) (bound : ℕ) → IsLeastBound nodes bound → IsAtMost cost (Some bound) → IsDone nodes cost
done_where_costly nodes cost bound least costly key node here waits =
    let le : IsAtMost (Some bound) (Some node.bound) = least.least key node here (open_lives node.state waits) in
    most_most cost (Some bound) (Some node.bound) costly le

-- a bound that leaves a gap isn't above the cost
pub gap_below : (cost : Option ℕ) (bound : ℕ) → LeavesGap cost (Some bound) → IsAtMost (Some bound) cost
gap_below None bound gap = tt
gap_below (Some cost) bound gap = omega (arith, gap)

pub taken_lives : (state : NodeState) → state ≡ Taken → lives state ≡ true
taken_lives state is = ap lives is
