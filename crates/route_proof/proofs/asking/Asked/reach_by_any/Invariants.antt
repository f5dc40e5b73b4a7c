use Rattle.std.proofs.Common.{◌-◌, length}
use Rattle.route_proof.specs.Asking.{vehicle}
use Rattle.route_proof.proofs.EntryLooks.{IsLeft}
use Rattle.route_proof.proofs.asking.Asked.reach_by_any.Given as goal

abbrev pub invariant-loop-entries : goal.invariant-loop-entries
invariant-loop-entries l = IsLeft l.self.judged.now.labels (vehicle l.self.place l.level l.time) l.entries l.begin l.at

abbrev pub decreases-loop-entries : goal.decreases-loop-entries
decreases-loop-entries l = length l.entries - l.at
