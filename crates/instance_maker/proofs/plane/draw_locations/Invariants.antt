use Rattle.std.proofs.Common.{◌≡◌, ◌*◌}
use Rattle.instance_maker.specs.Generator.{state_after}
use Rattle.instance_maker.specs.Locations.{locations_of}
use Rattle.instance_maker.proofs.plane.draw_locations.Given as goal

abbrev pub invariant-loop-node : goal.invariant-loop-node
invariant-loop-node l = record {
  drawn_so_far : l.locations.items ≡ locations_of l.seed l.node;
  state : l.generator.state ≡ state_after l.seed (2 * l.node);
}
