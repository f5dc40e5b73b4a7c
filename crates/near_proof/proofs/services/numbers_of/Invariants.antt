use Rattle.std.proofs.Common.{◌≡◌, ◌<◌, ◌++◌, drop, length}
use Rattle.std.specs.List.{All}
use Rattle.fleet_model.specs.Places.{numbers_of}
use Rattle.instance_reader.specs.Instance.{customer_nodes}
use Rattle.near_proof.proofs.services.numbers_of.Given as goal

abbrev pub invariant-loop-stop : goal.invariant-loop-stop
invariant-loop-stop l = record {
  told : l.numbers.items ++ numbers_of l.inst (drop l.stop-index l.stops) ≡ numbers_of l.inst l.stops;
  within : All (λ c. c < length (customer_nodes l.inst)) l.numbers.items;
}
