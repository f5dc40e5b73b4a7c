use Rattle.std.proofs.Common.{rules}
use Rattle.mixed_fleet.specs.Searched.{IsSearched}
use Rattle.mixed_fleet.proofs.Once.{numbers_small}
use Rattle.mixed_fleet.proofs.partition.candidates_of.Goals as goal

pub candidate_of-requires : goal.candidate_of-requires
candidate_of-requires c =
    let is : IsSearched c.args.kinds.now c.route-item.result = search rules in
    numbers_small c.args.kinds.now c.requires.fleet c.route-item.result is
