use Rattle.instance_reader.proofs.LawsLemmas.{never_both, one_fault, one_network}
use Rattle.instance_reader.proofs.laws.bytes_mean_one_thing.Goals as goal

pub returns-clause-network : goal.returns-clause-network
returns-clause-network c = one_network

pub returns-clause-fault : goal.returns-clause-fault
returns-clause-fault c = one_fault

pub returns-clause-either : goal.returns-clause-either
returns-clause-either c = never_both
