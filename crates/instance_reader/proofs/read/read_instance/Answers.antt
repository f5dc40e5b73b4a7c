use Rattle.std.proofs.Common.{◌≤◌, length, arith}
use Rattle.instance_reader.proofs.FaultsLemmas.{result_of_bytes}
use Rattle.instance_reader.specs.Faults.{longest}
use Rattle.instance_reader.proofs.read.read_instance.Goals as goal

pub returns-in-Ok-clause-fault : goal.returns-in-Ok-clause-fault
returns-in-Ok-clause-fault c =
    let short : length c.args.bytes.now ≤ longest = omega arith in
    result_of_bytes c.args.bytes.now _ c.read_value.result short c.in-Ok.ensures.ok c.read_value.ensures.fault
