use Rattle.std.proofs.Common.{◌≡◌, map, take}
use Rattle.serde_json.specs.View.{view}
use Rattle.instance_maker.specs.MadeInstance.{whole}
use Rattle.instance_maker.proofs.instance.whole_numbers.Given as goal

abbrev pub invariant-loop-number : goal.invariant-loop-number
invariant-loop-number l = map view l.items.items ≡ map whole (take l.number-index l.numbers)
