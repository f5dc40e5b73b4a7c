use Rattle.std.proofs.Common.{◌≡◌, drop}
use Rattle.instance_reader.specs.Places.{item_of}
use Rattle.instance_reader.specs.Search.{first_along}
use Rattle.instance_reader.specs.Sizes.{large, large_in}
use Rattle.instance_reader.proofs.sizes.large_in.Given as goal

abbrev pub invariant-loop-index : goal.invariant-loop-index
invariant-loop-index l =
    first_along (λ number. large (item_of l.place number)) l.index (drop l.index l.numbers) ≡ large_in l.place l.numbers
