use Rattle.std.proofs.Common.{arith}
use Rattle.std.proofs.lemmas.Grind.{common_steps}
use Rattle.piece_fn.proofs.Levels.{level_is}
use Rattle.near_search.proofs.values.is_within_full.Goals as goal

pub returns : goal.returns
returns c holds level is =
    let below = (level_is c.args.value.now level c.top_of.ensures.valid is).1 in
    grind (arith, common_steps)
