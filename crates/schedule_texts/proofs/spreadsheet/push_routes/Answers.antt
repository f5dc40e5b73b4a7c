use Rattle.std.proofs.Common.{arith}
use Rattle.std.proofs.lemmas.Grind.{common_steps}
use Rattle.schedule_texts.proofs.Joined.{joined_both}
use Rattle.schedule_texts.proofs.spreadsheet.push_routes.Goals as goal

pub loop-route-preserved : goal.loop-route-preserved
loop-route-preserved = grind (arith, common_steps, joined_both)
