use Rattle.std.proofs.Common.{◌∙◌, ap, sym}
use Rattle.std.specs.Prelude.{option_copied}
use Rattle.order_pricing.proofs.Remembered.{recalled}
use Rattle.order_pricing.proofs.known.recall.Goals as goal

pub returns-in-Some : goal.returns-in-Some
returns-in-Some c = recalled c.args.inst.now c.args.known.now.entries c.args.order.now c.in-Some.told.now c.requires (sym c.get.ensures.value ∙ ap option_copied c.in-Some.is)
