use Rattle.std.proofs.Common.{ℕ, List, subst, sym}
use Rattle.order_pricing.specs.Pricing.{AreKnown, IsKnownOf}
use Rattle.order_pricing.proofs.Remembered.{Entries, remembered}
use Rattle.order_pricing.proofs.known.remember.Goals as goal

pub returns-in_ok-insert : goal.returns-in_ok-insert
returns-in_ok-insert c =
    subst (λ (es : Entries). AreKnown c.args.inst.now es) (sym c.in_ok-insert.ensures.entries)
    (remembered c.args.inst.now c.args.known.now.entries c.in_ok-copy_of.field-0 c.args.told c.requires.known
    (subst (λ (l : List ℕ). IsKnownOf c.args.inst.now l c.args.told) (sym c.in_ok-copy_of.ensures) c.requires.told))
