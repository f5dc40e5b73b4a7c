-- What a `Pricer` is, by its fields.
use Rattle.std.specs.Prelude.{◌≡◌}
use Rattle.order_pricing.specs.Pricing.{AreKnown}
use Rattle.order_pricing.specs.declared.pricer.Pricer.TheInside.{Inside}

-- its bounds are those of its instance, and what it remembers is true
pub record IsPricer (p : Inside) : Type 0 where
  pub bounds : p.bounds ≡ p.inst.now
  pub known : AreKnown p.inst.now p.known.entries
