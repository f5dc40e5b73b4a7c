-- The sections of bounds of nodes are strong.
use Rattle.std.proofs.Common.{sym, subst, inl, inr, map}
use Rattle.customer_sets.specs.Pairs.{allows_of, ForbiddenPairs}
use Rattle.ev_model.specs.Network.{Network}
use Rattle.fleet_model.specs.Cover.{CoverKeepsPairs}
use Rattle.fleet_model.specs.Strong.{AreRisingPrices, IsStrong}
use Rattle.route_plan.specs.declared.plan.RoutePlan.{RoutePlan}
use Rattle.bound_certificate.specs.Meaning.{basis_columns, priced_section, route_shares}
use Rattle.column_pool.specs.Bounds.{IsNodeBound, section_of}
use Rattle.column_pool.specs.declared.bound.NodeBound.{NodeBound}
use Rattle.column_pool.specs.declared.bound.NodeBound.TheVariants.{Exact, Empty, Wide}

pub strong : (g : Network) (p : ForbiddenPairs) (bound : NodeBound) → IsNodeBound g p bound → IsStrong g (priced_section (section_of bound))
strong g p (Exact section over shares) is =
    inr (inl (record {
      over = over;
      shares = route_shares shares;
      exact = is.exact;
      keeps = subst (λ ps. CoverKeepsPairs g (allows_of ps) (route_shares shares)) (sym is.section.pairs) is.keeps;
    }))
strong g p (Empty section) is = inl is.none
strong g p (Wide columns basis section) is =
    inr (inr (record {
      plans = map (λ (c : RoutePlan). c.stops) columns;
      entries = basis_columns g columns basis;
      wide = is.wide;
      weight = is.weight;
      prices = subst (λ ps. AreRisingPrices g (allows_of ps) section.prices) (sym is.section.pairs) is.prices;
    }))
