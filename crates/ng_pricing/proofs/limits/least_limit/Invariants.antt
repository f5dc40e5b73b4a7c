use Rattle.std.proofs.Common.{◌≡◌, ℕ, ◌<◌, get_or, set, IfNone, IfSome}
use Rattle.ev_model.specs.Fleet.{times_in}
use Rattle.ng_pricing.specs.Met.{IsLimit, Pays}
use Rattle.ng_pricing.specs.declared.met.MetRoute.{MetRoute}
use Rattle.ng_pricing.proofs.limits.least_limit.Given as goal

abbrev pub invariant-loop-route : goal.invariant-loop-route
invariant-loop-route l = record {
  some : IfSome l.least (IsLimit l.prices l.customer l.met);
  least : IfSome l.least (λ limit. (i : ℕ) (d : MetRoute) → i < l.route → Pays (set l.prices l.customer limit.price) (get_or l.met i d));
  none : IfNone l.least ((i : ℕ) (d : MetRoute) → i < l.route → times_in (get_or l.met i d).numbers l.customer ≡ 0);
}
