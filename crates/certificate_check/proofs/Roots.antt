-- What is told of the root, from what is told of its kind.
use Rattle.std.proofs.Common.{◌≡◌, ℕ, Bool, true, false, not, sym, List, Option, Some, None, Result, Ok, Err, inr}
use Rattle.std.specs.Prelude.{IfOk, is_some, ℤ}
use Rattle.std.proofs.lemmas.Bool.{false≢true}
use Rattle.ev_model.specs.Network.{Network}
use Rattle.fleet_model.specs.Section.{Section}
use Rattle.route_plan.specs.declared.plan.RoutePlan.{RoutePlan}
use Rattle.bound_certificate.specs.Meaning.{route_shares}
use Rattle.certificate_parts.specs.declared.entry.BasisEntry.{BasisEntry}
use Rattle.bound_certificate.specs.declared.certificate.Root.TheVariants as root
use Rattle.bound_certificate.specs.declared.certificate.Share.{Share}
use Rattle.certificate_check.specs.Accepted.{AllowsAll}
use Rattle.certificate_check.specs.Bounds.{IsBoundOf, TellsRoot}
use Rattle.certificate_check.specs.Columns.{TellsWide}
use Rattle.certificate_check.specs.Shares.{TellsExact}

pub none_told : (g : Network) (s : Section) (o : Option ℤ) (b : Bool) → is_some o ≡ not b → AllowsAll s → IsBoundOf s o → TellsRoot g s root.None b
none_told g s None true is all bound = record { all = all; holds = bound }
none_told g s None false is all bound = absurd (false≢true is)
none_told g s (Some own) true is all bound = absurd (false≢true (sym is))
none_told g s (Some own) false is all bound = inr bound.0

pub exact_told : {E : Type 0} (g : Network) (s : Section) (over : ℕ) (shares : List Share) (r : Result Bool E) → AllowsAll s → IfOk r (TellsExact g s over (route_shares shares)) → IfOk r (TellsRoot g s (root.Exact over shares))
exact_told g s over shares (Ok true) all is = record { all = all; holds = is }
exact_told g s over shares (Ok false) all is = inr is
exact_told g s over shares (Err e) all is = tt

pub wide_told : {E : Type 0} (g : Network) (s : Section) (columns : List RoutePlan) (basis : List BasisEntry) (r : Result Bool E) → AllowsAll s → IfOk r (TellsWide g columns basis) → IfOk r (TellsRoot g s (root.Wide columns basis))
wide_told g s columns basis (Ok true) all is = record { all = all; holds = is }
wide_told g s columns basis (Ok false) all is = inr is
wide_told g s columns basis (Err e) all is = tt
