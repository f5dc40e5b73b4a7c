-- A proof by prices at which no route of any kind earns.
use Rattle.std.proofs.Common.{◌≡◌, ℕ, ◌≤◌, List, Option, None, Some, length, inl, refl, arith}
use Rattle.std.specs.Prelude.{IfSome, IsSome}
use Rattle.ev_model.specs.Network.{Network}
use Rattle.fleet_model.specs.Tree.{IsBoundedBy}
use Rattle.certificate_parts.specs.Limits.{greatest_bound}
use Rattle.certificate_parts.specs.Ranges.{customer_count}
use Rattle.mixed_model.specs.Accepted.{IsMixedAccepted, RootHolds}
use Rattle.mixed_model.specs.Kinds.{first_of}
use Rattle.mixed_model.specs.Meaning.{section_of}
use Rattle.mixed_model.specs.Ranges.{MixedFits, RootFits}
use Rattle.mixed_model.specs.declared.proof.MixedProof.{MixedProof}
use Rattle.mixed_model.specs.declared.proof.MixedRoot.{MixedRoot}
use Rattle.mixed_model.specs.declared.proof.MixedRoot.TheVariants as root
use Rattle.mixed_model.proofs.Truths.{true_proof}
use Rattle.mixed_fleet.specs.Fleets.{AreFleetKinds}
use Rattle.mixed_fleet.specs.Problem.{AreClosedLists, MayBeAsked}
use Rattle.mixed_text.specs.MixedIn.{HaveSets}
use Rattle.mixed_fleet.specs.Proofs.{IsBestProof, IsBoundOf, IsRootOf}
use Rattle.mixed_fleet.specs.Roots.{IsRightRoot}

module _ (kinds : List Network) (p : MixedProof) where
  bounded : (bound : Option ℕ) → IsBoundOf p.weight p.prices bound → IsBoundedBy (section_of p 0) bound
  bounded None is = is
  bounded (Some b) is = inl is.1.least

  root_fits : (r : MixedRoot) → IsRightRoot kinds p.weight p.prices r → RootFits (length kinds) (customer_count (first_of kinds)) r
  root_fits root.None is = tt
  root_fits (root.Exact over shares) is = is.0
  root_fits (root.Wide columns basis) is = is.0

  root_holds : (r : MixedRoot) → IsRightRoot kinds p.weight p.prices r → RootHolds kinds p r
  root_holds root.None is = is
  root_holds (root.Exact over shares) is = is.1
  root_holds (root.Wide columns basis) is = is.1

  some_bound : (bound : Option ℕ) → IsBoundOf p.weight p.prices bound → 1 ≤ p.weight → IsSome bound
  some_bound None is some = absurd (let none = is.0 in omega (arith, none, some))
  some_bound (Some b) is some = refl

  no_bound : (bound : Option ℕ) → IsBoundOf p.weight p.prices bound → p.weight ≡ 0 → bound ≡ None
  no_bound None is none = refl
  no_bound (Some b) is none = absurd (let some = is.0 in omega (arith, none, some))

  root_is : (r : MixedRoot) → IsBoundOf p.weight p.prices p.bound → IsRightRoot kinds p.weight p.prices r → IsRootOf kinds p r
  root_is root.None bound is = no_bound p.bound bound is.0
  root_is (root.Exact over shares) bound is = some_bound p.bound bound is.1.some_weight
  root_is (root.Wide columns basis) bound is = (some_bound p.bound bound (let one = is.2 in omega (arith, one)), is.2, is.3)

  pub best : AreFleetKinds kinds → MayBeAsked kinds p.weight p.prices → AreClosedLists kinds p.weight p.prices p.labels → IsBoundOf p.weight p.prices p.bound → IfSome p.bound (λ b. b ≤ greatest_bound)
      → IsRightRoot kinds p.weight p.prices p.root → HaveSets p.labels → IsBestProof kinds p
  best fleet asked lists bound small right kept =
      let fits : MixedFits kinds p = record {
        bound = small;
        weight = asked.weight_small;
        one_price = asked.one_price;
        prices = asked.small;
        one_list = lists.one_list;
        labels = λ kind known. record { few = (lists.closed kind known).few; each = (lists.closed kind known).each };
        root_fits = root_fits p.root right;
      } in
      let accepted : IsMixedAccepted kinds p = record {
        closed = λ kind known. (lists.closed kind known).closed;
        bound = bounded p.bound bound;
        root = root_holds p.root right;
      } in
      record { fits = fits; kept = kept; accepted = accepted; bound_is = bound; root_is = root_is p.root bound right; truth = true_proof kinds p fleet.networks fleet.are fits accepted }
