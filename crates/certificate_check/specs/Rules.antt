-- The rules of an accepted certificate one by one, and which of them is the first that is broken.
use Rattle.std.specs.Prelude.{◌≡◌, ◌≢◌, ℕ, ◌*◌, ◌<◌, ◌⊎◌, Bool, true, List, Some, slice_get, pos, ◌*ℤ◌}
use Rattle.ev_model.specs.Network.{is_customer, Network, node_count}
use Rattle.fleet_model.specs.ClosedListRules.{ClosedFault, ComesBefore as ComesBeforeInSection, IsFault}
use Rattle.fleet_model.specs.Cover.{cost_of_shares, IsFleetRoute, Share, shares_of}
use Rattle.fleet_model.specs.Places.{customer_count}
use Rattle.fleet_model.specs.Prices.{price_total}
use Rattle.fleet_model.specs.Section.{Section, ShowsNoPlan}
use Rattle.fleet_model.specs.Tree.{IsBoundedBy}
use Rattle.fleet_model.specs.Wide.{IsTooWide}
use Rattle.route_plan.specs.declared.plan.RoutePlan.{RoutePlan}
use Rattle.bound_certificate.specs.Meaning.{basis_columns, route_columns, route_shares}
use Rattle.certificate_parts.specs.declared.entry.BasisEntry.{BasisEntry}
use Rattle.bound_certificate.specs.declared.certificate.Certificate.{Certificate}
use Rattle.bound_certificate.specs.declared.certificate.Root.{Root}
use Rattle.bound_certificate.specs.declared.certificate.Root.TheVariants as root
use Rattle.certificate_check.specs.Accepted.{AllowsAll, IsSectionAt}
use Rattle.certificate_check.specs.Leaves.{IsLeafAt, TreeLeaf}

-- where a certificate breaks a rule: in a section, where its labels aren't closed; at a leaf, by its pairs or by its
-- bound; or at the root
pub data CertificateFault : Type 0 where
  in_section : ℕ → ClosedFault → CertificateFault
  at_pairs : ℕ → CertificateFault
  at_bound : ℕ → CertificateFault
  at_root : CertificateFault

-- each pair that is allowed, as at a leaf, the section allows too
abbrev pub AllowsEach : (ℕ → ℕ → Bool) → Section → Type 0
AllowsEach allows s = (a b : ℕ) → allows a b ≡ true → s.allows a b ≡ true

-- the section that the leaf with a number names
pub record NamesAt (c : Certificate) (number : ℕ) (l : TreeLeaf) (s : Section) : Type 0 where
  pub leaf : IsLeafAt c number l
  pub section : IsSectionAt c l.section s

-- the plan of some share is no route of a fleet
abbrev pub HasFaultyShare : Network → List Share → Type 0
HasFaultyShare g shares =
    (n : ℕ) × (x : Share) × (slice_get shares n ≡ Some x) × (IsFleetRoute g 1 x.plan → ⊥)

-- some customer's shares don't add up to the weight of all
abbrev pub HasUnevenCustomer : Network → ℕ → List Share → Type 0
HasUnevenCustomer g over shares =
    (node : ℕ) × (node < node_count g) × (is_customer g node ≡ true) ×
    (shares_of g shares node ≢ over)

-- the cost of the shares over their weight is not the price sum over the section's weight
abbrev pub CostsOther : Network → Section → ℕ → List Share → Type 0
CostsOther g s over shares =
    pos (cost_of_shares g 1 shares * s.weight) ≢ price_total s.prices *ℤ pos over

abbrev pub IsExactBroken : Network → Section → ℕ → List Share → Type 0
IsExactBroken g s over shares =
    HasFaultyShare g shares ⊎ HasUnevenCustomer g over shares ⊎ (s.weight ≡ 0) ⊎
    CostsOther g s over shares

-- some listed route is none of a fleet
abbrev pub HasFaultyColumn : Network → List RoutePlan → Type 0
HasFaultyColumn g columns =
    (n : ℕ) × (p : RoutePlan) × (slice_get columns n ≡ Some p) × (IsFleetRoute g 1 p.stops → ⊥)

abbrev pub IsWideBroken : Network → List RoutePlan → List BasisEntry → Type 0
IsWideBroken g columns basis =
    HasFaultyColumn g columns ⊎
    (IsTooWide (customer_count g) (route_columns g columns) (basis_columns g columns basis) → ⊥)

-- the root doesn't show what it says of the first section
abbrev pub IsKindBroken : Network → Section → Root → Type 0
IsKindBroken g s root.None = ShowsNoPlan s → ⊥
IsKindBroken g s (root.Exact over shares) = IsExactBroken g s over (route_shares shares)
IsKindBroken g s (root.Wide columns basis) = IsWideBroken g columns basis

-- a rule is broken there
abbrev pub IsBroken : Network → Certificate → CertificateFault → Type 0
IsBroken g c (in_section n fault) = (s : Section) × IsSectionAt c n s × IsFault g s fault
IsBroken g c (at_pairs n) =
    (l : TreeLeaf) × (s : Section) × NamesAt c n l s × (AllowsEach l.allows s → ⊥)
IsBroken g c (at_bound n) =
    (l : TreeLeaf) × (s : Section) × NamesAt c n l s × (IsBoundedBy s c.bound → ⊥)
IsBroken g c at_root =
    (s : Section) × IsSectionAt c 0 s × ((AllowsAll s → ⊥) ⊎ IsKindBroken g s c.root)

-- sections come first, by their order and in each as its rules come; then the leaves by their order, in each its
-- pairs and then its bound; then the root
abbrev pub ComesBefore : CertificateFault → CertificateFault → Type 0
ComesBefore (in_section m f) (in_section n h) =
    (m < n) ⊎ ((m ≡ n) × ComesBeforeInSection f h)
ComesBefore (in_section m f) (at_pairs n) = Unit {0}
ComesBefore (in_section m f) (at_bound n) = Unit {0}
ComesBefore (in_section m f) at_root = Unit {0}
ComesBefore (at_pairs m) (in_section n h) = ⊥
ComesBefore (at_pairs m) (at_pairs n) = m < n
ComesBefore (at_pairs m) (at_bound n) = (m < n) ⊎ (m ≡ n)
ComesBefore (at_pairs m) at_root = Unit {0}
ComesBefore (at_bound m) (in_section n h) = ⊥
ComesBefore (at_bound m) (at_pairs n) = m < n
ComesBefore (at_bound m) (at_bound n) = m < n
ComesBefore (at_bound m) at_root = Unit {0}
ComesBefore at_root fault = ⊥

-- the first broken rule
pub record IsFirstBroken (g : Network) (c : Certificate) (fault : CertificateFault) : Type 0 where
  pub broken : IsBroken g c fault
  pub first : (other : CertificateFault) → ComesBefore other fault → IsBroken g c other → ⊥
