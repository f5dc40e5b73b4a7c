-- What is told of the sections, of the leaves and of the root is the verdict.
use Rattle.std.proofs.Common.{◌≡◌, ◌∙◌, ℕ, ◌<◌, true, false, [], ◌∷◌, Option, Some, slice_get, get_or, sym, ap, subst, ◌⊎◌, inl, inr}
use Rattle.std.specs.List.{All}
use Rattle.std.proofs.lemmas.Option.{same_Some, slice_get-get_or}
use Rattle.customer_sets.specs.Pairs.{any_pair}
use Rattle.ev_model.specs.Network.{Network}
use Rattle.fleet_model.specs.ClosedList.{IsClosed}
use Rattle.fleet_model.specs.ClosedListRules.{ClosedFault, ComesBefore as ComesBeforeInSection, IsFault}
use Rattle.fleet_model.specs.Section.{Section}
use Rattle.fleet_model.specs.Tree.{IsBoundedBy}
use Rattle.fleet_model.proofs.Rules.{closed_by_rules}
use Rattle.bound_certificate.specs.Meaning.{priced_sections}
use Rattle.bound_certificate.specs.Ranges.{Fits}
use Rattle.bound_certificate.specs.declared.certificate.Certificate.{Certificate}
use Rattle.certificate_check.specs.Accepted.{IsAccepted, IsSectionAt}
use Rattle.certificate_check.specs.Bounds.{TellsRoot}
use Rattle.certificate_check.specs.Firsts.{AllHold, IsFirst, IsLeafFault, IsSectionFault, LeafHolds, leaves_along, Names}
use Rattle.certificate_check.specs.Leaves.{TreeLeaf}
use Rattle.certificate_check.specs.Rules.{AllowsEach, at_bound, at_pairs, at_root, CertificateFault, ComesBefore, in_section, IsBroken, IsFirstBroken, NamesAt}
use Rattle.certificate_check.specs.Verdicts.{IsVerdict}
use Rattle.certificate_check.specs.declared.verdict.Verdict.{Verdict}
use Rattle.certificate_check.specs.declared.verdict.Verdict.TheVariants.{Accepted, Bound, End, Pairs, Root, Start, Step}
use Rattle.certificate_check.proofs.Along.{leaves_are, under_where_leaves_hold}

module _ (g : Network) (c : Certificate) where
  -- a verdict that names the first broken rule is the verdict
  pub named : (v : Verdict) (f : CertificateFault) → Names v f → IsFirstBroken g c f → IsVerdict g c v
  named Accepted f names first = absurd names
  named (Start section) f names first = subst (IsFirstBroken g c) names first
  named (Step section label node) f names first = subst (IsFirstBroken g c) names first
  named (End section label) f names first = subst (IsFirstBroken g c) names first
  named (Pairs leaf) f names first = subst (IsFirstBroken g c) names first
  named (Bound leaf) f names first = subst (IsFirstBroken g c) names first
  named Root f names first = subst (IsFirstBroken g c) names first

  -- ---- sections

  no_fault : (n : ℕ) (f : ClosedFault) (s : Section) → IsSectionAt c n s → IsClosed g s → IsBroken g c (in_section n f) → ⊥
  no_fault n f s at closed broken =
      let same : broken.0 ≡ s = same_Some broken.0 s (sym broken.1 ∙ at) in
      (closed_by_rules g s).0 closed f (subst (λ t. IsFault g t f) same broken.2)

  pub section_verdict : (v : Verdict) → IsFirst (IsClosed g) (IsSectionFault g) (priced_sections c.sections) v → IsVerdict g c v
  section_verdict v is =
      let s = is.item in
      let n = is.number in
      let fault = is.broken.0 in
      named v (in_section n fault) is.broken.1 (record {
        broken = (s, is.there, is.broken.2.broken);
        first = first;
      })
    where
      earlier : (n m : ℕ) (s : Section) (h f : ClosedFault) → ((o : ClosedFault) → ComesBeforeInSection o h → IsFault g s o → ⊥) → IsSectionAt c n s →
          ((m : ℕ) (y : Section) → m < n → slice_get (priced_sections c.sections) m ≡ Some y → IsClosed g y) →
          (m < n) ⊎ ((m ≡ n) × ComesBeforeInSection f h) → IsBroken g c (in_section m f) → ⊥
      earlier n m s h f first there before (inl less) broken = (closed_by_rules g broken.0).0 (before m broken.0 less broken.1) f broken.2
      earlier n m s h f first there before (inr same) broken =
          let at : IsSectionAt c n broken.0 = subst (λ k. IsSectionAt c k broken.0) same.0 broken.1 in
          let is_s : broken.0 ≡ s = same_Some broken.0 s (sym at ∙ there) in
          first f same.1 (subst (λ t. IsFault g t f) is_s broken.2)

      first : (other : CertificateFault) → ComesBefore other (in_section is.number is.broken.0) → IsBroken g c other → ⊥
      first (in_section m f) comes broken = earlier is.number m is.item is.broken.0 f is.broken.2.first is.there is.before comes broken
      first (at_pairs m) comes broken = comes
      first (at_bound m) comes broken = comes
      first at_root comes broken = comes

  -- ---- leaves

  -- a leaf by its number among the lines' leaves
  pub leaf_at : (n : ℕ) (l : TreeLeaf) (s : Section) → NamesAt c n l s → slice_get (leaves_along (any_pair ∷ []) c.tree) n ≡ Some l
  leaf_at n l s named = ap (λ ls. slice_get ls n) (leaves_are c.tree named.leaf.0 named.leaf.1) ∙ named.leaf.2

  same_section : (l : TreeLeaf) (s : Section) (bound : Option ℕ) → LeafHolds (priced_sections c.sections) bound l → IsSectionAt c l.section s → AllowsEach l.allows s × IsBoundedBy s bound
  same_section l s bound holds at =
      let same : holds.0 ≡ s = same_Some holds.0 s (sym holds.1 ∙ at) in
      (subst (AllowsEach l.allows) same holds.2.pairs, subst (λ t. IsBoundedBy t bound) same holds.2.bounded)

  pub no_pairs : (n : ℕ) → ((l : TreeLeaf) → slice_get (leaves_along (any_pair ∷ []) c.tree) n ≡ Some l → LeafHolds (priced_sections c.sections) c.bound l) → IsBroken g c (at_pairs n) → ⊥
  no_pairs n holds broken =
      let l = broken.0 in
      broken.3 (same_section l broken.1 c.bound (holds l (leaf_at n l broken.1 broken.2)) broken.2.section).0

  pub no_bound : (n : ℕ) → ((l : TreeLeaf) → slice_get (leaves_along (any_pair ∷ []) c.tree) n ≡ Some l → LeafHolds (priced_sections c.sections) c.bound l) → IsBroken g c (at_bound n) → ⊥
  no_bound n holds broken =
      let l = broken.0 in
      broken.3 (same_section l broken.1 c.bound (holds l (leaf_at n l broken.1 broken.2)) broken.2.section).1

  pub no_section : AllHold (IsClosed g) (priced_sections c.sections) → (n : ℕ) (f : ClosedFault) → IsBroken g c (in_section n f) → ⊥
  no_section closed n f broken = (closed_by_rules g broken.0).0 (closed n broken.0 broken.1) f broken.2

  pub leaf_verdict : Fits g c → (v : Verdict) → AllHold (IsClosed g) (priced_sections c.sections) →
      IsFirst (LeafHolds (priced_sections c.sections) c.bound) (IsLeafFault (priced_sections c.sections) c.bound) (leaves_along (any_pair ∷ []) c.tree) v → IsVerdict g c v
  leaf_verdict fits v closed is = by is.broken.2
    where
      names_at : NamesAt c is.number is.item is.broken.0
      names_at = record {
        leaf = (fits.whole.0, fits.whole.1, ap (λ ls. slice_get ls is.number) (sym (leaves_are c.tree fits.whole.0 fits.whole.1)) ∙ is.there);
        section = is.broken.1;
      }

      before_pairs : (other : CertificateFault) → ComesBefore other (at_pairs is.number) → IsBroken g c other → ⊥
      before_pairs (in_section m f) comes broken = no_section closed m f broken
      before_pairs (at_pairs m) comes broken = no_pairs m (λ l at. is.before m l comes at) broken
      before_pairs (at_bound m) comes broken = no_bound m (λ l at. is.before m l comes at) broken
      before_pairs at_root comes broken = comes

      here : AllowsEach is.item.allows is.broken.0 → (m : ℕ) → (m < is.number) ⊎ (m ≡ is.number) → IsBroken g c (at_pairs m) → ⊥
      here each m (inl less) broken = no_pairs m (λ l at. is.before m l less at) broken
      here each m (inr same) broken =
          let l = broken.0 in
          let at : slice_get (leaves_along (any_pair ∷ []) c.tree) is.number ≡ Some l = subst (λ k. slice_get (leaves_along (any_pair ∷ []) c.tree) k ≡ Some l) same (leaf_at m l broken.1 broken.2) in
          let same_leaf : is.item ≡ l = same_Some is.item l (sym is.there ∙ at) in
          let there : IsSectionAt c is.item.section broken.1 = subst (λ (k : TreeLeaf). IsSectionAt c k.section broken.1) (sym same_leaf) broken.2.section in
          let same_s : is.broken.0 ≡ broken.1 = same_Some is.broken.0 broken.1 (sym is.broken.1 ∙ there) in
          let moved : AllowsEach is.item.allows broken.1 = subst (AllowsEach is.item.allows) same_s each in
          broken.3 (subst (λ (k : TreeLeaf). AllowsEach k.allows broken.1) same_leaf moved)

      before_bound : AllowsEach is.item.allows is.broken.0 → (other : CertificateFault) → ComesBefore other (at_bound is.number) → IsBroken g c other → ⊥
      before_bound each (in_section m f) comes broken = no_section closed m f broken
      before_bound each (at_pairs m) comes broken = here each m comes broken
      before_bound each (at_bound m) comes broken = no_bound m (λ l at. is.before m l comes at) broken
      before_bound each at_root comes broken = comes

      by : (Names v (at_pairs is.number) × (AllowsEach is.item.allows is.broken.0 → ⊥)) ⊎ (Names v (at_bound is.number) × AllowsEach is.item.allows is.broken.0 × (IsBoundedBy is.broken.0 c.bound → ⊥)) → IsVerdict g c v
      by (inl pairs) = named v (at_pairs is.number) pairs.0 (record {
        broken = (is.item, is.broken.0, names_at, pairs.1);
        first = before_pairs;
      })
      by (inr bound) = named v (at_bound is.number) bound.0 (record {
        broken = (is.item, is.broken.0, names_at, bound.2);
        first = before_bound bound.1;
      })

  -- ---- the root

  all_closed : AllHold (IsClosed g) (priced_sections c.sections) → All (IsClosed g) (priced_sections c.sections)
  all_closed closed k d within = closed k (get_or (priced_sections c.sections) k d) (slice_get-get_or (priced_sections c.sections) k d within)

  pub accepted : Fits g c → (s : Section) → AllHold (IsClosed g) (priced_sections c.sections) → AllHold (LeafHolds (priced_sections c.sections) c.bound) (leaves_along (any_pair ∷ []) c.tree)
      → IsSectionAt c 0 s → TellsRoot g s c.root true → IsAccepted g c
  accepted fits s closed leaves at root = record {
    sections = all_closed closed;
    leaves = (
      fits.whole.0,
      fits.whole.1,
      under_where_leaves_hold (priced_sections c.sections) c.bound fits.whole.0 any_pair
          (subst (AllHold (LeafHolds (priced_sections c.sections) c.bound)) (leaves_are c.tree fits.whole.0 fits.whole.1) leaves),
    );
    root = (s, at, root);
  }

  pub root_broken : (s : Section) → AllHold (IsClosed g) (priced_sections c.sections) → AllHold (LeafHolds (priced_sections c.sections) c.bound) (leaves_along (any_pair ∷ []) c.tree)
      → IsSectionAt c 0 s → TellsRoot g s c.root false → IsVerdict g c Root
  root_broken s closed leaves at broken = record { broken = (s, at, broken); first = first }
    where
      first : (other : CertificateFault) → ComesBefore other at_root → IsBroken g c other → ⊥
      first (in_section m f) comes is = no_section closed m f is
      first (at_pairs m) comes is = no_pairs m (λ l there. leaves m l there) is
      first (at_bound m) comes is = no_bound m (λ l there. leaves m l there) is
      first at_root comes is = comes
