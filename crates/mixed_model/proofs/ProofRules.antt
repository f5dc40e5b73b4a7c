-- The first broken rule of a proof, kind by kind.
use Rattle.std.proofs.Common.{◌≡◌, ◌∙◌, ℕ, ◌+◌, ◌<◌, Bool, true, ap, List, [], Option, Some, None, Result, Ok, Err, length, subst, sym, arith, inl, inr}
use Rattle.std.specs.Prelude.{IfOk, IfSome, IsSome, slice_index_or, ℤ}
use Rattle.std.proofs.lemmas.List.{get_or_read}
use Rattle.std.proofs.lemmas.Bool.{cases_eq, false≢true}
use Rattle.customer_sets.specs.Pairs.{any_pair}
use Rattle.ev_model.specs.Network.{Network}
use Rattle.fleet_model.specs.ClosedList.{IsClosed}
use Rattle.fleet_model.specs.ClosedListRules.{at_home, at_start, at_step, ClosedFault, IsFault, IsFirstFault}
use Rattle.fleet_model.specs.Section.{Section}
use Rattle.fleet_model.specs.Tree.{IsBoundedBy}
use Rattle.fleet_model.proofs.Rules.{closed_by_rules}
use Rattle.closed_lists.specs.Verdicts.{IsTold}
use Rattle.closed_lists.specs.declared.fault.ClosedFault.{ClosedFault as ListFault}
use Rattle.closed_lists.specs.declared.fault.ClosedFault.TheVariants as fault
use Rattle.certificate_check.specs.Labels.{priced_labels}
use Rattle.piece_fn.specs.declared.label.Label.{Label}
use Rattle.mixed_model.specs.Accepted.{AreClosed, RootHolds}
use Rattle.mixed_model.specs.Broken.{at_bound, at_root, in_kind, IsBroken, IsFirstBroken, Place, ComesBefore}
use Rattle.mixed_model.specs.Kinds.{network_of}
use Rattle.mixed_model.specs.Meaning.{labels_of, section_of}
use Rattle.mixed_model.specs.Verdicts.{IsVerdict}
use Rattle.mixed_model.specs.declared.proof.MixedProof.{MixedProof}
use Rattle.mixed_model.specs.declared.verdict.MixedVerdict.{MixedVerdict}
use Rattle.mixed_model.specs.declared.verdict.MixedVerdict.TheVariants.{Accepted, End, Start, Step}
use Rattle.mixed_model.specs.Tellings.{AreClosedBefore, TellsKind, ToldAs}

-- what holds of each number below one, and of that one
pub below_more : (P : ℕ → Type 0) (n : ℕ) → ((m : ℕ) → m < n → P m) → P n → (m : ℕ) → m < n + 1 → P m
below_more P n before here m less = elim (cases_eq m n) [
  | inl same ↦ subst P (sym same) here
  | inr apart ↦ before m (omega (arith, less, apart))
]

-- the labels at the place of a kind are those of the kind
pub listed_labels : (p : MixedProof) (kind : ℕ) (lists : List (List Label)) (labels : List Label) {n : ℕ} → lists ≡ p.labels → length p.labels ≡ n → kind < n → labels ≡ slice_index_or lists kind labels → labels ≡ labels_of p kind
listed_labels p kind lists labels {n} same many known is =
    let within : kind < length lists = omega (arith, known, many, ap (λ (l : List (List Label)). length l) same) in
    get_or_read lists kind labels within is [] ∙ ap (λ (l : List (List Label)). slice_index_or l kind []) same

-- the labels of a kind with a weight and prices, where each pair is allowed, are the section of the kind
module _ (kinds : List Network) (p : MixedProof) (kind : ℕ) (g : Network) (allows : ℕ → ℕ → Bool) (prices : List ℤ) (labels : List Label) (same : network_of kinds kind ≡ g) (all : (a b : ℕ) → allows a b ≡ true)
    (prices_are : prices ≡ p.prices) (labels_are : labels ≡ labels_of p kind) where
  every_pair : allows ≡ any_pair
  every_pair = λ i. λ a b. all a b i

  as_section : priced_labels allows p.weight prices labels ≡ section_of p kind
  as_section =
      ap (λ (f : ℕ → ℕ → Bool). priced_labels f p.weight prices labels) every_pair ∙ ap (λ (ps : List ℤ). priced_labels any_pair p.weight ps labels) prices_are
      ∙ ap (λ (ls : List Label). priced_labels any_pair p.weight p.prices ls) labels_are

  pub closed_in : IsClosed g (priced_labels allows p.weight prices labels) → IsClosed (network_of kinds kind) (section_of p kind)
  closed_in closed = subst (λ (h : Network). IsClosed h (section_of p kind)) (sym same) (subst (IsClosed g) as_section closed)

  pub told_in : (f : ListFault) → IsTold g (priced_labels allows p.weight prices labels) f → IsTold (network_of kinds kind) (section_of p kind) f
  told_in f told = subst (λ (h : Network). IsTold h (section_of p kind) f) (sym same) (subst (λ (s : Section). IsTold g s f) as_section told)

module _ (kinds : List Network) (p : MixedProof) where
  first_in : (kind : ℕ) (f : ClosedFault) → kind < length kinds → AreClosedBefore kinds p kind → IsFirstFault (network_of kinds kind) (section_of p kind) f → IsFirstBroken kinds p (in_kind kind f)
  first_in kind f known closed told = record {
    broken = (known, told.broken);
    first = by;
  }
    where
      by : (other : Place) → ComesBefore other (in_kind kind f) → IsBroken kinds p other → ⊥
      by (in_kind m h) (inl less) broken = (closed_by_rules (network_of kinds m) (section_of p m)).0 (closed m less) h broken.1
      by (in_kind m h) (inr same) broken =
          told.first h same.1 (subst (λ (n : ℕ). IsFault (network_of kinds n) (section_of p n) h) same.0 broken.1)
      by at_bound before broken = before
      by at_root before broken = before

  kind_told : (kind : ℕ) (f : ListFault) (v : MixedVerdict) → kind < length kinds → IsTold (network_of kinds kind) (section_of p kind) f → ToldAs kind f v → TellsKind kinds p kind (Some v)
  kind_told kind fault.Start v known told is = (
    λ same. let no : Start kind ≡ Accepted = sym is ∙ same in cc,
    λ closed. subst (IsVerdict kinds p) (sym is) (first_in kind at_start known closed told),
  )
  kind_told kind (fault.Step label node) v known told is = (
    λ same. let no : Step kind label node ≡ Accepted = sym is ∙ same in cc,
    λ closed. subst (IsVerdict kinds p) (sym is) (first_in kind (at_step label node) known closed told),
  )
  kind_told kind (fault.End label) v known told is = (
    λ same. let no : End kind label ≡ Accepted = sym is ∙ same in cc,
    λ closed. subst (IsVerdict kinds p) (sym is) (first_in kind (at_home label) known closed told),
  )
  kind_told kind fault.Memory v known told is = absurd is

  pub kind_result : {E : Type 0} (kind : ℕ) (f : ListFault) (r : Result (Option MixedVerdict) E) → kind < length kinds → IsTold (network_of kinds kind) (section_of p kind) f →
      IfOk r (λ v. IfSome v (ToldAs kind f)) → IfOk r IsSome → IfOk r (TellsKind kinds p kind)
  kind_result kind f (Ok None) known told is some = absurd (false≢true some)
  kind_result kind f (Ok (Some v)) known told is some = kind_told kind f v known told is
  kind_result kind f (Err e) known told is some = tt

  -- ---- the bound and the root, behind the kinds

  pub bound_first : AreClosed kinds p → (IsBoundedBy (section_of p 0) p.bound → ⊥) → IsFirstBroken kinds p at_bound
  bound_first closed broken = record { broken = broken; first = by }
    where
      by : (other : Place) → ComesBefore other at_bound → IsBroken kinds p other → ⊥
      by (in_kind m h) before is = (closed_by_rules (network_of kinds m) (section_of p m)).0 (closed m is.0) h is.1
      by at_bound before is = before
      by at_root before is = before

  pub root_first : AreClosed kinds p → IsBoundedBy (section_of p 0) p.bound → (RootHolds kinds p p.root → ⊥) → IsFirstBroken kinds p at_root
  root_first closed bounded broken = record { broken = broken; first = by }
    where
      by : (other : Place) → ComesBefore other at_root → IsBroken kinds p other → ⊥
      by (in_kind m h) before is = (closed_by_rules (network_of kinds m) (section_of p m)).0 (closed m is.0) h is.1
      by at_bound before is = is bounded
      by at_root before is = before
