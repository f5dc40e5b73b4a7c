-- The sections of a certificate under the test of closed lists.
use Rattle.std.proofs.Common.{◌≡◌, ◌∙◌, ℕ, ◌+◌, ◌-◌, ◌<◌, ◌≤◌, List, [], ◌∷◌, Option, Some, None, Result, Ok, Err, length, map, refl, sym, ap, subst, arith, inl, inr}
use Rattle.std.specs.List.{All, range_with_len}
use Rattle.std.specs.Prelude.{IfErr, IfOk, IfSome, IsSome, ℤ}
use Rattle.std.proofs.lemmas.List.{length-map}
use Rattle.std.proofs.lemmas.List.FromFn.{length-range_with_len}
use Rattle.charge_curve.specs.Points.{ArePoints, last_level, time_on}
use Rattle.std.proofs.lemmas.Bool.{false≢true}
use Rattle.std.proofs.lemmas.List.Elements.{All-head, All-tail, All-weaker}
use Rattle.customer_sets.specs.Pairs.{allows_of, ForbiddenPairs}
use Rattle.ev_model.specs.Network.{Network, node_count}
use Rattle.fleet_model.specs.ClosedList.{IsClosed}
use Rattle.fleet_model.specs.Section.{Section as PricedSection}
use Rattle.dominance.specs.LevelTimes.{IsLevel}
use Rattle.piece_fn.specs.PieceFn.{first_level, level_times}
use Rattle.piece_fn.specs.declared.label.Label.{Label}
use Rattle.closed_lists.specs.Sections.{IsLabelOf, paid_label, section_of}
use Rattle.closed_lists.specs.Verdicts.{IsTold}
use Rattle.closed_lists.specs.declared.fault.ClosedFault.{ClosedFault as SectionFault}
use Rattle.closed_lists.specs.declared.fault.ClosedFault.TheVariants as fault
use Rattle.bound_certificate.specs.Meaning.{priced_label, priced_section}
use Rattle.bound_certificate.specs.Ranges.{IsLast, LabelFits, PointFits}
use Rattle.bound_certificate.specs.declared.certificate.Section.{Section}
use Rattle.fleet_model.specs.ClosedListRules.{at_home, at_start, at_step}
use Rattle.certificate_check.specs.Labels.{priced_labels}
use Rattle.certificate_check.specs.Firsts.{IsSectionFault, Tells, ToldAs}
use Rattle.certificate_check.specs.declared.verdict.Verdict.{Verdict}

-- ---- a section of a certificate is that of its labels

same_label : (prices : List ℤ) (l : Label) → paid_label prices l ≡ priced_label prices l
unfolding level_times
same_label prices l = refl

same_labels : (prices : List ℤ) (ls : List Label) → map (paid_label prices) ls ≡ map (priced_label prices) ls
same_labels prices [] = refl
same_labels prices (l ∷ ls) = λ n. same_label prices l n ∷ same_labels prices ls n

pub same_section : (pairs : ForbiddenPairs) (weight : ℕ) (prices : List ℤ) (labels : List Label) → section_of pairs weight prices labels ≡ priced_labels (allows_of pairs) weight prices labels
same_section pairs weight prices labels =
    ap (λ ls. let t : PricedSection = record { weight = weight; prices = prices; allows = allows_of pairs; labels = ls } in t) (same_labels prices labels)

-- a fault of the labels is told as a verdict on the section
pub fault_told : (g : Network) (n : ℕ) (s : PricedSection) (f : SectionFault) (v : Verdict) → IsTold g s f → ToldAs n f v → IsSectionFault g n s v
fault_told g n s fault.Start v told is = subst (IsSectionFault g n s) (sym is) (at_start, refl, told)
fault_told g n s (fault.Step label node) v told is = subst (IsSectionFault g n s) (sym is) (at_step label node, refl, told)
fault_told g n s (fault.End label) v told is = subst (IsSectionFault g n s) (sym is) (at_home label, refl, told)
fault_told g n s fault.Memory v told is = absurd is

-- ---- what the test of closed lists tells of a section

last_is_small : (g : Network) (points : List (ℕ × ℕ)) → ArePoints points → All (PointFits g) points → last_level points ≤ g.capacity
last_is_small g [] are fit = absurd are
last_is_small g (p ∷ []) are fit = (All-head (PointFits g) p [] fit).0
last_is_small g (p ∷ q ∷ ps) are fit = last_is_small g (q ∷ ps) are.3 (All-tail (PointFits g) p (q ∷ ps) fit)

levels_end : (points : List (ℕ × ℕ)) (y : ℕ) → IsLevel (level_times points) y → y ≤ last_level points
unfolding level_times
levels_end points y level =
    let n = last_level points + 1 - first_level points in
    let many : length (map (time_on points) (range_with_len (first_level points) n)) ≡ n = length-map (range_with_len (first_level points) n) (time_on points) ∙ length-range_with_len (first_level points) n in
    omega (arith, many, level.0, level.1)

label_of : (g : Network) (l : Label) → LabelFits g l → IsLabelOf g l
label_of g l fits = record {
  last = by fits.last;
  node = fits.node;
  levels = λ y level. let end = levels_end l.value y level in let small = last_is_small g l.value fits.valid fits.points in omega (arith, end, small);
}
  where
    by : IsLast g l.last → l.last < node_count g
    by (inl depot) = let node = fits.node in omega (arith, depot, node)
    by (inr customer) = customer.0

pub labels_of : (g : Network) (labels : List Label) → All (LabelFits g) labels → All (IsLabelOf g) labels
labels_of g labels fit = All-weaker (LabelFits g) (IsLabelOf g) (label_of g) labels fit

pub told_priced : {E : Type 0} (g : Network) (pairs : ForbiddenPairs) (weight : ℕ) (prices : List ℤ) (labels : List Label) (r : Result E SectionFault) →
    IfErr r (IsTold g (section_of pairs weight prices labels)) → IfErr r (IsTold g (priced_labels (allows_of pairs) weight prices labels))
told_priced g pairs weight prices labels r told = subst (λ (t : PricedSection). IfErr r (IsTold g t)) (same_section pairs weight prices labels) told

pub closed_priced : {E : Type 0} (g : Network) (pairs : ForbiddenPairs) (weight : ℕ) (prices : List ℤ) (labels : List Label) (r : Result Unit E) →
    IfOk r (λ _. IsClosed g (section_of pairs weight prices labels)) → IfOk r (λ _. IsClosed g (priced_labels (allows_of pairs) weight prices labels))
closed_priced g pairs weight prices labels r closed = subst (λ (t : PricedSection). IfOk r (λ _. IsClosed g t)) (same_section pairs weight prices labels) closed

module _ (g : Network) (s : Section) (prices : List ℤ) (labels : List Label) (p_is : prices ≡ s.prices) (l_is : labels ≡ s.labels) where
  as_priced : priced_labels (allows_of s.pairs) s.weight prices labels ≡ priced_section s
  as_priced = ap (λ (ps : List ℤ). priced_labels (allows_of s.pairs) s.weight ps labels) p_is ∙ ap (λ (ls : List Label). priced_labels (allows_of s.pairs) s.weight s.prices ls) l_is

  pub closed_told : IsClosed g (priced_labels (allows_of s.pairs) s.weight prices labels) → IsClosed g (priced_section s)
  closed_told closed = subst (IsClosed g) as_priced closed

pub verdict_told : {E : Type 0} (g : Network) (n : ℕ) (s : Section) (prices : List ℤ) (labels : List Label) → prices ≡ s.prices → labels ≡ s.labels → (f : SectionFault) (r : Result (Option Verdict) E) →
    IfOk r (λ v. IfSome v (ToldAs n f)) → IfOk r IsSome → IsTold g (priced_labels (allows_of s.pairs) s.weight prices labels) f → IfOk r (Tells (IsClosed g) (IsSectionFault g) n (priced_section s))
verdict_told g n s prices labels p_is l_is f (Ok None) told some is = absurd (false≢true some)
verdict_told g n s prices labels p_is l_is f (Ok (Some v)) told some is =
    fault_told g n (priced_section s) f v (subst (λ (t : PricedSection). IsTold g t f) (as_priced g s prices labels p_is l_is) is) told
verdict_told g n s prices labels p_is l_is f (Err e) told some is = tt
