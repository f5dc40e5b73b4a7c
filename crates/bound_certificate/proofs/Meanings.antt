-- What a certificate that fits stands for.
use Rattle.std.proofs.Common.{◌≡◌, ◌∙◌, ℕ, ◌+◌, ◌-◌, ◌≤◌, ℤ, List, [], ◌∷◌, ◌++◌, length, map, sym, ap, subst, append_assoc, append-nil, arith}
use Rattle.std.specs.List.{All, range_with_len}
use Rattle.std.proofs.lemmas.List.{length-map}
use Rattle.std.proofs.lemmas.List.Elements.{All-cons, All-contains, All-head, All-map, All-nil, All-tail, All-weaker}
use Rattle.std.proofs.lemmas.List.FromFn.{length-range_with_len}
use Rattle.charge_curve.specs.Points.{ArePoints, last_level, time_on}
use Rattle.ev_model.specs.Network.{Network}
use Rattle.fleet_model.specs.Labels.{IsLevel, Label as PricedLabel}
use Rattle.fleet_model.specs.Section.{IsSectionOf}
use Rattle.fleet_model.specs.Tree.{BranchTree, IsBranchTree, leaf, split}
use Rattle.fleet_model.proofs.Numbers.{counted}
use Rattle.piece_fn.specs.PieceFn.{first_level, level_times}
use Rattle.piece_fn.specs.declared.label.Label.{Label}
use Rattle.bound_certificate.specs.Meaning.{IsTreeOf, priced_label, priced_section, priced_sections}
use Rattle.certificate_parts.specs.Ranges.{LabelFits, PointFits, customer_count}
use Rattle.bound_certificate.specs.Ranges.{Fits, LineFits, SectionFits}
use Rattle.bound_certificate.specs.Trees.{lines_of}
use Rattle.bound_certificate.specs.declared.certificate.Certificate.{Certificate}
use Rattle.bound_certificate.specs.declared.certificate.Section.{Section}
use Rattle.bound_certificate.specs.declared.certificate.TreeLine.{TreeLine}
use Rattle.bound_certificate.specs.declared.certificate.TreeLine.TheVariants.{Split}

last_is_small : (g : Network) (points : List (ℕ × ℕ)) → ArePoints points → All (PointFits g) points → last_level points ≤ g.capacity
last_is_small g [] are fit = absurd are
last_is_small g (p ∷ []) are fit = (All-head (PointFits g) p [] fit).0
last_is_small g (p ∷ q ∷ ps) are fit = last_is_small g (q ∷ ps) are.3 (All-tail (PointFits g) p (q ∷ ps) fit)

many_times : (points : List (ℕ × ℕ)) → length (level_times points).times ≡ last_level points + 1 - first_level points
unfolding level_times
many_times points =
    let n = last_level points + 1 - first_level points in
    length-map (range_with_len (first_level points) n) (time_on points) ∙ length-range_with_len (first_level points) n

abbrev LevelsFit : Network → PricedLabel → Type 0
LevelsFit g l = (y : ℕ) → IsLevel l y → y ≤ g.capacity

levels_fit : (g : Network) (prices : List ℤ) (l : Label) → LabelFits g l → LevelsFit g (priced_label prices l)
levels_fit g prices l fits y level =
    let last = last_is_small g l.value fits.valid fits.points in
    omega (arith, many_times l.value, last, level.0, level.1)

section_fits : (g : Network) (s : Section) → SectionFits g s → IsSectionOf g (priced_section s)
section_fits g s fits =
    let each = All-map (LevelsFit g) (priced_label s.prices) s.labels (All-weaker (LabelFits g) (λ l. LevelsFit g (priced_label s.prices l)) (levels_fit g s.prices) s.labels fits.labels) in
    record {
      one_price = fits.one_price ∙ counted g;
      levels = λ l y there level. All-contains (LevelsFit g) (map (priced_label s.prices) s.labels) l each there y level;
    }

pub sections_fit : (g : Network) (c : Certificate) → Fits g c → All (IsSectionOf g) (priced_sections c.sections)
sections_fit g c fits = All-map (IsSectionOf g) priced_section c.sections (All-weaker (SectionFits g) (λ s. IsSectionOf g (priced_section s)) (section_fits g) c.sections fits.sections)

module _ {X : Type 0} (P : X → Type 0) where
  all_front : (xs ys : List X) → All P (xs ++ ys) → All P xs
  all_front [] ys all = All-nil P
  all_front (x ∷ xs) ys all = All-cons P x xs (All-head P x (xs ++ ys) all) (all_front xs ys (All-tail P x (xs ++ ys) all))

  all_back : (xs ys : List X) → All P (xs ++ ys) → All P ys
  all_back [] ys all = all
  all_back (x ∷ xs) ys all = all_back xs ys (All-tail P x (xs ++ ys) all)

tree_fits : (g : Network) (sections : ℕ) (t : BranchTree) → All (LineFits (customer_count g) sections) (lines_of t) → IsBranchTree g t
tree_fits g sections (leaf section) all = tt
tree_fits g sections (split i j apart together) all =
    let P = LineFits (customer_count g) sections in
    let first = All-head P (Split i j) (lines_of apart ++ lines_of together) all in
    let rest = All-tail P (Split i j) (lines_of apart ++ lines_of together) all in
    let same = counted g in (
      first.0.0,
      omega (arith, first.0.1, same),
      (first.1.0, omega (arith, first.1.1, same)),
      (tree_fits g sections apart (all_front P (lines_of apart) (lines_of together) rest), tree_fits g sections together (all_back P (lines_of apart) (lines_of together) rest)),
    )

pub has_tree : (g : Network) (c : Certificate) → Fits g c → (tree : BranchTree) × IsTreeOf c.tree tree × IsBranchTree g tree
has_tree g c fits =
    let t = fits.whole.0 in
    (t, fits.whole.1, tree_fits g (length c.sections) t (λ k d within. subst (All (LineFits (customer_count g) (length c.sections))) fits.whole.1 fits.lines k d within))

-- lines that begin with those of a tree begin with those of no other
same_tree : (t u : BranchTree) (r s : List TreeLine) → lines_of t ++ r ≡ lines_of u ++ s → (t ≡ u) × (r ≡ s)
same_tree (leaf a) (leaf b) r s same =
    let number : a ≡ b = cc in
    let rest : r ≡ s = cc in
    (ap leaf number, rest)
same_tree (leaf a) (split i j x y) r s same = absurd (cc)
same_tree (split i j x y) (leaf b) r s same = absurd (cc)
same_tree (split i j x y) (split k l v w) r s same =
    let first : i ≡ k = cc in
    let second : j ≡ l = cc in
    let rest : (lines_of x ++ lines_of y) ++ r ≡ (lines_of v ++ lines_of w) ++ s = cc in
    let apart = same_tree x v (lines_of y ++ r) (lines_of w ++ s) (sym (append_assoc (lines_of x) (lines_of y) r) ∙ rest ∙ append_assoc (lines_of v) (lines_of w) s) in
    let together = same_tree y w r s apart.1 in
    (λ n. split (first n) (second n) (apart.0 n) (together.0 n), together.1)

pub one_tree_of : (lines : List TreeLine) (t u : BranchTree) → IsTreeOf lines t → IsTreeOf lines u → t ≡ u
one_tree_of lines t u is other =
    (same_tree t u [] [] (append-nil (lines_of t) ∙ sym is ∙ other ∙ sym (append-nil (lines_of u)))).0
