-- Going along the lines of a tree, with the pairs of the subtrees that are open.
use Rattle.std.proofs.Common.{◌≡◌, ◌∙◌, ℕ, zero, suc, ◌+◌, ◌<◌, ◌≤◌, Bool, true, List, [], ◌∷◌, ◌++◌, Option, Some, None, length, length-append, drop, get_or, slice_get, refl, reverse, sym, ap, subst, arith, append_assoc, append-nil}
use Rattle.std.proofs.Math.ListN.{drop_of_length-le}
use Rattle.std.proofs.Math.Seq.{drop-cons}
use Rattle.std.proofs.lemmas.Option.{none-some}
use Rattle.customer_sets.specs.Pairs.{allows_of, any_pair, ForbiddenPairs, forbid, IsPairs, require}
use Rattle.fleet_model.specs.Section.{Section as PricedSection}
use Rattle.ev_model.specs.Network.{Network}
use Rattle.bound_certificate.specs.Meaning.{priced_section}
use Rattle.bound_certificate.specs.Ranges.{customer_count, Fits, LineFits, SectionFits}
use Rattle.bound_certificate.specs.declared.certificate.Certificate.{Certificate}
use Rattle.bound_certificate.specs.declared.certificate.Section.{Section}
use Rattle.bound_certificate.specs.declared.certificate.TreeLine.{TreeLine}
use Rattle.bound_certificate.specs.declared.certificate.TreeLine.TheVariants.{Leaf, Split}
use Rattle.certificate_check.specs.Bounds.{AreChildren, Tell, TellEach}
use Rattle.certificate_check.specs.Firsts.{AllHold, HoldsUnder, IsBrokenUnder, IsFirst, IsLeafFault, LeafHolds, leaves_along, Tells}
use Rattle.certificate_check.specs.Leaves.{TreeLeaf}
use Rattle.certificate_check.specs.declared.verdict.Verdict.{Verdict}
use Rattle.certificate_check.proofs.Along.{hold_both, hold_one}
use Rattle.certificate_check.proofs.PairLaws.{children_first, children_told, last_first, next_told, one_told, told_at}

-- the leaves passed so far hold; the pairs tell what is allowed at the root of each subtree that is open
pub record LeavesSoFar (n : ℕ) (sections : List PricedSection) (bound : Option ℕ) (lines : List TreeLine) (i : ℕ) (open_pairs : List ForbiddenPairs) (leaf : ℕ) : Type 0 where
  pub stack : List (ℕ → ℕ → Bool)
  pub told : TellEach n (reverse open_pairs) stack
  pub passed : List TreeLeaf
  pub count : length passed ≡ leaf
  pub hold : AllHold (LeafHolds sections bound) passed
  pub all : leaves_along (any_pair ∷ []) lines ≡ passed ++ leaves_along stack (drop i lines)

-- what a certificate that fits says of a leaf's section
pub section_of_leaf : (g : Network) (c : Certificate) → Fits g c → (i k : ℕ) (d : TreeLine) → i < length c.tree → get_or c.tree i d ≡ Leaf k → k < length c.sections
section_of_leaf g c fits i k d less is = subst (LineFits (customer_count g) (length c.sections)) is (fits.lines i d less)

pub pairs_of_section : (g : Network) (c : Certificate) → Fits g c → (k : ℕ) (s : Section) → k < length c.sections → s ≡ get_or c.sections k s → s.pairs.customers ≡ customer_count g
pairs_of_section g c fits k s less is =
    let fit : SectionFits g s = subst (SectionFits g) (sym is) (fits.sections k s less) in
    fit.pairs

-- a line of one list is that of a list that is the same
pub line_moved : (xs ys : List TreeLine) (i : ℕ) (d line : TreeLine) → xs ≡ ys → get_or xs i d ≡ line → get_or ys i d ≡ line
line_moved xs ys i d line same is = subst (λ (ls : List TreeLine). get_or ls i d ≡ line) same is

no_lines : (stack : List (ℕ → ℕ → Bool)) → leaves_along stack [] ≡ []
no_lines [] = refl
no_lines (allows ∷ stack) = refl

module _ (n : ℕ) (sections : List PricedSection) (bound : Option ℕ) (lines : List TreeLine) where
  pub leaves-begin : (p : ForbiddenPairs) (items : List ForbiddenPairs) → items ≡ p ∷ [] → p.customers ≡ n → ((a b : ℕ) → allows_of p a b ≡ true) → LeavesSoFar n sections bound lines 0 items 0
  leaves-begin p items is count all = record {
    stack = any_pair ∷ [];
    told = subst (λ ps. TellEach n (reverse ps) (any_pair ∷ [])) (sym is) (one_told n p count all);
    passed = [];
    count = refl;
    hold = λ k x at. absurd (none-some x at);
    all = refl;
  }

  -- the end of the lines
  pub leaves-end : (i leaf : ℕ) (items : List ForbiddenPairs) → length lines ≤ i → LeavesSoFar n sections bound lines i items leaf → AllHold (LeafHolds sections bound) (leaves_along (any_pair ∷ []) lines)
  leaves-end i leaf items past before =
      let none : leaves_along before.stack (drop i lines) ≡ [] = ap (leaves_along before.stack) (drop_of_length-le lines past) ∙ no_lines before.stack in
      subst (AllHold (LeafHolds sections bound)) (sym (before.all ∙ ap (λ ls. before.passed ++ ls) none ∙ append-nil before.passed)) before.hold

  -- no subtree is open any more
  pub leaves-closed : (i leaf : ℕ) (items : List ForbiddenPairs) → items ≡ [] → LeavesSoFar n sections bound lines i items leaf → AllHold (LeafHolds sections bound) (leaves_along (any_pair ∷ []) lines)
  leaves-closed i leaf items none before =
      let gone : leaves_along before.stack (drop i lines) ≡ [] = by before.stack (subst (λ ps. TellEach n (reverse ps) before.stack) none before.told) in
      subst (AllHold (LeafHolds sections bound)) (sym (before.all ∙ ap (λ ls. before.passed ++ ls) gone ∙ append-nil before.passed)) before.hold
    where
      by : (stack : List (ℕ → ℕ → Bool)) → TellEach n [] stack → leaves_along stack (drop i lines) ≡ []
      by [] told = refl
      by (allows ∷ stack) told = absurd told

  -- the next subtree
  pub record Next (i leaf : ℕ) (p : ForbiddenPairs) (rest : List ForbiddenPairs) : Type 0 where
    pub allows : ℕ → ℕ → Bool
    pub stack : List (ℕ → ℕ → Bool)
    pub tell : Tell n p allows
    pub told : TellEach n (reverse rest) stack
    pub passed : List TreeLeaf
    pub count : length passed ≡ leaf
    pub hold : AllHold (LeafHolds sections bound) passed
    pub all : leaves_along (any_pair ∷ []) lines ≡ passed ++ leaves_along (allows ∷ stack) (drop i lines)

  pub next : (i leaf : ℕ) (items rest : List ForbiddenPairs) (p : ForbiddenPairs) → items ≡ rest ++ p ∷ [] → LeavesSoFar n sections bound lines i items leaf → Next i leaf p rest
  next i leaf items rest p is before =
      let told : TellEach n (p ∷ reverse rest) before.stack = subst (λ ps. TellEach n ps before.stack) (ap reverse is ∙ last_first rest p) before.told in
      let top = next_told n p (reverse rest) before.stack told in
      record {
        allows = top.0;
        stack = top.1;
        tell = top.3;
        told = top.4;
        passed = before.passed;
        count = before.count;
        hold = before.hold;
        all = before.all ∙ ap (λ s. before.passed ++ leaves_along s (drop i lines)) top.2;
      }

  line_at : (i : ℕ) (line d : TreeLine) → i < length lines → get_or lines i d ≡ line → drop i lines ≡ line ∷ drop (i + 1) lines
  line_at i line d less is =
      let one : suc i ≡ i + 1 = omega arith in
      drop-cons lines i d less ∙ ap (λ l. l ∷ drop (suc i) lines) is ∙ ap (λ k. line ∷ drop k lines) one

  -- a split opens two subtrees
  pub leaves-split : (i leaf a b : ℕ) (d : TreeLine) (p apart together : ForbiddenPairs) (rest items : List ForbiddenPairs) → i < length lines → get_or lines i d ≡ Split a b → Next i leaf p rest
      → items ≡ rest ++ together ∷ apart ∷ [] → AreChildren n a b p apart together → LeavesSoFar n sections bound lines (i + 1) items leaf
  leaves-split i leaf a b d p apart together rest items less line top is children = record {
    stack = forbid a b top.allows ∷ require a b top.allows ∷ top.stack;
    told = subst (λ ps. TellEach n ps (forbid a b top.allows ∷ require a b top.allows ∷ top.stack)) (sym (ap reverse is ∙ children_first rest together apart))
        (children_told n a b p apart together (reverse rest) top.allows top.stack children top.tell top.told);
    passed = top.passed;
    count = top.count;
    hold = top.hold;
    all = top.all ∙ ap (λ ls. top.passed ++ leaves_along (top.allows ∷ top.stack) ls) (line_at i (Split a b) d less line);
  }

  module _ (i leaf k : ℕ) (d : TreeLine) (p : ForbiddenPairs) (rest : List ForbiddenPairs) (s : Section) (less : i < length lines) (line : get_or lines i d ≡ Leaf k) (top : Next i leaf p rest)
      (there : slice_get sections k ≡ Some (priced_section s)) (pairs : IsPairs s.pairs) (customers : s.pairs.customers ≡ n) where
    here : TreeLeaf
    here = record { section = k; allows = top.allows }

    leaves_now : leaves_along (any_pair ∷ []) lines ≡ top.passed ++ here ∷ leaves_along top.stack (drop (i + 1) lines)
    unfolding here
    leaves_now = top.all ∙ ap (λ ls. top.passed ++ leaves_along (top.allows ∷ top.stack) ls) (line_at i (Leaf k) d less line)

    at_place : {X : Type 0} (xs ys : List X) (x : X) → slice_get (xs ++ x ∷ ys) (length xs) ≡ Some x
    at_place [] ys x = refl
    at_place (z ∷ xs) ys x = at_place xs ys x

    before_place : {X : Type 0} (P : X → Type 0) (xs ys : List X) → AllHold P xs → (m : ℕ) (y : X) → m < length xs → slice_get (xs ++ ys) m ≡ Some y → P y
    before_place P [] ys all m y less at = absurd (omega (arith, less))
    before_place P (z ∷ xs) ys all zero y less at = all 0 y at
    before_place P (z ∷ xs) ys all (suc m) y less at = before_place P xs ys (λ j w place. all (suc j) w place) m y (omega (arith, less)) at

    -- the leaf holds
    pub leaves-hold : Tells (HoldsUnder bound (priced_section s)) (IsBrokenUnder bound (priced_section s)) leaf (allows_of p) None → LeavesSoFar n sections bound lines (i + 1) rest (leaf + 1)
    unfolding here
    leaves-hold holds =
        let under = told_at (priced_section s) s.pairs pairs n customers (λ a b. refl) p top.allows top.tell bound leaf None holds in
        record {
          stack = top.stack;
          told = top.told;
          passed = top.passed ++ here ∷ [];
          count = let longer = length-append top.passed (here ∷ []) in omega (arith, longer, top.count);
          hold = hold_both (LeafHolds sections bound) top.passed (here ∷ []) top.hold (hold_one (LeafHolds sections bound) here (priced_section s, there, under));
          all = leaves_now ∙ sym (append_assoc top.passed (here ∷ []) (leaves_along top.stack (drop (i + 1) lines)));
        }

    -- the leaf is the first that doesn't
    pub leaves-break : (v : Verdict) → Tells (HoldsUnder bound (priced_section s)) (IsBrokenUnder bound (priced_section s)) leaf (allows_of p) (Some v)
        → IsFirst (LeafHolds sections bound) (IsLeafFault sections bound) (leaves_along (any_pair ∷ []) lines) v
    unfolding here
    leaves-break v broken =
        let under = told_at (priced_section s) s.pairs pairs n customers (λ a b. refl) p top.allows top.tell bound leaf (Some v) broken in
        let rest_leaves = leaves_along top.stack (drop (i + 1) lines) in
        record {
          number = leaf;
          item = here;
          there = ap (λ ls. slice_get ls leaf) leaves_now ∙ ap (λ j. slice_get (top.passed ++ here ∷ rest_leaves) j) (sym top.count) ∙ at_place top.passed rest_leaves here;
          broken = (priced_section s, there, under);
          before = λ m y less at. before_place (LeafHolds sections bound) top.passed (here ∷ rest_leaves) top.hold m y (omega (arith, less, top.count)) (ap (λ ls. slice_get ls m) (sym leaves_now) ∙ at);
        }
