-- A leaf that a judge looks at is as it should be.
use Rattle.std.proofs.Common.{◌≡◌, ◌∙◌, ℕ, zero, suc, ◌<◌, ◌≤◌, Bool, true, false, List, length, map, refl, sym, ap, subst, arith, inl, inr, ◌↔◌}
use Rattle.std.specs.List.{All}
use Rattle.std.specs.Prelude.{IsTrue, MatchBool}
use Rattle.std.proofs.lemmas.Bool.{cases_Bool, false≢true}
use Rattle.std.proofs.lemmas.List.{length-map}
use Rattle.certificate_parts.specs.Ranges.{customer_count}
use Rattle.ev_model.specs.Network.{is_customer, Network, node_count}
use Rattle.fleet_model.specs.Places.{customer_count as count_of_customers, customer_number}
use Rattle.fleet_model.proofs.Numbers.{counted}
use Rattle.near_tree.specs.Counting.{counted_as, IsSmallCount}
use Rattle.near_tree.specs.Paths.{branch_at}
use Rattle.near_tree.specs.Preorder.{section_of}
use Rattle.near_tree.specs.Ranges.{CountsFew, LeafSectionFits}
use Rattle.near_tree.specs.Sites.{IsSite}
use Rattle.near_tree.specs.Trees.{IsSectionAt}
use Rattle.near_tree.specs.declared.counted.CountedSet.{CountedSet}
use Rattle.near_tree.specs.declared.site.Site.{Site}

number_few : (g : Network) (n : ℕ) → customer_number g n ≤ n
number_few g zero = omega arith
number_few g (suc n) =
    let low = number_few g n in
    elim (cases_Bool (is_customer g n)) [
      | inl is ↦ rw is (omega (arith, low))
      | inr other ↦ rw other (omega (arith, low))
    ]

pub customers_few : (g : Network) (nodes : ℕ) → nodes ≡ node_count g → nodes ≤ 400 → customer_count g ≤ 400
customers_few g nodes is few = let low = number_few g (node_count g) in omega (arith, low, counted g, is, few)

pub places_few : (g : Network) (nodes : ℕ) → nodes ≡ node_count g → nodes ≤ 400 → count_of_customers g < 448
places_few g nodes is few = let low = number_few g (node_count g) in omega (arith, low, is, few)

pub told_bounded : (P : Type 0) (b : Bool) → (IsTrue b ↔ P) → MatchBool b P (P → ⊥)
told_bounded P true tells = tells.0 refl
told_bounded P false tells = λ is. false≢true (tells.1 is)

-- with what is counted on the way
pub is_site : (s : Site) (items : List CountedSet) → s.counted.now ≡ items → customer_count s.inst.now ≤ 400 → LeafSectionFits s.inst.now s.section.now → IsSectionAt s.inst.now (branch_at s.path.now) (section_of s.section.now) → CountsFew (branch_at s.path.now) (section_of s.section.now)
    → map counted_as items ≡ (branch_at s.path.now).counted → All IsSmallCount items → IsSite s
is_site s items same customers fits section few is small =
    let long : length s.counted.now ≡ length items = ap length same in
    let count : length items ≡ length (branch_at s.path.now).counted = sym (length-map items counted_as) ∙ ap length is in
    record {
      customers = customers;
      fits = fits;
      counted = ap (map counted_as) same ∙ is;
      counts = subst (λ (cs : List CountedSet). All IsSmallCount cs) (sym same) small;
      few = omega (arith, long, count, few);
      one_entry_price = section.one_entry_price ∙ sym count ∙ sym long;
    }
