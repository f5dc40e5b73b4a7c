use Rattle.std.proofs.Common.{◌≡◌, ◌∙◌, ◌+◌, ◌<◌, ℕ, ℤ, pos, ◌+ℤ◌, List, [], length, refl, sym, ap, arith, rules, FitsSigned, to_z, of_z, nat_eq}
use Rattle.std.specs.Int.{w128}
use Rattle.std.specs.Prelude.{◌&&◌, ◌||◌, slice_index_or}
use Rattle.std.proofs.lemmas.Int.{ints, to_z-of_z}
use Rattle.std.proofs.lemmas.List.{get_or_default}
use Rattle.certificate_parts.specs.Ranges.{customer_count}
use Rattle.customer_sets.specs.CustSet.{has}
use Rattle.fleet_model.specs.Prices.{price_of}
use Rattle.near_proof.specs.Terms.{near_set}
use Rattle.near_tree.specs.Follows.{entries_earned}
use Rattle.near_tree.specs.Lasts.{last_at}
use Rattle.near_tree.specs.Preorder.{last_of}
use Rattle.near_tree.specs.Sections.{Last}
use Rattle.near_tree.specs.Sites.{leaf_of}
use Rattle.near_tree.proofs.judge.Judge.after_service.Goals as goal

pub returns-clause-served : goal.returns-clause-served
returns-clause-served c =
    let count = ap length c.as_slice.ensures in
    let low : c.args.customer < length c.as_slice.result.now = omega (arith, count, c.requires.judge.site.fits.sets.one_set, c.requires.listed) in
    let near : c.index-as_slice-customer.result ≡ near_set (leaf_of c.args.self.now.site).section.sets c.args.customer =
    c.index-as_slice-customer.is ∙ get_or_default c.as_slice.result.now c.args.customer c.index-as_slice-customer.result [] low
    ∙ ap (λ (xs : List (List ℕ)). slice_index_or xs c.args.customer []) c.as_slice.ensures in
    let whole : FitsSigned w128 c.sum_of.result = search rules in
    let same : to_z w128 (of_z w128 c.sum_of.result) ≡ c.sum_of.result = omega (arith, ints) in
    let price : FitsSigned w128 (slice_index_or c.as_slice-2.result.now c.args.customer (pos 0)) = search rules in
    let more : FitsSigned w128 c.earned_next-gained.result = search rules in
    let before : FitsSigned w128 c.args.label.now.earned = search rules in
    let told : c.sum_of.result ≡ (slice_index_or c.as_slice-2.result.now c.args.customer (pos 0) +ℤ c.earned_next-gained.result) +ℤ c.args.label.now.earned = simp to_z-of_z at c.sum_of.ensures.value in
    let last : last_at (customer_count c.args.self.now.site.inst.now) c.last_place-last.result ≡ last_of c.args.label.now.last = ap (λ n. last_at n c.last_place-last.result) (sym c.customers.ensures.value) ∙ c.last_place-last.ensures.value in
    let gained : c.earned_next-gained.result ≡ entries_earned (leaf_of c.args.self.now.site).branch.counted (leaf_of c.args.self.now.site).section.entry_prices (last_of c.args.label.now.last) (c.args.customer + 1) =
    c.earned_next-gained.ensures.value ∙ ap (λ (l : Last). entries_earned (leaf_of c.args.self.now.site).branch.counted (leaf_of c.args.self.now.site).section.entry_prices l (c.args.customer + 1)) last in
    record {
      node = refl;
      last = refl;
      memory = λ d. c.with.ensures.members d ∙ ap (λ b. nat_eq c.args.customer d || b) (c.common.ensures.members d ∙ ap (λ (s : List ℕ). has c.args.label.now.memory d && has s d) near);
      earned = same ∙ told ∙ ap (λ (ps : List ℤ). (slice_index_or ps c.args.customer (pos 0) +ℤ c.earned_next-gained.result) +ℤ c.args.label.now.earned) c.as_slice-2.ensures
          ∙ ap (λ z. (price_of (leaf_of c.args.self.now.site).section.prices c.args.customer +ℤ z) +ℤ c.args.label.now.earned) gained;
    }
