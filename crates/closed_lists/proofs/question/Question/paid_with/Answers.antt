use Rattle.std.proofs.Common.{◌≡◌, ◌∙◌, ◌<◌, ◌≤◌, ◌^◌, length, ap, sym, subst, arith, rules, pos, ◌+ℤ◌, unsigned_abs, FitsSigned, to_z, of_z}
use Rattle.std.specs.Int.{w128}
use Rattle.std.specs.Prelude.{slice_index_or}
use Rattle.std.proofs.lemmas.Int.{ints}
use Rattle.instance_reader.specs.Instance.{customer_nodes}
use Rattle.fleet_model.specs.Prices.{price_of}
use Rattle.closed_lists.specs.Questions.{Question}
use Rattle.closed_lists.proofs.question.Question.paid_with.Goals as goal

pub overflow_add-result : goal.overflow_add-result
overflow_add-result c =
    let same = ap (λ (q : Question). length (customer_nodes q.network)) c.self.view_is in
    let less : c.args.customer < length c.self.inside.prices.now = omega (arith, same, c.requires.customer, c.self.invariant.ranges.one_price) in
    let size = c.self.invariant.ranges.small_prices c.args.customer (pos 0) less in
    let price : FitsSigned w128 (slice_index_or c.self.inside.prices.now c.args.customer (pos 0)) = search rules in
    let paid : FitsSigned w128 c.args.paid = c.ranges.paid in
    let small = c.requires.small in
    omega (arith, ints, size, small)

pub returns : goal.returns
returns c =
    let same = ap (λ (q : Question). length (customer_nodes q.network)) c.self.view_is in
    let less : c.args.customer < length c.self.inside.prices.now = omega (arith, same, c.requires.customer, c.self.invariant.ranges.one_price) in
    let size = c.self.invariant.ranges.small_prices c.args.customer (pos 0) less in
    let price : FitsSigned w128 (slice_index_or c.self.inside.prices.now c.args.customer (pos 0)) = search rules in
    let paid : FitsSigned w128 c.args.paid = c.ranges.paid in
    let small = c.requires.small in
    let whole : to_z w128 (of_z w128 (to_z w128 (of_z w128 (slice_index_or c.self.inside.prices.now c.args.customer (pos 0))) +ℤ to_z w128 (of_z w128 c.args.paid))) ≡ slice_index_or c.self.inside.prices.now c.args.customer (pos 0) +ℤ c.args.paid = omega (arith, ints, size, small) in
    record {
      value = whole ∙ ap (λ (q : Question). price_of q.prices c.args.customer +ℤ c.args.paid) c.self.view_is;
      small = subst (λ z. unsigned_abs z ≤ 2 ^ 92) (sym whole) (omega (arith, ints, size, small));
    }
