use Rattle.std.proofs.Common.{rules}
use Rattle.std.proofs.lemmas.List.Sorted.{answers_always, IsNonDecreasingBy-from_sort_by_key, IsPermutation-trans, ties_still_rise}
use Rattle.label_index.proofs.EntryLists.{ordered}
use Rattle.label_index.proofs.index.in_order.Goals as goal

pub returns-clause-same : goal.returns-clause-same
returns-clause-same g c = IsPermutation-trans _ _ _ c.sort_by_key.ensures.permutation c.sort_by_key-2.ensures.permutation

pub returns-clause-order : goal.returns-clause-order
returns-clause-order g c =
    let keys = IsNonDecreasingBy-from_sort_by_key (λ e. e.key) _ c.in_ok-sort_by_key-2.ensures.sorted (λ a r q k. search rules) in
    let ties = ties_still_rise (λ e. e.time) (λ e. e.key) _ _ (c.in_ok-sort_by_key.ensures.sorted (λ e. e.time) (answers_always _ _ _ (λ f a r g h. search rules)))
    (c.sort_by_key-2.ensures.stable (λ e. e.key) (answers_always _ _ _ (λ f a r g h. search rules))) in
    ordered _ keys ties
