use Rattle.std.proofs.lemmas.List.Sorted.{All-permutation, Contains-permutation}
use Rattle.label_index.specs.Entries.{AreEntries, IsEntry}
use Rattle.label_index.proofs.Options.{ok_both}
use Rattle.label_index.proofs.index.entries.Goals as goal

pub returns : goal.returns
returns g c =
    let key_of = g.I.Indexing.key_of c.args.indexing.now in
    let value_of = g.I.Indexing.value_of in
    let keeps = g.I.Indexing.keeps c.args.indexing.now in
    let labels = c.args.labels.now in
    ok_both _ _ (λ es. AreEntries key_of value_of keeps labels es.items) c.in_order.result (λ es same order. record {
      each = All-permutation (IsEntry key_of value_of keeps labels) _ _ same c.in_ok-entries.ensures.each;
      every = λ i less. let has = c.in_ok-entries.ensures.every i less in (has.0, Contains-permutation _ _ has.0 same has.1, has.2);
      order = order;
    }) c.in_order.ensures.same c.in_order.ensures.order
