use Rattle.std.proofs.Common.{◌≡◌, ◌∙◌, ◌+◌, ap, refl, sym, subst, List, [], ◌∷◌, arith}
use Rattle.std.specs.List.{All}
use Rattle.std.proofs.lemmas.List.Elements.{All-append, All-cons, All-nil}
use Rattle.dominance.specs.LevelTimes.{IsValue, time_at}
use Rattle.piece_fn.specs.PieceFn.{level_times}
use Rattle.label_index.specs.Entries.{HasEntries, IsEntry}
use Rattle.label_index.specs.declared.entry.Entry.{Entry}
use Rattle.label_index.proofs.EntryLists.{entry_of, every_more}
use Rattle.label_index.proofs.index.in_turn.Goals as goal

pub loop-number-preserved : goal.loop-number-preserved
loop-number-preserved g c =
    let key_of = g.I.Indexing.key_of c.args.indexing.now in
    let value_of = g.I.Indexing.value_of in
    let keeps = g.I.Indexing.keeps c.args.indexing.now in
    let labels = c.args.labels.now in
    let label = c.index-labels-number.result in
    let old = c.loop-number.entries.items in
    let e : Entry g.row.T.Denot = record {
      key = c.key.result;
      time = c.least-time.result.1;
      number = c.loop-number.number;
      rest = c.rest.result;
    } in
    let valid : IsValue (level_times (g.I.Indexing.value_of c.index-labels-number.result)) = subst (λ v. IsValue (level_times v)) c.value.ensures c.least-time.ensures.valid in
    let first : c.least-time.result.1 ≡ time_at (level_times c.value.result.now) (level_times c.value.result.now).first = c.least-time.ensures.time ∙ ap (λ y. time_at (level_times c.value.result.now) y) c.least-time.ensures.level in
    let time : c.least-time.result.1 ≡ time_at (level_times (g.I.Indexing.value_of c.index-labels-number.result)) (level_times (g.I.Indexing.value_of c.index-labels-number.result)).first = first ∙ ap (λ v. time_at (level_times v) (level_times v).first) c.value.ensures in
    let is : IsEntry key_of value_of keeps labels e = entry_of key_of value_of keeps labels e label c.loop-number-test.true c.index-labels-number.is c.key.ensures c.rest.ensures valid time in
    record {
      each = subst (λ (es : List (Entry g.row.T.Denot)). All (IsEntry key_of value_of keeps labels) es) (sym c.in_ok-push.ensures.items) (All-append (IsEntry key_of value_of keeps labels) old (e ∷ []) c.loop-number.invariant.each (All-cons (IsEntry key_of value_of keeps labels) e [] is (All-nil (IsEntry key_of value_of keeps labels))));
      every = subst (λ (es : List (Entry g.row.T.Denot)). HasEntries (c.loop-number.number + 1) es) (sym c.in_ok-push.ensures.items) (every_more c.loop-number.number old e c.loop-number.invariant.every refl);
    }

pub returns-clause-every : goal.returns-clause-every
returns-clause-every g c i less = c.loop-number.invariant.every i (omega (arith, less, c.loop-number-test.false))
