use Rattle.std.proofs.Common.{◌≡◌, ◌∙◌, ◌+◌, ◌<◌, List, ℕ, [], ◌∷◌, length, get_or, sym, subst, ap, arith, Some}
use Rattle.std.specs.List.{All}
use Rattle.std.specs.Prelude.{slice_get}
use Rattle.std.proofs.lemmas.List.{get_or_default, length-append}
use Rattle.label_search.specs.Steps.{IsInRange, IsListed}
use Rattle.label_search.proofs.GrownTrees.{read}
use Rattle.label_search.proofs.Copies.{copies_more}
use Rattle.label_search.proofs.Lists.{one_more}
use Rattle.label_search.proofs.search.copies.Goals as goal

pub loop-number-preserved : goal.loop-number-preserved
loop-number-preserved g c =
    let s = g.R.Resources.space c.args.resources.now in
    let found = c.args.search.now.tree.found.items in
    let listed = c.args.search.now.listed.items in
    let i = c.loop-number.number-index in
    let m : ℕ = get_or c.deref-number-items.result.now c.loop-number.number-index 0 in
    let less : c.loop-number.number-index < length c.args.search.now.listed.items = omega (arith, c.loop-number-test.true, ap length c.deref-number-items.ensures.value) in
    let same_number : get_or c.deref-number-items.result.now c.loop-number.number-index 0 ≡ get_or c.args.search.now.listed.items c.loop-number.number-index m =
    ap (λ (ns : List ℕ). get_or ns c.loop-number.number-index 0) c.deref-number-items.ensures.value ∙ get_or_default c.args.search.now.listed.items c.loop-number.number-index 0 m less in
    let number : slice_get c.args.search.now.listed.items c.loop-number.number-index ≡ Some m = read c.args.search.now.listed.items c.loop-number.number-index m less same_number in
    let inside : m < length c.args.search.now.tree.found.items = subst (λ n. n < length c.args.search.now.tree.found.items) (sym same_number) (c.requires.listed_within c.loop-number.number-index m less) in
    let here : slice_get c.args.search.now.tree.found.items m ≡ Some c.index.result.now = read c.args.search.now.tree.found.items m c.index.result.now inside c.index.ensures in
    let range : IsInRange s c.in_ok-copy.field-0 = subst (λ (l : g.row.R-Label.Denot). IsInRange s l) (sym c.in_ok-copy.ensures.same) (c.requires.labels.labels m c.index.result.now here).range in
    record {
      count = ap length c.in_ok-push.ensures.items ∙ length-append c.loop-number.labels.items (c.in_ok-copy.field-0 ∷ []) ∙ ap (λ n. n + 1) c.loop-number.invariant.count;
      same = copies_more found listed c.loop-number.labels.items c.push.new.self.items c.in_ok-copy.field-0 i m c.index.result.now c.loop-number.invariant.same c.loop-number.invariant.count c.in_ok-push.ensures.items number here c.in_ok-copy.ensures.same;
      listed = subst (λ (ls : List g.row.R-Label.Denot). All (IsListed s) ls) (sym c.in_ok-push.ensures.items)
          (one_more (IsListed s) c.loop-number.labels.items c.in_ok-copy.field-0 c.loop-number.invariant.listed (record { range = range; valid = c.in_ok-copy.ensures.valid }));
    }
