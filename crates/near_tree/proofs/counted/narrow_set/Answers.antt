use Rattle.std.proofs.Common.{◌≡◌, ◌∙◌, Some, None, List, sym, ap, subst, map, arith}
use Rattle.near_tree.specs.Counting.{counted_as, find_same}
use Rattle.near_tree.specs.declared.counted.CountedSet.{CountedSet}
use Rattle.near_tree.proofs.Counting.{at_less, found_at, narrows_at, narrows_new}
use Rattle.near_tree.proofs.counted.narrow_set.Goals as goal

pub index-requires : goal.index-requires
index-requires c =
    let low = at_less c.args.counted.now.items c.args.set c.in-Some.at (found_at c.args.counted.now.items c.args.set c.in-Some.at (subst (λ (xs : List CountedSet). find_same 0 xs c.args.set ≡ Some c.in-Some.at) c.deref.ensures.value (sym c.place_of.ensures ∙ c.in-Some.is))) in
    omega (arith, low)

pub index_mut-requires : goal.index_mut-requires
index_mut-requires c =
    let low = at_less c.args.counted.now.items c.args.set c.in-Some.at (found_at c.args.counted.now.items c.args.set c.in-Some.at (subst (λ (xs : List CountedSet). find_same 0 xs c.args.set ≡ Some c.in-Some.at) c.deref.ensures.value (sym c.place_of.ensures ∙ c.in-Some.is))) in
    omega (arith, low)

pub returns-in_ok-push-in-None : goal.returns-in_ok-push-in-None
returns-in_ok-push-in-None c =
    ap (map counted_as) c.in_ok-push-in-None.ensures.items
    ∙ narrows_new c.args.counted.now.items c.args.set c.args.count c.args.more _ c.narrowed-in-None.result (subst (λ (xs : List CountedSet). find_same 0 xs c.args.set ≡ None) c.deref.ensures.value (sym c.place_of.ensures ∙ c.in-None.is)) (ap (λ n. record { set = c.args.set; least = 1; most = n }) c.len.ensures.value) c.narrowed-in-None.ensures

pub returns-in-Some : goal.returns-in-Some
returns-in-Some c =
    narrows_at c.args.counted.now.items c.args.set c.in-Some.at c.args.count c.args.more c.index.result.now c.narrowed.result (subst (λ (xs : List CountedSet). find_same 0 xs c.args.set ≡ Some c.in-Some.at) c.deref.ensures.value (sym c.place_of.ensures ∙ c.in-Some.is)) c.index.ensures c.narrowed.ensures
