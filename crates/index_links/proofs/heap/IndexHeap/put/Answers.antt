use Rattle.std.proofs.Common.{◌≡◌, ◌<◌, ℕ, List, length, set, sym, ◌∙◌, ap, subst, arith, Option, Some, None}
use Rattle.std.proofs.lemmas.Grind.{common_steps}
use Rattle.index_links.specs.Lists.{Lists}
use Rattle.index_links.specs.Queue.{key_at}
use Rattle.index_links.specs.Forest.{IsAbove, IsHeap}
use Rattle.index_links.proofs.Queue.{new_held, none_of, put_first, put_free, put_melded}
use Rattle.index_links.proofs.heap.IndexHeap.put.Goals as goal

pub winner_and_loser-winner-requires-clause-a : goal.winner_and_loser-winner-requires-clause-a
winner_and_loser-winner-requires-clause-a c =
    let keys = c.self.inside.keys.items in
    let n : length keys ≡ length c.args.self.now = ap length c.self.view_is in
    let within : c.args.i < length keys = omega (arith, c.requires.item) in
    let free : key_at keys c.args.i ≡ None = ap (λ (l : List (Option ℕ)). key_at l c.args.i) c.self.view_is ∙ none_of (key_at c.args.self.now c.args.i) c.requires.free in
    (c.args.key, ap (λ (l : List (Option ℕ)). key_at l c.args.i) c.as_slice.ensures.value ∙ new_held keys c.self.inside.children c.self.inside.root c.self.invariant c.args.i c.args.key within free)

pub link_last-requires-clause-free : goal.link_last-requires-clause-free
link_last-requires-clause-free c =
    let keys = c.self.inside.keys.items in
    let n : length keys ≡ length c.args.self.now = ap length c.self.view_is in
    let within : c.args.i < length keys = omega (arith, c.requires.item) in
    let free : key_at keys c.args.i ≡ None = ap (λ (l : List (Option ℕ)). key_at l c.args.i) c.self.view_is ∙ none_of (key_at c.args.self.now c.args.i) c.requires.free in
    put_free keys c.self.inside.children c.self.inside.root c.self.invariant c.args.i c.args.key within free c.in-Some.root c.winner_and_loser-winner.result.0 c.winner_and_loser-winner.result.1 c.in-Some.is c.winner_and_loser-winner.ensures.both

pub invariant_of-self : goal.invariant_of-self
invariant_of-self c =
    let keys = c.self.inside.keys.items in
    let n : length keys ≡ length c.args.self.now = ap length c.self.view_is in
    let within : c.args.i < length keys = omega (arith, c.requires.item) in
    let free : key_at keys c.args.i ≡ None = ap (λ (l : List (Option ℕ)). key_at l c.args.i) c.self.view_is ∙ none_of (key_at c.args.self.now c.args.i) c.requires.free in
    let above = subst (λ (l : List (Option ℕ)). IsAbove l c.winner_and_loser-winner.result.0 c.winner_and_loser-winner.result.1) c.as_slice.ensures.value c.winner_and_loser-winner.ensures.order in
    subst (λ (o : Lists). IsHeap (set keys c.args.i (Some c.args.key)) o (Some c.winner_and_loser-winner.result.0)) (sym c.link_last.ensures)
    (put_melded keys c.self.inside.children c.self.inside.root c.self.invariant c.args.i c.args.key within free c.in-Some.root c.winner_and_loser-winner.result.0 c.winner_and_loser-winner.result.1 c.in-Some.is c.winner_and_loser-winner.ensures.both above)

pub invariant_of-self-in_default : goal.invariant_of-self-in_default
invariant_of-self-in_default c =
    let keys = c.self.inside.keys.items in
    let n : length keys ≡ length c.args.self.now = ap length c.self.view_is in
    let within : c.args.i < length keys = omega (arith, c.requires.item) in
    let free : key_at keys c.args.i ≡ None = ap (λ (l : List (Option ℕ)). key_at l c.args.i) c.self.view_is ∙ none_of (key_at c.args.self.now c.args.i) c.requires.free in
    put_first keys c.self.inside.children c.self.inside.root c.self.invariant c.args.i c.args.key within free c.in_default.is

pub link_last-requires-clause-list : goal.link_last-requires-clause-list
link_last-requires-clause-list = grind (arith, common_steps)

pub link_last-requires-clause-item : goal.link_last-requires-clause-item
link_last-requires-clause-item = grind (arith, common_steps)
