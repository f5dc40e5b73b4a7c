use Rattle.std.proofs.Common.{◌<◌, length, sym, ◌∙◌, ap, subst, arith}
use Rattle.std.proofs.lemmas.Grind.{common_steps}
use Rattle.index_links.specs.Lists.{Lists, IsIn, IsLinked, list_at, lists_with_last}
use Rattle.index_links.specs.Forest.{IsForest, SameLinked}
use Rattle.index_links.proofs.Forest.{with_lists, loser_free, meld_forest, meld_same, meld_shorter, meld_winner}
use Rattle.index_links.proofs.heap.meld.Goals as goal

pub winner_and_loser-winner-requires-clause-a : goal.winner_and_loser-winner-requires-clause-a
winner_and_loser-winner-requires-clause-a c = let l = c.requires.forest.ordered c.args.parent c.args.a c.requires.a in (l.other, l.other_held)

pub winner_and_loser-winner-requires-clause-b : goal.winner_and_loser-winner-requires-clause-b
winner_and_loser-winner-requires-clause-b c = let l = c.requires.forest.ordered c.args.parent c.args.b c.requires.b in (l.other, l.other_held)

pub link_last-requires-clause-free : goal.link_last-requires-clause-free
link_last-requires-clause-free c =
    let o = c.args.children.now in
    let w = c.winner_and_loser-winner.result.0 in
    let l = c.winner_and_loser-winner.result.1 in
    subst (λ (z : Lists). IsLinked z.lists l → ⊥) (sym c.unlink.ensures)
    (loser_free c.args.keys.now o c.args.parent c.args.a c.args.b w l c.requires.forest c.requires.disjoint c.requires.a c.requires.b c.winner_and_loser-winner.ensures.both c.winner_and_loser-winner.ensures.order)

pub returns-clause-forest : goal.returns-clause-forest
returns-clause-forest c =
    let o = c.args.children.now in
    let w = c.winner_and_loser-winner.result.0 in
    let l = c.winner_and_loser-winner.result.1 in
    subst (λ (z : Lists). IsForest c.args.keys.now z) (sym (c.link_last.ensures ∙ ap (λ (z : Lists). with_lists z (lists_with_last z.lists w l)) c.unlink.ensures))
    (meld_forest c.args.keys.now o c.args.parent c.args.a c.args.b w l c.requires.forest c.requires.disjoint c.requires.a c.requires.b c.winner_and_loser-winner.ensures.both c.winner_and_loser-winner.ensures.order)

pub returns-clause-same : goal.returns-clause-same
returns-clause-same c =
    let o = c.args.children.now in
    let w = c.winner_and_loser-winner.result.0 in
    let l = c.winner_and_loser-winner.result.1 in
    subst (λ (z : Lists). SameLinked c.args.children.now.lists z.lists) (sym (c.link_last.ensures ∙ ap (λ (z : Lists). with_lists z (lists_with_last z.lists w l)) c.unlink.ensures))
    (meld_same c.args.keys.now o c.args.parent c.args.a c.args.b w l c.requires.forest c.requires.disjoint c.requires.a c.requires.b c.winner_and_loser-winner.ensures.both c.winner_and_loser-winner.ensures.order)

pub returns-clause-shorter : goal.returns-clause-shorter
returns-clause-shorter c =
    let o = c.args.children.now in
    let w = c.winner_and_loser-winner.result.0 in
    let l = c.winner_and_loser-winner.result.1 in
    subst (λ (z : Lists). length (list_at z.lists c.args.parent) < length (list_at c.args.children.now.lists c.args.parent)) (sym (c.link_last.ensures ∙ ap (λ (z : Lists). with_lists z (lists_with_last z.lists w l)) c.unlink.ensures))
    (meld_shorter c.args.keys.now o c.args.parent c.args.a c.args.b w l c.requires.forest c.requires.disjoint c.requires.a c.requires.b c.winner_and_loser-winner.ensures.both c.winner_and_loser-winner.ensures.order)

pub returns-clause-winner : goal.returns-clause-winner
returns-clause-winner c =
    let o = c.args.children.now in
    let w = c.winner_and_loser-winner.result.0 in
    let l = c.winner_and_loser-winner.result.1 in
    subst (λ (z : Lists). IsIn c.winner_and_loser-winner.result.0 (list_at z.lists c.args.parent)) (sym (c.link_last.ensures ∙ ap (λ (z : Lists). with_lists z (lists_with_last z.lists w l)) c.unlink.ensures))
    (meld_winner c.args.keys.now o c.args.parent c.args.a c.args.b w l c.requires.forest c.requires.disjoint c.requires.a c.requires.b c.winner_and_loser-winner.ensures.both c.winner_and_loser-winner.ensures.order)

pub link_last-requires-clause-list : goal.link_last-requires-clause-list
link_last-requires-clause-list = grind (arith, common_steps)
