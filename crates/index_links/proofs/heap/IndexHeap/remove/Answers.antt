use Rattle.std.proofs.Common.{◌<◌, ℕ, List, set, sym, ◌∙◌, ap, subst, Option, Some, None, arith}
use Rattle.std.proofs.lemmas.Grind.{common_steps}
use Rattle.std.proofs.lemmas.Option.{none-some}
use Rattle.index_links.specs.Lists.{Lists, IsLinked, lists_with_last}
use Rattle.index_links.specs.Queue.{key_at, HasPair}
use Rattle.index_links.specs.Forest.{IsForest, IsHeap, IsCut}
use Rattle.index_links.proofs.Forest.{with_lists}
use Rattle.index_links.proofs.Queue.{none_held, some_of, take_root, i_linked, remove_none, remove_some, child_free, child_within}
use Rattle.index_links.proofs.heap.IndexHeap.remove.Goals as goal

pub invariant_of-self : goal.invariant_of-self
invariant_of-self c =
    let keys = c.self.inside.keys.items in
    let old = c.self.inside.children in
    let new = c.cut-child.new.children in
    let forest = subst (λ (l : List (Option ℕ)). IsForest l new) c.as_slice.ensures.value c.cut-child.ensures.forest in
    let cut = subst (λ (l : List (Option ℕ)). IsCut l old.lists new.lists c.args.i c.cut-child.result) c.as_slice.ensures.value c.cut-child.ensures.cut in
    take_root keys old new c.self.inside.root c.self.invariant c.args.i c.cut-child.result forest cut (c.in-Some.is ∙ ap Some c.if-root-i.true)

pub unlink-requires : goal.unlink-requires
unlink-requires c =
    let keys = c.self.inside.keys.items in
    let old = c.self.inside.children in
    let new = c.cut-child.new.children in
    let forest = subst (λ (l : List (Option ℕ)). IsForest l new) c.as_slice.ensures.value c.cut-child.ensures.forest in
    let cut = subst (λ (l : List (Option ℕ)). IsCut l old.lists new.lists c.args.i c.cut-child.result) c.as_slice.ensures.value c.cut-child.ensures.cut in
    let h = some_of (key_at c.args.self.now c.args.i) c.requires in
    let held : HasPair keys h.0 c.args.i = ap (λ (l : List (Option ℕ)). key_at l c.args.i) c.self.view_is ∙ h.1 in
    i_linked keys old new c.self.inside.root c.self.invariant c.args.i c.cut-child.result forest cut c.in-Some.root c.in-Some.is c.if-root-i.false h.0 held

pub link_last-requires-clause-item : goal.link_last-requires-clause-item
link_last-requires-clause-item c =
    let keys = c.self.inside.keys.items in
    let old = c.self.inside.children in
    let new = c.cut-child.new.children in
    let forest = subst (λ (l : List (Option ℕ)). IsForest l new) c.as_slice.ensures.value c.cut-child.ensures.forest in
    let cut = subst (λ (l : List (Option ℕ)). IsCut l old.lists new.lists c.args.i c.cut-child.result) c.as_slice.ensures.value c.cut-child.ensures.cut in
    let h = some_of (key_at c.args.self.now c.args.i) c.requires in
    let held : HasPair keys h.0 c.args.i = ap (λ (l : List (Option ℕ)). key_at l c.args.i) c.self.view_is ∙ h.1 in
    subst (λ (o : Lists). c.in-Some-child.c < o.items) (sym c.unlink.ensures) (child_within keys old new c.self.inside.root c.self.invariant c.args.i c.cut-child.result forest cut c.in-Some.root c.in-Some.is c.if-root-i.false h.0 held c.in-Some-child.c c.in-Some-child.is)

pub link_last-requires-clause-free : goal.link_last-requires-clause-free
link_last-requires-clause-free c =
    let keys = c.self.inside.keys.items in
    let old = c.self.inside.children in
    let new = c.cut-child.new.children in
    let forest = subst (λ (l : List (Option ℕ)). IsForest l new) c.as_slice.ensures.value c.cut-child.ensures.forest in
    let cut = subst (λ (l : List (Option ℕ)). IsCut l old.lists new.lists c.args.i c.cut-child.result) c.as_slice.ensures.value c.cut-child.ensures.cut in
    let h = some_of (key_at c.args.self.now c.args.i) c.requires in
    let held : HasPair keys h.0 c.args.i = ap (λ (l : List (Option ℕ)). key_at l c.args.i) c.self.view_is ∙ h.1 in
    subst (λ (o : Lists). IsLinked o.lists c.in-Some-child.c → ⊥) (sym c.unlink.ensures) (child_free keys old new c.self.inside.root c.self.invariant c.args.i c.cut-child.result forest cut c.in-Some.root c.in-Some.is c.if-root-i.false h.0 held c.in-Some-child.c c.in-Some-child.is)

pub invariant_of-self-in-Some-child : goal.invariant_of-self-in-Some-child
invariant_of-self-in-Some-child c =
    let keys = c.self.inside.keys.items in
    let old = c.self.inside.children in
    let new = c.cut-child.new.children in
    let forest = subst (λ (l : List (Option ℕ)). IsForest l new) c.as_slice.ensures.value c.cut-child.ensures.forest in
    let cut = subst (λ (l : List (Option ℕ)). IsCut l old.lists new.lists c.args.i c.cut-child.result) c.as_slice.ensures.value c.cut-child.ensures.cut in
    let h = some_of (key_at c.args.self.now c.args.i) c.requires in
    let held : HasPair keys h.0 c.args.i = ap (λ (l : List (Option ℕ)). key_at l c.args.i) c.self.view_is ∙ h.1 in
    subst (λ (o : Lists). IsHeap (set keys c.args.i None) o c.self.inside.root)
    (sym (c.link_last.ensures ∙ ap (λ (o : Lists). with_lists o (lists_with_last o.lists c.in-Some.root c.in-Some-child.c)) c.unlink.ensures))
    (remove_some keys old new c.self.inside.root c.self.invariant c.args.i c.cut-child.result forest cut c.in-Some.root c.in-Some.is c.if-root-i.false h.0 held c.in-Some-child.c c.in-Some-child.is)

pub invariant_of-self-in_default-child : goal.invariant_of-self-in_default-child
invariant_of-self-in_default-child c =
    let keys = c.self.inside.keys.items in
    let old = c.self.inside.children in
    let new = c.cut-child.new.children in
    let forest = subst (λ (l : List (Option ℕ)). IsForest l new) c.as_slice.ensures.value c.cut-child.ensures.forest in
    let cut = subst (λ (l : List (Option ℕ)). IsCut l old.lists new.lists c.args.i c.cut-child.result) c.as_slice.ensures.value c.cut-child.ensures.cut in
    let h = some_of (key_at c.args.self.now c.args.i) c.requires in
    let held : HasPair keys h.0 c.args.i = ap (λ (l : List (Option ℕ)). key_at l c.args.i) c.self.view_is ∙ h.1 in
    subst (λ (o : Lists). IsHeap (set keys c.args.i None) o c.self.inside.root) (sym c.unlink.ensures) (remove_none keys old new c.self.inside.root c.self.invariant c.args.i c.cut-child.result forest cut c.in-Some.root c.in-Some.is c.if-root-i.false h.0 held c.in_default-child.is)

pub invariant_of-self-in_default : goal.invariant_of-self-in_default
invariant_of-self-in_default c =
    let keys = c.self.inside.keys.items in
    let h = some_of (key_at c.args.self.now c.args.i) c.requires in
    let held : HasPair keys h.0 c.args.i = ap (λ (l : List (Option ℕ)). key_at l c.args.i) c.self.view_is ∙ h.1 in
    absurd (none-some h.0 (sym (none_held keys c.self.inside.children c.self.inside.root c.self.invariant c.in_default.is c.args.i) ∙ held))

pub cut-child-requires-clause-parent : goal.cut-child-requires-clause-parent
cut-child-requires-clause-parent = grind (arith, common_steps)
