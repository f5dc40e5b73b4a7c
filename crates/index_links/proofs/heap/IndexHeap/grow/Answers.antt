use Rattle.std.proofs.Common.{◌≡◌, ℕ, ◌-◌, ◌++◌, List, length, replicate, take, sym, ◌∙◌, ap, subst, arith, Option, None, vec_len}
use Rattle.std.proofs.lemmas.Grind.{common_steps}
use Rattle.std.proofs.lemmas.List.{take_all}
use Rattle.index_links.specs.Lists.{Lists}
use Rattle.index_links.specs.Forest.{IsHeap}
use Rattle.index_links.proofs.Queue.{grow_heap}
use Rattle.index_links.proofs.heap.IndexHeap.grow.Goals as goal

pub invariant_of-self-2 : goal.invariant_of-self-2
invariant_of-self-2 c =
    let n : c.len.result ≡ length c.self.inside.keys.items = omega arith in
    let m = c.max-items.ensures in
    let same = c.in_ok-reserve.ensures.items in
    let rl : vec_len c.reserve.new.self ≡ length c.self.inside.keys.items = omega (arith, ap length same) in
    let e = c.in_ok-resize.ensures.items
    ∙ ap (λ (l : List (Option ℕ)). take c.max-items.result l ++ replicate (c.max-items.result - vec_len c.reserve.new.self) None) same
    ∙ ap (λ k. take c.max-items.result c.self.inside.keys.items ++ replicate (c.max-items.result - k) None) rl
    ∙ ap (λ (l : List (Option ℕ)). l ++ replicate (c.max-items.result - length c.self.inside.keys.items) None) (take_all c.max-items.result c.self.inside.keys.items (omega arith)) in
    subst (λ (o : Lists). IsHeap c.resize.new.self.items o c.self.inside.root) (sym c.in_ok-grow.ensures.ok)
    (grow_heap c.self.inside.keys.items c.resize.new.self.items c.self.inside.children c.self.inside.root c.max-items.result c.self.invariant e)

pub invariant_of-self-in_err-grow : goal.invariant_of-self-in_err-grow
invariant_of-self-in_err-grow = grind (arith, common_steps)

pub returns-clause-ok : goal.returns-clause-ok
returns-clause-ok = grind (arith, common_steps)

pub invariant_of-self : goal.invariant_of-self
invariant_of-self = grind (arith, common_steps)

pub invariant_of-self-in_err-resize : goal.invariant_of-self-in_err-resize
invariant_of-self-in_err-resize = grind (arith, common_steps)
