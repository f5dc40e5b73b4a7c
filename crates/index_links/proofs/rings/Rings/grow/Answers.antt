use Rattle.std.proofs.Common.{◌≡◌, ◌-◌, ◌++◌, List, max, length, take, replicate, ◌∙◌, ap, arith, vec_len}
use Rattle.std.proofs.lemmas.Grind.{common_steps}
use Rattle.index_links.specs.declared.rings.Ends.{Ends}
use Rattle.index_links.specs.Links.{no_ends, unlinked}
use Rattle.index_links.proofs.MoreItems.{grown}
use Rattle.index_links.proofs.rings.Rings.grow.Goals as goal

pub invariant_of-self-2 : goal.invariant_of-self-2
invariant_of-self-2 c =
    let es = c.self.inside.links.ends.items in
    let s = c.self.inside.links.slots.items in
    let es_len : c.len.result ≡ length es = omega arith in
    let s_len : c.len-2.result ≡ length s = omega arith in
    let v_len : vec_len c.self.inside.links.slots ≡ length s = omega arith in
    let same = c.in_ok-reserve.ensures.items in
    let r_len : vec_len c.reserve.new.self ≡ length es = omega (arith, ap length same) in
    (grown es c.resize-2.new.self.items s c.resize.new.self.items c.args.self.now c.args.lists c.args.items c.max-lists.result c.max-items.result c.self.invariant c.self.view_is
    (c.max-lists.ensures ∙ ap (max c.args.lists) es_len) (c.max-items.ensures ∙ ap (max c.args.items) s_len)
    (c.in_ok-resize-2.ensures.items ∙ ap (λ (r : List Ends). take c.max-lists.result r ++ replicate (c.max-lists.result - vec_len c.reserve.new.self) no_ends) same
    ∙ ap (λ k. take c.max-lists.result es ++ replicate (c.max-lists.result - k) no_ends) r_len)
    (c.in_ok-resize.ensures.items ∙ ap (λ k. take c.max-items.result s ++ replicate (c.max-items.result - k) unlinked) v_len)).0

pub returns-clause-ok : goal.returns-clause-ok
returns-clause-ok c =
    let es = c.self.inside.links.ends.items in
    let s = c.self.inside.links.slots.items in
    let es_len : c.len.result ≡ length es = omega arith in
    let s_len : c.len-2.result ≡ length s = omega arith in
    let v_len : vec_len c.self.inside.links.slots ≡ length s = omega arith in
    let same = c.in_ok-reserve.ensures.items in
    let r_len : vec_len c.reserve.new.self ≡ length es = omega (arith, ap length same) in
    (grown es c.resize-2.new.self.items s c.resize.new.self.items c.args.self.now c.args.lists c.args.items c.max-lists.result c.max-items.result c.self.invariant c.self.view_is
    (c.max-lists.ensures ∙ ap (max c.args.lists) es_len) (c.max-items.ensures ∙ ap (max c.args.items) s_len)
    (c.in_ok-resize-2.ensures.items ∙ ap (λ (r : List Ends). take c.max-lists.result r ++ replicate (c.max-lists.result - vec_len c.reserve.new.self) no_ends) same
    ∙ ap (λ k. take c.max-lists.result es ++ replicate (c.max-lists.result - k) no_ends) r_len)
    (c.in_ok-resize.ensures.items ∙ ap (λ k. take c.max-items.result s ++ replicate (c.max-items.result - k) unlinked) v_len)).1

pub invariant_of-self : goal.invariant_of-self
invariant_of-self = grind (arith, common_steps)

pub invariant_of-self-in_err-resize-2 : goal.invariant_of-self-in_err-resize-2
invariant_of-self-in_err-resize-2 = grind (arith, common_steps)

pub invariant_of-self-in_err-resize : goal.invariant_of-self-in_err-resize
invariant_of-self-in_err-resize = grind (arith, common_steps)
