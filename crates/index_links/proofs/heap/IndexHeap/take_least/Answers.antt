use Rattle.std.proofs.Common.{ℕ, List, subst, Option, refl, arith}
use Rattle.std.proofs.lemmas.Grind.{common_steps}
use Rattle.index_links.specs.Queue.{IsEmpty, IsLeast}
use Rattle.index_links.specs.Forest.{IsForest, IsCut}
use Rattle.index_links.proofs.Queue.{none_held, root_least, take_root}
use Rattle.index_links.proofs.heap.IndexHeap.take_least.Goals as goal

pub returns-in_default-clause-empty : goal.returns-in_default-clause-empty
returns-in_default-clause-empty c = (
  λ _. subst (λ (l : List (Option ℕ)). IsEmpty l) c.self.view_is (none_held c.self.inside.keys.items c.self.inside.children c.self.inside.root c.self.invariant c.in_default.is),
  λ _. refl,
)

pub invariant_of-self : goal.invariant_of-self
invariant_of-self c =
    let keys = c.self.inside.keys.items in
    let forest = subst (λ (l : List (Option ℕ)). IsForest l c.cut-next.new.children) c.as_slice.ensures.value c.cut-next.ensures.forest in
    let cut = subst (λ (l : List (Option ℕ)). IsCut l c.self.inside.children.lists c.cut-next.new.children.lists c.in-Some.root c.cut-next.result) c.as_slice.ensures.value c.cut-next.ensures.cut in
    take_root keys c.self.inside.children c.cut-next.new.children c.self.inside.root c.self.invariant c.in-Some.root c.cut-next.result forest cut c.in-Some.is

pub returns-clause-least : goal.returns-clause-least
returns-clause-least c =
    let r = root_least c.self.inside.keys.items c.self.inside.children c.self.inside.root c.self.invariant c.in-Some.root c.in-Some.is in
    (r.0, subst (λ (l : List (Option ℕ)). IsLeast l r.0 c.in-Some.root) c.self.view_is r.1)

pub index_mut-requires : goal.index_mut-requires
index_mut-requires = grind (arith, common_steps)

pub cut-next-requires-clause-parent : goal.cut-next-requires-clause-parent
cut-next-requires-clause-parent = grind (arith, common_steps)
