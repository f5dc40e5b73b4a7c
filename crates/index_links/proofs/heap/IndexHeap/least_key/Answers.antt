use Rattle.std.proofs.Common.{◌≡◌, ℕ, List, sym, ◌∙◌, subst, Option, Some, None, refl}
use Rattle.std.proofs.lemmas.List.{get_or_default}
use Rattle.std.specs.Prelude.{IfSome}
use Rattle.index_links.specs.Queue.{IsEmpty, IsLeast}
use Rattle.index_links.proofs.Forest.{held_within}
use Rattle.index_links.proofs.Queue.{none_held, root_least}
use Rattle.index_links.proofs.heap.IndexHeap.least_key.Goals as goal

pub returns-in_default-clause-empty : goal.returns-in_default-clause-empty
returns-in_default-clause-empty c = (
  λ _. subst (λ (l : List (Option ℕ)). IsEmpty l) c.self.view_is (none_held c.self.inside.keys.items c.self.inside.children c.self.inside.root c.self.invariant c.in_default.is),
  λ _. refl,
)

pub returns-clause-least : goal.returns-clause-least
returns-clause-least c =
    let r = root_least c.self.inside.keys.items c.self.inside.children c.self.inside.root c.self.invariant c.in-Some.root c.in-Some.is in
    let e : c.index.result.now ≡ Some r.0 = c.index.ensures ∙ get_or_default c.self.inside.keys.items c.in-Some.root c.index.result.now None (held_within c.self.inside.keys.items c.in-Some.root r.0 r.1.held) ∙ r.1.held in
    subst (λ (z : Option ℕ). IfSome z (λ key. (i : ℕ) × IsLeast c.args.self.now key i)) (sym e)
    (c.in-Some.root, subst (λ (l : List (Option ℕ)). IsLeast l r.0 c.in-Some.root) c.self.view_is r.1)
