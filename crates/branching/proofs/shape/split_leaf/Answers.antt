use Rattle.std.proofs.Common.{◌≡◌, ◌∙◌, suc, ◌+◌, set, sym, ap, subst, arith, Some}
use Rattle.std.proofs.lemmas.Grind.{elements}
use Rattle.std.specs.Prelude.{slice_get}
use Rattle.std.specs.List.{flat_map, insert}
use Rattle.branching.specs.Shape.{split_line, stands}
use Rattle.branching.specs.declared.shape.Line.TheVariants.{Split, Leaf}
use Rattle.branching.proofs.Places.{spliced-more}
use Rattle.branching.proofs.shape.split_leaf.Goals as goal

pub returns-clause-ok : goal.returns-clause-ok
returns-clause-ok c =
    let key = c.args.key in
    let i = c.args.i in
    let j = c.args.j in
    let other = c.args.other in
    let ls = c.args.shape.now.items in
    let now = c.reserve.new.self.items in
    let place = c.place_of-place.result in
    let next : place + 1 ≡ suc place = omega arith in
    let same : now ≡ ls = c.in_ok-reserve.ensures.items in
    let at : slice_get now place ≡ Some (Leaf key) = subst (λ xs. slice_get xs place ≡ Some (Leaf key)) c.as_slice.ensures.value c.place_of-place.ensures in
    let one : stands key now ≡ 1 = subst (λ xs. stands key xs ≡ 1) (sym same) c.requires in
    let first : c.insert.new.self.items ≡ insert (set now place (Split i j)) (place + 1) (Leaf other) = c.in_ok-insert.ensures.items in
    let second : c.insert-2.new.self.items ≡ insert c.insert.new.self.items (place + 1) (Leaf key) = c.in_ok-insert-2.ensures.items in
    second ∙ ap (λ xs. insert xs (place + 1) (Leaf key)) first ∙ spliced-more key i j other now place (place + 1) next at one ∙ ap (λ xs. flat_map (split_line key i j other) xs) same

pub insert-requires : goal.insert-requires
insert-requires = grind (arith, elements)

pub insert-requires-2 : goal.insert-requires-2
insert-requires-2 = grind (arith, elements)

pub overflow_add-place : goal.overflow_add-place
overflow_add-place = grind (arith, elements)

pub overflow_add-place-2 : goal.overflow_add-place-2
overflow_add-place-2 = grind (arith, elements)
