-- Where the leaf of a key stands among the lines, and what the lines become where it is split there.
use Rattle.std.proofs.Common.{◌≡◌, ◌∙◌, ℕ, zero, suc, ◌+◌, ◌<◌, true, List, [], ◌∷◌, ◌++◌, set, inl, inr, refl, sym, ap, subst, arith, Some}
use Rattle.std.specs.Prelude.{nat_eq, IsSome, Option, slice_get}
use Rattle.std.specs.List.{All, flat_map, insert}
use Rattle.std.proofs.lemmas.Bool.{cases_Bool, eq-eqb}
use Rattle.std.proofs.lemmas.List.Elements.{All-nil, All-cons}
use Rattle.std.proofs.lemmas.Option.{none-some, same_Some}
use Rattle.fleet_model.specs.Tree.{BranchTree, leaf, split}
use Rattle.branching.specs.SearchTree.{leaves_with}
use Rattle.branching.specs.Shape.{key_lines, NamesNode, split_line, stands}
use Rattle.branching.specs.Nodes.{node_at}
use Rattle.branching.specs.declared.node.Node.{Node}
use Rattle.branching.specs.declared.shape.Line.{Line}
use Rattle.branching.specs.declared.shape.Line.TheVariants.{Split, Leaf}

pub stands-append : (key : ℕ) (xs ys : List Line) → stands key (xs ++ ys) ≡ stands key xs + stands key ys
stands-append key [] ys = omega arith
stands-append key (Leaf k ∷ xs) ys = omega (arith, stands-append key xs ys)
stands-append key (Split i j ∷ xs) ys = stands-append key xs ys

pub stands-lines : (key : ℕ) (t : BranchTree) → stands key (key_lines t) ≡ leaves_with key t
stands-lines key (leaf k) = omega arith
stands-lines key (split i j apart together) =
    stands-append key (key_lines apart) (key_lines together) ∙ rw (stands-lines key apart, stands-lines key together) refl

pub some_stand : (key at : ℕ) (ls : List Line) → slice_get ls at ≡ Some (Leaf key) → 0 < stands key ls
some_stand key at [] h = absurd (none-some (Leaf key) h)
some_stand key zero (x ∷ ls) h =
    let same : stands key (x ∷ ls) ≡ stands key (Leaf key ∷ ls) = ap (λ y. stands key (y ∷ ls)) (same_Some x (Leaf key) h) in
    let one : nat_eq key key ≡ true = eq-eqb key key refl in
    let counted : stands key (Leaf key ∷ ls) ≡ 1 + stands key ls = rw one refl in
    omega (arith, same, counted)
some_stand key (suc at) (Leaf k ∷ ls) h = omega (arith, some_stand key at ls h)
some_stand key (suc at) (Split i j ∷ ls) h = some_stand key at ls h

pub names_all : (nodes : List (Option Node)) (ls : List Line) → ((key : ℕ) → 0 < stands key ls → IsSome (node_at nodes key)) → All (NamesNode nodes) ls
names_all nodes [] h = All-nil (NamesNode nodes)
names_all nodes (Leaf k ∷ ls) h =
    let one : nat_eq k k ≡ true = eq-eqb k k refl in
    let counted : stands k (Leaf k ∷ ls) ≡ 1 + stands k ls = rw one refl in
    All-cons (NamesNode nodes) (Leaf k) ls (h k (omega (arith, counted))) (names_all nodes ls (λ key some. h key (omega (arith, some))))
names_all nodes (Split i j ∷ ls) h = All-cons (NamesNode nodes) (Split i j) ls tt (names_all nodes ls h)

module _ (key i j other : ℕ) where
  unchanged : (ls : List Line) → stands key ls ≡ 0 → flat_map (split_line key i j other) ls ≡ ls
  unchanged [] none = refl
  unchanged (Leaf k ∷ ls) none = elim (cases_Bool (nat_eq k key)) [
    | inl hit ↦
        let counted : stands key (Leaf k ∷ ls) ≡ 1 + stands key ls = rw hit refl in
        absurd (omega (arith, counted, none))
    | inr miss ↦
        let counted : stands key (Leaf k ∷ ls) ≡ stands key ls = rw miss (omega arith) in
        rw miss (ap (λ zs. Leaf k ∷ zs) (unchanged ls (sym counted ∙ none)))
  ]
  unchanged (Split a b ∷ ls) none = ap (λ zs. Split a b ∷ zs) (unchanged ls none)

  abbrev spliced : List Line → ℕ → List Line
  spliced ls at = insert (insert (set ls at (Split i j)) (suc at) (Leaf other)) (suc at) (Leaf key)

  pub spliced-grown : (ls : List Line) (at : ℕ) → slice_get ls at ≡ Some (Leaf key) → stands key ls ≡ 1 → spliced ls at ≡ flat_map (split_line key i j other) ls
  spliced-grown [] at h one = absurd (none-some (Leaf key) h)
  spliced-grown (x ∷ ls) zero h one =
      let is : x ≡ Leaf key = same_Some x (Leaf key) h in
      let same : nat_eq key key ≡ true = eq-eqb key key refl in
      let moved : stands key (Leaf key ∷ ls) ≡ 1 = subst (λ y. stands key (y ∷ ls) ≡ 1) is one in
      let counted : stands key (Leaf key ∷ ls) ≡ 1 + stands key ls = rw same refl in
      let rest = unchanged ls (omega (arith, moved, counted)) in
      let made : flat_map (split_line key i j other) (Leaf key ∷ ls) ≡ Split i j ∷ Leaf key ∷ Leaf other ∷ ls = rw (same, rest) refl in
      sym (subst (λ y. flat_map (split_line key i j other) (y ∷ ls) ≡ Split i j ∷ Leaf key ∷ Leaf other ∷ ls) (sym is) made)
  spliced-grown (Leaf k ∷ ls) (suc at) h one =
      let some = some_stand key at ls h in
      elim (cases_Bool (nat_eq k key)) [
        | inl hit ↦
            let counted : stands key (Leaf k ∷ ls) ≡ 1 + stands key ls = rw hit refl in
            absurd (omega (arith, counted, one, some))
        | inr miss ↦
            let counted : stands key (Leaf k ∷ ls) ≡ stands key ls = rw miss (omega arith) in
            rw miss (ap (λ zs. Leaf k ∷ zs) (spliced-grown ls at h (sym counted ∙ one)))
      ]
  spliced-grown (Split a b ∷ ls) (suc at) h one = ap (λ zs. Split a b ∷ zs) (spliced-grown ls at h one)

  pub spliced-more : (ls : List Line) (at p : ℕ) → p ≡ suc at → slice_get ls at ≡ Some (Leaf key) → stands key ls ≡ 1
      → insert (insert (set ls at (Split i j)) p (Leaf other)) p (Leaf key) ≡ flat_map (split_line key i j other) ls
  spliced-more ls at p next h one =
      subst (λ q. insert (insert (set ls at (Split i j)) q (Leaf other)) q (Leaf key) ≡ flat_map (split_line key i j other) ls) (sym next) (spliced-grown ls at h one)
