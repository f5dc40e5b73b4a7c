-- Looking for the range of a set among those that are counted.
use Rattle.std.proofs.Common.{◌≡◌, ◌∙◌, ℕ, zero, suc, ◌<◌, Bool, true, List, [], ◌∷◌, drop, get_or, length, refl, sym, ap, arith, if◌then◌else◌}
use Rattle.near_tree.specs.Branches.{count_of, is_same}
use Rattle.tree_text.specs.Ways.{as_counted, counted_in}
use Rattle.tree_text.specs.declared.ways.CountedSet.{CountedSet}

first_of : {A : Type 0} (xs : List A) (i : ℕ) (d : A) → i < length xs → drop i xs ≡ get_or xs i d ∷ drop (suc i) xs
first_of [] i d less = absurd (omega (arith, less))
first_of (x ∷ xs) zero d less = refl
first_of (x ∷ xs) (suc i) d less = first_of xs i d (omega (arith, less))

pub here_counted : (cs : List CountedSet) (i : ℕ) (c : CountedSet) (set : List ℕ) → i < length cs → c ≡ get_or cs i c → is_same c.set set ≡ true → count_of (counted_in (drop i cs)) set ≡ count_of (counted_in cs) set → as_counted c ≡ count_of (counted_in cs) set
here_counted cs i c set less is same so_far =
    let front : drop i cs ≡ c ∷ drop (suc i) cs = first_of cs i c less ∙ ap (λ x. x ∷ drop (suc i) cs) (sym is) in
    sym (ap (λ (b : Bool). if b then as_counted c else count_of (counted_in (drop (suc i) cs)) set) same) ∙ sym (ap (λ xs. count_of (counted_in xs) set) front) ∙ so_far
