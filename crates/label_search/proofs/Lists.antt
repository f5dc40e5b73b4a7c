-- Lists, and their last item.
use Rattle.std.proofs.Common.{zero, suc, List, [], ◌∷◌, ◌++◌, arith}
use Rattle.std.specs.List.{All}
use Rattle.std.proofs.lemmas.List.Elements.{All-append, All-cons, All-nil}

pub one_more : {X : Type 0} (P : X → Type 0) (xs : List X) (x : X) → All P xs → P x → All P (xs ++ x ∷ [])
one_more P xs x all is = All-append P xs (x ∷ []) all (All-cons P x [] is (All-nil P))

-- the last of a list, and the others
pub of_last : {X : Type 0} (P : X → Type 0) (xs : List X) (x : X) → All P (xs ++ x ∷ []) → P x
of_last P [] x all = all 0 x (omega arith)
of_last P (y ∷ ys) x all = of_last P ys x (λ i d less. all (suc i) d (omega (arith, less)))

pub all_but_last : {X : Type 0} (P : X → Type 0) (xs : List X) (x : X) → All P (xs ++ x ∷ []) → All P xs
all_but_last P [] x all i d less = absurd (omega (arith, less))
all_but_last P (y ∷ ys) x all zero d less = all 0 d (omega arith)
all_but_last P (y ∷ ys) x all (suc i) d less = all_but_last P ys x (λ j e lt. all (suc j) e (omega (arith, lt))) i d (omega (arith, less))
