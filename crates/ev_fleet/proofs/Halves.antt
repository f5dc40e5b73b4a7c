-- What holds of each entry of a list holds of each entry of its first and of its second half.
use Rattle.std.proofs.Common.{ℕ, List, ◌++◌}
use Rattle.std.specs.List.{All, Contains}
use Rattle.std.proofs.lemmas.List.Elements.{All-contains, All-contains_itself, All-weaker, Contains-append_left, Contains-append_right}

pub all_left : (P : ℕ → Type 0) (xs ys : List ℕ) → All P (xs ++ ys) → All P xs
all_left P xs ys all =
    All-weaker (Contains xs) P (λ x has. All-contains P (xs ++ ys) x all (Contains-append_left xs ys x has)) xs (All-contains_itself xs)

pub all_right : (P : ℕ → Type 0) (xs ys : List ℕ) → All P (xs ++ ys) → All P ys
all_right P xs ys all =
    All-weaker (Contains ys) P (λ x has. All-contains P (xs ++ ys) x all (Contains-append_right xs ys x has)) ys (All-contains_itself ys)
