-- Loops that test each item of a list.
use Rattle.std.proofs.Common.{◌≡◌, ◌∙◌, ◌↔◌, ℕ, ◌+◌, ◌<◌, ◌≤◌, true, List, length, get_or, take, refl, ap, subst, arith, IsTrue}
use Rattle.std.specs.List.{All}
use Rattle.std.proofs.Math.Seq.{take-length}
use Rattle.std.proofs.lemmas.List.Elements.{All-more}

module _ {X : Type 0} (P : X → Type 0) where
  -- one item more
  pub item_holds : (xs : List X) (i : ℕ) (x : X) → i < length xs → All P (take i xs) → x ≡ get_or xs i x → P x → All P (take (i + 1) xs)
  item_holds xs i x within before is here = All-more P xs i x within before (subst P is here)

  -- and all of them
  pub all_hold : (xs : List X) (i : ℕ) → i ≤ length xs → length xs ≤ i → All P (take i xs) → IsTrue true ↔ All P xs
  all_hold xs i within past before =
      let same : i ≡ length xs = omega arith in
      (λ yes. subst (All P) (ap (λ n. take n xs) same ∙ take-length xs) before, λ all. refl)
