-- The laws of pieces that stand behind each other in a file.
use Rattle.std.proofs.Common.{◌≡◌, ◌∙◌, refl, sym, ap, subst, ℕ, List, [], ◌++◌, Option, Some, None, append_assoc}
use Rattle.std.proofs.lemmas.List.{append-nil}
use Rattle.std.specs.Io.KnownBytes.{append_known}
use Rattle.ev_outside.specs.Sink.{Adds}
use Rattle.ev_outside.specs.Storage.{Told, WritesTo}

append_known_nothing : (known : Option (List ℕ)) → known ≡ append_known known []
append_known_nothing None = refl
append_known_nothing (Some xs) = ap Some (sym (append-nil xs))

append_known_more : (known : Option (List ℕ)) (xs ys : List ℕ) → append_known (append_known known xs) ys ≡ append_known known (xs ++ ys)
append_known_more None xs ys = refl
append_known_more (Some zs) xs ys = ap Some (append_assoc zs xs ys)

-- no piece
pub writes_nothing : (t : Told) → WritesTo (Some t) [] (Some t)
writes_nothing t = (refl, append_known_nothing (t.files t.target), λ other distinct. refl)

-- one piece and then another
pub writes_more : (a b c : Told) (xs ys : List ℕ) → WritesTo (Some a) xs (Some b) → WritesTo (Some b) ys (Some c) → WritesTo (Some a) (xs ++ ys) (Some c)
writes_more a b c xs ys first second = (
  second.0 ∙ first.0,
  target_has,
  λ other distinct. second.2 other (λ same. distinct (same ∙ first.0)) ∙ first.2 other distinct,
)
  where
    at_first : c.files a.target ≡ append_known (b.files a.target) ys
    at_first = subst (λ (name : List ℕ). c.files name ≡ append_known (b.files name) ys) first.0 second.1

    target_has : c.files a.target ≡ append_known (a.files a.target) (xs ++ ys)
    target_has = at_first ∙ ap (λ known. append_known known ys) first.1 ∙ append_known_more (a.files a.target) xs ys

added : (old new : Option (List ℕ)) (piece : List ℕ) → new ≡ append_known old piece → Adds old new piece
added None new piece is = is
added (Some xs) new piece is = is

-- the piece stands behind what was written
pub writes_add : (a b : Told) (piece : List ℕ) → WritesTo (Some a) piece (Some b) → Adds (a.files a.target) (b.files b.target) piece
writes_add a b piece writes = added (a.files a.target) (b.files b.target) piece (ap b.files writes.0 ∙ writes.1)
