-- The laws of pieces behind which a file is kept.
use Rattle.std.proofs.Common.{◌≡◌, ◌∙◌, refl, ap, ℕ, Bool, true, List, ◌++◌, []}
use Rattle.ev_outside.specs.Kept.{KeptBehind}

-- no piece
pub kept_nothing : (before : Bool) → KeptBehind before [] before
kept_nothing before is = (refl, is)

-- one piece and then another
pub kept_more : (a b c : Bool) (xs ys : List ℕ) → KeptBehind a xs b → KeptBehind b ys c → KeptBehind a (xs ++ ys) c
kept_more a b c xs ys first second is =
    let later : (ys ≡ []) × (b ≡ true) = second is in
    let earlier : (xs ≡ []) × (a ≡ true) = first later.1 in
    (ap (λ zs. zs ++ ys) earlier.0 ∙ later.0, earlier.1)
