-- The line of a verdict on a proof for several kinds of vehicles that isn't accepted: the first
-- rule that it breaks.
use Rattle.std.specs.Prelude.{◌++◌, ◌∷◌, ℕ, [], List, decimal, codes}
use Rattle.mixed_model.specs.declared.verdict.MixedVerdict.{MixedVerdict}
use Rattle.mixed_model.specs.declared.verdict.MixedVerdict.TheVariants.{Accepted, Bound, End, Root, Start, Step}

-- a broken rule is told by its number, and what breaks it: the kind, and of it the label and the
-- node of a step, or the label. An accepted proof has no such line
abbrev pub mixed_verdict_text : MixedVerdict → List ℕ
mixed_verdict_text Accepted = []
mixed_verdict_text (Start kind) = codes "rejected mixed 1 kind " ++ (decimal kind ++ 10 ∷ [])
mixed_verdict_text (Step kind label node) =
    codes "rejected mixed 2 kind " ++ (decimal kind ++ (codes " label " ++ (decimal label
    ++ (codes " node " ++ (decimal node ++ 10 ∷ [])))))
mixed_verdict_text (End kind label) =
    codes "rejected mixed 3 kind " ++ (decimal kind ++ (codes " label " ++ (decimal label
    ++ 10 ∷ [])))
mixed_verdict_text Bound = codes "rejected mixed 4" ++ 10 ∷ []
mixed_verdict_text Root = codes "rejected mixed 5" ++ 10 ∷ []
