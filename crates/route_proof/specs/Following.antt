-- Whether stops follow a route, as a test.
use Rattle.std.specs.Prelude.{ℕ, Bool, false, true, ◌&&◌, List, [], ◌∷◌, nat_eq, if◌then◌else◌}
use Rattle.ev_model.specs.declared.Stop.{Stop}

-- the stops from here on that were not inserted are at these nodes
abbrev pub follows : List ℕ → List Stop → Bool
follows [] [] = true
follows (n ∷ ns) [] = false
follows [] (s ∷ ss) = if s.via then follows [] ss else false
follows (n ∷ ns) (s ∷ ss) =
    if s.via then follows (n ∷ ns) ss else nat_eq n s.node && follows ns ss
