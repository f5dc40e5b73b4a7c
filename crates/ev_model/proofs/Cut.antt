-- Levels and times of stops that are cut in two.
use Rattle.std.proofs.Common.{◌≡◌, ℕ, ◌+◌, List, [], ◌∷◌, ◌++◌, refl, ap, arith}
use Rattle.ev_model.specs.Network.{Network}
use Rattle.ev_model.specs.Levels.{level_after, leaving_level, levels_from, node_after}
use Rattle.ev_model.specs.Time.{stop_time, time_from}
use Rattle.ev_model.specs.declared.Stop.{Stop}

pub levels_from-append : (g : Network) (k from level : ℕ) (first rest : List Stop) →
    levels_from g k from level (first ++ rest) ≡ levels_from g k from level first ++ levels_from g k (node_after from first) (level_after g k from level first) rest
levels_from-append g k from level [] rest = refl
levels_from-append g k from level (s ∷ ss) rest =
    ap (λ ls. leaving_level g k from level s ∷ ls) (levels_from-append g k s.node (leaving_level g k from level s) ss rest)

pub time_from-append : (g : Network) (k from level : ℕ) (first rest : List Stop) →
    time_from g k from level (first ++ rest) ≡ time_from g k from level first + time_from g k (node_after from first) (level_after g k from level first) rest
time_from-append g k from level [] rest = omega arith
time_from-append g k from level (s ∷ ss) rest =
    let later = time_from-append g k s.node (leaving_level g k from level s) ss rest in
    let now = stop_time g k from level s in
    rw later (omega arith)
