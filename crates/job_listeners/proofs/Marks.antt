-- A mark that does not stand in front of a text stands behind its first byte, if anywhere.
use Rattle.std.proofs.Common.{◌≡◌, ◌∙◌, ℕ, List, [], ◌∷◌, Bool, false, ap, drop, length, nat_eq, subst, sym}
use Rattle.std.specs.List.{starts_with}
use Rattle.std.specs.Prelude.{if◌then◌else◌}
use Rattle.job_listeners.specs.MostMemory.{mark, most_memory, number_behind}

pub behind : (text : List ℕ) (b : ℕ) (rest : List ℕ) → text ≡ b ∷ rest → starts_with nat_eq text mark ≡ false → most_memory rest ≡ most_memory text
behind text b rest is other =
    let here : starts_with nat_eq (b ∷ rest) mark ≡ false = subst (λ (bs : List ℕ). starts_with nat_eq bs mark ≡ false) is other in
    sym (ap (λ (test : Bool). if test then number_behind (drop (length mark) (b ∷ rest)) else most_memory rest) here) ∙ ap most_memory (sym is)
