-- The lines of a cost, a bound and their gap, which is told in per cent of the bound too.
use Rattle.std.specs.Prelude.{ℕ, ◌+◌, ◌-◌, ◌*◌, ◌/◌, ◌%◌, ◌^◌, ◌≤◌, ◌++◌, ◌∷◌, [], List, Option, None, Some, IfSome, codes, decimal, nat_eq, nat_lt, if◌then◌else◌}
use Rattle.report_lines.specs.Lines.{bounds_text, infeasible_line}
use Rattle.route_improve.specs.ImprovedText.{alone_text}

-- the least number of hundredths of a per cent of the bound that is no less than the gap
abbrev pub hundredths : ℕ → ℕ → ℕ
hundredths gap bound = (gap * 10 ^ 4 + (bound - 1)) / bound

-- per cent with two decimals
abbrev pub percent_text : ℕ → List ℕ
percent_text number =
    decimal (number / 100) ++ codes "." ++ decimal (number / 10 % 10) ++ decimal (number % 10)

abbrev pub percent_line : ℕ → List ℕ
percent_line number = codes "gap " ++ percent_text number ++ codes " %" ++ 10 ∷ []

-- the line of the gap in per cent of the bound: of a bound of 0 there is none but where the cost is
-- 0 too
abbrev pub share_line : ℕ → ℕ → List ℕ
share_line cost bound =
    if nat_eq cost bound then percent_line 0
    else if nat_lt 0 bound then percent_line (hundredths (cost - bound) bound)
    else []

-- the same where both stand, and else no line
abbrev pub gap_line : Option ℕ → Option ℕ → List ℕ
gap_line (Some cost) (Some bound) = share_line cost bound
gap_line cost bound = []

-- a cost, a bound and their gap
abbrev pub gap_text : ℕ → Option ℕ → Option ℕ → List ℕ
gap_text denominator cost bound = bounds_text denominator cost bound ++ gap_line cost bound

-- the first customer whom no route of his own reaches, where one is told
abbrev pub alone_line : Option ℕ → List ℕ
alone_line None = []
alone_line (Some node) = alone_text node

-- what a search puts: that there is no fleet plan, or what was found
abbrev pub found_text : ℕ → Option ℕ → Option ℕ → Option ℕ → List ℕ
found_text denominator alone cost None = infeasible_line
found_text denominator alone cost (Some bound) =
    alone_line alone ++ gap_text denominator cost (Some bound)

-- a line `accepted`, and what was judged
abbrev pub accepted_text : ℕ → Option ℕ → Option ℕ → List ℕ
accepted_text denominator cost bound =
    codes "accepted" ++ 10 ∷ gap_text denominator cost bound

-- a cost leaves room for its share to be computed
abbrev pub IsSmallCost : Option ℕ → Type 0
IsSmallCost cost = IfSome cost (λ c. c ≤ 2 ^ 100)
