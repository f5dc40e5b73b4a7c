-- The lines that tell of an improvement.
use Rattle.std.specs.Prelude.{ℕ, ◌++◌, List, Option, Some, codes}
use Rattle.report_lines.specs.Lines.{number_line, scaled_line}

-- the cost of the plan that is answered, and that of the plan before, or that there was none
abbrev pub improved_text : ℕ → ℕ → Option ℕ → List ℕ
improved_text denominator cost was =
    scaled_line (codes "cost ") denominator (Some cost)
    ++ scaled_line (codes "was ") denominator was

-- the node of a customer whom no route of his own reaches
abbrev pub alone_text : ℕ → List ℕ
alone_text node = number_line (codes "alone ") node
