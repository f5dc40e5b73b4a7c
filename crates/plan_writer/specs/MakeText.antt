-- What `make` puts: three lines on the instance that was made and on one route of it.
use Rattle.std.specs.Prelude.{ℕ, ◌++◌, List, Option, codes}
use Rattle.report_lines.specs.Lines.{number_line, time_line}

abbrev pub make_text : ℕ → ℕ → Option ℕ → List ℕ
make_text nodes denominator time =
    number_line (codes "nodes ") nodes ++ number_line (codes "denominator ") denominator
    ++ time_line denominator time
