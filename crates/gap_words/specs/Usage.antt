-- How `evgap` is called: a line a command.
use Rattle.std.specs.Prelude.{List, ℕ, ◌++◌, codes}

abbrev pub usage_text : List ℕ
usage_text =
    codes "evgap plan FILE PLAN PROOF [--limit N] [--seconds N] [--start PLAN0] "
    ++ codes "[--seed N] [--effort N] [--nodes N]\n"
    ++ codes "evgap check FILE PLAN PROOF [--limit N]\n"
