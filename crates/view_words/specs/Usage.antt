-- How `evview` is called.
use Rattle.std.specs.Prelude.{List, ℕ, ◌++◌, codes}

abbrev pub usage_text : List ℕ
usage_text =
    codes "evview FILE PLAN [--limit N] [--route N] [--partial] [--fixed [--charge N]] "
    ++ codes "[--exact] [--begin HH:MM --unit U] [--places FILE] [--svg OUT] [--json OUT] [--csv OUT] [--map OUT]\n"
