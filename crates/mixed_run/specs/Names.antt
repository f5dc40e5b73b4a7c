-- The names of files as bytes.
use Rattle.std.specs.Prelude.{ℕ, List, String, map, string_bytes}
use Rattle.std.specs.declared.alloc.Global.{Global}

abbrev pub names_of : List (String Global) → List (List ℕ)
names_of texts = map string_bytes texts
