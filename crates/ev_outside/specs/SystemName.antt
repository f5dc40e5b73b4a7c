-- The name that the files of the system were asked for last.
use Rattle.std.specs.Prelude.{List, Option, String, string_bytes, ℕ}
use Rattle.std.specs.Option.{option_map}
use Rattle.std.specs.declared.alloc.Global.{Global}

-- it as bytes, where there was memory to keep it
abbrev pub asked_by : Option (String Global) → Option (List ℕ)
asked_by name = option_map (λ kept. string_bytes kept) name
