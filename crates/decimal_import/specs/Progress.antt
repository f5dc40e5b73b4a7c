-- A conversion that is under way.
use Rattle.std.specs.Prelude.{ℕ, List, ◌++◌, Result, Ok}
use Rattle.decimal_import.specs.Conversion.{and_then, converted_from}
use Rattle.decimal_import.specs.declared.fault.ImportFault.{ImportFault}
use Rattle.decimal_import.specs.declared.conversion.Conversion.{Conversion}

-- what a conversion comes to, with these bytes left, which stand at this place
abbrev pub outcome : Conversion → ℕ → List ℕ → Result (List ℕ) ImportFault
outcome c at bytes =
    and_then (converted_from c.digits at c.nesting bytes) (λ more. Ok (c.text.items ++ more))
