-- What follows from a test that was passed.
use Rattle.std.proofs.Common.{◌≡◌, ◌&&◌, Option, None, Bool, true, false, IfSome, refl}
use Rattle.std.specs.Prelude.{if◌then◌else◌}

pub both_true : (a b : Bool) → (a && b) ≡ true → (a ≡ true) × (b ≡ true)
both_true true b is = (refl, is)
both_true false b is = absurd (cc)

-- what a value has wherever the test is passed, a value behind the test has
pub where_passed : {A : Type 0} (P : A → Type 0) (test : Bool) (p : Option A)
    → (test ≡ true → IfSome p P) → IfSome (if test then p else None) P
where_passed P true p h = h refl
where_passed P false p h = tt
