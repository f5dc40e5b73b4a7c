-- What a refusal of one search says of several searches, tried one after another.
use Rattle.std.proofs.Common.{◌≡◌, Option, None, Some, refl}
use Rattle.std.specs.Option.{option_or}
use Rattle.instance_reader.specs.Refusal.{RefusesAt}
use Rattle.instance_reader.specs.declared.faults.PlaceFault.{PlaceFault}
use Rattle.instance_reader.specs.declared.faults.PlaceFault.TheVariants.{At, Memory}
use Rattle.instance_reader.specs.declared.places.Place.{Place}

-- the first search refuses
pub RefusesAt-first : (a b : Option Place) (e : PlaceFault) → RefusesAt a e → RefusesAt (option_or a b) e
RefusesAt-first a b Memory h = tt
RefusesAt-first None b (At place) h = cc
RefusesAt-first (Some p) b (At place) h = h

-- the first search finds nothing, and the others refuse
pub RefusesAt-then : (a b : Option Place) (e : PlaceFault) → a ≡ None → RefusesAt b e → RefusesAt (option_or a b) e
RefusesAt-then None b e n h = h
RefusesAt-then (Some p) b e n h = cc

-- the first search finds nothing, so what is found is what the others find
pub option_or-none : (a b : Option Place) → a ≡ None → option_or a b ≡ b
option_or-none None b n = refl
option_or-none (Some p) b n = cc

pub ruleset several = (RefusesAt-first, RefusesAt-then, option_or-none)
