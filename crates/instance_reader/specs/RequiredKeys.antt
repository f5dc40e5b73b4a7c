-- The rule on missing keys.
use Rattle.std.specs.Prelude.{List, [], ◌∷◌, Option, is_none, find}
use Rattle.serde_json.specs.Data.{Data}
use Rattle.instance_reader.specs.Values.{value_at}
use Rattle.instance_reader.specs.declared.places.Key.{Key}
use Rattle.instance_reader.specs.declared.places.Key.TheVariants.{MaxQ, Css, Breaks, Service, Energy, Time}

-- the keys that each instance has
abbrev pub required_keys : List Key
required_keys = MaxQ ∷ Css ∷ Breaks ∷ Service ∷ Energy ∷ Time ∷ []

-- the first required key that is absent; where the top value is no object, all are
unfoldable pub first_missing : Data → Option Key
first_missing top = find (λ key. is_none (value_at key top)) required_keys
