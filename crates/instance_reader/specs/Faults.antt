-- The first broken rule of an instance file, and the instance of a file that breaks none.
use Rattle.std.specs.Prelude.{◌≡◌, ℕ, ◌<◌, ◌≤◌, ◌^◌, List, [], ◌∷◌, Option, None, Some, All, length, map, option_map, ◌⊎◌}
use Rattle.charge_curve.specs.CutCurve.{CutCurve, IsAccepted}
use Rattle.ev_model.specs.Network.{Network}
use Rattle.serde_json.specs.Data.{Data}
use Rattle.instance_reader.specs.Contents.{Contents, contents_of}
use Rattle.instance_reader.specs.Curves.{bad_curve_in, cut_curve}
use Rattle.instance_reader.specs.Kinds.{first_wrong_kind}
use Rattle.instance_reader.specs.Levels.{first_level_past_full}
use Rattle.instance_reader.specs.Limits.{IsDenominatorOf, large_denominator, past_horizon}
use Rattle.instance_reader.specs.Meaning.{given_limit, network_of}
use Rattle.instance_reader.specs.Nodes.{first_wrong_node}
use Rattle.instance_reader.specs.RequiredKeys.{first_missing}
use Rattle.instance_reader.specs.Search.{first}
use Rattle.instance_reader.specs.Shapes.{first_wrong_shape}
use Rattle.instance_reader.specs.Sizes.{first_large}
use Rattle.instance_reader.specs.Types.{first_wrong_type}
use Rattle.instance_reader.specs.Values.{HasNoValue, IsValueOf}
use Rattle.instance_reader.specs.declared.faults.ReadFault.{ReadFault}
use Rattle.instance_reader.specs.declared.faults.ReadFault.TheVariants as fault

-- the first broken rule of those on sizes and shapes
abbrev pub size_fault : Contents → Option ReadFault
size_fault c = first
    (option_map fault.TooLarge (first_large c)
    ∷ option_map fault.Shape (first_wrong_shape c)
    ∷ [])

-- the first broken rule of those on stations
abbrev pub station_fault : Contents → Option ReadFault
station_fault c = first
    (option_map fault.Node (first_wrong_node c)
    ∷ option_map fault.TypeName (first_wrong_type c)
    ∷ [])

-- the first broken rule of those on the contents that need no denominator
abbrev pub early_fault : Contents → Option ReadFault
early_fault c = first
    (size_fault c
    ∷ station_fault c
    ∷ bad_curve_in c.capacity c.curves
    ∷ [])

-- the first broken rule of the others, where d is the denominator of the curves
abbrev pub late_fault : ℕ → Contents → Option ReadFault
late_fault d c = first
    (large_denominator d
    ∷ past_horizon d (given_limit c)
    ∷ option_map fault.Level (first_level_past_full c)
    ∷ [])

-- the first broken rule of a value of those that need no denominator
abbrev pub value_fault : Data → Option ReadFault
value_fault top = first
    (option_map fault.Missing (first_missing top)
    ∷ option_map fault.Kind (first_wrong_kind top)
    ∷ early_fault (contents_of top)
    ∷ [])

-- the fault is found before the denominator is needed; or none is, and it is the first of the others for the denominator of the curves
abbrev pub IsFirstOf : Contents → Option ReadFault → ReadFault → Type 0
IsFirstOf c early e =
    (early ≡ Some e) ⊎
    ((early ≡ None) × ((d : ℕ) × IsDenominatorOf c d × (late_fault d c ≡ Some e)))

-- the fault is the first broken rule of the contents
abbrev pub IsFirstFaultIn : Contents → ReadFault → Type 0
IsFirstFaultIn c e = IsFirstOf c (early_fault c) e

-- the fault is the first broken rule of the value
abbrev pub IsFirstFaultOf : Data → ReadFault → Type 0
IsFirstFaultOf top e = IsFirstOf (contents_of top) (value_fault top) e

-- the longest file that is read
abbrev pub longest : ℕ
longest = 2 ^ 26

-- the bytes are not too long, and P holds of the value that they are
abbrev pub IsRead : List ℕ → (Data → Type 0) → Type 0
IsRead bytes P = (length bytes ≤ longest) × ((top : Data) × IsValueOf bytes top × P top)

-- the fault is the first broken rule of these bytes. Want of memory breaks no rule
abbrev pub IsFirstFault : List ℕ → ReadFault → Type 0
IsFirstFault bytes (fault.TooLong len) = (len ≡ length bytes) × (longest < length bytes)
IsFirstFault bytes fault.NotJson = (length bytes ≤ longest) × HasNoValue bytes
IsFirstFault bytes fault.Memory = ⊥
IsFirstFault bytes other = IsRead bytes (λ top. IsFirstFaultOf top other)

-- no rule up to those on curves is broken, and these are the curves
pub record AreGood (c : Contents) (curves : List CutCurve) : Type 0 where
  pub sizes : size_fault c ≡ None
  pub stations : station_fault c ≡ None
  pub good : bad_curve_in c.capacity c.curves ≡ None
  pub given : curves ≡ map (cut_curve c.capacity) c.curves
  pub accepted : All IsAccepted curves

-- the contents break no rule, and the network is what they mean
pub record IsMeantBy (c : Contents) (g : Network) : Type 0 where
  pub denominator : IsDenominatorOf c g.denominator
  pub early : early_fault c ≡ None
  pub late : late_fault g.denominator c ≡ None
  pub network : g ≡ network_of g.denominator c

-- the value breaks no rule, and the network is what it means
pub record Means (top : Data) (g : Network) : Type 0 where
  pub denominator : IsDenominatorOf (contents_of top) g.denominator
  pub early : value_fault top ≡ None
  pub late : late_fault g.denominator (contents_of top) ≡ None
  pub network : g ≡ network_of g.denominator (contents_of top)

-- the bytes break no rule, and the network is what they mean
abbrev pub IsInstanceOf : List ℕ → Network → Type 0
IsInstanceOf bytes g = IsRead bytes (λ top. Means top g)
