-- The bytes of a file mean one network or break one rule first.
use Rattle.std.proofs.Common.{◌≡◌, ◌∙◌, ℕ, ◌≤◌, ◌<◌, List, length, Option, None, Some, sym, ap, subst, refl, inl, inr, arith}
use Rattle.std.proofs.lemmas.Nat.Gcd.{dvd_antisymm}
use Rattle.ev_model.specs.Network.{Network}
use Rattle.serde_json.specs.Data.{Data}
use Rattle.serde_json.specs.Read.{read}
use Rattle.instance_reader.specs.Contents.{Contents, contents_of}
use Rattle.instance_reader.specs.Faults.{IsFirstFault, IsFirstFaultOf, IsFirstOf, IsInstanceOf, IsRead, Means, late_fault, longest, value_fault}
use Rattle.instance_reader.specs.Limits.{IsDenominatorOf}
use Rattle.instance_reader.specs.Meaning.{network_of}
use Rattle.instance_reader.specs.Values.{HasNoValue, IsValueOf}
use Rattle.instance_reader.specs.declared.faults.ReadFault.{ReadFault}
use Rattle.instance_reader.specs.declared.faults.ReadFault.TheVariants as fault

some_same : {A : Type 0} (o : Option A) (a b : A) → o ≡ Some a → o ≡ Some b → a ≡ b
some_same None a b h i = cc
some_same (Some x) a b h i = cc

none_some : {A : Type 0} (o : Option A) (a : A) → o ≡ None → o ≡ Some a → ⊥
none_some None a h i = cc
none_some (Some x) a h i = cc

same_value : (bytes : List ℕ) (a b : Data) → IsValueOf bytes a → IsValueOf bytes b → a ≡ b
same_value bytes a b h i = some_same (read bytes) a b h.1 i.1

-- there is one denominator
one_denominator : (c : Contents) (d e : ℕ) → IsDenominatorOf c d → IsDenominatorOf c e → d ≡ e
one_denominator c d e h i = dvd_antisymm (h.least e i.multiple) (i.least d h.multiple)

-- one fault is the first
one_first : (c : Contents) (early : Option ReadFault) (e f : ReadFault) → IsFirstOf c early e → IsFirstOf c early f → e ≡ f
one_first c early e f (inl h) (inl i) = some_same early e f h i
one_first c early e f (inl h) (inr i) = absurd (none_some early e i.0 h)
one_first c early e f (inr h) (inl i) = absurd (none_some early f h.0 i)
one_first c early e f (inr h) (inr i) =
    let same = one_denominator c i.1.0 h.1.0 i.1.1 h.1.1 in
    some_same (late_fault h.1.0 c) e f h.1.2 (subst (λ d. late_fault d c ≡ Some f) same i.1.2)

-- no fault is the first where no rule is broken
none_first : (top : Data) (g : Network) (e : ReadFault) → Means top g → IsFirstFaultOf top e → ⊥
none_first top g e means (inl h) = none_some (value_fault top) e means.early h
none_first top g e means (inr h) =
    let same = one_denominator (contents_of top) h.1.0 g.denominator h.1.1 means.denominator in
    none_some (late_fault g.denominator (contents_of top)) e means.late (subst (λ d. late_fault d (contents_of top) ≡ Some e) same h.1.2)

-- the three ways in which a fault is the first
data Found (bytes : List ℕ) (e : ReadFault) : Type 0 where
  long : longest < length bytes → e ≡ fault.TooLong (length bytes) → Found bytes e
  no_value : length bytes ≤ longest → HasNoValue bytes → e ≡ fault.NotJson → Found bytes e
  read_value : length bytes ≤ longest → (top : Data) → IsValueOf bytes top → IsFirstFaultOf top e → Found bytes e

read_found : (bytes : List ℕ) (e : ReadFault) → IsRead bytes (λ top. IsFirstFaultOf top e) → Found bytes e
read_found bytes e h = read_value h.0 h.1.0 h.1.1 h.1.2

found : (bytes : List ℕ) (e : ReadFault) → IsFirstFault bytes e → Found bytes e
found bytes (fault.TooLong len) h = long h.1 (ap fault.TooLong h.0)
found bytes fault.NotJson h = no_value h.0 h.1 refl
found bytes (fault.Missing key) h = read_found bytes (fault.Missing key) h
found bytes (fault.Kind place) h = read_found bytes (fault.Kind place) h
found bytes (fault.TooLarge place) h = read_found bytes (fault.TooLarge place) h
found bytes (fault.Shape place) h = read_found bytes (fault.Shape place) h
found bytes (fault.Node place) h = read_found bytes (fault.Node place) h
found bytes (fault.TypeName place) h = read_found bytes (fault.TypeName place) h
found bytes (fault.BadCurve index curve) h = read_found bytes (fault.BadCurve index curve) h
found bytes fault.Denominator h = read_found bytes fault.Denominator h
found bytes (fault.Horizon limit) h = read_found bytes (fault.Horizon limit) h
found bytes (fault.Level place) h = read_found bytes (fault.Level place) h
found bytes fault.Memory h = absurd h

found_same : (bytes : List ℕ) (e f : ReadFault) → Found bytes e → Found bytes f → e ≡ f
found_same bytes e f (long past e_is) (long past_too f_is) = e_is ∙ sym f_is
found_same bytes e f (long past e_is) (no_value short none f_is) = absurd (omega (arith, past, short))
found_same bytes e f (long past e_is) (read_value short top value first) = absurd (omega (arith, past, short))
found_same bytes e f (no_value short none e_is) (long past f_is) = absurd (omega (arith, past, short))
found_same bytes e f (no_value short none e_is) (no_value short_too none_too f_is) = e_is ∙ sym f_is
found_same bytes e f (no_value short none e_is) (read_value short_too top value first) = absurd (none top value)
found_same bytes e f (read_value short top value first) (long past f_is) = absurd (omega (arith, past, short))
found_same bytes e f (read_value short top value first) (no_value short_too none f_is) = absurd (none top value)
found_same bytes e f (read_value short top value first) (read_value short_too other value_too first_too) =
    let same = same_value bytes other top value_too value in
    one_first (contents_of top) (value_fault top) e f first (subst (λ t. IsFirstFaultOf t f) same first_too)

pub one_fault : (bytes : List ℕ) (e f : ReadFault) → IsFirstFault bytes e → IsFirstFault bytes f → e ≡ f
one_fault bytes e f h i = found_same bytes e f (found bytes e h) (found bytes f i)

found_none : (bytes : List ℕ) (g : Network) (e : ReadFault) → IsInstanceOf bytes g → Found bytes e → ⊥
found_none bytes g e h (long past e_is) = let short = h.0 in omega (arith, past, short)
found_none bytes g e h (no_value short none e_is) = none h.1.0 h.1.1
found_none bytes g e h (read_value short top value first) =
    let same = same_value bytes h.1.0 top h.1.1 value in
    none_first top g e (subst (λ t. Means t g) same h.1.2) first

pub never_both : (bytes : List ℕ) (g : Network) (e : ReadFault) → IsInstanceOf bytes g → IsFirstFault bytes e → ⊥
never_both bytes g e h i = found_none bytes g e h (found bytes e i)

means_one : (top : Data) (g h : Network) → Means top g → Means top h → g ≡ h
means_one top g h one other =
    let same = one_denominator (contents_of top) g.denominator h.denominator one.denominator other.denominator in
    one.network ∙ ap (λ d. network_of d (contents_of top)) same ∙ sym other.network

pub one_network : (bytes : List ℕ) (g h : Network) → IsInstanceOf bytes g → IsInstanceOf bytes h → g ≡ h
one_network bytes g h one other =
    let same = same_value bytes other.1.0 one.1.0 other.1.1 one.1.1 in
    means_one one.1.0 g h one.1.2 (subst (λ t. Means t h) same other.1.2)
