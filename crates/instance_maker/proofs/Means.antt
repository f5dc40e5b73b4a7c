-- A made value means a network.
use Rattle.std.proofs.Common.{◌≡◌, ◌∙◌, ◌↔◌, ◌^◌, Result, Ok, Err, ℕ, ◌+◌, ◌≤◌, ◌<◌, List, None, Some, ap, arith, inl, inr, length, map, refl, subst, sym}
use Rattle.std.proofs.lemmas.Bool.{cases_lt}
use Rattle.std.proofs.lemmas.List.{length-map}
use Rattle.std.specs.Option.{option_map}
use Rattle.std.specs.Prelude.{IsUtf8}
use Rattle.serde_json.specs.Read.{read}
use Rattle.instance_maker.specs.declared.MakerFault.{MakerFault}
use Rattle.instance_maker.specs.declared.MakerFault.TheVariants.{Range}
use Rattle.instance_reader.proofs.LawsLemmas.{never_both, one_network}
use Rattle.ev_model.specs.Network.{Network, node_count}
use Rattle.instance_maker.proofs.MadeLemmas.{length-tabulate}
use Rattle.instance_maker.specs.Locations.{distance_between, location_of, locations_of}
use Rattle.instance_maker.specs.MadeInstance.{IsOutOfRange, made_value}
use Rattle.instance_reader.specs.Contents.{Contents, contents_of}
use Rattle.instance_reader.specs.Faults.{IsFirstFault, IsInstanceOf, Means, early_fault, late_fault, longest, value_fault}
use Rattle.instance_reader.specs.Limits.{IsDenominatorOf}
use Rattle.instance_reader.specs.Meaning.{network_of}
use Rattle.instance_reader.specs.Values.{IsValueOf}
use Rattle.instance_reader.specs.declared.faults.ReadFault.{ReadFault}
use Rattle.instance_reader.specs.declared.faults.ReadFault.TheVariants as fault
use Rattle.instance_maker.proofs.Along.{none_then}
use Rattle.instance_maker.proofs.Contents.{contents_made}
use Rattle.instance_maker.proofs.Denominator.{denominator_is_136}
use Rattle.instance_maker.proofs.Early.{no_rule_is_broken_early}
use Rattle.instance_maker.proofs.KeysAndKinds.{no_key_is_missing, no_kind_is_wrong}
use Rattle.instance_maker.specs.MadeContents.{made_contents, made_denominator, made_network}

denominator_made : (seed customers stations : ℕ) → IsDenominatorOf (made_contents seed customers stations) made_denominator
unfolding made_contents
denominator_made seed customers stations = denominator_is_136

late_made : (seed customers stations : ℕ) → late_fault made_denominator (made_contents seed customers stations) ≡ None
unfolding made_contents
late_made seed customers stations = refl

early_made : (seed customers stations : ℕ) → customers + stations ≤ 399 → value_fault (made_value seed customers stations) ≡ None
early_made seed customers stations few =
    none_then _ _ (ap (option_map fault.Missing) (no_key_is_missing seed customers stations))
    (none_then _ _ (ap (option_map fault.Kind) (no_kind_is_wrong seed customers stations))
    (none_then _ _ (ap early_fault (contents_made seed customers stations) ∙ no_rule_is_broken_early seed customers stations few) refl))

denominator_of_network : (d : ℕ) (c : Contents) → (network_of d c).denominator ≡ d
unfolding network_of
denominator_of_network d c = refl

means_made : (seed customers stations : ℕ) → customers + stations ≤ 399 → Means (made_value seed customers stations) (made_network seed customers stations)
means_made seed customers stations few =
    let c = made_contents seed customers stations in
    let same = contents_made seed customers stations in
    let is = denominator_of_network made_denominator c in
    record {
      denominator = subst (λ d. IsDenominatorOf (contents_of (made_value seed customers stations)) d) (sym is)
          (subst (λ (x : Contents). IsDenominatorOf x made_denominator) (sym same) (denominator_made seed customers stations));
      early = early_made seed customers stations few;
      late = subst (λ d. late_fault d (contents_of (made_value seed customers stations)) ≡ None) (sym is)
          (subst (λ (x : Contents). late_fault made_denominator x ≡ None) (sym same) (late_made seed customers stations));
      network = subst (λ d. made_network seed customers stations ≡ network_of d (contents_of (made_value seed customers stations))) (sym is)
          (ap (λ (x : Contents). network_of made_denominator x) (sym same));
    }

few_nodes : (customers stations : ℕ) → (399 < customers + stations → ⊥) → customers + stations ≤ 399
few_nodes customers stations within = elim (cases_lt 399 (customers + stations)) [
  | inl past ↦ absurd (within past)
  | inr few ↦ few
]

pub is_instance : (seed customers stations : ℕ) (text : List ℕ) → (IsOutOfRange seed customers stations → ⊥) → length text ≤ longest
    → IsValueOf text (made_value seed customers stations) → IsInstanceOf text (made_network seed customers stations)
is_instance seed customers stations text within short value =
    (short, (made_value seed customers stations, value, means_made seed customers stations (few_nodes customers stations (λ past. within (inr (inr (inr past)))))))

pub nodes_made : (seed customers stations : ℕ) → node_count (made_network seed customers stations) ≡ 1 + customers + stations
unfolding network_of made_contents
nodes_made seed customers stations =
    let locations = locations_of seed (1 + customers + stations) in
    length-map locations (λ from. map (λ to. distance_between from to) locations) ∙ length-tabulate (location_of seed) (1 + customers + stations)

pub some_customer : (seed customers stations : ℕ) → (IsOutOfRange seed customers stations → ⊥) → 1 ≤ customers
some_customer seed customers stations within = elim (cases_lt 0 customers) [
  | inl some ↦ omega (arith, some)
  | inr none ↦ absurd (within (inr (inr (inl (omega (arith, none))))))
]

ok_is_no_error : {A E : Type 0} {a : A} {e : E} → ◌≡◌ {A = Result A E} (Ok a) (Err e) → ⊥
ok_is_no_error same = cc

-- a made text is an instance
made_is : {A : Type 0} {made : A} (seed customers stations : ℕ) (text : List ℕ) →
    (◌≡◌ {A = Result A MakerFault} (Ok made) (Err Range)) ↔ IsOutOfRange seed customers stations → length text < 2 ^ 22 → IsUtf8 text
    → read text ≡ Some (made_value seed customers stations) → IsInstanceOf text (made_network seed customers stations)
made_is seed customers stations text range short utf8 reads =
    let within : IsOutOfRange seed customers stations → ⊥ = λ out. ok_is_no_error (range.1 out) in
    let few : length text ≤ longest = omega (arith, short) in
    is_instance seed customers stations text within few (utf8, reads)

-- what is read of it is the network
pub network_is : {A : Type 0} {made : A} (seed customers stations : ℕ) (text given : List ℕ) (g : Network) →
    (◌≡◌ {A = Result A MakerFault} (Ok made) (Err Range)) ↔ IsOutOfRange seed customers stations → given ≡ text → length text < 2 ^ 22 → IsUtf8 text
    → read text ≡ Some (made_value seed customers stations) → IsInstanceOf given g → g ≡ made_network seed customers stations
network_is seed customers stations text given g range same short utf8 reads means =
    one_network text g (made_network seed customers stations) (subst (λ (bs : List ℕ). IsInstanceOf bs g) same means)
    (made_is seed customers stations text range short utf8 reads)

-- it breaks no rule
pub breaks_no_rule : {A : Type 0} {made : A} (seed customers stations : ℕ) (text given : List ℕ) (e : ReadFault) →
    (◌≡◌ {A = Result A MakerFault} (Ok made) (Err Range)) ↔ IsOutOfRange seed customers stations → given ≡ text → length text < 2 ^ 22 → IsUtf8 text
    → read text ≡ Some (made_value seed customers stations) → IsFirstFault given e → ⊥
breaks_no_rule seed customers stations text given e range same short utf8 reads broken =
    never_both text (made_network seed customers stations) e (made_is seed customers stations text range short utf8 reads)
    (subst (λ (bs : List ℕ). IsFirstFault bs e) same broken)
