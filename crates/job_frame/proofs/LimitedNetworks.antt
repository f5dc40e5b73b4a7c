-- Bytes mean one network with a limit at most, and those that break a rule mean none.
use Rattle.std.proofs.Common.{◌≡◌, ◌∙◌, ℕ, ◌*◌, ◌<◌, ◌≤◌, ◌^◌, List, Option, Some, ap, arith, subst, sym}
use Rattle.ev_model.specs.Network.{Network}
use Rattle.instance_reader.proofs.LawsLemmas.{never_both, one_network}
use Rattle.job_frame.specs.LimitedNetwork.{FitsLimit, HasNetwork, IsNetworkRefused, IsPastLimit, limited}
use Rattle.refusal_lines.specs.RefusalText.{IsRule}
use Rattle.refusal_lines.specs.declared.refusal.Refusal.{Refusal}
use Rattle.refusal_lines.specs.declared.refusal.Refusal.TheVariants as refusal

pub one_limited : (limit : Option ℕ) (bytes : List ℕ) (g h : Network) → HasNetwork limit bytes g → HasNetwork limit bytes h → g ≡ h
one_limited limit bytes g h p q =
    p.limited_to ∙ ap (λ read. limited read limit) (one_network bytes p.read q.read p.instance q.instance) ∙ sym q.limited_to

past_fits_not : (read : Network) (limit : Option ℕ) (given : ℕ) → limit ≡ Some given → 10 ^ 18 < given * read.denominator → FitsLimit read limit → ⊥
past_fits_not read limit given is past fits =
    let within : given * read.denominator ≤ 10 ^ 18 = subst (λ (l : Option ℕ). FitsLimit read l) is fits in
    omega (arith, past, within)

past_is_none : (limit : Option ℕ) (bytes : List ℕ) (given : ℕ) (g : Network) → IsPastLimit limit bytes given → HasNetwork limit bytes g → ⊥
past_is_none limit bytes given g p q =
    past_fits_not p.read limit given p.from_words p.past
    (subst (λ (read : Network). FitsLimit read limit) (one_network bytes q.read p.read q.instance p.instance) q.fits)

-- the first steps of a job either break a rule or find a network
pub refused_has_none : (limit : Option ℕ) (bytes : List ℕ) (r : Refusal) (g : Network) → IsRule r → IsNetworkRefused limit bytes r → HasNetwork limit bytes g → ⊥
refused_has_none limit bytes (refusal.Instance e) g rule first has = never_both bytes has.read e has.instance first
refused_has_none limit bytes (refusal.Limit given) g rule past has = past_is_none limit bytes given g past has
refused_has_none limit bytes (refusal.Customers count) g rule is has = absurd is
refused_has_none limit bytes (refusal.Charge level) g rule is has = absurd is
refused_has_none limit bytes (refusal.Route e) g rule is has = absurd is
refused_has_none limit bytes (refusal.Plan e) g rule is has = absurd is
refused_has_none limit bytes (refusal.Certificate e) g rule is has = absurd is
refused_has_none limit bytes (refusal.Literal e) g rule is has = absurd is
refused_has_none limit bytes refusal.Maker g rule is has = absurd is
