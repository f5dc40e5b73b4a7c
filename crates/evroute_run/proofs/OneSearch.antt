-- What stands in the two files that `fleet` writes tells how its search ended.
use Rattle.std.proofs.Common.{◌≡◌, ◌∙◌, ℕ, ◌≤◌, Bool, true, false, IsTrue, List, [], ◌∷◌, Option, Some, ap, arith, length, map, refl, subst, sym}
use Rattle.std.proofs.lemmas.Bool.{false≢true}
use Rattle.std.proofs.lemmas.List.{length-map}
use Rattle.std.proofs.lemmas.Option.{same_Some}
use Rattle.bound_certificate.specs.CertificateTexts.{certificate_text}
use Rattle.bound_certificate.specs.Ranges.{customer_count}
use Rattle.bound_certificate.specs.Reading.{certificate_at}
use Rattle.bound_certificate.specs.Written.{Written, written, written_section}
use Rattle.bound_certificate.specs.WrittenRanges.{WrittenIs, WrittenLoose}
use Rattle.bound_certificate.specs.declared.certificate.Certificate.{Certificate}
use Rattle.bound_certificate.proofs.HeadReading.{reads-certificate}
use Rattle.bound_certificate.proofs.Parts.{Anything}
use Rattle.bound_certificate.proofs.WrittenWhole.{written_is}
use Rattle.command_line.specs.Words.{FleetJob}
use Rattle.ev_fleet.specs.Outcome.{IsStoppedWell}
use Rattle.ev_fleet.specs.Plans.{cost_held}
use Rattle.ev_fleet.specs.declared.outcome.Outcome.{Outcome}
use Rattle.ev_model.specs.Network.{IsNetwork, Network}
use Rattle.ev_outside.specs.Shelf.{Files, HoldsUnder}
use Rattle.ev_text.specs.Texts.{StandsUnlessLonger}
use Rattle.ev_text.proofs.Results.{Ok-injective}
use Rattle.ev_text.proofs.WholeReads.{ranged-spells}
use Rattle.instance_reader.specs.Instance.{most_customers}
use Rattle.fleet_steps.proofs.Plans.{one_plan}
use Rattle.route_plan.specs.declared.plan.FleetPlan.{FleetPlan}
use Rattle.job_frame.specs.Lawful.{AreWrittenAlike}
use Rattle.job_frame.specs.Task.{Outcome as Answered}
use Rattle.job_frame.specs.Writes.{HoldsAll, Written as NewFile}
use Rattle.job_frame.proofs.LimitedNetworks.{one_limited}
use Rattle.evroute_run.proofs.SearchReports.{held_fits}
use Rattle.evroute_run.specs.FleetAnswer.{IsFound, PutsFound, search_status}
use Rattle.job_frame.specs.declared.status.Status.{Status}

-- ---- one text for each

-- certificates with the same text are written the same
one_written : (g : Network) (v w : Written) → IsNetwork g → WrittenIs g v → WrittenIs g w → certificate_text g v ≡ certificate_text g w → v ≡ w
one_written g v w network is other same =
    let reads = reads-certificate g (omega (arith, network.small_capacity)) (omega (arith, network.small_limit)) (omega (arith, network.small_capacity, network.reserve_within)) (omega (arith, network.small_capacity, network.home_within)) in
    let first = ranged-spells StandsUnlessLonger (certificate_at g) (certificate_text g) (WrittenIs g) (WrittenLoose g) Anything reads (λ u own. tt) (certificate_text g w) v in
    let second = ranged-spells StandsUnlessLonger (certificate_at g) (certificate_text g) (WrittenIs g) (WrittenLoose g) Anything reads (λ u own. tt) (certificate_text g w) w in
    Ok-injective v w (sym (first.1 (is, sym same)) ∙ second.1 (other, refl))

section_count : (g : Network) (c d : Certificate) → written g c ≡ written g d → length c.sections ≡ length d.sections
section_count g c d same =
    let sections : map (written_section g) c.sections ≡ map (written_section g) d.sections = ap (λ (w : Written). w.sections) same in
    sym (length-map c.sections (written_section g)) ∙ ap (λ xs. length xs) sections ∙ length-map d.sections (written_section g)

-- ---- how the search ended

same_truth : (a b : Bool) → (IsTrue a → IsTrue b) → (IsTrue b → IsTrue a) → a ≡ b
same_truth true true f h = refl
same_truth false false f h = refl
same_truth true false f h = absurd (false≢true (f refl))
same_truth false true f h = absurd (false≢true (h refl))

-- with as many nodes, and the same cost and bound, both were stopped or neither
same_end : (budget cost bound : Option ℕ) (o r : Outcome) → IsStoppedWell budget cost bound o → IsStoppedWell budget cost bound r → o.nodes ≡ r.nodes → o.stopped ≡ r.stopped
same_end budget cost bound o r p q nodes =
    same_truth o.stopped r.stopped
    (λ is. let parts = p.stopped.0 is in q.stopped.1 (subst (λ (n : ℕ). budget ≡ Some n) nodes parts.0, parts.1))
    (λ is. let parts = q.stopped.0 is in p.stopped.1 (subst (λ (n : ℕ). budget ≡ Some n) (sym nodes) parts.0, parts.1))

same_status : (bound other : Option ℕ) (stopped ended : Bool) → bound ≡ other → stopped ≡ ended → search_status bound stopped ≡ search_status other ended
same_status bound other stopped ended same end =
    ap (λ (b : Option ℕ). search_status b stopped) same ∙ ap (λ (s : Bool). search_status other s) end

-- the same plan's and certificate's text tell the same status
same_found : (g : Network) (budget : Option ℕ) (plan_bytes cert_bytes text other : List ℕ) (s t : Status) → customer_count g ≤ most_customers →
    IsFound g budget plan_bytes cert_bytes s text → IsFound g budget plan_bytes cert_bytes t other → s ≡ t
same_found g budget plan_bytes cert_bytes text other s t few p q =
    let o = p.outcome in
    let r = q.outcome in
    let plan : r.plan ≡ o.plan = one_plan r.plan o.plan (held_fits g r.plan q.is.plan) (held_fits g o.plan p.is.plan) (sym q.plan_is ∙ p.plan_is) in
    let certs : written g o.certificate ≡ written g r.certificate =
    one_written g (written g o.certificate) (written g r.certificate) p.is_network (written_is g p.is_network few o.certificate p.is.fits) (written_is g p.is_network few r.certificate q.is.fits)
    (sym p.cert_is ∙ q.cert_is) in
    let bound : o.certificate.bound ≡ r.certificate.bound = ap (λ (w : Written). w.bound) certs in
    let nodes : o.nodes ≡ r.nodes = sym p.is.nodes ∙ section_count g o.certificate r.certificate certs ∙ q.is.nodes in
    let gap : IsStoppedWell budget (cost_held g o.plan) o.certificate.bound r =
    subst (λ (b : Option ℕ). IsStoppedWell budget (cost_held g o.plan) b r) (sym bound)
    (subst (λ (held : Option FleetPlan). IsStoppedWell budget (cost_held g held) r.certificate.bound r) plan q.is.gap) in
    p.status_is ∙ same_status o.certificate.bound r.certificate.bound o.stopped r.stopped bound (same_end budget (cost_held g o.plan) o.certificate.bound o r p.is.gap gap nodes) ∙ sym q.status_is

-- what stands in two files
plan_in : (files : Option Files) (ws : List NewFile) (one two : NewFile) → ws ≡ one ∷ two ∷ [] → HoldsAll ws files → HoldsUnder files one.name one.bytes × HoldsUnder files two.name two.bytes
plan_in files ws one two is holds =
    let both : HoldsAll (one ∷ two ∷ []) files = subst (λ (xs : List NewFile). HoldsAll xs files) is holds in
    (both.0, both.1.0)

-- what was found of the same instance, and stands in the same files
pub same_search : (job : FleetJob) (bytes : List ℕ) (o r : Answered) → AreWrittenAlike o r → PutsFound job bytes o.status o.writes o.text → PutsFound job bytes r.status r.writes r.text → o.status ≡ r.status
same_search job bytes o r alike p q =
    let network : q.network ≡ p.network = one_limited job.limit bytes q.network p.network q.fleet.network p.fleet.network in
    let held = plan_in (Some alike.files) o.writes (record { name = job.plan; bytes = p.plan_bytes }) (record { name = job.cert; bytes = p.cert_bytes }) p.written alike.one in
    let hold = plan_in (Some alike.files) r.writes (record { name = job.plan; bytes = q.plan_bytes }) (record { name = job.cert; bytes = q.cert_bytes }) q.written alike.other in
    let plan : q.plan_bytes ≡ p.plan_bytes = same_Some q.plan_bytes p.plan_bytes (sym hold.0 ∙ held.0) in
    let cert : q.cert_bytes ≡ p.cert_bytes = same_Some q.cert_bytes p.cert_bytes (sym hold.1 ∙ held.1) in
    same_found p.network job.nodes p.plan_bytes p.cert_bytes o.text r.text o.status r.status p.fleet.few p.found
    (subst (λ (g : Network). IsFound g job.nodes p.plan_bytes p.cert_bytes r.status r.text) network
    (subst (λ (bs : List ℕ). IsFound q.network job.nodes bs p.cert_bytes r.status r.text) plan
    (subst (λ (bs : List ℕ). IsFound q.network job.nodes q.plan_bytes bs r.status r.text) cert q.found)))
