-- The files that `mixed` leaves tell its status.
use Rattle.std.proofs.Common.{◌≡◌, ◌∙◌, ℕ, ◌⊎◌, List, [], ◌∷◌, Option, Some, ap, inl, inr, refl, subst, sym}
use Rattle.std.proofs.lemmas.Option.{same_Some}
use Rattle.ev_model.specs.Network.{Network}
use Rattle.ev_outside.specs.Shelf.{Files, HoldsUnder}
use Rattle.ev_text.proofs.Results.{Ok-injective}
use Rattle.ev_text.proofs.WholeReads.{ranged-spells}
use Rattle.ev_text.specs.Texts.{StandsUnlessLonger}
use Rattle.job_frame.specs.Lawful.{AreWrittenAlike, IsLawful}
use Rattle.job_frame.specs.Task.{Outcome}
use Rattle.job_frame.specs.Writes.{HoldsAll, Written}
use Rattle.job_frame.specs.declared.status.Status.{Status}
use Rattle.job_frame.specs.declared.status.Status.TheVariants as status
use Rattle.mixed_model.specs.Ranges.{MixedFits}
use Rattle.mixed_model.specs.declared.proof.MixedProof.{MixedProof}
use Rattle.mixed_run.proofs.KindLaws.{kinds_refused_not, same_kinds}
use Rattle.command_line.specs.Words.{MixedJob}
use Rattle.mixed_run.specs.KindFiles.{HasKinds}
use Rattle.mixed_run.specs.MixedAnswer.{IsMixedFound, MixedAnswers, PutsKindsRefusal, PutsMixedFound, mixed_status, mixed_task}
use Rattle.mixed_text.proofs.MixedReading.{reads-mixed}
use Rattle.mixed_text.proofs.WrittenMixeds.{mixed_is}
use Rattle.mixed_text.specs.MixedTexts.{mixed_text}
use Rattle.mixed_text.specs.Reading.{mixed_proof_at}
use Rattle.mixed_text.specs.Written.{WrittenMixed, written_mixed}
use Rattle.mixed_text.specs.WrittenRanges.{MixedIs, MixedLoose}
use Rattle.ev_text.proofs.Numbers.{Anything}

-- proofs with the same text have the same bound
same_bound : (limit : Option ℕ) (files : List (List ℕ)) (kinds : List Network) (p q : MixedProof) → HasKinds limit files kinds → MixedFits kinds p → MixedFits kinds q
    → mixed_text (written_mixed kinds p) ≡ mixed_text (written_mixed kinds q) → p.bound ≡ q.bound
same_bound limit files kinds p q has fits fit same =
    let reads = reads-mixed kinds has.valid has.agree in
    let text = mixed_text (written_mixed kinds q) in
    let first = ranged-spells StandsUnlessLonger (mixed_proof_at kinds) mixed_text (MixedIs kinds) (MixedLoose kinds) Anything reads (λ w own. tt) text (written_mixed kinds p) in
    let second = ranged-spells StandsUnlessLonger (mixed_proof_at kinds) mixed_text (MixedIs kinds) (MixedLoose kinds) Anything reads (λ w own. tt) text (written_mixed kinds q) in
    let written = Ok-injective (written_mixed kinds p) (written_mixed kinds q)
    (sym (first.1 (mixed_is kinds has.valid has.agree p fits, sym same)) ∙ second.1 (mixed_is kinds has.valid has.agree q fit, refl)) in
    ap (λ (w : WrittenMixed). w.bound) written

same_found : (limit : Option ℕ) (files : List (List ℕ)) (kinds : List Network) (plan_bytes other_plan cert_bytes text other : List ℕ) (s t : Status) → HasKinds limit files kinds →
    IsMixedFound kinds plan_bytes cert_bytes s text → IsMixedFound kinds other_plan cert_bytes t other → s ≡ t
same_found limit files kinds plan_bytes other_plan cert_bytes text other s t has p q =
    let bounds = same_bound limit files kinds p.outcome.proof q.outcome.proof has p.is.proof_is.fits q.is.proof_is.fits (sym p.cert_is ∙ q.cert_is) in
    p.status_is ∙ ap (λ (b : Option ℕ). mixed_status b) bounds ∙ sym q.status_is

-- what stands in the second file
proof_in : (files : Option Files) (ws : List Written) (one two : Written) → ws ≡ one ∷ two ∷ [] → HoldsAll ws files → HoldsUnder files two.name two.bytes
proof_in files ws one two is holds =
    let both : HoldsAll (one ∷ two ∷ []) files = subst (λ (xs : List Written). HoldsAll xs files) is holds in
    both.1.0

-- what was found for the same kinds, and stands in the same files
same_search : (job : MixedJob) (files : List (List ℕ)) (o r : Outcome) → AreWrittenAlike o r → PutsMixedFound job files o.status o.writes o.text → PutsMixedFound job files r.status r.writes r.text → o.status ≡ r.status
same_search job files o r alike p q =
    let kinds : q.kinds ≡ p.kinds = same_kinds job.limit files q.kinds p.kinds q.has p.has in
    let held = proof_in (Some alike.files) o.writes (record { name = job.plan; bytes = p.plan_bytes }) (record { name = job.cert; bytes = p.cert_bytes }) p.written alike.one in
    let hold = proof_in (Some alike.files) r.writes (record { name = job.plan; bytes = q.plan_bytes }) (record { name = job.cert; bytes = q.cert_bytes }) q.written alike.other in
    let cert : q.cert_bytes ≡ p.cert_bytes = same_Some q.cert_bytes p.cert_bytes (sym hold ∙ held) in
    same_found job.limit files p.kinds p.plan_bytes q.plan_bytes p.cert_bytes o.text r.text o.status r.status p.has p.found
    (subst (λ (ks : List Network). IsMixedFound ks q.plan_bytes p.cert_bytes r.status r.text) kinds
    (subst (λ (bs : List ℕ). IsMixedFound q.kinds q.plan_bytes bs r.status r.text) cert q.found))

-- an answer is what was found, or a refusal
FoundOrRefused : MixedJob → List (List ℕ) → Status → List Written → List ℕ → Type 0
FoundOrRefused job files s ws text = PutsMixedFound job files s ws text ⊎ ((s ≡ status.Refused) × PutsKindsRefusal job.limit files ws text)

found_or_refused : (job : MixedJob) (files : List (List ℕ)) (s : Status) (ws : List Written) (text : List ℕ) → MixedAnswers job files s ws text → FoundOrRefused job files s ws text
unfolding FoundOrRefused
found_or_refused job files status.Done ws text p = inl p
found_or_refused job files status.Negative ws text p = inl p
found_or_refused job files status.Refused ws text p = inr (refl, p)
found_or_refused job files status.Stopped ws text p = absurd p
found_or_refused job files status.Words ws text p = absurd p
found_or_refused job files status.Fault ws text p = absurd p
found_or_refused job files status.Memory ws text p = absurd p

one_answer : (job : MixedJob) (files : List (List ℕ)) (o p : Outcome) → AreWrittenAlike o p → FoundOrRefused job files o.status o.writes o.text → FoundOrRefused job files p.status p.writes p.text → o.status ≡ p.status
unfolding FoundOrRefused
one_answer job files o p alike (inl is) (inl was) = same_search job files o p alike is was
one_answer job files o p alike (inl is) (inr (refused, was)) = absurd (kinds_refused_not job.limit files is.kinds was.refusal is.has was.rule was.refused)
one_answer job files o p alike (inr (refused, is)) (inl was) = absurd (kinds_refused_not job.limit files was.kinds is.refusal was.has is.rule is.refused)
one_answer job files o p alike (inr (refused, is)) (inr (other, was)) = refused ∙ sym other

pub mixed_lawful : (job : MixedJob) → IsLawful (mixed_task job)
mixed_lawful job = record {
  one_status = λ bytes o p is was alike.
      one_answer job bytes o p (alike tt) (found_or_refused job bytes o.status o.writes o.text is) (found_or_refused job bytes p.status p.writes p.text was);
  stopped = λ bytes o is stopped. subst (λ (s : Status). MixedAnswers job bytes s o.writes o.text) stopped is;
}
