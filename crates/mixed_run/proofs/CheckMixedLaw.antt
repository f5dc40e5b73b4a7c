-- The causes of the statuses of `check-mixed` exclude each other.
use Rattle.std.proofs.Common.{◌≡◌, ◌∙◌, ℕ, ◌<◌, List, [], ◌∷◌, ◌++◌, Option, None, Some, Ok, Err, ap, ap₂, arith, inl, inr, length, refl, subst, sym}
use Rattle.std.proofs.lemmas.List.{length-append}
use Rattle.std.proofs.lemmas.List.Elements.{All-weaker}
use Rattle.ev_model.specs.Network.{Network}
use Rattle.ev_text.proofs.Results.{Err-ne-Ok, Ok-injective}
use Rattle.fleet_model.specs.ClosedListRules.{at_home, at_start, at_step}
use Rattle.job_frame.proofs.OneStatus.{ExcludeEachOther, IsPlain, lawful}
use Rattle.job_frame.specs.Lawful.{IsLawful}
use Rattle.job_frame.specs.Task.{Outcome}
use Rattle.job_frame.specs.declared.status.Status.{Status}
use Rattle.job_frame.specs.declared.status.Status.TheVariants as status
use Rattle.mixed_model.proofs.Rules.{not_broken}
use Rattle.mixed_model.specs.Accepted.{IsMixedAccepted}
use Rattle.mixed_model.specs.Broken.{at_bound, at_root, in_kind}
use Rattle.mixed_model.specs.Kinds.{AreKinds}
use Rattle.mixed_model.specs.Verdicts.{IsVerdict}
use Rattle.mixed_model.specs.declared.proof.MixedProof.{MixedProof}
use Rattle.mixed_model.specs.declared.proof.MixedRoute.{MixedRoute}
use Rattle.mixed_model.specs.declared.verdict.MixedVerdict.{MixedVerdict}
use Rattle.mixed_model.specs.declared.verdict.MixedVerdict.TheVariants as verdict
use Rattle.mixed_model.proofs.Broken.{plan_breaks_none}
use Rattle.mixed_model.proofs.TextLaws.{plan_is_spelled}
use Rattle.mixed_model.specs.MixedReading.{mixed_plan_in}
use Rattle.mixed_model.specs.MixedTexts.{FitsRoute, SpellsMixedPlan}
use Rattle.mixed_run.proofs.KindLaws.{kinds_refused_not, same_kinds}
use Rattle.mixed_run.specs.CheckMixedAnswer.{AnswersCheckMixed, BreaksFirst, CheckMixedAnswers, HasPlan, HasProof, HoldsMixed, IsCheckMixedRefused, IsRejection, IsValid, PutsMixedAccepted, PutsMixedRejected, check_mixed_task}
use Rattle.command_line.specs.Words.{MixedJob}
use Rattle.mixed_run.specs.KindFiles.{IsMixedRule}
use Rattle.mixed_run.specs.declared.judging.MixedJudgement.{MixedJudgement}
use Rattle.mixed_run.specs.declared.judging.MixedJudgement.TheVariants as judgement
use Rattle.mixed_run.specs.declared.refusal.MixedRefusal.{MixedRefusal}
use Rattle.mixed_text.proofs.OneMixed.{one_written}
use Rattle.mixed_text.specs.MixedIn.{mixed_in}
use Rattle.mixed_text.specs.Written.{written_mixed}
use Rattle.plan_check.specs.declared.fault.PlanFault.{PlanFault}

-- ---- what the files hold

module _ (limit : Option ℕ) (files : List (List ℕ)) (plan_bytes cert_bytes : List ℕ) where
  -- the plan's text is read as the plan
  plan_read : (kinds : List Network) (plan : Option (List MixedRoute)) → HasPlan limit files plan_bytes kinds plan → mixed_plan_in (length kinds) plan_bytes ≡ Ok plan
  plan_read kinds plan has = (plan_is_spelled (length kinds) has.has.agree.some has.has.agree.few plan_bytes plan).1 has.spelled

  -- what the files hold breaks no rule of a text
  refused_holds_not : (h : HoldsMixed limit files plan_bytes cert_bytes) (r : MixedRefusal) → IsMixedRule r → IsCheckMixedRefused limit files plan_bytes cert_bytes r → ⊥
  refused_holds_not h r rule (inl refused) = kinds_refused_not limit files h.kinds r h.has.has rule refused
  refused_holds_not h r rule (inr (inl p)) =
      let same = same_kinds limit files p.kinds h.kinds p.has h.has.has in
      let fault : mixed_plan_in (length h.kinds) plan_bytes ≡ Err p.fault = subst (λ (ks : List Network). mixed_plan_in (length ks) plan_bytes ≡ Err p.fault) same p.first in
      Err-ne-Ok p.fault h.plan (sym fault ∙ plan_read h.kinds h.plan h.has)
  refused_holds_not h r rule (inr (inr p)) =
      let same = same_kinds limit files p.kinds h.kinds p.has.has h.has.has in
      let fault : mixed_in h.kinds cert_bytes ≡ Err p.fault = subst (λ (ks : List Network). mixed_in ks cert_bytes ≡ Err p.fault) same p.first in
      Err-ne-Ok p.fault (written_mixed h.kinds h.proof) (sym fault ∙ h.proof_is.read)

-- a plan that is valid breaks no rule
valid_breaks_none : (kinds : List Network) (bytes : List ℕ) (plan : Option (List MixedRoute)) (cost : Option ℕ) (fault : PlanFault) → SpellsMixedPlan (length kinds) bytes plan
    → IsValid kinds plan cost → BreaksFirst kinds plan fault → ⊥
valid_breaks_none kinds bytes None cost fault spelled valid broken = broken
valid_breaks_none kinds bytes (Some plan) cost fault spelled valid broken =
    let known = All-weaker (FitsRoute (length kinds)) (λ r. r.kind < length kinds) (λ r fits. fits.kind) plan spelled.fits.1 in
    (plan_breaks_none kinds plan known).0 valid.0 fault broken.broken

accepted_is_no_rejection : (kinds : List Network) (p : MixedProof) (found : MixedVerdict) → IsMixedAccepted kinds p → (found ≡ verdict.Accepted → ⊥) → IsVerdict kinds p found → ⊥
accepted_is_no_rejection kinds p verdict.Accepted accepted broken first = broken refl
accepted_is_no_rejection kinds p (verdict.Start kind) accepted broken first = not_broken kinds p (in_kind kind at_start) accepted first.broken
accepted_is_no_rejection kinds p (verdict.Step kind label node) accepted broken first = not_broken kinds p (in_kind kind (at_step label node)) accepted first.broken
accepted_is_no_rejection kinds p (verdict.End kind label) accepted broken first = not_broken kinds p (in_kind kind (at_home label)) accepted first.broken
accepted_is_no_rejection kinds p verdict.Bound accepted broken first = not_broken kinds p at_bound accepted first.broken
accepted_is_no_rejection kinds p verdict.Root accepted broken first = not_broken kinds p at_root accepted first.broken

no_rejection : (kinds : List Network) (bytes : List ℕ) (plan : Option (List MixedRoute)) (p : MixedProof) (cost : Option ℕ) (found : MixedJudgement) → SpellsMixedPlan (length kinds) bytes plan
    → IsValid kinds plan cost → IsMixedAccepted kinds p → IsRejection kinds plan p found → ⊥
no_rejection kinds bytes plan p cost (judgement.Accepted other bound) spelled valid accepted rejected = rejected
no_rejection kinds bytes plan p cost (judgement.Plan fault) spelled valid accepted broken = valid_breaks_none kinds bytes plan cost fault spelled valid broken
no_rejection kinds bytes plan p cost (judgement.Proof found) spelled valid accepted (other, (broken, first)) = accepted_is_no_rejection kinds p found accepted broken first

-- bytes mean one proof
same_proof : (kinds : List Network) (bytes : List ℕ) (p q : MixedProof) → AreKinds kinds → HasProof kinds bytes p → HasProof kinds bytes q → p ≡ q
same_proof kinds bytes p q are is was =
    one_written kinds are p q is.spelled.fits was.spelled.fits is.spelled.kept was.spelled.kept
    (Ok-injective (written_mixed kinds p) (written_mixed kinds q) (sym is.read ∙ was.read))

module _ (limit : Option ℕ) (files : List (List ℕ)) (plan_bytes cert_bytes : List ℕ) where
  accepted_is_unbroken : (text other : List ℕ) → PutsMixedAccepted limit files plan_bytes cert_bytes text → PutsMixedRejected limit files plan_bytes cert_bytes other → ⊥
  accepted_is_unbroken text other p q =
      let kinds : q.holds.kinds ≡ p.holds.kinds = same_kinds limit files q.holds.kinds p.holds.kinds q.holds.has.has p.holds.has.has in
      let has : HasPlan limit files plan_bytes p.holds.kinds q.holds.plan = subst (λ (ks : List Network). HasPlan limit files plan_bytes ks q.holds.plan) kinds q.holds.has in
      let plan : q.holds.plan ≡ p.holds.plan = Ok-injective q.holds.plan p.holds.plan
      (sym (plan_read limit files plan_bytes cert_bytes p.holds.kinds q.holds.plan has) ∙ plan_read limit files plan_bytes cert_bytes p.holds.kinds p.holds.plan p.holds.has) in
      let read : HasProof p.holds.kinds cert_bytes q.holds.proof = subst (λ (ks : List Network). HasProof ks cert_bytes q.holds.proof) kinds q.holds.proof_is in
      let proof : q.holds.proof ≡ p.holds.proof = same_proof p.holds.kinds cert_bytes q.holds.proof p.holds.proof p.holds.has.has.agree read p.holds.proof_is in
      let rejected : IsRejection p.holds.kinds p.holds.plan p.holds.proof q.found =
      subst (λ (x : MixedProof). IsRejection p.holds.kinds p.holds.plan x q.found) proof
      (subst (λ (x : Option (List MixedRoute)). IsRejection p.holds.kinds x q.holds.proof q.found) plan
      (subst (λ (ks : List Network). IsRejection ks q.holds.plan q.holds.proof q.found) kinds q.rejected)) in
      no_rejection p.holds.kinds plan_bytes p.holds.plan p.holds.proof p.cost q.found p.holds.has.spelled p.valid p.accepted rejected

-- ---- which files the bytes are

head_or : List ℕ → List (List ℕ) → List ℕ
head_or d [] = d
head_or d (x ∷ xs) = x

rest : List (List ℕ) → List (List ℕ)
rest [] = []
rest (x ∷ xs) = xs

same_head : (x y : List ℕ) (xs ys : List (List ℕ)) → x ∷ xs ≡ y ∷ ys → x ≡ y
unfolding head_or
same_head x y xs ys is = ap (λ (zs : List (List ℕ)). head_or x zs) is

same_tail : (x y : List ℕ) (xs ys : List (List ℕ)) → x ∷ xs ≡ y ∷ ys → xs ≡ ys
unfolding rest
same_tail x y xs ys is = ap (λ (zs : List (List ℕ)). rest zs) is

no_shorter : (a b c d y : List ℕ) (ys : List (List ℕ)) → a ∷ b ∷ [] ≡ y ∷ (ys ++ c ∷ d ∷ []) → ⊥
no_shorter a b c d y ys is =
    let counts : length (a ∷ b ∷ []) ≡ length (y ∷ (ys ++ c ∷ d ∷ [])) = ap (λ (zs : List (List ℕ)). length zs) is in
    let parts = length-append ys (c ∷ d ∷ []) in
    omega (arith, counts, parts)

-- the last two are told by all
record AreSameParts (xs ys : List (List ℕ)) (a b c d : List ℕ) : Type 0 where
  files : xs ≡ ys
  plan : a ≡ c
  cert : b ≡ d

same_parts : (xs ys : List (List ℕ)) (a b c d : List ℕ) → xs ++ a ∷ b ∷ [] ≡ ys ++ c ∷ d ∷ [] → AreSameParts xs ys a b c d
same_parts [] [] a b c d is =
    record { files = refl; plan = same_head a c (b ∷ []) (d ∷ []) is; cert = same_head b d [] [] (same_tail a c (b ∷ []) (d ∷ []) is) }
same_parts [] (y ∷ ys) a b c d is = absurd (no_shorter a b c d y ys is)
same_parts (x ∷ xs) [] a b c d is = absurd (no_shorter c d a b x xs (sym is))
same_parts (x ∷ xs) (y ∷ ys) a b c d is =
    let others = same_parts xs ys a b c d (same_tail x y (xs ++ a ∷ b ∷ []) (ys ++ c ∷ d ∷ []) is) in
    let first = same_head x y (xs ++ a ∷ b ∷ []) (ys ++ c ∷ d ∷ []) is in
    record { files = ap₂ (λ (z : List ℕ) (zs : List (List ℕ)). z ∷ zs) first others.files; plan = others.plan; cert = others.cert }

-- ---- the causes

record HasCause (job : MixedJob) (bytes : List (List ℕ)) (s : Status) : Type 0 where
  files : List (List ℕ)
  plan_bytes : List ℕ
  cert_bytes : List ℕ
  are : bytes ≡ files ++ plan_bytes ∷ cert_bytes ∷ []
  text : List ℕ
  answers : CheckMixedAnswers job.limit files plan_bytes cert_bytes s text

-- another cause on the same files
on_same : (job : MixedJob) (bytes : List (List ℕ)) (s t : Status) (p : HasCause job bytes s) (q : HasCause job bytes t) → CheckMixedAnswers job.limit p.files p.plan_bytes p.cert_bytes t q.text
on_same job bytes s t p q =
    let same = same_parts q.files p.files q.plan_bytes q.cert_bytes p.plan_bytes p.cert_bytes (sym q.are ∙ p.are) in
    subst (λ (bs : List ℕ). CheckMixedAnswers job.limit p.files p.plan_bytes bs t q.text) same.cert
    (subst (λ (bs : List ℕ). CheckMixedAnswers job.limit p.files bs q.cert_bytes t q.text) same.plan
    (subst (λ (fs : List (List ℕ)). CheckMixedAnswers job.limit fs q.plan_bytes q.cert_bytes t q.text) same.files q.answers))

is_plain : (job : MixedJob) (bytes : List (List ℕ)) (s : Status) → HasCause job bytes s → IsPlain s
is_plain job bytes status.Done p = tt
is_plain job bytes status.Negative p = tt
is_plain job bytes status.Refused p = tt
is_plain job bytes status.Words p = absurd p.answers
is_plain job bytes status.Fault p = absurd p.answers
is_plain job bytes status.Memory p = absurd p.answers
is_plain job bytes status.Stopped p = absurd p.answers

exclude : (job : MixedJob) (bytes : List (List ℕ)) → ExcludeEachOther (HasCause job bytes)
exclude job bytes = record {
  answered = is_plain job bytes;
  done_negative = λ p q. accepted_is_unbroken job.limit p.files p.plan_bytes p.cert_bytes p.text q.text p.answers (on_same job bytes status.Done status.Negative p q);
  done_refused = λ p q. let other = on_same job bytes status.Done status.Refused p q in
      refused_holds_not job.limit p.files p.plan_bytes p.cert_bytes p.answers.holds other.refusal other.rule other.refused;
  negative_refused = λ p q. let other = on_same job bytes status.Negative status.Refused p q in
      refused_holds_not job.limit p.files p.plan_bytes p.cert_bytes p.answers.holds other.refusal other.rule other.refused;
}

has_cause : (job : MixedJob) (bytes : List (List ℕ)) (o : Outcome) → AnswersCheckMixed job bytes o → HasCause job bytes o.status
has_cause job bytes o is = record { files = is.files; plan_bytes = is.plan_bytes; cert_bytes = is.cert_bytes; are = is.are; text = o.text; answers = is.answers }

pub check_mixed_lawful : (job : MixedJob) → IsLawful (check_mixed_task job)
check_mixed_lawful job = lawful (check_mixed_task job) (HasCause job) (has_cause job) (exclude job)
