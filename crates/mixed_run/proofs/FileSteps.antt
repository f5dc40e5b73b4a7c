-- Steps of reading the files of kinds: one file, the next ones, and why they are the last.
use Rattle.std.proofs.Common.{◌≡◌, ◌∙◌, ℕ, List, [], ◌∷◌, ◌++◌, Option, Result, String, Ok, Err, IfErr, OnOk, ap, inl, refl, subst, sym}
use Rattle.std.proofs.lemmas.List.{append_assoc}
use Rattle.std.proofs.lemmas.List.Elements.{All-cons, All-nil}
use Rattle.std.specs.declared.alloc.Global.{Global}
use Rattle.ev_model.specs.Network.{IsNetwork, Network}
use Rattle.ev_outside.specs.Shelf.{CountsNeverFall, CountsStay, Files, ShelfState}
use Rattle.ev_outside.specs.declared.shelf.ShelfFault.{ShelfFault}
use Rattle.ev_outside.specs.declared.shelf.ShelfFault.TheVariants as shelf
use Rattle.job_frame.specs.Faults.{FailsReading, HasFailedRead}
use Rattle.job_frame.specs.Finds.{Finds}
use Rattle.job_frame.specs.Task.{AreRead, AreReadUpTo, Task}
use Rattle.job_frame.specs.Caps.{most_bytes}
use Rattle.job_frame.specs.Ended.{IsNetworkEnded}
use Rattle.job_frame.specs.LimitedNetwork.{HasNetwork}
use Rattle.job_frame.specs.declared.answer.Ended.{Ended}
use Rattle.job_frame.specs.declared.answer.Ended.TheVariants as ended
use Rattle.mixed_run.proofs.KindReading.{halts_at_first, halts_behind, reads_next}
use Rattle.mixed_run.specs.KindFiles.{IsFileRefused, kind_reads}
use Rattle.mixed_run.specs.KindReading.{FailsFile, IsHalt, ReadAs}
use Rattle.mixed_run.specs.Names.{names_of}
use Rattle.mixed_run.specs.declared.refusal.Halt.{Halt}
use Rattle.mixed_run.specs.declared.refusal.Halt.TheVariants.{Refused, Stopped}
use Rattle.mixed_run.specs.declared.refusal.MixedRefusal.{MixedRefusal}
use Rattle.mixed_run.specs.declared.refusal.MixedRefusal.TheVariants.{Plain}
use Rattle.refusal_lines.specs.declared.refusal.Refusal.{Refusal}
use Rattle.evroute_causes.specs.declared.cause.Cause.{Cause}

-- ---- one file

pub one_read : (limit : Option ℕ) (name given bytes handed : List ℕ) (files : Option Files) (g : Network) → given ≡ name → handed ≡ bytes →
    AreReadUpTo most_bytes files given bytes → HasNetwork limit handed g → IsNetwork g → ReadAs limit (name ∷ []) files (g ∷ [])
one_read limit name given bytes handed files g named same read has network = record {
  bytes = bytes ∷ [];
  read = (subst (λ (n : List ℕ). AreReadUpTo most_bytes files n bytes) named read, tt);
  networks = (subst (λ (bs : List ℕ). HasNetwork limit bs g) same has, tt);
  valid = All-cons IsNetwork g [] network (All-nil IsNetwork);
}

pub one_refused : (limit : Option ℕ) (name given bytes handed : List ℕ) (before after : ShelfState) (why : Ended) (r : Refusal) → given ≡ name → handed ≡ bytes →
    AreReadUpTo most_bytes before.files given bytes → why ≡ ended.Refused r → IsNetworkEnded limit handed why → IsHalt (IsFileRefused limit) limit (name ∷ []) before after (Refused (Plain r))
one_refused limit name given bytes handed before after why r named same read is refused =
    let first = subst (λ (e : Ended). IsNetworkEnded limit bytes e) is (subst (λ (bs : List ℕ). IsNetworkEnded limit bs why) same refused) in
    record {
      rule = first.0;
      bytes = bytes ∷ [];
      read = (subst (λ (n : List ℕ). AreReadUpTo most_bytes before.files n bytes) named read, tt);
      refused = inl first.1;
    }

pub one_fails : {A : Type 0} (limit : Option ℕ) (name given : List ℕ) (before after : ShelfState) (fault : ShelfFault) → given ≡ name →
    (◌≡◌ {A = Result A ShelfFault} (Err fault) (Err shelf.Failed) → HasFailedRead before after given) → IsHalt (IsFileRefused limit) limit (name ∷ []) before after (Stopped fault)
one_fails {A} limit name given before after shelf.Failed named failed = record {
  first = [];
  name = name;
  rest = [];
  are = refl;
  kinds = [];
  read = record { bytes = []; read = tt; networks = tt; valid = All-nil IsNetwork };
  failed = subst (λ (n : List ℕ). HasFailedRead before after n) named (failed refl);
}
one_fails {A} limit name given before after shelf.Memory named failed = tt

-- ---- the next files

pub next_read : {A E : Type 0} (limit : Option ℕ) (name : List ℕ) (names all : List (List ℕ)) (files later : Option Files) (g : Network) (old pushed new : List Network) (made : Result A E) →
    all ≡ name ∷ names → later ≡ files → pushed ≡ old ++ g ∷ [] → ReadAs limit (name ∷ []) files (g ∷ [])
    → OnOk made ((more : List Network) × ReadAs limit names later more × (new ≡ pushed ++ more))
    → OnOk made ((more : List Network) × ReadAs limit all files more × (new ≡ old ++ more))
next_read {A} {E} limit name names all files later g old pushed new (Err e) are same grown one others = tt
next_read {A} {E} limit name names all files later g old pushed new (Ok a) are same grown one others =
    let more = others.0 in
    let read = reads_next limit name names files later g more same one others.1 in (
      g ∷ more,
      subst (λ (ns : List (List ℕ)). ReadAs limit ns files (g ∷ more)) (sym are) read,
      others.2 ∙ ap (λ (ks : List Network). ks ++ more) grown ∙ append_assoc old (g ∷ []) more,
    )

pub next_halts : {A : Type 0} (limit : Option ℕ) (name : List ℕ) (names all : List (List ℕ)) (before mid after : ShelfState) (g : Network) (made : Result A Halt) →
    all ≡ name ∷ names → mid.files ≡ before.files → CountsStay before mid → ReadAs limit (name ∷ []) before.files (g ∷ [])
    → IfErr made (IsHalt (IsFileRefused limit) limit names mid after) → IfErr made (IsHalt (IsFileRefused limit) limit all before after)
next_halts {A} limit name names all before mid after g (Ok a) are same stays one halted = tt
next_halts {A} limit name names all before mid after g (Err halt) are same stays one halted =
    subst (λ (ns : List (List ℕ)). IsHalt (IsFileRefused limit) limit ns before after halt) (sym are) (halts_behind limit name names before mid after g halt same stays one halted)

pub first_halts : (limit : Option ℕ) (name : List ℕ) (names all : List (List ℕ)) (before after : ShelfState) (halt : Halt) → all ≡ name ∷ names →
    IsHalt (IsFileRefused limit) limit (name ∷ []) before after halt → IsHalt (IsFileRefused limit) limit all before after halt
first_halts limit name names all before after halt are halted =
    subst (λ (ns : List (List ℕ)). IsHalt (IsFileRefused limit) limit ns before after halt) (sym are) (halts_at_first limit name names before after halt halted)

-- ---- the end of a job

-- files that were handed on
pub read_in_place : (files later : Option Files) (given own : List (String Global)) (bytes : List (List ℕ)) → given ≡ own → later ≡ files →
    AreRead files (kind_reads (names_of given)) bytes → AreRead later (kind_reads (names_of own)) bytes
read_in_place files later given own bytes named same read =
    subst (λ (fs : Option Files). AreRead fs (kind_reads (names_of own)) bytes) (sym same)
    (subst (λ (ns : List (String Global)). AreRead files (kind_reads (names_of ns)) bytes) named read)

pub halt_is : (limit : Option ℕ) (Refuses : List (List ℕ) → MixedRefusal → Type 0) (given own : List (String Global)) (before after : ShelfState) (halt other : Halt) → given ≡ own → halt ≡ other →
    IsHalt Refuses limit (names_of given) before after halt → IsHalt Refuses limit (names_of own) before after other
halt_is limit Refuses given own before after halt other named is halted =
    subst (λ (h : Halt). IsHalt Refuses limit (names_of own) before after h) is
    (subst (λ (ns : List (String Global)). IsHalt Refuses limit (names_of ns) before after halt) named halted)

halt_of : {A : Type 0} → Result A Halt → Halt
halt_of {A} (Ok a) = Stopped shelf.Memory
halt_of {A} (Err halt) = halt

pub refused_is_no_failure : {A : Type 0} (halt : Halt) (r : MixedRefusal) → halt ≡ Refused r → ◌≡◌ {A = Result A Halt} (Err halt) (Err (Stopped shelf.Failed)) → ⊥
unfolding halt_of
refused_is_no_failure {A} halt r is failed =
    let same : halt ≡ Stopped shelf.Failed = ap (λ (made : Result A Halt). halt_of made) failed in
    cc

pub stopped_finds : {A : Type 0} (task : Task Cause) (limit : Option ℕ) (names : List (List ℕ)) (Refuses : List (List ℕ) → MixedRefusal → Type 0) (before after : ShelfState) (halt : Halt) (fault : ShelfFault) →
    halt ≡ Stopped fault → IsHalt Refuses limit names before after (Stopped fault) → (FailsFile limit names before after → FailsReading task before after)
    → ((◌≡◌ {A = Result A Halt} (Err halt) (Err (Stopped shelf.Failed)) → ⊥) → CountsStay before after)
    → CountsNeverFall before after → after.files ≡ before.files → Finds task before after (Err fault)
unfolding halt_of
stopped_finds {A} task limit names Refuses before after halt shelf.Failed is halted fails stays falls files = record {
  answered = tt;
  answers = tt;
  heard = tt;
  different = tt;
  fault = λ failed. inl (fails halted);
  stays = λ none. absurd (none refl);
  falls = falls;
  files = files;
}
stopped_finds {A} task limit names Refuses before after halt shelf.Memory is halted fails stays falls files = record {
  answered = tt;
  answers = tt;
  heard = tt;
  different = tt;
  fault = λ failed. absurd (cc);
  stays = λ none. stays (λ failed. let same : halt ≡ Stopped shelf.Failed = ap (λ (made : Result A Halt). halt_of made) failed in cc);
  falls = falls;
  files = files;
}
