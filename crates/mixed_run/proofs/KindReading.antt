-- The files of kinds that are read one after another.
use Rattle.std.proofs.Common.{◌≡◌, ◌∙◌, ℕ, suc, ◌-◌, ◌≤◌, List, [], ◌∷◌, ◌++◌, Option, String, ap, arith, drop, get_or, inl, inr, length, refl, subst, sym, take}
use Rattle.std.proofs.Math.Seq.{drop-cons}
use Rattle.std.proofs.lemmas.List.{append_assoc, length-map, take_rest}
use Rattle.std.proofs.lemmas.List.Elements.{All-cons, All-head}
use Rattle.std.specs.Prelude.{string_bytes}
use Rattle.std.specs.declared.alloc.Global.{Global}
use Rattle.certificate_parts.specs.Ranges.{customer_count}
use Rattle.ev_model.specs.Network.{IsNetwork, Network}
use Rattle.ev_outside.specs.Counts.{Rose}
use Rattle.ev_outside.specs.Shelf.{CountsStay, Files, ShelfState}
use Rattle.ev_outside.specs.declared.shelf.ShelfFault.TheVariants as shelf
use Rattle.job_frame.proofs.FileReads.{some_read}
use Rattle.job_frame.specs.Task.{AreRead, Read}
use Rattle.job_frame.specs.Caps.{file_read}
use Rattle.instance_reader.specs.Instance.{most_customers}
use Rattle.mixed_model.specs.Kinds.{AreKinds, first_of}
use Rattle.mixed_run.specs.KindFiles.{AreUnfit, HasKinds, HaveNetworks, IsFileRefused, IsKindsRefused, IsMixedRule, kind_reads}
use Rattle.mixed_run.specs.KindReading.{AreRefused, IsHalt, ReadAs}
use Rattle.mixed_run.specs.Names.{names_of}
use Rattle.mixed_run.specs.declared.refusal.Halt.{Halt}
use Rattle.mixed_run.specs.declared.refusal.Halt.TheVariants.{Refused, Stopped}
use Rattle.mixed_run.specs.declared.refusal.MixedRefusal.{MixedRefusal}
use Rattle.mixed_run.specs.declared.refusal.MixedRefusal.TheVariants.{Plain, Kinds}
use Rattle.refusal_lines.specs.declared.refusal.Refusal.TheVariants as refusal

-- ---- reads behind others

pub read_both : (files : Option Files) (rs ss : List Read) (one more : List (List ℕ)) → AreRead files rs one → AreRead files ss more → AreRead files (rs ++ ss) (one ++ more)
read_both files [] ss [] more p q = q
read_both files [] ss (b ∷ bs) more p q = absurd p
read_both files (r ∷ rs) ss [] more p q = absurd p
read_both files (r ∷ rs) ss (b ∷ bs) more p q = (p.0, read_both files rs ss bs more p.1 q)

pub some_reading : (files : Option Files) (reads : List Read) → (bytes : List (List ℕ)) × AreRead files reads bytes
some_reading files [] = ([], tt)
some_reading files (r ∷ rs) =
    let one = some_read r.most files r.name in
    let more = some_reading files rs in
    (one.0 ∷ more.0, (one.1, more.1))

pub as_many : (files : Option Files) (reads : List Read) (bytes : List (List ℕ)) → AreRead files reads bytes → length bytes ≡ length reads
as_many files [] [] p = refl
as_many files [] (b ∷ bs) p = absurd p
as_many files (r ∷ rs) [] p = absurd p
as_many files (r ∷ rs) (b ∷ bs) p = ap (λ (n : ℕ). suc n) (as_many files rs bs p.1)

networks_both : (limit : Option ℕ) (one more : List (List ℕ)) (ks gs : List Network) → HaveNetworks limit one ks → HaveNetworks limit more gs → HaveNetworks limit (one ++ more) (ks ++ gs)
networks_both limit [] more [] gs p q = q
networks_both limit [] more (k ∷ ks) gs p q = absurd p
networks_both limit (b ∷ bs) more [] gs p q = absurd p
networks_both limit (b ∷ bs) more (k ∷ ks) gs p q = (p.0, networks_both limit bs more ks gs p.1 q)

refused_behind : (limit : Option ℕ) (one more : List (List ℕ)) (ks : List Network) (r : MixedRefusal) → HaveNetworks limit one ks → IsFileRefused limit more r → IsFileRefused limit (one ++ more) r
refused_behind limit [] more [] r p q = q
refused_behind limit [] more (k ∷ ks) r p q = absurd p
refused_behind limit (b ∷ bs) more [] r p q = absurd p
refused_behind limit (b ∷ bs) more (k ∷ ks) r p q = inr (k, p.0, refused_behind limit bs more ks r p.1 q)

refused_before : (limit : Option ℕ) (one more : List (List ℕ)) (r : MixedRefusal) → IsFileRefused limit one r → IsFileRefused limit (one ++ more) r
refused_before limit [] more r p = absurd p
refused_before limit (b ∷ bs) more r (inl p) = inl p
refused_before limit (b ∷ bs) more r (inr (g, p, q)) = inr (g, p, refused_before limit bs more r q)

-- ---- one file, and then others

still_read : (limit : Option ℕ) (names : List (List ℕ)) (files later : Option Files) (kinds : List Network) → later ≡ files → ReadAs limit names later kinds → ReadAs limit names files kinds
still_read limit names files later kinds same is = subst (λ (fs : Option Files). ReadAs limit names fs kinds) same is

pub reads_next : (limit : Option ℕ) (name : List ℕ) (names : List (List ℕ)) (files later : Option Files) (g : Network) (kinds : List Network) → later ≡ files →
    ReadAs limit (name ∷ []) files (g ∷ []) → ReadAs limit names later kinds → ReadAs limit (name ∷ names) files (g ∷ kinds)
reads_next limit name names files later g kinds same one others =
    let more = still_read limit names files later kinds same others in
    record {
      bytes = one.bytes ++ more.bytes;
      read = read_both files (kind_reads (name ∷ [])) (kind_reads names) one.bytes more.bytes one.read more.read;
      networks = networks_both limit one.bytes more.bytes (g ∷ []) kinds one.networks more.networks;
      valid = All-cons IsNetwork g kinds (All-head IsNetwork g [] one.valid) more.valid;
    }

pub halts_behind : (limit : Option ℕ) (name : List ℕ) (names : List (List ℕ)) (before mid after : ShelfState) (g : Network) (halt : Halt) → mid.files ≡ before.files → CountsStay before mid →
    ReadAs limit (name ∷ []) before.files (g ∷ []) → IsHalt (IsFileRefused limit) limit names mid after halt → IsHalt (IsFileRefused limit) limit (name ∷ names) before after halt
halts_behind limit name names before mid after g (Refused r) same stays one q =
    let read = subst (λ (fs : Option Files). AreRead fs (kind_reads names) q.bytes) same q.read in
    record {
      rule = q.rule;
      bytes = one.bytes ++ q.bytes;
      read = read_both before.files (kind_reads (name ∷ [])) (kind_reads names) one.bytes q.bytes one.read read;
      refused = refused_behind limit one.bytes q.bytes (g ∷ []) r one.networks q.refused;
    }
halts_behind limit name names before mid after g (Stopped shelf.Failed) same stays one q = record {
  first = name ∷ q.first;
  name = q.name;
  rest = q.rest;
  are = ap (λ (ns : List (List ℕ)). name ∷ ns) q.are;
  kinds = g ∷ q.kinds;
  read = reads_next limit name q.first before.files mid.files g q.kinds same one q.read;
  failed = (subst (λ (n : ℕ). Rose n (after.failed_reads q.name)) (stays.reads q.name) q.failed.0, q.failed.1);
}
halts_behind limit name names before mid after g (Stopped shelf.Memory) same stays one q = tt

pub halts_at_first : (limit : Option ℕ) (name : List ℕ) (names : List (List ℕ)) (before after : ShelfState) (halt : Halt) →
    IsHalt (IsFileRefused limit) limit (name ∷ []) before after halt → IsHalt (IsFileRefused limit) limit (name ∷ names) before after halt
halts_at_first limit name names before after (Refused r) q =
    let more = some_reading before.files (kind_reads names) in
    record {
      rule = q.rule;
      bytes = q.bytes ++ more.0;
      read = read_both before.files (kind_reads (name ∷ [])) (kind_reads names) q.bytes more.0 q.read more.1;
      refused = refused_before limit q.bytes more.0 r q.refused;
    }
halts_at_first limit name names before after (Stopped shelf.Failed) q = record {
  first = q.first;
  name = q.name;
  rest = q.rest ++ names;
  are = ap (λ (ns : List (List ℕ)). ns ++ names) q.are ∙ append_assoc q.first (q.name ∷ q.rest) names;
  kinds = q.kinds;
  read = q.read;
  failed = q.failed;
}
halts_at_first limit name names before after (Stopped shelf.Memory) q = tt

-- a slice with a first file
pub names_in : (files : List (String Global)) (file : String Global) → 1 ≤ length files → file ≡ get_or files 0 file
    → names_of files ≡ string_bytes file ∷ names_of (take (length files - 1) (drop 1 files))
names_in files file some is =
    let all : files ≡ get_or files 0 file ∷ drop 1 files = drop-cons files 0 file (omega (arith, some)) in
    ap (λ (xs : List (String Global)). names_of xs) (all ∙ ap (λ (x : String Global). x ∷ drop 1 files) (sym is) ∙ ap (λ (xs : List (String Global)). file ∷ xs) (sym (take_rest files 1)))

-- ---- all files

unfit_rule : (kinds : List Network) (r : MixedRefusal) → AreUnfit kinds r → IsMixedRule r
unfit_rule kinds (Kinds kind) p = tt
unfit_rule kinds (Plain (refusal.Customers count)) p = tt
unfit_rule kinds (Plain (refusal.Instance e)) p = absurd p
unfit_rule kinds (Plain (refusal.Limit given)) p = absurd p
unfit_rule kinds (Plain (refusal.Charge level)) p = absurd p
unfit_rule kinds (Plain (refusal.Route e)) p = absurd p
unfit_rule kinds (Plain (refusal.Plan e)) p = absurd p
unfit_rule kinds (Plain (refusal.Certificate e)) p = absurd p
unfit_rule kinds (Plain (refusal.Literal e)) p = absurd p
unfit_rule kinds (Plain refusal.Maker) p = absurd p

pub halts_in_files : (limit : Option ℕ) (names : List (List ℕ)) (before after : ShelfState) (halt : Halt) →
    IsHalt (IsFileRefused limit) limit names before after halt → IsHalt (IsKindsRefused limit) limit names before after halt
halts_in_files limit names before after (Refused r) q = record { rule = q.rule; bytes = q.bytes; read = q.read; refused = inl q.refused }
halts_in_files limit names before after (Stopped shelf.Failed) q = q
halts_in_files limit names before after (Stopped shelf.Memory) q = tt

pub halts_behind_files : (limit : Option ℕ) (names : List (List ℕ)) (files : Option Files) (kinds : List Network) (r : MixedRefusal) →
    ReadAs limit names files kinds → AreUnfit kinds r → AreRefused (IsKindsRefused limit) names files r
halts_behind_files limit names files kinds r is unfit =
    record { rule = unfit_rule kinds r unfit; bytes = is.bytes; read = is.read; refused = inr (kinds, is.networks, unfit) }

-- the files whose networks go with one another
pub are_kinds : (limit : Option ℕ) (names : List (List ℕ)) (files : Option Files) (kinds : List Network) (is : ReadAs limit names files kinds) →
    AreKinds kinds → customer_count (first_of kinds) ≤ most_customers → HasKinds limit is.bytes kinds
are_kinds limit names files kinds is agree few = record { networks = is.networks; valid = is.valid; agree = agree; few = few }

-- there is one network for each file
one_each : (limit : Option ℕ) (files : List (List ℕ)) (kinds : List Network) → HaveNetworks limit files kinds → length kinds ≡ length files
one_each limit [] [] is = refl
one_each limit [] (g ∷ gs) is = absurd is
one_each limit (b ∷ bs) [] is = absurd is
one_each limit (b ∷ bs) (g ∷ gs) is = ap (λ (n : ℕ). suc n) (one_each limit bs gs is.1)

pub as_many_kinds : (limit : Option ℕ) (names : List (String Global)) (files : Option Files) (old new handed more : List Network) → old ≡ [] → new ≡ old ++ more → handed ≡ new →
    ReadAs limit (names_of names) files more → length handed ≡ length names
as_many_kinds limit names files old new handed more empty grown same is =
    ap (λ (ks : List Network). length ks) (same ∙ grown ∙ ap (λ (ks : List Network). ks ++ more) empty)
    ∙ one_each limit is.bytes more is.networks ∙ as_many files (kind_reads (names_of names)) is.bytes is.read
    ∙ length-map (names_of names) file_read ∙ length-map names (λ text. string_bytes text)
