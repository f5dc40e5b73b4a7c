-- Files that are written one after another.
use Rattle.std.proofs.Common.{◌≡◌, ◌∙◌, ℕ, ◌-◌, ◌≤◌, List, [], ◌∷◌, ◌++◌, Option, None, Some, ap, arith, drop, get_or, length, map, refl, subst, sym, take}
use Rattle.std.proofs.Math.Seq.{drop-cons}
use Rattle.std.proofs.lemmas.List.{take_rest}
use Rattle.ev_outside.specs.Counts.{Rose}
use Rattle.ev_outside.specs.Shelf.{CountsStay, Files, HoldsUnder, KeepsOthers, ShelfState}
use Rattle.job_frame.specs.Faults.{FailsWriting, HasFailedWrite, StopsWriting}
use Rattle.job_frame.specs.Finds.{written_by}
use Rattle.job_frame.specs.Writes.{AreDifferent, HoldsAll, IsNoneOf, KeepsAllBut, Leaves, Written}
use Rattle.job_frame.specs.declared.found.NewFile.{NewFile}

-- ---- names

none_of_front : (name : List ℕ) (front back : List Written) → IsNoneOf name (front ++ back) → IsNoneOf name front
none_of_front name [] back none = tt
none_of_front name (w ∷ ws) back none = (none.0, none_of_front name ws back none.1)

none_up_to : (name : List ℕ) (front : List Written) (w : Written) (back : List Written) → IsNoneOf name (front ++ w ∷ back) → IsNoneOf name (front ++ w ∷ [])
none_up_to name [] w back none = (none.0, tt)
none_up_to name (v ∷ vs) w back none = (none.0, none_up_to name vs w back none.1)

-- ---- what stays

holds_still : (old new : Option Files) (name bytes : List ℕ) (ws : List Written) → HoldsUnder old name bytes → KeepsAllBut ws old new → IsNoneOf name ws → HoldsUnder new name bytes
holds_still None None name bytes ws holds keeps none = tt
holds_still None (Some new) name bytes ws holds keeps none = absurd keeps
holds_still (Some old) None name bytes ws holds keeps none = tt
holds_still (Some old) (Some new) name bytes ws holds keeps none = keeps name none ∙ holds

keeps_itself : (files : Option Files) → KeepsAllBut [] files files
keeps_itself None = tt
keeps_itself (Some files) = λ name none. refl

keeps_one : (w : Written) (old new : Option Files) → KeepsOthers w.name old new → KeepsAllBut (w ∷ []) old new
keeps_one w None None keeps = tt
keeps_one w None (Some new) keeps = absurd keeps
keeps_one w (Some old) None keeps = absurd keeps
keeps_one w (Some old) (Some new) keeps = λ name none. keeps name none.0

keeps_more : (w : Written) (ws : List Written) (old mid new : Option Files) → KeepsOthers w.name old mid → KeepsAllBut ws mid new → KeepsAllBut (w ∷ ws) old new
keeps_more w ws None None None p q = tt
keeps_more w ws None None (Some new) p q = absurd q
keeps_more w ws None (Some mid) new p q = absurd p
keeps_more w ws (Some old) None new p q = absurd p
keeps_more w ws (Some old) (Some mid) None p q = absurd q
keeps_more w ws (Some old) (Some mid) (Some new) p q = λ name none. q name none.1 ∙ p name none.0

pub leaves_held : (ws : List Written) (old new : Option Files) → Leaves ws old new → HoldsAll ws new × KeepsAllBut ws old new
leaves_held [] old new is = (tt, subst (λ (files : Option Files). KeepsAllBut [] old files) (sym is) (keeps_itself old))
leaves_held (w ∷ ws) old new leaves = leaves

-- ---- one more in front

leaves_first : (w : Written) (ws : List Written) (old mid new : Option Files) → HoldsUnder mid w.name w.bytes → KeepsOthers w.name old mid → IsNoneOf w.name ws → Leaves ws mid new → Leaves (w ∷ ws) old new
leaves_first w ws old mid new holds keeps none leaves =
    let held = leaves_held ws mid new leaves in
    ((holds_still mid new w.name w.bytes ws holds held.1 none, held.0), keeps_more w ws old mid new keeps held.1)

pub failed_since : (before mid after : ShelfState) (name : List ℕ) → CountsStay before mid → HasFailedWrite mid after name → HasFailedWrite before after name
failed_since before mid after name stays failed = (subst (λ (n : ℕ). Rose n (after.failed_writes name)) (stays.writes name) failed.0, failed.1)

fails_first : (w : Written) (ws : List Written) (before after : ShelfState) → HasFailedWrite before after w.name → KeepsOthers w.name before.files after.files → FailsWriting (w ∷ ws) before after
fails_first w ws before after failed keeps = record {
  first = [];
  write = w;
  rest = ws;
  are = refl;
  written = tt;
  others = keeps_one w before.files after.files keeps;
  failed = failed;
}

fails_later : (w : Written) (ws : List Written) (before mid after : ShelfState) → HoldsUnder mid.files w.name w.bytes → KeepsOthers w.name before.files mid.files
    → IsNoneOf w.name ws → CountsStay before mid → FailsWriting ws mid after → FailsWriting (w ∷ ws) before after
fails_later w ws before mid after holds keeps none stays fails =
    let among : IsNoneOf w.name (fails.first ++ fails.write ∷ fails.rest) = subst (λ (xs : List Written). IsNoneOf w.name xs) fails.are none in
    let apart = none_up_to w.name fails.first fails.write fails.rest among in
    record {
      first = w ∷ fails.first;
      write = fails.write;
      rest = fails.rest;
      are = ap (λ (xs : List Written). w ∷ xs) fails.are;
      written = (holds_still mid.files after.files w.name w.bytes (fails.first ++ fails.write ∷ []) holds fails.others apart, fails.written);
      others = keeps_more w (fails.first ++ fails.write ∷ []) before.files mid.files after.files keeps fails.others;
      failed = failed_since before mid after fails.write.name stays fails.failed;
    }

stops_first : (w : Written) (ws : List Written) (old new : Option Files) → new ≡ old → StopsWriting (w ∷ ws) old new
stops_first w ws old new same = record { first = []; write = w; rest = ws; are = refl; written = same }

stops_later : (w : Written) (ws : List Written) (old mid new : Option Files) → HoldsUnder mid w.name w.bytes → KeepsOthers w.name old mid
    → IsNoneOf w.name ws → StopsWriting ws mid new → StopsWriting (w ∷ ws) old new
stops_later w ws old mid new holds keeps none stops =
    let among : IsNoneOf w.name (stops.first ++ stops.write ∷ stops.rest) = subst (λ (xs : List Written). IsNoneOf w.name xs) stops.are none in
    record {
      first = w ∷ stops.first;
      write = stops.write;
      rest = stops.rest;
      are = ap (λ (xs : List Written). w ∷ xs) stops.are;
      written = leaves_first w stops.first old mid new holds keeps (none_of_front w.name stops.first (stops.write ∷ stops.rest) among) stops.written;
    }

-- ---- the same of the files of a call

-- a slice with a first file
pub written_in : (files : List NewFile) (file : NewFile) → 1 ≤ length files → file ≡ get_or files 0 file
    → map written_by files ≡ written_by file ∷ map written_by (take (length files - 1) (drop 1 files))
written_in files file some is =
    let all : files ≡ get_or files 0 file ∷ drop 1 files = drop-cons files 0 file (omega (arith, some)) in
    ap (λ (xs : List NewFile). map written_by xs) (all ∙ ap (λ (x : NewFile). x ∷ drop 1 files) (sym is) ∙ ap (λ (xs : List NewFile). file ∷ xs) (sym (take_rest files 1)))

-- the first of these files was written, under the name and with the bytes that were handed on
pub record IsWritten (w : Written) (before after : ShelfState) : Type 0 where
  pub holds : HoldsUnder after.files w.name w.bytes
  pub keeps : KeepsOthers w.name before.files after.files
  pub stays : CountsStay before after

pub is_written : (w : Written) (before after : ShelfState) (name bytes : List ℕ) → name ≡ w.name → bytes ≡ w.bytes → HoldsUnder after.files name bytes
    → KeepsOthers name before.files after.files → CountsStay before after → IsWritten w before after
is_written w before after name bytes named is holds keeps stays = record {
  holds = subst (λ (n : List ℕ). HoldsUnder after.files n w.bytes) named (subst (λ (bs : List ℕ). HoldsUnder after.files name bs) is holds);
  keeps = subst (λ (n : List ℕ). KeepsOthers n before.files after.files) named keeps;
  stays = stays;
}

-- it alone
pub leaves_one : (w : Written) (before after : ShelfState) → IsWritten w before after → Leaves (w ∷ []) before.files after.files
leaves_one w before after is = ((is.holds, tt), keeps_one w before.files after.files is.keeps)

-- no other file has the name of the first
none_of_rest : (all : List Written) (w : Written) (ws : List Written) → all ≡ w ∷ ws → AreDifferent all → IsNoneOf w.name ws
none_of_rest all w ws are different =
    let first : AreDifferent (w ∷ ws) = subst (λ (xs : List Written). AreDifferent xs) are different in first.0

pub then_fails : (all : List Written) (w : Written) (ws : List Written) (before mid after : ShelfState) → all ≡ w ∷ ws → AreDifferent all → IsWritten w before mid
    → FailsWriting ws mid after → FailsWriting all before after
then_fails all w ws before mid after are different is fails =
    subst (λ (xs : List Written). FailsWriting xs before after) (sym are)
    (fails_later w ws before mid after is.holds is.keeps (none_of_rest all w ws are different) is.stays fails)

pub then_stops : (all : List Written) (w : Written) (ws : List Written) (before mid after : ShelfState) → all ≡ w ∷ ws → AreDifferent all → IsWritten w before mid
    → StopsWriting ws mid.files after.files → StopsWriting all before.files after.files
then_stops all w ws before mid after are different is stops =
    subst (λ (xs : List Written). StopsWriting xs before.files after.files) (sym are)
    (stops_later w ws before.files mid.files after.files is.holds is.keeps (none_of_rest all w ws are different) stops)

pub at_once_fails : (all : List Written) (w : Written) (ws : List Written) (before after : ShelfState) (name : List ℕ) → all ≡ w ∷ ws → name ≡ w.name
    → HasFailedWrite before after name → KeepsOthers name before.files after.files → FailsWriting all before after
at_once_fails all w ws before after name are named failed keeps =
    subst (λ (xs : List Written). FailsWriting xs before after) (sym are)
    (fails_first w ws before after (subst (λ (n : List ℕ). HasFailedWrite before after n) named failed) (subst (λ (n : List ℕ). KeepsOthers n before.files after.files) named keeps))

pub at_once_stops : (all : List Written) (w : Written) (ws : List Written) (before after : ShelfState) → all ≡ w ∷ ws → after.files ≡ before.files → StopsWriting all before.files after.files
at_once_stops all w ws before after are same =
    subst (λ (xs : List Written). StopsWriting xs before.files after.files) (sym are) (stops_first w ws before.files after.files same)

pub counts_since : (before mid after : ShelfState) → CountsStay before mid → CountsStay mid after → CountsStay before after
counts_since before mid after p q = record {
  reads = λ name. q.reads name ∙ p.reads name;
  writes = λ name. q.writes name ∙ p.writes name;
}
