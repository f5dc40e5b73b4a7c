-- Writing the stops of a plan, one after another.
use Rattle.std.proofs.Common.{◌≡◌, ◌∙◌, ℕ, zero, suc, ◌+◌, ◌<◌, ◌++◌, List, [], ◌∷◌, codes, nat_lt, if◌then◌else◌, length, drop, get_or, refl, sym, ap, true, arith, append_assoc, add-one, drop-cons}
use Rattle.std.proofs.lemmas.Bool.{lt-ltb}
use Rattle.ev_model.specs.declared.Stop.{Stop}
use Rattle.ev_text.specs.Texts.{marked_texts, parted_texts}
use Rattle.route_plan.specs.PlanTexts.{stop_text}

-- the text of the stops from a position on; each is behind a space unless it is the first of all
abbrev pub left_text : ℕ → List Stop → List ℕ
left_text zero stops = parted_texts (codes " ") stop_text stops
left_text (suc at) stops = marked_texts (codes " ") stop_text stops

left_text-cons : (at : ℕ) (s : Stop) (ss : List Stop) → left_text at (s ∷ ss) ≡ (if nat_lt 0 at then codes " " else []) ++ (stop_text s ++ left_text (suc at) ss)
left_text-cons zero s ss = refl
left_text-cons (suc at) s ss =
    let later : nat_lt 0 (suc at) ≡ true = lt-ltb 0 (suc at) (omega arith) in
    rw later refl

-- one stop more was written
pub writes_on : (front items all : List ℕ) (stops : List Stop) (d : Stop) (at : ℕ) → at < length stops → items ≡ front ++ (if nat_lt 0 at then codes " " else []) ++ stop_text (get_or stops at d) → front ++ left_text at (drop at stops) ≡ all → items ++ left_text (at + 1) (drop (at + 1) stops) ≡ all
writes_on front items all stops d at within is told =
    let s = get_or stops at d in
    let rest = drop (suc at) stops in
    let after = left_text (suc at) rest in
    let space : List ℕ = if nat_lt 0 at then codes " " else [] in
    rw add-one
    (ap (λ xs. xs ++ after) is
    ∙ append_assoc (front ++ space) (stop_text s) after
    ∙ append_assoc front space (stop_text s ++ after)
    ∙ ap (λ xs. front ++ xs) (sym (left_text-cons at s rest))
    ∙ ap (λ xs. front ++ left_text at xs) (sym (drop-cons stops at d within))
    ∙ told)
