-- The ends of a list, and the places before its last item.
use Rattle.std.proofs.Common.{◌≡◌, ℕ, suc, ◌+◌, ◌-◌, ◌<◌, ◌≤◌, Bool, true, false, ◌&&◌, List, [], ◌∷◌, None, length, length-drop, drop, get_or, not, nat_eq, refl, sym, ap, arith}
use Rattle.std.proofs.lemmas.Bool.{and_parts, eqb-true, false≢true}
use Rattle.ev_model.specs.Network.{Network}
use Rattle.ev_model.specs.declared.Stop.{Stop}
use Rattle.route_plan.specs.FirstPlaces.{ends_pass, first_before_last, last_passes}
use Rattle.route_plan.specs.Walking.{is_end, walk_behind, walk_on}

last_passes-last : {A : Type 0} (test : A → Bool) (xs : List A) (d : A) → 0 < length xs → last_passes test xs ≡ test (get_or xs (length xs - 1) d)
last_passes-last test [] d some = absurd (omega (arith, some))
last_passes-last test (x ∷ []) d some = refl
last_passes-last test (x ∷ y ∷ xs) d some =
    let at_end : suc (suc (length xs)) - 1 ≡ suc (suc (length xs) - 1) = omega arith in
    rw at_end (last_passes-last test (y ∷ xs) d (omega arith))

-- at least two items
pub ends_pass-two : {A : Type 0} (test : A → Bool) (xs : List A) (d : A) → 2 ≤ length xs → ends_pass test xs ≡ (test (get_or xs 0 d) && test (get_or xs (length xs - 1) d))
ends_pass-two test [] d two = absurd (omega (arith, two))
ends_pass-two test (x ∷ xs) d two =
    let at_end : suc (length xs) - 1 ≡ suc (length xs - 1) = omega (arith, two) in
    rw at_end (ap (λ b. test x && b) (last_passes-last test xs d (omega (arith, two))))

pub ends_pass-few : {A : Type 0} (test : A → Bool) (xs : List A) → length xs < 2 → ends_pass test xs ≡ false
ends_pass-few test [] few = refl
ends_pass-few test (x ∷ []) few = ends_nowhere (test x)
  where
    ends_nowhere : (b : Bool) → (b && false) ≡ false
    ends_nowhere true = refl
    ends_nowhere false = refl
ends_pass-few test (x ∷ y ∷ xs) few = absurd (omega (arith, few))

one_is_last : {A : Type 0} (test : A → Bool) (n : ℕ) (xs : List A) → length xs ≤ 1 → first_before_last test n xs ≡ None
one_is_last test n [] le = refl
one_is_last test n (x ∷ []) le = refl
one_is_last test n (x ∷ y ∷ xs) le = absurd (omega (arith, le))

-- the last item is looked at no more
pub first_before_last-end : {A : Type 0} (test : A → Bool) (xs : List A) (n at : ℕ) → length xs ≤ at + 1 → first_before_last test n (drop at xs) ≡ None
first_before_last-end test xs n at le = one_is_last test n (drop at xs) (omega (arith, length-drop at xs, le))

-- a plan with both ends begins at the depot
pub begins_at_depot : (g : Network) (start : ℕ) (stops : List Stop) → ends_pass is_end stops ≡ true → walk_behind g 0 start 0 1 (drop 1 stops) ≡ walk_on g start stops
begins_at_depot g start [] ends = absurd (false≢true ends)
begins_at_depot g start (s ∷ ss) ends =
    let first = and_parts (is_end s) (last_passes is_end ss) ends in
    let parts = and_parts (nat_eq s.node 0 && not s.via) (nat_eq s.added 0) first.0 in
    let depot : s.node ≡ 0 = eqb-true s.node 0 (and_parts (nat_eq s.node 0) (not s.via) parts.0).0 in
    sym (ap (λ node. walk_behind g node start 0 1 ss) depot)
