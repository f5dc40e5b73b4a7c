-- What live labels cover, and the walks over a bucket's live labels.
use Rattle.std.proofs.Common.{◌≡◌, ℕ, suc, ◌<◌, List, [], ◌∷◌, ◌++◌, inl, inr, length, map, set, refl, sym, ◌∙◌, ap, subst, arith, true, false, Option, Some, None}
use Rattle.std.specs.Prelude.{slice_get, nat_eq, Bool, not, ◌&&◌, option_map}
use Rattle.std.proofs.lemmas.Option.{same_Some, slice_get-map}
use Rattle.std.proofs.lemmas.Bool.{and_parts, and_from, eqb-true, eq-eqb, false≢true}
use Rattle.index_links.specs.Lists.{AreDisjoint, Lists, IsIn, list_at, lists_without}
use Rattle.index_links.proofs.Members.{in-append_cases}
use Rattle.index_links.proofs.Walk.{IsAt, at_end, at_item, at_next, at_start, at_unlinked, left_at, left_is, rings_without}
use Rattle.label_pool.specs.declared.label.Label.{Label}
use Rattle.label_pool.specs.Labels.{IsCovered, IsLive, beside, labels_with, lives_in}
use Rattle.label_pool.specs.Tied.{AreListed, IsRising, IsTied}
use Rattle.label_pool.proofs.Elements.{appended_before, appended_here, map-set_like, map-unchanged, set_there}
use Rattle.label_pool.proofs.Ties.{rising-apart}

by_tests : (live of covers : Bool) → ((live && of) ≡ true → covers ≡ false) → (live && not (of && covers)) ≡ live
by_tests false of covers h = refl
by_tests true false covers h = refl
by_tests true true covers h = let e : covers ≡ false = h refl in rw e refl

module _ {V : Type 0} where
  -- no label of these numbers covers the value
  abbrev pub NoneCovers : (V → V → Bool) → List (Label V) → List ℕ → V → Type 0
  NoneCovers covers labels is value = (i : ℕ) (label : Label V) → IsIn i is → slice_get labels i ≡ Some label → covers label.value value ≡ false

  -- a walk over a bucket whose labels so far do not cover the value
  pub record IsLooking (covers : V → V → Bool) (labels : List (Label V)) (live : Lists) (bucket : ℕ) (value : V) (at : Option ℕ) : Type 0 where
    pub before : List ℕ
    pub rest : List ℕ
    pub place : IsAt live bucket at before rest
    pub none : NoneCovers covers labels before value

  pub look_ends : (covers : V → V → Bool) (labels : List (Label V)) (live : Lists) (bucket : ℕ) (value : V) → AreListed labels live → IsLooking covers labels live bucket value None → IsCovered covers labels bucket value → ⊥
  look_ends covers labels live bucket value listed look is =
      let e = (at_end live bucket look.before look.rest look.place).1 in
      let m : IsIn is.by (list_at live.lists bucket) = (listed bucket is.by).1 is.is in
      false≢true (sym (look.none is.by is.is.label (subst (λ (l : List ℕ). IsIn is.by l) e m) is.is.here) ∙ is.covered)

  none_covers_more : (covers : V → V → Bool) (labels : List (Label V)) (is : List ℕ) (i : ℕ) (value : V) (label : Label V) → slice_get labels i ≡ Some label → covers label.value value ≡ false → NoneCovers covers labels is value → NoneCovers covers labels (is ++ i ∷ []) value
  none_covers_more covers labels is i value label here not_by none j other m there =
      elim (in-append_cases j is (i ∷ []) m) [
        | inl a ↦ none j other a there
        | inr b ↦ elim b [
          | inl e ↦ (let q : label ≡ other = same_Some label other (sym here ∙ ap (slice_get labels) (sym e) ∙ there) in ap (λ (l : Label V). covers l.value value) (sym q) ∙ not_by)
          | inr o ↦ absurd o
        ]
      ]

  pub look_start : (covers : V → V → Bool) (labels : List (Label V)) (live : Lists) (bucket : ℕ) (value : V) (at : Option ℕ) → AreDisjoint live → at ≡ slice_get (list_at live.lists bucket) 0 → IsLooking covers labels live bucket value at
  look_start covers labels live bucket value at d e = record { before = []; rest = list_at live.lists bucket; place = at_start live bucket at d e; none = λ i label m here. absurd m }

  look_at : (covers : V → V → Bool) (labels : List (Label V)) (live : Lists) (bucket : ℕ) (value : V) (at : Option ℕ) (i : ℕ) → at ≡ Some i → IsLooking covers labels live bucket value at → IsLooking covers labels live bucket value (Some i)
  look_at covers labels live bucket value at i e look = subst (λ (o : Option ℕ). IsLooking covers labels live bucket value o) e look

  pub look_live : (covers : V → V → Bool) (labels : List (Label V)) (live : Lists) (bucket : ℕ) (value : V) (at : Option ℕ) (i : ℕ) → at ≡ Some i → AreListed labels live → IsLooking covers labels live bucket value at → IsIn i (list_at live.lists bucket) × IsLive labels bucket i
  look_live covers labels live bucket value at i e listed l =
      let look = look_at covers labels live bucket value at i e l in
      let m = (at_item live bucket i look.before look.rest look.place).2 in
      (m, (listed bucket i).0 m)

  pub look_on : (covers : V → V → Bool) (labels : List (Label V)) (live : Lists) (bucket : ℕ) (value : V) (at : Option ℕ) (i : ℕ) (next : Option ℕ) (label : Label V) → at ≡ Some i → IsLooking covers labels live bucket value at
      → ((k : ℕ) (before after : List ℕ) → list_at live.lists k ≡ before ++ i ∷ after → next ≡ slice_get after 0) → slice_get labels i ≡ Some label → covers label.value value ≡ false
      → IsLooking covers labels live bucket value next × (left_at next (list_at live.lists bucket) < left_at at (list_at live.lists bucket))
  look_on covers labels live bucket value at i next label e l follows here not_by =
      let look = look_at covers labels live bucket value at i e l in
      let a = at_item live bucket i look.before look.rest look.place in
      let place : IsAt live bucket (Some i) look.before (i ∷ a.0) = subst (λ (r : List ℕ). IsAt live bucket (Some i) look.before r) a.1 look.place in
      let then : IsAt live bucket next (look.before ++ i ∷ []) a.0 = at_next live bucket i next look.before a.0 place (follows bucket look.before a.0 place.shape) in
      let was : left_at at (list_at live.lists bucket) ≡ suc (length a.0) = ap (λ (o : Option ℕ). left_at o (list_at live.lists bucket)) e ∙ left_is live bucket (Some i) look.before (i ∷ a.0) place in
      let is : left_at next (list_at live.lists bucket) ≡ length a.0 = left_is live bucket next (look.before ++ i ∷ []) a.0 then in (
        record { before = look.before ++ i ∷ []; rest = a.0; place = then; none = none_covers_more covers labels look.before i value label here not_by look.none },
        omega arith,
      )

  -- a walk that retires what the value covers: so far from the labels `old` to `labels`
  pub record IsRetiring (covers : V → V → Bool) (bucket : ℕ) (value : V) (old labels : List (Label V)) (live : Lists) (queue : List (Option ℕ)) (at : Option ℕ) : Type 0 where
    pub before : List ℕ
    pub rest : List ℕ
    pub place : IsAt live bucket at before rest
    pub tied : IsTied labels live queue
    pub stays : (i : ℕ) (label : Label V) → IsIn i before → slice_get labels i ≡ Some label → covers value label.value ≡ false
    pub so_far : map (beside covers bucket value) labels ≡ map (beside covers bucket value) old

  pub retire_start : (covers : V → V → Bool) (bucket : ℕ) (value : V) (labels : List (Label V)) (live : Lists) (queue : List (Option ℕ)) (at : Option ℕ) → AreDisjoint live → at ≡ slice_get (list_at live.lists bucket) 0 → IsTied labels live queue
      → IsRetiring covers bucket value labels labels live queue at
  retire_start covers bucket value labels live queue at d e tied =
      record { before = []; rest = list_at live.lists bucket; place = at_start live bucket at d e; tied = tied; stays = λ i label m here. absurd m; so_far = refl }

  retire_at : (covers : V → V → Bool) (bucket : ℕ) (value : V) (old labels : List (Label V)) (live : Lists) (queue : List (Option ℕ)) (at : Option ℕ) (i : ℕ) → at ≡ Some i → IsRetiring covers bucket value old labels live queue at → IsRetiring covers bucket value old labels live queue (Some i)
  retire_at covers bucket value old labels live queue at i e w = subst (λ (o : Option ℕ). IsRetiring covers bucket value old labels live queue o) e w

  pub retire_in : (covers : V → V → Bool) (bucket : ℕ) (value : V) (old labels : List (Label V)) (live : Lists) (queue : List (Option ℕ)) (at : Option ℕ) (i : ℕ) → at ≡ Some i → IsRetiring covers bucket value old labels live queue at → IsLive labels bucket i
  retire_in covers bucket value old labels live queue at i e r =
      let w = retire_at covers bucket value old labels live queue at i e r in
      (w.tied.listed bucket i).0 (at_item live bucket i w.before w.rest w.place).2

  pub retire_keeps : (covers : V → V → Bool) (bucket : ℕ) (value : V) (old labels : List (Label V)) (live : Lists) (queue : List (Option ℕ)) (at : Option ℕ) (i : ℕ) (next : Option ℕ) (label : Label V) → at ≡ Some i → IsRetiring covers bucket value old labels live queue at
      → ((k : ℕ) (before after : List ℕ) → list_at live.lists k ≡ before ++ i ∷ after → next ≡ slice_get after 0) → slice_get labels i ≡ Some label → covers value label.value ≡ false
      → IsRetiring covers bucket value old labels live queue next × (left_at next (list_at live.lists bucket) < left_at at (list_at live.lists bucket))
  retire_keeps covers bucket value old labels live queue at i next label e r follows here stays =
      let w = retire_at covers bucket value old labels live queue at i e r in
      let a = at_item live bucket i w.before w.rest w.place in
      let place : IsAt live bucket (Some i) w.before (i ∷ a.0) = subst (λ (r : List ℕ). IsAt live bucket (Some i) w.before r) a.1 w.place in
      let then : IsAt live bucket next (w.before ++ i ∷ []) a.0 = at_next live bucket i next w.before a.0 place (follows bucket w.before a.0 place.shape) in
      let was : left_at at (list_at live.lists bucket) ≡ suc (length a.0) = ap (λ (o : Option ℕ). left_at o (list_at live.lists bucket)) e ∙ left_is live bucket (Some i) w.before (i ∷ a.0) place in
      let is = left_is live bucket next (w.before ++ i ∷ []) a.0 then in (
        record {
          before = w.before ++ i ∷ [];
          rest = a.0;
          place = then;
          tied = w.tied;
          stays = λ j other m there. elim (in-append_cases j w.before (i ∷ []) m) [
            | inl b ↦ w.stays j other b there
            | inr b ↦ elim b [
              | inl q ↦ (let same : label ≡ other = same_Some label other (sym here ∙ ap (slice_get labels) (sym q) ∙ there) in ap (λ (l : Label V). covers value l.value) (sym same) ∙ stays)
              | inr o ↦ absurd o
            ]
          ];
          so_far = w.so_far;
        },
        omega arith,
      )

  gone : (covers : V → V → Bool) (bucket : ℕ) (value : V) (label : Label V) → lives_in bucket label ≡ true → covers value label.value ≡ true → beside covers bucket value (record label { live = false }) ≡ beside covers bucket value label
  gone covers bucket value label lives covered =
      let parts = and_parts label.live (nat_eq label.bucket bucket) lives in
      let live : label.live ≡ true = parts.0 in
      let of : nat_eq label.bucket bucket ≡ true = parts.1 in
      rw (live, of, covered) refl

  pub retire_drops : (covers : V → V → Bool) (bucket : ℕ) (value : V) (old labels new_labels : List (Label V)) (live new_live : Lists) (queue new_queue : List (Option ℕ)) (at : Option ℕ) (i : ℕ) (next : Option ℕ) (label : Label V) → at ≡ Some i → IsRetiring covers bucket value old labels live queue at
      → ((k : ℕ) (before after : List ℕ) → list_at live.lists k ≡ before ++ i ∷ after → next ≡ slice_get after 0) → slice_get labels i ≡ Some label → covers value label.value ≡ true
      → new_labels ≡ set labels i (record label { live = false }) → new_live ≡ record live { lists = lists_without live.lists i } → IsTied new_labels new_live new_queue
      → IsRetiring covers bucket value old new_labels new_live new_queue next × (left_at next (list_at new_live.lists bucket) < left_at at (list_at live.lists bucket))
  retire_drops covers bucket value old labels new_labels live new_live queue new_queue at i next label e r follows here covered labels_are live_is tied =
      let w = retire_at covers bucket value old labels live queue at i e r in
      let a = at_item live bucket i w.before w.rest w.place in
      let place : IsAt live bucket (Some i) w.before (i ∷ a.0) = subst (λ (r : List ℕ). IsAt live bucket (Some i) w.before r) a.1 w.place in
      let dropped : IsAt (rings_without live i) bucket next w.before a.0 = at_unlinked live bucket i next w.before a.0 place (follows bucket w.before a.0 place.shape) in
      let then : IsAt new_live bucket next w.before a.0 = subst (λ (o : Lists). IsAt o bucket next w.before a.0) (sym live_is) dropped in
      let was : left_at at (list_at live.lists bucket) ≡ suc (length a.0) = ap (λ (o : Option ℕ). left_at o (list_at live.lists bucket)) e ∙ left_is live bucket (Some i) w.before (i ∷ a.0) place in
      let is : left_at next (list_at new_live.lists bucket) ≡ length a.0 = left_is new_live bucket next w.before a.0 then in
      let new : Label V = record label { live = false } in
      let lives : lives_in bucket label ≡ true =
      (let l = (w.tied.listed bucket i).0 a.2 in
      ap (lives_in bucket) (same_Some label l.label (sym here ∙ l.here)) ∙ l.lives) in (
        record {
          before = w.before;
          rest = a.0;
          place = then;
          tied = tied;
          stays = λ j other m there.
              let apart : j < i = rising-apart w.before (i ∷ a.0) j i (subst (λ (l : List ℕ). IsRising l) place.shape (w.tied.rising bucket)) m (inl refl) in
              w.stays j other m (sym (set_there labels i j new (λ e. absurd (omega arith))) ∙ ap (λ (l : List (Label V)). slice_get l j) (sym labels_are) ∙ there);
          so_far = ap (map (beside covers bucket value)) labels_are ∙ map-set_like (beside covers bucket value) labels i new label here (gone covers bucket value label lives covered) ∙ w.so_far;
        },
        omega arith,
      )

  unmoved : (covers : V → V → Bool) (bucket : ℕ) (value : V) (label : Label V) → (lives_in bucket label ≡ true → covers value label.value ≡ false) → label.live && not (nat_eq label.bucket bucket && covers value label.value) ≡ label.live
  unmoved covers bucket value label h = by_tests label.live (nat_eq label.bucket bucket) (covers value label.value) h

  pub retire_ends : (covers : V → V → Bool) (bucket : ℕ) (value : V) (old labels : List (Label V)) (live : Lists) (queue : List (Option ℕ)) → IsRetiring covers bucket value old labels live queue None → labels ≡ map (beside covers bucket value) old
  retire_ends covers bucket value old labels live queue w =
      let e = (at_end live bucket w.before w.rest w.place).1 in
      sym (map-unchanged (beside covers bucket value) labels (λ i label here.
      let same = unmoved covers bucket value label (λ lives.
      w.stays i label (subst (λ (l : List ℕ). IsIn i l) e ((w.tied.listed bucket i).1 (record { label = label; here = here; lives = lives }))) here) in
      ap (λ b. record label { live = b }) same))
      ∙ w.so_far

  -- the new label covers what it makes needless, and with it all that this covered
  new_covers : (covers : V → V → Bool) (labels : List (Label V)) (new : Label V) (b : ℕ) (x : V) → new.live ≡ true → new.bucket ≡ b → covers new.value x ≡ true → IsCovered covers (labels_with covers labels new) b x
  new_covers covers labels new b x is_live of by =
      let others : List (Label V) = map (beside covers new.bucket new.value) labels in
      record {
        by = length others;
        is = record { label = new; here = appended_here others new; lives = and_from new.live (nat_eq new.bucket b) is_live (eq-eqb new.bucket b of) };
        covered = by;
      }

  by_retired : (covers : V → V → Bool) → ((x y z : V) → covers x y ≡ true → covers y z ≡ true → covers x z ≡ true) → (labels : List (Label V)) (new : Label V) (b : ℕ) (x : V) → new.live ≡ true
      → (is : IsCovered covers labels b x) → is.is.label.live ≡ true → nat_eq is.is.label.bucket b ≡ true → (t : Bool) → (nat_eq is.is.label.bucket new.bucket && covers new.value is.is.label.value) ≡ t → IsCovered covers (labels_with covers labels new) b x
  by_retired covers trans labels new b x is_live is live of true test =
      let label : Label V = is.is.label in
      let parts = and_parts (nat_eq label.bucket new.bucket) (covers new.value label.value) test in
      new_covers covers labels new b x is_live (sym (eqb-true label.bucket new.bucket parts.0) ∙ eqb-true label.bucket b of) (trans new.value label.value x parts.1 is.covered)
  by_retired covers trans labels new b x is_live is live of false test =
      let label : Label V = is.is.label in
      let change : Label V → Label V = beside covers new.bucket new.value in
      let here : slice_get (map change labels) is.by ≡ Some (change label) = slice_get-map change labels is.by ∙ ap (option_map change) is.is.here in
      record {
        by = is.by;
        is = record {
          label = change label;
          here = appended_before (map change labels) (new ∷ []) is.by (change label) here;
          lives = and_from (label.live && not (nat_eq label.bucket new.bucket && covers new.value label.value)) (nat_eq label.bucket b) (rw (live, test) refl) of;
        };
        covered = is.covered;
      }

  pub covered_stays : (covers : V → V → Bool) → ((x y z : V) → covers x y ≡ true → covers y z ≡ true → covers x z ≡ true) → (labels : List (Label V)) (new : Label V) (b : ℕ) (x : V) → new.live ≡ true
      → IsCovered covers labels b x → IsCovered covers (labels_with covers labels new) b x
  covered_stays covers trans labels new b x is_live is =
      let label : Label V = is.is.label in
      let parts = and_parts label.live (nat_eq label.bucket b) is.is.lives in
      let live : label.live ≡ true = parts.0 in
      let of : nat_eq label.bucket b ≡ true = parts.1 in
      by_retired covers trans labels new b x is_live is live of (nat_eq label.bucket new.bucket && covers new.value label.value) refl

  pub covered_by_new : (covers : V → V → Bool) → ((x : V) → covers x x ≡ true) → (labels : List (Label V)) (new : Label V) → new.live ≡ true → IsCovered covers (labels_with covers labels new) new.bucket new.value
  covered_by_new covers itself labels new is_live = new_covers covers labels new new.bucket new.value is_live refl (itself new.value)
