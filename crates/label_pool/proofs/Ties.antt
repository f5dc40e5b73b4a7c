-- The lists of live labels and the queue after each change.
use Rattle.std.proofs.Common.{◌≡◌, ◌↔◌, ℕ, zero, suc, ◌+◌, ◌-◌, ◌<◌, ◌≤◌, List, [], ◌∷◌, ◌++◌, inl, inr, length, max, replicate, set, refl, sym, ◌∙◌, ap, subst, arith, true, false, Option, Some, None}
use Rattle.std.specs.Prelude.{slice_get, IfSome, nat_eq, Bool, not, is_some, ◌&&◌, if◌then◌else◌}
use Rattle.std.proofs.lemmas.Option.{same_Some, none-some, slice_get_past, slice_get_within}
use Rattle.std.proofs.lemmas.Bool.{and_parts, and_from, eqb-true, eq-eqb, ne_eqb, false≢true, cases_eq}
use Rattle.std.proofs.lemmas.List.{append_assoc, length-append, length-replicate}
use Rattle.std.proofs.Common.{length-set}
use Rattle.index_links.specs.Lists.{Lists, IsIn, IsLinked, list_at, lists_padded, lists_with_last, lists_without, without}
use Rattle.index_links.specs.Queue.{IsEmpty, IsLeast, key_at}
use Rattle.index_links.proofs.Members.{in-append_cases, in-append_right, in-without, split}
use Rattle.index_links.proofs.ListChanges.{list_at-padded, list_at-with_last, list_at-with_last_other, list_at-without, with_last_has, with_last_in, with_last_keeps, without_in, without_keeps}
use Rattle.index_links.proofs.QueueChanges.{key_at-grown, key_at-put, key_at-put_other, key_at-removed, key_at-removed_other}
use Rattle.label_pool.specs.declared.label.Label.{Label}
use Rattle.label_pool.specs.Labels.{IsFirstLive, IsLive, IsNext, NoneWaits, is_waiting, lives_in}
use Rattle.label_pool.specs.Tied.{AreListed, IsRising, IsTied, queue_key}
use Rattle.label_pool.proofs.Elements.{appended_before, appended_cases, appended_here, set_here, set_there}

-- rising lists
pub rising-right : (xs ys : List ℕ) → IsRising (xs ++ ys) → IsRising ys
rising-right [] ys r = r
rising-right (x ∷ xs) ys r = rising-right xs ys r.1

pub rising-apart : (xs ys : List ℕ) (i j : ℕ) → IsRising (xs ++ ys) → IsIn i xs → IsIn j ys → i < j
rising-apart [] ys i j r m n = absurd m
rising-apart (x ∷ xs) ys i j r m n =
    elim m [
      | inl e ↦ (let h : x < j = r.0 j (in-append_right j xs ys n) in omega arith)
      | inr s ↦ rising-apart xs ys i j r.1 s n
    ]

rising-without : (i : ℕ) (xs : List ℕ) → IsRising xs → IsRising (without i xs)
rising-without i [] r = tt
rising-without i (x ∷ xs) r =
    elim (cases_eq i x) [
      | inl e ↦ (let t : nat_eq i x ≡ true = eq-eqb i x e in rw t (rising-without i xs r.1))
      | inr n ↦ (let t : nat_eq i x ≡ false = ne_eqb i x n in rw t (λ y m. r.0 y (in-without i y xs m).0, rising-without i xs r.1))
    ]

rising-last : (xs : List ℕ) (n : ℕ) → IsRising xs → ((i : ℕ) → IsIn i xs → i < n) → IsRising (xs ++ n ∷ [])
rising-last [] n r below = (λ y m. absurd m, tt)
rising-last (x ∷ xs) n r below = (
  λ y m. elim (in-append_cases y xs (n ∷ []) m) [
    | inl a ↦ r.0 y a
    | inr b ↦ elim b [ inl e ↦ (let h : x < n = below x (inl refl) in omega arith) | inr o ↦ absurd o ]
  ],
  rising-last xs n r.1 (λ i m. below i (inr m)),
)

and_false : (b : Bool) → (b && not true) ≡ false
and_false true = refl
and_false false = refl

pub in_room : (n was now : ℕ) → now ≡ max (n + 1) was → n < now
in_room n was now e = omega arith

pub in_queue_room : (n : ℕ) (was now : List (Option ℕ)) → length now ≡ length (was ++ replicate (n + 1 - length was) None) → n < length now
in_queue_room n was now e = omega (arith, length-append was (replicate (n + 1 - length was) None), length-replicate {A = Option ℕ} (n + 1 - length was) None)

pub not_held : (o : Option ℕ) → is_some o ≡ false → o ≡ None
not_held None e = refl
not_held (Some key) e = absurd (cc)

module _ {V : Type 0} where
  -- the first live label from a place of its bucket's list on
  pub first_live_is : (labels : List (Label V)) (live : Lists) (b from : ℕ) (before after : List ℕ) (found : Option ℕ) → IsRising (list_at live.lists b) → AreListed labels live
      → list_at live.lists b ≡ before ++ after → ((j : ℕ) → IsIn j before → j < from) → ((j : ℕ) → IsIn j after → from ≤ j) → found ≡ slice_get after 0 → IsFirstLive labels b from found
  first_live_is labels live b from before [] found rising listed shape low high e =
      rw e (λ j l is. elim (in-append_cases j before [] (subst (λ (l : List ℕ). IsIn j l) shape ((listed b j).1 is))) [ inl a ↦ (let h : j < from = low j a in omega arith) | inr o ↦ absurd o ])
  first_live_is labels live b from before (x ∷ xs) found rising listed shape low high e =
      let r : IsRising (x ∷ xs) = rising-right before (x ∷ xs) (subst (λ (l : List ℕ). IsRising l) shape rising) in
      rw e (
        high x (inl refl),
        (listed b x).0 (subst (λ (l : List ℕ). IsIn x l) (sym shape) (in-append_right x before (x ∷ xs) (inl refl))),
        λ j l is. elim (in-append_cases j before (x ∷ xs) (subst (λ (l : List ℕ). IsIn j l) shape ((listed b j).1 is))) [
          | inl a ↦ (let h : j < from = low j a in omega arith)
          | inr a ↦ elim a [ inl q ↦ omega arith | inr s ↦ (let h : x < j = r.0 j s in omega arith) ]
        ],
      )

  -- a label that waits is in the queue by its key, and the other way round
  pub waits_queued : (labels : List (Label V)) (live : Lists) (queue : List (Option ℕ)) (i : ℕ) (label : Label V) → IsTied labels live queue → slice_get labels i ≡ Some label → is_waiting label ≡ true → key_at queue i ≡ Some label.key
  waits_queued labels live queue i label tied here w =
      tied.queued i ∙ ap queue_key here ∙ rw w refl

  pub record IsQueuedAs (labels : List (Label V)) (i key : ℕ) : Type 0 where
    pub label : Label V
    pub here : slice_get labels i ≡ Some label
    pub waits : is_waiting label ≡ true
    pub is : key ≡ label.key

  from_test : (labels : List (Label V)) (i key : ℕ) (l : Label V) → slice_get labels i ≡ Some l → (b : Bool) → is_waiting l ≡ b → (if b then Some l.key else None) ≡ Some key → IsQueuedAs labels i key
  from_test labels i key l here true w e = record { label = l; here = here; waits = w; is = sym (same_Some l.key key e) }
  from_test labels i key l here false w e = absurd (none-some key e)

  from_key : (labels : List (Label V)) (i key : ℕ) (o : Option (Label V)) → slice_get labels i ≡ o → queue_key o ≡ Some key → IsQueuedAs labels i key
  from_key labels i key None here e = absurd (none-some key e)
  from_key labels i key (Some l) here e = from_test labels i key l here (is_waiting l) refl e

  pub queued_waits : (labels : List (Label V)) (live : Lists) (queue : List (Option ℕ)) (i key : ℕ) → IsTied labels live queue → key_at queue i ≡ Some key → IsQueuedAs labels i key
  queued_waits labels live queue i key tied e = from_key labels i key (slice_get labels i) refl (sym (tied.queued i) ∙ e)

  -- the least pair of the queue is the next label
  pub least_is_next : (labels : List (Label V)) (live : Lists) (queue : List (Option ℕ)) (i key : ℕ) → IsTied labels live queue → IsLeast queue key i → (label : Label V) × IsNext labels i label × (key ≡ label.key)
  least_is_next labels live queue i key tied least =
      let q = queued_waits labels live queue i key tied least.held in
      let e : key ≡ q.label.key = q.is in (
        q.label,
        record {
          here = q.here;
          waits = q.waits;
          least = λ j other there w.
              elim (least.least other.key j (waits_queued labels live queue j other tied there w)) [
                | inl same ↦ inr (
                  ap (λ (l : Label V). l.key) (same_Some q.label other (sym q.here ∙ ap (slice_get labels) (sym same) ∙ there)),
                  omega arith,
                )
                | inr before ↦ elim before [ inl l ↦ inl (omega arith) | inr b ↦ inr (sym e ∙ b.0, omega arith) ]
              ];
        },
        e,
      )

  nothing_held : (labels : List (Label V)) (live : Lists) (queue : List (Option ℕ)) (i : ℕ) → IsTied labels live queue → NoneWaits labels → (o : Option ℕ) → key_at queue i ≡ o → key_at queue i ≡ None
  nothing_held labels live queue i tied none None e = e
  nothing_held labels live queue i tied none (Some key) e =
      let q = queued_waits labels live queue i key tied e in
      absurd (none i q.label q.here q.waits)

  pub empty_is_none : (labels : List (Label V)) (live : Lists) (queue : List (Option ℕ)) → IsTied labels live queue → IsEmpty queue ↔ NoneWaits labels
  empty_is_none labels live queue tied = (
    λ empty i label here w. none-some label.key (sym (empty i) ∙ waits_queued labels live queue i label tied here w),
    λ none i. nothing_held labels live queue i tied none (key_at queue i) refl,
  )

  alike : (b : ℕ) (old new : Label V) → new.bucket ≡ old.bucket → new.live ≡ old.live → lives_in b new ≡ lives_in b old
  alike b old new bucket live = rw (bucket, live) refl

  settled_rests : (label : Label V) → is_waiting (record label { settled = true }) ≡ false
  settled_rests label = and_false label.live

  appended_other : (labels : List (Label V)) (new : Label V) (j : ℕ) → (j ≡ length labels → ⊥) → slice_get (labels ++ new ∷ []) j ≡ slice_get labels j
  appended_other [] new zero n = absurd (n refl)
  appended_other [] new (suc j) n = refl
  appended_other (l ∷ ls) new zero n = refl
  appended_other (l ∷ ls) new (suc j) n = appended_other ls new j (λ e. n (ap suc e))

  -- one label changed, and its bucket and parent kept
  changed_live : (labels : List (Label V)) (i b j : ℕ) (old new : Label V) → slice_get labels i ≡ Some old → new.bucket ≡ old.bucket → new.live ≡ old.live → IsLive (set labels i new) b j ↔ IsLive labels b j
  changed_live labels i b j old new here bucket live = (
    λ is. elim (cases_eq j i) [
      | inl e ↦ record {
        label = old;
        here = ap (slice_get labels) e ∙ here;
        lives = (let q : is.label ≡ new = same_Some is.label new (sym is.here ∙ ap (slice_get (set labels i new)) e ∙ set_here labels i new old here) in
            sym (alike b old new bucket live) ∙ sym (ap (lives_in b) q) ∙ is.lives);
      }
      | inr n ↦ record { label = is.label; here = sym (set_there labels i j new n) ∙ is.here; lives = is.lives }
    ],
    λ is. elim (cases_eq j i) [
      | inl e ↦ record {
        label = new;
        here = ap (slice_get (set labels i new)) e ∙ set_here labels i new old here;
        lives = (let q : is.label ≡ old = same_Some is.label old (sym is.here ∙ ap (slice_get labels) e ∙ here) in
            alike b old new bucket live ∙ sym (ap (lives_in b) q) ∙ is.lives);
      }
      | inr n ↦ record { label = is.label; here = set_there labels i j new n ∙ is.here; lives = is.lives }
    ],
  )

  changed_parents : (labels : List (Label V)) (i : ℕ) (old new : Label V) → slice_get labels i ≡ Some old → new.parent ≡ old.parent
      → ((j : ℕ) (label : Label V) → slice_get labels j ≡ Some label → IfSome label.parent (λ p. p < j)) → (j : ℕ) (label : Label V) → slice_get (set labels i new) j ≡ Some label → IfSome label.parent (λ p. p < j)
  changed_parents labels i old new here parent parents j label there =
      elim (cases_eq j i) [
        | inl e ↦
            let q : label ≡ new = same_Some label new (sym there ∙ ap (slice_get (set labels i new)) e ∙ set_here labels i new old here) in
            subst (λ (o : Option ℕ). IfSome o (λ p. p < j)) (sym parent ∙ sym (ap (λ (l : Label V). l.parent) q)) (parents j old (ap (slice_get labels) e ∙ here))
        | inr n ↦ parents j label (sym (set_there labels i j new n) ∙ there)
      ]

  changed_queue : (labels : List (Label V)) (queue new_queue : List (Option ℕ)) (i : ℕ) (old new : Label V) → slice_get labels i ≡ Some old → is_waiting new ≡ false
      → ((j : ℕ) → key_at queue j ≡ queue_key (slice_get labels j)) → key_at new_queue i ≡ None → ((j : ℕ) → (j ≡ i → ⊥) → key_at new_queue j ≡ key_at queue j)
      → (j : ℕ) → key_at new_queue j ≡ queue_key (slice_get (set labels i new) j)
  changed_queue labels queue new_queue i old new here w queued out others j =
      elim (cases_eq j i) [
        | inl e ↦
            let r : slice_get (set labels i new) j ≡ Some new = ap (slice_get (set labels i new)) e ∙ set_here labels i new old here in
            ap (key_at new_queue) e ∙ out ∙ sym (ap queue_key r ∙ rw w refl)
        | inr n ↦ others j n ∙ queued j ∙ sym (ap queue_key (set_there labels i j new n))
      ]

  -- the next label is settled
  pub tied_settled : (labels : List (Label V)) (live : Lists) (queue : List (Option ℕ)) (i : ℕ) (label : Label V) → IsTied labels live queue → slice_get labels i ≡ Some label
      → IsTied (set labels i (record label { settled = true })) live (set queue i None)
  tied_settled labels live queue i label tied here =
      let new : Label V = record label { settled = true } in
      record {
        rising = tied.rising;
        listed = λ b j. (
          λ m. (changed_live labels i b j label new here refl refl).1 ((tied.listed b j).0 m),
          λ is. (tied.listed b j).1 ((changed_live labels i b j label new here refl refl).0 is),
        );
        queued = changed_queue labels queue (set queue i None) i label new here (settled_rests label) tied.queued (key_at-removed queue i) (λ j n. key_at-removed_other queue i j n);
        room = let r = tied.room in omega (arith, length-set labels i new);
        queue_room = let r = tied.queue_room in omega (arith, length-set labels i new, length-set queue i None);
        parents = changed_parents labels i label new here refl tied.parents;
      }

  -- a live label is live no longer
  pub tied_retired : (labels : List (Label V)) (live : Lists) (queue new_queue : List (Option ℕ)) (i : ℕ) (label : Label V) → IsTied labels live queue → slice_get labels i ≡ Some label
      → key_at new_queue i ≡ None → ((j : ℕ) → (j ≡ i → ⊥) → key_at new_queue j ≡ key_at queue j) → length new_queue ≡ length queue
      → IsTied (set labels i (record label { live = false })) (record { lists = lists_without live.lists i; items = live.items }) new_queue
  tied_retired labels live queue new_queue i label tied here out others same =
      let new : Label V = record label { live = false } in
      record {
        rising = λ b. subst (λ (l : List ℕ). IsRising l) (sym (list_at-without live.lists i b)) (rising-without i (list_at live.lists b) (tied.rising b));
        listed = λ b j. (
          λ m.
              let w = without_in live.lists i j b m in
              let is = (tied.listed b j).0 w.0 in
              record { label = is.label; here = set_there labels i j new (λ e. w.1 (sym e)) ∙ is.here; lives = is.lives },
          λ is. elim (cases_eq j i) [
            | inl e ↦
                let q : is.label ≡ new = same_Some is.label new (sym is.here ∙ ap (slice_get (set labels i new)) e ∙ set_here labels i new label here) in
                absurd (false≢true (ap (lives_in b) (sym q) ∙ is.lives))
            | inr n ↦ without_keeps live.lists i j b ((tied.listed b j).1 (record { label = is.label; here = sym (set_there labels i j new n) ∙ is.here; lives = is.lives })) (λ e. n (sym e))
          ],
        );
        queued = changed_queue labels queue new_queue i label new here refl tied.queued out others;
        room = let r = tied.room in omega (arith, length-set labels i new);
        queue_room = let r = tied.queue_room in omega (arith, length-set labels i new);
        parents = changed_parents labels i label new here refl tied.parents;
      }

  -- a new label behind the others
  pub tied_added : (labels : List (Label V)) (live : Lists) (queue : List (Option ℕ)) (new : Label V) → IsTied labels live queue → new.bucket < length live.lists → length labels < live.items → length labels < length queue
      → IfSome new.parent (λ p. p < length labels) → new.live ≡ true → new.settled ≡ false
      → IsTied (labels ++ new ∷ []) (record { lists = lists_with_last live.lists new.bucket (length labels); items = live.items }) (set queue (length labels) (Some new.key))
  tied_added labels live queue new tied bucket room queue_room parent is_live fresh =
      let n : ℕ = length labels in
      let below : (b i : ℕ) → IsIn i (list_at live.lists b) → i < n = λ b i m. (let is = (tied.listed b i).0 m in slice_get_within labels i is.label is.here) in
      let own : lives_in new.bucket new ≡ true = and_from new.live (nat_eq new.bucket new.bucket) is_live (eq-eqb new.bucket new.bucket refl) in
      record {
        rising = λ b. elim (cases_eq b new.bucket) [
          | inl e ↦ subst (λ y. IsRising (list_at (lists_with_last live.lists new.bucket n) y)) (sym e)
              (subst (λ (l : List ℕ). IsRising l) (sym (list_at-with_last live.lists new.bucket n bucket)) (rising-last (list_at live.lists new.bucket) n (tied.rising new.bucket) (below new.bucket)))
          | inr d ↦ subst (λ (l : List ℕ). IsRising l) (sym (list_at-with_last_other live.lists new.bucket n b d)) (tied.rising b)
        ];
        listed = λ b j. (
          λ m. elim (with_last_in live.lists new.bucket n j b bucket m) [
            | inl a ↦ (let is = (tied.listed b j).0 a in record { label = is.label; here = appended_before labels (new ∷ []) j is.label is.here; lives = is.lives })
            | inr a ↦ record {
              label = new;
              here = ap (slice_get (labels ++ new ∷ [])) a.1 ∙ appended_here labels new;
              lives = subst (λ y. lives_in y new ≡ true) (sym a.0) own;
            }
          ],
          λ is. elim (appended_cases labels new is.label j is.here) [
            | inl before ↦ with_last_keeps live.lists new.bucket n j b bucket ((tied.listed b j).1 (record { label = is.label; here = before; lives = is.lives }))
            | inr last ↦
                let of : new.bucket ≡ b = eqb-true new.bucket b (and_parts new.live (nat_eq new.bucket b) (ap (lives_in b) last.1 ∙ is.lives)).1 in
                subst (λ y. IsIn j (list_at (lists_with_last live.lists new.bucket n) y)) of
                (subst (λ y. IsIn y (list_at (lists_with_last live.lists new.bucket n) new.bucket)) (sym last.0) (with_last_has live.lists new.bucket n bucket))
          ],
        );
        queued = λ j. elim (cases_eq j n) [
          | inl e ↦
              let r : slice_get (labels ++ new ∷ []) j ≡ Some new = ap (slice_get (labels ++ new ∷ [])) e ∙ appended_here labels new in
              let w : is_waiting new ≡ true = rw (is_live, fresh) refl in
              ap (key_at (set queue n (Some new.key))) e ∙ key_at-put queue n new.key queue_room ∙ sym (ap queue_key r ∙ rw w refl)
          | inr d ↦ key_at-put_other queue n j new.key d ∙ tied.queued j ∙ sym (ap queue_key (appended_other labels new j d))
        ];
        room = omega (arith, length-append labels (new ∷ []));
        queue_room = omega (arith, length-append labels (new ∷ []), length-set queue n (Some new.key));
        parents = λ j label here. elim (appended_cases labels new label j here) [
          | inl before ↦ tied.parents j label before
          | inr last ↦ subst (λ (o : Option ℕ). IfSome o (λ p. p < j)) (ap (λ (l : Label V). l.parent) last.1) (subst (λ y. IfSome new.parent (λ p. p < y)) (sym last.0) parent)
        ];
      }

  -- more room
  pub tied_grown : (labels : List (Label V)) (live new_live : Lists) (queue new_queue : List (Option ℕ)) → IsTied labels live queue → ((b : ℕ) → list_at new_live.lists b ≡ list_at live.lists b) → live.items ≤ new_live.items
      → ((j : ℕ) → key_at new_queue j ≡ key_at queue j) → length queue ≤ length new_queue → IsTied labels new_live new_queue
  tied_grown labels live new_live queue new_queue tied lists items keys more = record {
    rising = λ b. subst (λ (l : List ℕ). IsRising l) (sym (lists b)) (tied.rising b);
    listed = λ b j. (
      λ m. (tied.listed b j).0 (subst (λ (l : List ℕ). IsIn j l) (lists b) m),
      λ is. subst (λ (l : List ℕ). IsIn j l) (sym (lists b)) ((tied.listed b j).1 is),
    );
    queued = λ j. keys j ∙ tied.queued j;
    room = let r = tied.room in omega arith;
    queue_room = let r = tied.queue_room in omega arith;
    parents = tied.parents;
  }

  -- the next live label behind one
  pub next_live_is : (labels : List (Label V)) (live : Lists) (queue : List (Option ℕ)) (b i : ℕ) (found : Option ℕ) → IsTied labels live queue → ((k : ℕ) (before after : List ℕ) → list_at live.lists k ≡ before ++ i ∷ after → found ≡ slice_get after 0)
      → IsLive labels b i → IsFirstLive labels b (i + 1) found
  next_live_is labels live queue b i found tied follows is =
      let s = split i (list_at live.lists b) ((tied.listed b i).1 is) in
      let rising : IsRising (s.0 ++ i ∷ s.1) = subst (λ (l : List ℕ). IsRising l) s.2 (tied.rising b) in
      let behind : IsRising (i ∷ s.1) = rising-right s.0 (i ∷ s.1) rising in
      first_live_is labels live b (i + 1) (s.0 ++ i ∷ []) s.1 found (tied.rising b) tied.listed (s.2 ∙ sym (append_assoc s.0 (i ∷ []) s.1))
      (λ j m. elim (in-append_cases j s.0 (i ∷ []) m) [
        | inl a ↦ (let h : j < i = rising-apart s.0 (i ∷ s.1) j i rising a (inl refl) in omega arith)
        | inr a ↦ elim a [ inl e ↦ omega arith | inr o ↦ absurd o ]
      ])
      (λ j m. let h : i < j = behind.0 j m in omega arith) (follows b s.0 s.1 s.2)

  pub next_key_is : (labels : List (Label V)) (live : Lists) (queue : List (Option ℕ)) (o : Option ℕ) → IsTied labels live queue → IfSome o (λ key. (i : ℕ) × IsLeast queue key i) → IfSome o (λ key. (i : ℕ) × (label : Label V) × IsNext labels i label × (key ≡ label.key))
  next_key_is labels live queue None tied least = least
  next_key_is labels live queue (Some key) tied least = (let n = least_is_next labels live queue least.0 key tied least.1 in (least.0, n.0, n.1, n.2))

  pub tied_empty : (lists : List (List ℕ)) (items : ℕ) → ((b : ℕ) → list_at lists b ≡ []) → IsTied {V = V} [] (record { lists = lists; items = items }) []
  tied_empty lists items none = record {
    rising = λ b. subst (λ (l : List ℕ). IsRising l) (sym (none b)) tt;
    listed = λ b i. (λ m. absurd (subst (λ (l : List ℕ). IsIn i l) (none b) m), λ is. absurd (none-some is.label is.here));
    queued = λ i. refl;
    room = omega arith;
    queue_room = omega arith;
    parents = λ i label here. absurd (none-some label here);
  }

  pub tied_new : (labels : List (Label V)) (none live : Lists) (queue : List (Option ℕ)) (buckets : ℕ) → labels ≡ [] → none ≡ record { lists = []; items = 0 } → live ≡ record { lists = lists_padded none.lists buckets; items = max 0 none.items } → queue ≡ []
      → IsTied labels live queue
  tied_new labels none live queue buckets no_label no_list padded no_key =
      let blank : (b : ℕ) → list_at (lists_padded [] buckets) b ≡ [] = λ b. list_at-padded [] buckets b in
      rw (padded, no_list, no_label, no_key) (tied_empty (lists_padded [] buckets) 0 blank)

  -- room for more labels
  pub tied_room : (labels : List (Label V)) (live new_live : Lists) (queue new_queue : List (Option ℕ)) (items : ℕ) → IsTied labels live queue → new_live ≡ record { lists = lists_padded live.lists 0; items = max items live.items } → new_queue ≡ queue
      → IsTied labels new_live new_queue
  tied_room labels live new_live queue new_queue items tied live_is queue_is =
      rw (live_is, queue_is) (tied_grown labels live (record { lists = lists_padded live.lists 0; items = max items live.items }) queue queue tied (λ b. list_at-padded live.lists 0 b) (omega arith) (λ j. refl) (omega arith))

  pub tied_more_room : (labels : List (Label V)) (live new_live : Lists) (queue new_queue : List (Option ℕ)) (items more : ℕ) → IsTied labels live queue → new_live ≡ record { lists = lists_padded live.lists 0; items = max items live.items }
      → new_queue ≡ queue ++ replicate more None → IsTied labels new_live new_queue
  tied_more_room labels live new_live queue new_queue items more tied live_is queue_is =
      rw (live_is, queue_is) (tied_grown labels live (record { lists = lists_padded live.lists 0; items = max items live.items }) queue (queue ++ replicate more None) tied (λ b. list_at-padded live.lists 0 b) (omega arith) (λ j. key_at-grown queue more j)
      (omega (arith, length-append queue (replicate more None))))

  -- a number that no label has is in no list and not in the queue
  pub number_is_free : (labels : List (Label V)) (live : Lists) (queue : List (Option ℕ)) (n : ℕ) → IsTied labels live queue → length labels ≤ n → (IsLinked live.lists n → ⊥) × (key_at queue n ≡ None)
  number_is_free labels live queue n tied past = (
    λ linked. let is = (tied.listed linked.0 n).0 linked.1 in let within : n < length labels = slice_get_within labels n is.label is.here in omega arith,
    tied.queued n ∙ ap queue_key (slice_get_past labels n past),
  )

  pub tied_with : (labels all : List (Label V)) (live new_live : Lists) (queue new_queue : List (Option ℕ)) (new : Label V) (number : ℕ) → IsTied labels live queue → new.bucket < length live.lists → number ≡ length labels → number < live.items → number < length queue
      → IfSome new.parent (λ p. p < length labels) → new.live ≡ true → new.settled ≡ false → all ≡ labels ++ new ∷ [] → new_live ≡ record { lists = lists_with_last live.lists new.bucket number; items = live.items } → new_queue ≡ set queue number (Some new.key)
      → IsTied all new_live new_queue
  tied_with labels all live new_live queue new_queue new number tied bucket n room queue_room parent is_live fresh all_is live_is queue_is =
      rw (all_is, live_is, queue_is, n) (tied_added labels live queue new tied bucket (omega arith) (omega arith) parent is_live fresh)
