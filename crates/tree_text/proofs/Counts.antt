-- Counted sets as they are written: each by the nodes of its customers.
use Rattle.std.proofs.Common.{◌≡◌, ◌∙◌, arith, ℕ, suc, ◌+◌, Bool, true, false, ◌||◌, ◌&&◌, not, List, [], ◌∷◌, Option, None, Some, decimal, length, nat_le, nat_lt, ap, refl, if◌then◌else◌}
use Rattle.std.specs.List.{All}
use Rattle.std.proofs.lemmas.List.{length-map}
use Rattle.std.proofs.lemmas.List.Elements.{All-cons, All-head, All-nil, All-tail}
use Rattle.ev_model.specs.Network.{Network}
use Rattle.near_text.specs.Written.{written_set}
use Rattle.near_tree.specs.Branches.{Counted, count_of, counted_anew, is_same}
use Rattle.near_tree.specs.Ranges.{most_counted}
use Rattle.tree_text.specs.Reading.{broken_count, is_between, is_counted}
use Rattle.tree_text.specs.Standing.{IsGoodCount, IsGoodSet, all_written, written_counted}
use Rattle.tree_text.proofs.SetLaws.{length_written, same_written, set_few}

-- counted sets from here on, with one of them anew unless it was before
abbrev pub anew_from : Bool → List Counted → Counted → List Counted
anew_from known cs d = if known then cs else counted_anew cs d

abbrev pub told_count : Bool → Bool → ℕ → Option ℕ
told_count between known at = if not between then Some 0 else (if known then None else Some at)

module _ (g : Network) where
  pub count_written : (cs : List Counted) (set : List ℕ) → All (IsGoodCount g) cs → IsGoodSet g set → count_of (all_written g cs) (written_set g set) ≡ written_counted g (count_of cs set)
  count_written [] set good is = ap (λ (n : ℕ). let c : Counted = record { set = written_set g set; least = 1; most = n } in c) (length_written g set is)
  count_written (c ∷ cs) set good is =
      let first = same_written g c.set set (All-head (IsGoodCount g) c cs good).set is in
      let rest = count_written cs set (All-tail (IsGoodCount g) c cs good) is in
      by (is_same c.set set) refl (first) rest
    where
      by : (b : Bool) → is_same c.set set ≡ b → is_same (written_set g c.set) (written_set g set) ≡ is_same c.set set → count_of (all_written g cs) (written_set g set) ≡ written_counted g (count_of cs set)
          → count_of (all_written g (c ∷ cs)) (written_set g set) ≡ written_counted g (count_of (c ∷ cs) set)
      by true e first rest = let there = first ∙ e in rw (there, e) refl
      by false e first rest = let there = first ∙ e in rw (there, e) rest

  pub anew_written : (cs : List Counted) (d : Counted) → All (IsGoodCount g) cs → IsGoodSet g d.set → counted_anew (all_written g cs) (written_counted g d) ≡ all_written g (counted_anew cs d)
  anew_written [] d good is = refl
  anew_written (c ∷ cs) d good is =
      let first = same_written g c.set d.set (All-head (IsGoodCount g) c cs good).set is in
      let rest = anew_written cs d (All-tail (IsGoodCount g) c cs good) is in
      by (is_same c.set d.set) refl first rest
    where
      by : (b : Bool) → is_same c.set d.set ≡ b → is_same (written_set g c.set) (written_set g d.set) ≡ is_same c.set d.set → counted_anew (all_written g cs) (written_counted g d) ≡ all_written g (counted_anew cs d)
          → counted_anew (all_written g (c ∷ cs)) (written_counted g d) ≡ all_written g (counted_anew (c ∷ cs) d)
      by true e first rest = let there = first ∙ e in rw (there, e) refl
      by false e first rest = let there = first ∙ e in rw (there, e) (ap (λ xs. written_counted g c ∷ xs) rest)

  pub counted_written : (cs : List Counted) (set : List ℕ) → All (IsGoodCount g) cs → IsGoodSet g set → is_counted (all_written g cs) (written_set g set) ≡ is_counted cs set
  counted_written [] set good is = refl
  counted_written (c ∷ cs) set good is =
      let first = same_written g c.set set (All-head (IsGoodCount g) c cs good).set is in
      let rest = counted_written cs set (All-tail (IsGoodCount g) c cs good) is in
      ap (λ b. b || is_counted (all_written g cs) (written_set g set)) first ∙ ap (λ b. is_same c.set set || b) rest

  -- what is asked of a count as it is written is what is asked of it by numbers
  pub broken_written : (cs : List Counted) (k : ℕ) (set : List ℕ) → All (IsGoodCount g) cs → IsGoodSet g set
      → broken_count (all_written g cs) (k, written_set g set) ≡ told_count (is_between cs k set) (is_counted cs set || nat_lt (length cs) most_counted) (length (decimal k) + 1)
  broken_written cs k set good is =
      let one = count_written cs set good is in
      let between : is_between (all_written g cs) k (written_set g set) ≡ is_between cs k set = ap (λ (c : Counted). nat_le c.least k && nat_lt k c.most) one in
      let known = counted_written cs set good is in
      let many = length-map cs (written_counted g) in
      rw (between, known, many) refl

  -- the sets stay good
  pub good_anew : (cs : List Counted) (d : Counted) → All (IsGoodCount g) cs → IsGoodCount g d → All (IsGoodCount g) (counted_anew cs d)
  good_anew [] d good is = All-cons (IsGoodCount g) d [] is (All-nil (IsGoodCount g))
  good_anew (c ∷ cs) d good is = by (is_same c.set d.set) (good_anew cs d (All-tail (IsGoodCount g) c cs good) is)
    where
      by : (b : Bool) → All (IsGoodCount g) (counted_anew cs d) → All (IsGoodCount g) (if b then d ∷ cs else c ∷ counted_anew cs d)
      by true rest = All-cons (IsGoodCount g) d cs is (All-tail (IsGoodCount g) c cs good)
      by false rest = All-cons (IsGoodCount g) c (counted_anew cs d) (All-head (IsGoodCount g) c cs good) rest

  -- at most one set more is counted
  pub length_anew : (cs : List Counted) (d : Counted) → length (counted_anew cs d) ≡ (if is_counted cs d.set then length cs else length cs + 1)
  length_anew [] d = refl
  length_anew (c ∷ cs) d = by (is_same c.set d.set) (is_counted cs d.set) (length_anew cs d)
    where
      by : (b known : Bool) → length (counted_anew cs d) ≡ (if known then length cs else length cs + 1)
          → length (if b then d ∷ cs else c ∷ counted_anew cs d) ≡ (if b || known then suc (length cs) else suc (length cs) + 1)
      by true known rest = refl
      by false true rest = ap (λ n. suc n) rest
      by false false rest = let more : suc (length cs + 1) ≡ suc (length cs) + 1 = omega arith in ap (λ n. suc n) rest ∙ more

  -- no set is entered more often than there are customers
  pub good_count : (cs : List Counted) (set : List ℕ) → All (IsGoodCount g) cs → IsGoodSet g set → IsGoodCount g (count_of cs set)
  good_count [] set good is = record { set = is; most = set_few g set is }
  good_count (c ∷ cs) set good is = by (is_same c.set set) (All-head (IsGoodCount g) c cs good) (good_count cs set (All-tail (IsGoodCount g) c cs good) is)
    where
      by : (b : Bool) → IsGoodCount g c → IsGoodCount g (count_of cs set) → IsGoodCount g (if b then c else count_of cs set)
      by true here rest = here
      by false here rest = rest
