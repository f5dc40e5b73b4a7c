-- The orders that single moves make: their customers, and the lists that the routes then have.
use Rattle.std.proofs.Common.{◌≡◌, ◌≢◌, ◌∙◌, ℕ, suc, ◌+◌, ◌<◌, List, [], ◌∷◌, ◌++◌, length, set, take, drop, refl, sym, ap, arith, inl, inr, sum_by, set-set}
use Rattle.std.specs.Prelude.{insert, nat_eq, remove, slice_index, if◌then◌else◌}
use Rattle.std.specs.List.{All}
use Rattle.std.proofs.lemmas.Bool.{cases_eq}
use Rattle.std.proofs.lemmas.Grind.{get_or-set_at}
use Rattle.std.proofs.lemmas.List.{get_or-set_other, get_or-set_same, length-set}
use Rattle.std.proofs.lemmas.List.Elements.{All-append, All-cons, All-drop, All-take}
use Rattle.std.proofs.lemmas.List.Sums.{sum_by-append, sum_by-cons, sum_by-insert, sum_by-remove, sum_by-set}
use Rattle.ev_model.specs.Fleet.{times_in}
use Rattle.index_links.specs.Lists.{list_at}
use Rattle.route_improve.specs.Moves.{exchanged, relocated, taken_out}

abbrev one_if : ℕ → ℕ → ℕ
one_if node x = if nat_eq x node then 1 else 0

times_summed : (xs : List ℕ) (node : ℕ) → times_in xs node ≡ sum_by (one_if node) xs
times_summed [] node = refl
times_summed (x ∷ xs) node = omega (arith, times_summed xs node, sum_by-cons (one_if node) x xs)

pub All-remove : {X : Type 0} (P : X → Type 0) (xs : List X) (i : ℕ) → All P xs → All P (remove xs i)
All-remove P xs i all = All-append P (take i xs) (drop (suc i) xs) (All-take P i xs all) (All-drop P (suc i) xs all)

pub All-insert : {X : Type 0} (P : X → Type 0) (xs : List X) (i : ℕ) (x : X) → P x → All P xs → All P (insert xs i x)
All-insert P xs i x is all = All-append P (take i xs) (x ∷ drop i xs) (All-take P i xs all) (All-cons P x (drop i xs) is (All-drop P i xs all))

-- ---- how often a node stands in the new orders

pub times_remove : (xs : List ℕ) (i node : ℕ) → i < length xs → times_in (remove xs i) node + one_if node (slice_index xs i) ≡ times_in xs node
times_remove xs i node within = omega (arith, times_summed xs node, times_summed (remove xs i) node, sum_by-remove (one_if node) xs i 0 within)

pub times_insert : (xs : List ℕ) (j x node : ℕ) → times_in (insert xs j x) node ≡ times_in xs node + one_if node x
times_insert xs j x node = omega (arith, times_summed xs node, times_summed (insert xs j x) node, sum_by-insert (one_if node) xs j x)

pub times_set : (xs : List ℕ) (i x node : ℕ) → i < length xs → times_in (set xs i x) node + one_if node (slice_index xs i) ≡ times_in xs node + one_if node x
times_set xs i x node within = omega (arith, times_summed xs node, times_summed (set xs i x) node, sum_by-set (one_if node) xs i x 0 within)

pub times_append : (xs ys : List ℕ) (node : ℕ) → times_in (xs ++ ys) node ≡ times_in xs node + times_in ys node
times_append xs ys node = omega (arith, times_summed xs node, times_summed ys node, times_summed (xs ++ ys) node, sum_by-append (one_if node) xs ys)

pub moved_within : (xs : List ℕ) (i j node : ℕ) → i < length xs → times_in (insert (remove xs i) j (slice_index xs i)) node ≡ times_in xs node
moved_within xs i j node within = omega (arith, times_remove xs i node within, times_insert (remove xs i) j (slice_index xs i) node)

pub moved_between : (xs ys : List ℕ) (i j node : ℕ) → i < length xs → times_in (remove xs i) node + times_in (insert ys j (slice_index xs i)) node ≡ times_in xs node + times_in ys node
moved_between xs ys i j node within = omega (arith, times_remove xs i node within, times_insert ys j (slice_index xs i) node)

pub swapped_between : (xs ys : List ℕ) (i j node : ℕ) → i < length xs → j < length ys
    → times_in (set xs i (slice_index ys j)) node + times_in (set ys j (slice_index xs i)) node ≡ times_in xs node + times_in ys node
swapped_between xs ys i j node one other = omega (arith, times_set xs i (slice_index ys j) node one, times_set ys j (slice_index xs i) node other)

pub swapped_within : (xs : List ℕ) (i j node : ℕ) → i < length xs → j < length xs → times_in (set (set xs i (slice_index xs j)) j (slice_index xs i)) node ≡ times_in xs node
swapped_within xs i j node one other =
    let first = set xs i (slice_index xs j) in
    let there : j < length first = rw length-set other in
    let same : slice_index first j ≡ slice_index xs j = elim (cases_eq j i) [
      | inl equal ↦ get_or-set_at xs i j (slice_index xs j) 0 equal one
      | inr apart ↦ get_or-set_other xs i j (slice_index xs j) 0 apart
    ] in
    let whole = ap (one_if node) same in
    omega (arith, times_set xs i (slice_index xs j) node one, times_set first j (slice_index xs i) node there, whole)

-- ---- the lists after a move

pub relocated_within : (lists : List (List ℕ)) (a i j : ℕ) → a < length lists
    → relocated lists a i a j ≡ set lists a (insert (remove (list_at lists a) i) j (slice_index (list_at lists a) i))
relocated_within lists a i j within =
    let there : list_at (taken_out lists a i) a ≡ remove (list_at lists a) i = get_or-set_same lists a (remove (list_at lists a) i) [] within in
    ap (λ l. set (taken_out lists a i) a (insert l j (slice_index (list_at lists a) i))) there ∙ set-set lists a _ _

pub relocated_between : (lists : List (List ℕ)) (a i b j : ℕ) → a ≢ b
    → relocated lists a i b j ≡ set (set lists a (remove (list_at lists a) i)) b (insert (list_at lists b) j (slice_index (list_at lists a) i))
relocated_between lists a i b j apart =
    let there : list_at (taken_out lists a i) b ≡ list_at lists b = get_or-set_other lists a b (remove (list_at lists a) i) [] (λ same. apart (sym same)) in
    ap (λ l. set (taken_out lists a i) b (insert l j (slice_index (list_at lists a) i))) there

pub exchanged_within : (lists : List (List ℕ)) (a i j : ℕ) → a < length lists
    → exchanged lists a i a j ≡ set lists a (set (set (list_at lists a) i (slice_index (list_at lists a) j)) j (slice_index (list_at lists a) i))
exchanged_within lists a i j within =
    let first = set (list_at lists a) i (slice_index (list_at lists a) j) in
    let there : list_at (set lists a first) a ≡ first = get_or-set_same lists a first [] within in
    ap (λ l. set (set lists a first) a (set l j (slice_index (list_at lists a) i))) there ∙ set-set lists a _ _

pub exchanged_between : (lists : List (List ℕ)) (a i b j : ℕ) → a ≢ b
    → exchanged lists a i b j ≡ set (set lists a (set (list_at lists a) i (slice_index (list_at lists b) j))) b (set (list_at lists b) j (slice_index (list_at lists a) i))
exchanged_between lists a i b j apart =
    let first = set (list_at lists a) i (slice_index (list_at lists b) j) in
    let there : list_at (set lists a first) b ≡ list_at lists b = get_or-set_other lists a b first [] (λ same. apart (sym same)) in
    ap (λ l. set (set lists a first) b (set l j (slice_index (list_at lists a) i))) there
