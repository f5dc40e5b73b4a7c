-- What entries earn: step by step along routes, set by set over a fleet, and at least.
use Rattle.std.proofs.Common.{◌≡◌, ◌∙◌, ℕ, zero, suc, ◌+◌, ◌*◌, ◌≤◌, refl, List, [], ◌∷◌, ◌++◌, map, arith, inl, inr}
use Rattle.std.specs.List.{All}
use Rattle.std.specs.Prelude.{ℤ, pos, negsuc, ◌+ℤ◌, ◌*ℤ◌, ◌≤ℤ◌, if◌then◌else◌}
use Rattle.std.specs.Int.Signed.{lt_z}
use Rattle.std.proofs.Math.IntN.{negsuc-*ℤ-pos, pos-*ℤ-pos}
use Rattle.std.proofs.Math.Nat.{mul-le-mul_left}
use Rattle.std.proofs.lemmas.Bool.{cases_Bool, lt-ltb}
use Rattle.std.proofs.lemmas.Int.{ints}
use Rattle.std.proofs.lemmas.List.Elements.{All-head, All-tail}
use Rattle.ev_model.specs.Network.{Network}
use Rattle.ev_model.specs.declared.Stop.{Stop}
use Rattle.fleet_model.specs.Places.{customer_number, place_of}
use Rattle.fleet_model.specs.Prices.{price_sum}
use Rattle.near_tree.specs.Bounds.{entries_total, entries_value}
use Rattle.near_tree.specs.Branches.{Branch, Counted, IsInRange}
use Rattle.near_tree.specs.Entries.{enters, entries_among, entries_of}
use Rattle.near_tree.specs.Follows.{entries_earned, entry_earned}
use Rattle.near_tree.specs.Pairs.{fleet_pairs, next_pairs}
use Rattle.near_tree.specs.Sections.{after, NearSection}
use Rattle.near_tree.proofs.Rests.{route_earned}

times_none : (p : ℤ) → p *ℤ pos 0 ≡ pos 0
times_none (pos n) = pos-*ℤ-pos n 0 ∙ omega (arith, ints)
times_none (negsuc n) = negsuc-*ℤ-pos n 0 ∙ omega (arith, ints)

times_more : (p : ℤ) (n : ℕ) → p *ℤ pos (1 + n) ≡ p +ℤ (p *ℤ pos n)
times_more (pos m) n =
    let parts : m * (1 + n) ≡ m + m * n = omega arith in
    omega (arith, ints, pos-*ℤ-pos m (1 + n), pos-*ℤ-pos m n, parts)
times_more (negsuc m) n =
    let parts : suc m * (1 + n) ≡ suc m + suc m * n = omega arith in
    omega (arith, ints, negsuc-*ℤ-pos m (1 + n), negsuc-*ℤ-pos m n, parts)

times_zero_more : (p : ℤ) (n : ℕ) → p *ℤ pos (0 + n) ≡ pos 0 +ℤ (p *ℤ pos n)
times_zero_more p n = let same : 0 + n ≡ n = omega arith in rw same (omega (arith, ints))

pub value_none : (cs : List Counted) (prices : List ℤ) → entries_value cs prices [] ≡ pos 0
value_none [] prices = refl
value_none (c ∷ cs) [] = refl
value_none (c ∷ cs) (price ∷ prices) = omega (arith, ints, times_none price, value_none cs prices)

one_more : (set : List ℕ) (price : ℤ) (i j : ℕ) (pairs : List (ℕ × ℕ)) → price *ℤ pos (entries_among set ((i, j) ∷ pairs)) ≡ entry_earned set price (after i) j +ℤ (price *ℤ pos (entries_among set pairs))
one_more set price i j pairs = elim (cases_Bool (enters set i j)) [
  | inl is ↦ rw is (times_more price (entries_among set pairs))
  | inr other ↦ rw other (times_zero_more price (entries_among set pairs))
]

value_more : (cs : List Counted) (prices : List ℤ) (i j : ℕ) (pairs : List (ℕ × ℕ)) → entries_value cs prices ((i, j) ∷ pairs) ≡ entries_earned cs prices (after i) j +ℤ entries_value cs prices pairs
value_more [] prices i j pairs = omega (arith, ints)
value_more (c ∷ cs) [] i j pairs = omega (arith, ints)
value_more (c ∷ cs) (price ∷ prices) i j pairs = omega (arith, ints, one_more c.set price i j pairs, value_more cs prices i j pairs)

pub value_append : (cs : List Counted) (prices : List ℤ) (xs ys : List (ℕ × ℕ)) → entries_value cs prices (xs ++ ys) ≡ entries_value cs prices xs +ℤ entries_value cs prices ys
value_append cs prices [] ys = omega (arith, ints, value_none cs prices)
value_append cs prices (x ∷ xs) ys = omega (arith, ints, value_more cs prices x.0 x.1 (xs ++ ys), value_more cs prices x.0 x.1 xs, value_append cs prices xs ys)

-- the way home enters no set
home_earns : (cs : List Counted) (prices : List ℤ) (i : ℕ) → entries_earned cs prices (after i) 0 ≡ pos 0
home_earns [] prices i = refl
home_earns (c ∷ cs) [] i = refl
home_earns (c ∷ cs) (price ∷ prices) i = omega (arith, ints, home_earns cs prices i)

-- what a route earns is its customers' prices and its entries
pub earned_value : (g : Network) (b : Branch) (s : NearSection) (i : ℕ) (xs : List ℕ) →
    route_earned g b s i xs ≡ price_sum s.prices (map (customer_number g) xs) +ℤ entries_value b.counted s.entry_prices (next_pairs (i ∷ map (place_of g) xs ++ 0 ∷ []))
earned_value g b s i [] = omega (arith, ints, value_more b.counted s.entry_prices i 0 [], value_none b.counted s.entry_prices, home_earns b.counted s.entry_prices i)
earned_value g b s i (x ∷ xs) =
    let rest = earned_value g b s (place_of g x) xs in
    let more = value_more b.counted s.entry_prices i (place_of g x) (next_pairs (place_of g x ∷ map (place_of g) xs ++ 0 ∷ [])) in
    omega (arith, ints, rest, more)

-- within its range, what the entries into a set earn is no less than the least
entry_least : (price : ℤ) (least most n : ℕ) → least ≤ n → n ≤ most → (price *ℤ pos (if lt_z (pos 0) price then least else most)) ≤ℤ (price *ℤ pos n)
entry_least (pos zero) least most n low high = omega (arith, ints, pos-*ℤ-pos 0 most, pos-*ℤ-pos 0 n)
entry_least (pos (suc p)) least most n low high =
    let scaled : suc p * least ≤ suc p * n = mul-le-mul_left (suc p) low in
    rw (lt-ltb 0 (suc p) (omega arith)) (omega (arith, ints, pos-*ℤ-pos (suc p) least, pos-*ℤ-pos (suc p) n, scaled))
entry_least (negsuc p) least most n low high =
    let scaled : suc p * n ≤ suc p * most = mul-le-mul_left (suc p) high in
    omega (arith, ints, negsuc-*ℤ-pos p most, negsuc-*ℤ-pos p n, scaled)

pub total_least : (g : Network) (plans : List (List Stop)) (cs : List Counted) (prices : List ℤ) → All (IsInRange g plans) cs → entries_total cs prices ≤ℤ entries_value cs prices (fleet_pairs g plans)
total_least g plans [] prices all = omega (arith, ints)
total_least g plans (c ∷ cs) [] all = omega (arith, ints)
total_least g plans (c ∷ cs) (price ∷ prices) all =
    let here = All-head (IsInRange g plans) c cs all in
    let first = entry_least price c.least c.most (entries_of g c.set plans) here.least here.most in
    omega (arith, ints, first, total_least g plans cs prices (All-tail (IsInRange g plans) c cs all))
