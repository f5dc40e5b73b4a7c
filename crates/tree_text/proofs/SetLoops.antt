-- Reading the near sets, one after another.
use Rattle.std.proofs.Common.{◌≡◌, ◌∙◌, ◌⊎◌, inl, inr, ℕ, zero, suc, ◌+◌, ◌-◌, ◌<◌, ◌≤◌, true, List, [], ◌∷◌, ◌++◌, Some, slice_get, length, length-append, map, Ok, Err, refl, sym, ap, subst, arith}
use Rattle.std.specs.List.{All}
use Rattle.std.proofs.lemmas.List.Elements.{All-nil}
use Rattle.customer_sets.specs.CustSet.{has}
use Rattle.tree_text.specs.TreeIn.{IsKeptSet}
use Rattle.ev_model.specs.Network.{Network}
use Rattle.ev_text.specs.declared.TextFault.{TextFault}
use Rattle.ev_text.proofs.RunLoops.{IsRunTo, run-begins, run-breaks, run-ends, run-goes_on}
use Rattle.certificate_parts.specs.Ranges.{customer_count}
use Rattle.certificate_parts.proofs.ItemLoops.{all_more}
use Rattle.near_proof.specs.Ranges.{AreAmong, SetsFit}
use Rattle.near_text.specs.Reading.{near_at, nears_at}
use Rattle.near_text.specs.Written.{written_set}
use Rattle.near_text.specs.WrittenRanges.{next_number}

map_more : {A B : Type 0} (f : B → A) (items : List B) (item : B) → map f (items ++ item ∷ []) ≡ map f items ++ f item ∷ []
map_more f [] item = refl
map_more f (x ∷ xs) item = ap (λ ys. f x ∷ ys) (map_more f xs item)

pushed : (xs : List (List ℕ)) (x y : List ℕ) (c : ℕ) → slice_get (xs ++ x ∷ []) c ≡ Some y → (slice_get xs c ≡ Some y) ⊎ ((c ≡ length xs) × (x ≡ y))
pushed [] x y zero is = let same : x ≡ y = cc in inr (refl, same)
pushed [] x y (suc c) is = absurd (cc)
pushed (z ∷ zs) x y zero is = inl is
pushed (z ∷ zs) x y (suc c) is = elim (pushed zs x y c is) [ inl h ↦ inl h | inr h ↦ inr (ap (λ n. suc n) h.0, h.1) ]

module _ (g : Network) where
  -- the sets of the customers below a number
  pub record SetsUpTo (start : List ℕ × ℕ) (sets : List (List ℕ)) (number : ℕ) (s : List ℕ × ℕ) : Type 0 where
    pub run : IsRunTo (near_at g) next_number (nears_at g (customer_count g) 0 start) (map (written_set g) sets) (customer_count g - number) number s
    pub many : length sets ≡ number
    pub among : All (AreAmong (customer_count g)) sets
    pub own : (c : ℕ) (set : List ℕ) → slice_get sets c ≡ Some set → has set c ≡ true
    pub kept : All IsKeptSet sets

  none_own : (sets : List (List ℕ)) → sets ≡ [] → (c : ℕ) (set : List ℕ) → slice_get sets c ≡ Some set → has set c ≡ true
  none_own [] none c set is = absurd (cc)
  none_own (x ∷ xs) none c set is = absurd (cc)

  pub sets-begin : (start : List ℕ × ℕ) (sets : List (List ℕ)) → sets ≡ [] → SetsUpTo start sets 0 start
  sets-begin start sets none = record {
    run = run-begins (near_at g) next_number (customer_count g) (customer_count g - 0) (map (written_set g) sets) 0 start (omega arith) (ap (λ xs. map (written_set g) xs) none);
    many = ap (λ (xs : List (List ℕ)). length xs) none;
    among = subst (All (AreAmong (customer_count g))) (sym none) (All-nil (AreAmong (customer_count g)));
    own = none_own sets none;
    kept = subst (All IsKeptSet) (sym none) (All-nil IsKeptSet);
  }

  pub sets-go_on : (start s t : List ℕ × ℕ) (sets more : List (List ℕ)) (set : List ℕ) (number : ℕ) → number < customer_count g → SetsUpTo start sets number s → near_at g number s ≡ Ok (written_set g set, t)
      → AreAmong (customer_count g) set → has set number ≡ true → IsKeptSet set → more ≡ sets ++ set ∷ [] → SetsUpTo start more (number + 1) t
  sets-go_on start s t sets more set number less so_far found among_it own_it kept_it is = record {
    run = run-goes_on (near_at g) next_number (nears_at g (customer_count g) 0 start) s t (customer_count g - number) (customer_count g - (number + 1)) number (map (written_set g) sets) (map (written_set g) more) (written_set g set)
        (omega (arith, less)) so_far.run found (ap (λ xs. map (written_set g) xs) is ∙ map_more (written_set g) sets set);
    many = let before = so_far.many in omega (arith, before, ap (λ (xs : List (List ℕ)). length xs) is, length-append sets (set ∷ []));
    among = all_more (AreAmong (customer_count g)) sets more set so_far.among among_it is;
    own = λ c other at. elim (pushed sets set other c (ap (λ (xs : List (List ℕ)). slice_get xs c) (sym is) ∙ at)) [
      | inl h ↦ so_far.own c other h
      | inr h ↦
          let place : number ≡ c = sym so_far.many ∙ sym h.0 in
          subst (λ (n : ℕ). has other n ≡ true) place (subst (λ (x : List ℕ). has x number ≡ true) h.1 own_it)
    ];
    kept = all_more IsKeptSet sets more set so_far.kept kept_it is;
  }

  pub sets-break : (start s : List ℕ × ℕ) (sets : List (List ℕ)) (number : ℕ) (fault : TextFault) → number < customer_count g → SetsUpTo start sets number s → near_at g number s ≡ Err fault → nears_at g (customer_count g) 0 start ≡ Err fault
  sets-break start s sets number fault less so_far found =
      run-breaks (near_at g) next_number (nears_at g (customer_count g) 0 start) s (customer_count g - number) (customer_count g - (number + 1)) number (map (written_set g) sets) fault (omega (arith, less)) so_far.run found

  pub sets-end : (start s : List ℕ × ℕ) (sets : List (List ℕ)) (number : ℕ) → customer_count g ≤ number → SetsUpTo start sets number s → nears_at g (customer_count g) 0 start ≡ Ok (map (written_set g) sets, s)
  sets-end start s sets number past so_far =
      run-ends (near_at g) next_number (nears_at g (customer_count g) 0 start) s (customer_count g - number) number (map (written_set g) sets) (omega (arith, past)) so_far.run

  pub sets-fit : (start s : List ℕ × ℕ) (sets : List (List ℕ)) (number : ℕ) → number ≡ customer_count g → SetsUpTo start sets number s → SetsFit (customer_count g) sets
  sets-fit start s sets number all so_far = record { one_set = so_far.many ∙ all; among = so_far.among; own = so_far.own }
