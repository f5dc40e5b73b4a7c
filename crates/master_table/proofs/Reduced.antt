-- Rows divided by 1.
use Rattle.std.proofs.Common.{◌≡◌, ◌≢◌, ◌∙◌, ℕ, ap, refl, arith, ℤ, pos, negsuc, List, [], ◌∷◌, int_div, nat_eq, ne_eqb, eq-eqb, true, false, cond, get_or, unsigned_abs}
use Rattle.std.proofs.lemmas.Int.{ints}
use Rattle.master_table.specs.Pivoting.{quotients, divided_row, excess, combined_row, reduced_row, row_after}
use Rattle.master_table.specs.Tableau.{Equation}

div_one : (z : ℤ) → int_div z (pos 1) ≡ z
div_one (pos n) = omega (arith, ints)
div_one (negsuc n) = omega (arith, ints)

quotients_one : (zs : List ℤ) → quotients (pos 1) zs ≡ zs
quotients_one [] = refl
quotients_one (z ∷ zs) = let e = div_one z in let f = quotients_one zs in cc

pub divided_one : (d : ℤ) (row : Equation) → d ≡ pos 1 → row ≡ divided_row d row
divided_one d row e =
    let a = div_one row.weight in
    let b = div_one row.right in
    let f = quotients_one row.entries in
    rw (e, a, b, f) refl

-- a row that isn't the pivot's and has something of the column
pub row_after-other : (n r col i : ℕ) (turned row : Equation) → i ≢ r → excess n col i row ≢ pos 0
    → row_after n r col turned i row ≡ reduced_row n (combined_row (get_or turned.entries col (pos 0)) (excess n col i row) row turned)
row_after-other n r col i turned row apart some =
    let a : nat_eq i r ≡ false = ne_eqb i r apart in
    let b : nat_eq (unsigned_abs (excess n col i row)) 0 ≡ false = ne_eqb (unsigned_abs (excess n col i row)) 0 (λ e. some (omega (arith, ints))) in
    let next = reduced_row n (combined_row (get_or turned.entries col (pos 0)) (excess n col i row) row turned) in
    ap (λ t. cond t turned (cond (nat_eq (unsigned_abs (excess n col i row)) 0) row next)) a ∙ ap (λ t. cond t row next) b

pub row_after-same : (n r col i : ℕ) (turned row : Equation) → i ≢ r → excess n col i row ≡ pos 0 → row_after n r col turned i row ≡ row
row_after-same n r col i turned row apart none =
    let a : nat_eq i r ≡ false = ne_eqb i r apart in
    let b : nat_eq (unsigned_abs (excess n col i row)) 0 ≡ true = eq-eqb (unsigned_abs (excess n col i row)) 0 (ap unsigned_abs none) in
    let next = reduced_row n (combined_row (get_or turned.entries col (pos 0)) (excess n col i row) row turned) in
    ap (λ t. cond t turned (cond (nat_eq (unsigned_abs (excess n col i row)) 0) row next)) a ∙ ap (λ t. cond t row next) b

pub row_after-pivot : (n r col i : ℕ) (turned row : Equation) → i ≡ r → row_after n r col turned i row ≡ turned
row_after-pivot n r col i turned row same =
    let a : nat_eq i r ≡ true = eq-eqb i r same in
    let next = reduced_row n (combined_row (get_or turned.entries col (pos 0)) (excess n col i row) row turned) in
    ap (λ t. cond t turned (cond (nat_eq (unsigned_abs (excess n col i row)) 0) row next)) a
