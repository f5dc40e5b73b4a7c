-- Reading the lines of a tree, one after another: those so far, as they are written, in front of those until no tree is open.
use Rattle.std.proofs.Common.{◌≡◌, ◌∙◌, ℕ, zero, suc, ◌+◌, ◌<◌, ◌≤◌, List, [], ◌∷◌, ◌++◌, length, length-append, length-drop, map, Result, Ok, Err, codes, refl, sym, ap, subst, append-nil, arith}
use Rattle.std.specs.List.{All}
use Rattle.std.proofs.lemmas.List.Elements.{All-nil, All-push}
use Rattle.ev_model.specs.Network.{Network}
use Rattle.ev_text.specs.Scans.{and_then, rest_of, word_at}
use Rattle.ev_text.specs.declared.TextFault.{TextFault}
use Rattle.ev_text.specs.declared.TextFault.TheVariants.{End}
use Rattle.ev_text.proofs.Loops.{in_front, in_front-none, in_front-twice}
use Rattle.ev_text.proofs.Readings.{word_at-at_end}
use Rattle.ev_text.proofs.Results.{no_bytes}
use Rattle.bound_certificate.specs.CertificateTexts.{line_text}
use Rattle.certificate_parts.specs.Ranges.{customer_count}
use Rattle.bound_certificate.specs.Ranges.{LineFits}
use Rattle.bound_certificate.specs.Reading.{few_lines, line_at, tree_at}
use Rattle.bound_certificate.specs.Trees.{open_behind}
use Rattle.bound_certificate.specs.Written.{written_line}
use Rattle.bound_certificate.specs.declared.certificate.TreeLine.{TreeLine}
use Rattle.bound_certificate.specs.declared.certificate.TreeLine.TheVariants.{Split, Leaf}
use Rattle.bound_certificate.proofs.CertificateReading.{line_is_some}
use Rattle.bound_certificate.proofs.TreeParts.{reads-tree_line}

module _ (g : Network) (sections : ℕ) where
  -- a line leaves less of the text
  pub line_shorter : (s t : List ℕ × ℕ) (line : TreeLine) → line_at g sections s ≡ Ok (line, t) → length (rest_of t) < length (rest_of s)
  line_shorter s t line is =
      let stands = (reads-tree_line g sections).standing s t line is in
      omega (arith, ap (λ xs. length xs) stands.1, length-append (line_text line) (rest_of t), line_is_some line)

  no_line : (s : List ℕ × ℕ) → rest_of s ≡ [] → line_at g sections s ≡ Err (End s.1)
  no_line s none =
      let cut : word_at (codes "split ") s ≡ Err (End s.1) = word_at-at_end 115 (codes "plit ") s none in
      rw cut refl

  same_open : (line : TreeLine) (trees : ℕ) → open_behind (written_line g line) trees ≡ open_behind line trees
  same_open (Split i j) trees = refl
  same_open (Leaf n) trees = refl

  map_push : (lines : List TreeLine) (line : TreeLine) → map (written_line g) (lines ++ line ∷ []) ≡ map (written_line g) lines ++ written_line g line ∷ []
  map_push [] line = refl
  map_push (x ∷ xs) line = ap (λ ys. written_line g x ∷ ys) (map_push xs line)

  pub record AreLinesTo (start : List ℕ × ℕ) (lines : List TreeLine) (trees : ℕ) (s : List ℕ × ℕ) : Type 0 where
    pub most : ℕ
    pub enough : length (rest_of s) ≤ most
    pub so_far : in_front (map (written_line g) lines) (few_lines (line_at g sections) most trees s) ≡ tree_at (line_at g sections) start
    pub few : trees ≤ length lines + 1
    pub fit : All (LineFits (customer_count g) sections) lines

  pub lines-begin : (start : List ℕ × ℕ) (lines : List TreeLine) → lines ≡ [] → AreLinesTo start lines 1 start
  lines-begin start lines none = record {
    most = length start.0;
    enough = omega (arith, length-drop start.1 start.0);
    so_far = ap (λ xs. in_front (map (written_line g) xs) (few_lines (line_at g sections) (length start.0) 1 start)) none ∙ in_front-none (few_lines (line_at g sections) (length start.0) 1 start);
    few = omega arith;
    fit = subst (All (LineFits (customer_count g) sections)) (sym none) (All-nil (LineFits (customer_count g) sections));
  }

  step : (most trees : ℕ) (s t : List ℕ × ℕ) (line : TreeLine) → length (rest_of s) ≤ most → 0 < trees → line_at g sections s ≡ Ok (line, t)
      → (fewer : ℕ) × (most ≡ suc fewer) × (few_lines (line_at g sections) most trees s ≡ in_front (line ∷ []) (few_lines (line_at g sections) fewer (open_behind line trees) t))
  step most zero s t line le some found = absurd (omega (arith, some))
  step zero (suc trees) s t line le some found = absurd (let less = line_shorter s t line found in omega (arith, le, less))
  step (suc most) (suc trees) s t line le some found =
      (most, refl, ap (λ r. and_then r (λ first. in_front (first.0 ∷ []) (few_lines (line_at g sections) most (open_behind first.0 (suc trees)) first.1))) found)

  few_open : (lines more : List TreeLine) (line : TreeLine) (trees after : ℕ) → trees ≤ length lines + 1 → more ≡ lines ++ line ∷ [] → after ≡ open_behind line trees → after ≤ length more + 1
  few_open lines more (Split i j) trees after few is e = omega (arith, few, e, ap (λ xs. length xs) is, length-append lines (Split i j ∷ []))
  few_open lines more (Leaf n) trees after few is e = omega (arith, few, e, ap (λ xs. length xs) is, length-append lines (Leaf n ∷ []))

  pub lines-go_on : (start s t : List ℕ × ℕ) (lines more : List TreeLine) (line : TreeLine) (trees after : ℕ) → AreLinesTo start lines trees s → 0 < trees → line_at g sections s ≡ Ok (written_line g line, t) → LineFits (customer_count g) sections line
      → more ≡ lines ++ line ∷ [] → after ≡ open_behind line trees → AreLinesTo start more after t
  lines-go_on start s t lines more line trees after before some found fits is after_is =
      let next = step before.most trees s t (written_line g line) before.enough some found in
      let opened : after ≡ open_behind (written_line g line) trees = after_is ∙ sym (same_open line trees) in
      let rest = few_lines (line_at g sections) next.0 (open_behind (written_line g line) trees) t in
      record {
        most = next.0;
        enough = let less = line_shorter s t (written_line g line) found in let enough = before.enough in omega (arith, less, enough, next.1);
        so_far =
            ap (λ n. in_front (map (written_line g) more) (few_lines (line_at g sections) next.0 n t)) opened
            ∙ ap (λ xs. in_front xs rest) (ap (λ xs. map (written_line g) xs) is ∙ map_push lines line)
            ∙ sym (in_front-twice (map (written_line g) lines) (written_line g line) rest)
            ∙ ap (λ r. in_front (map (written_line g) lines) r) (sym next.2)
            ∙ before.so_far;
        few = few_open lines more line trees after before.few is after_is;
        fit = subst (All (LineFits (customer_count g) sections)) (sym is) (All-push (LineFits (customer_count g) sections) lines line before.fit fits);
      }

  same_fault : (one other : TextFault) → ◌≡◌ {A = Result (TreeLine × (List ℕ × ℕ)) TextFault} (Err one) (Err other) → one ≡ other
  same_fault one other is = cc

  pub lines-break : (start s : List ℕ × ℕ) (lines : List TreeLine) (trees : ℕ) (fault : TextFault) → AreLinesTo start lines trees s → 0 < trees → line_at g sections s ≡ Err fault → tree_at (line_at g sections) start ≡ Err fault
  lines-break start s lines trees fault before some found = sym before.so_far ∙ ap (λ r. in_front (map (written_line g) lines) r) (at before.most trees before.enough some)
    where
      at : (most trees : ℕ) → length (rest_of s) ≤ most → 0 < trees → few_lines (line_at g sections) most trees s ≡ Err fault
      at most zero le some = absurd (omega (arith, some))
      at zero (suc trees) le some = ap (λ f. Err f) (same_fault (End s.1) fault (sym (no_line s (no_bytes (rest_of s) (omega (arith, le)))) ∙ found))
      at (suc most) (suc trees) le some = ap (λ r. and_then r (λ first. in_front (first.0 ∷ []) (few_lines (line_at g sections) most (open_behind first.0 (suc trees)) first.1))) found

  pub lines-end : (start s : List ℕ × ℕ) (lines : List TreeLine) (trees : ℕ) → AreLinesTo start lines trees s → trees ≡ 0 → tree_at (line_at g sections) start ≡ Ok (map (written_line g) lines, s)
  lines-end start s lines trees before none =
      sym before.so_far ∙ ap (λ n. in_front (map (written_line g) lines) (few_lines (line_at g sections) before.most n s)) none ∙ at before.most
    where
      at : (most : ℕ) → in_front (map (written_line g) lines) (few_lines (line_at g sections) most 0 s) ≡ Ok (map (written_line g) lines, s)
      at zero = ap (λ (xs : List TreeLine). Ok (xs, s)) (append-nil (map (written_line g) lines))
      at (suc most) = ap (λ (xs : List TreeLine). Ok (xs, s)) (append-nil (map (written_line g) lines))
