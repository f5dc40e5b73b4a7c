-- What the command finds in words that are no options: the first of them, and then the others.
use Rattle.std.proofs.Common.{◌≡◌, ◌∙◌, ◌==◌, ◌∷◌, ◌++◌, ℕ, [], List, Bool, true, false, not, None, Some, codes, ap, refl, sym}
use Rattle.std.specs.Prelude.{⊤, ◌&&◌, fold, if◌then◌else◌, option_and_then}
use Rattle.std.specs.Str.{bytes_eq}
use Rattle.std.proofs.lemmas.List.{append-nil, append_assoc}
use Rattle.clap.proofs.OnLiterals.{clap_on_literals}
use Rattle.clap.specs.Lexer.{long_of, long_of_rest, short_of, short_of_rest, strip_byte}
use Rattle.clap.specs.Simple.{built}
use Rattle.clap.specs.Walk.{Held, Rule, Step, Text, Waiting, Walk, after_step, idle, long_or_other, nothing_held, positional, settled_rows, short_or_plain, trailing, value, walk_from, walked, word_met}
use Rattle.command_line.specs.Command.{evroute}
use Rattle.command_line.specs.Plain.{is_plain}

-- the arguments of the command, as it reads words
abbrev pub rules : List Rule
rules = (built evroute).top.rules

-- a word that is read as it stands: any word behind `--`, and else one that is no option
abbrev pub Stands : Bool → Text → Type 0
Stands true word = ⊤
Stands false word = is_plain word ≡ true

abbrev pub AllStand : Bool → List Text → Type 0
AllStand is_trailing [] = ⊤
AllStand is_trailing (word ∷ words) = Stands is_trailing word × AllStand is_trailing words

-- what is held behind the command's word and these words
abbrev pub held_after : Text → List Text → Held
held_after command [] = record { rows = []; pending = Some (codes "command", command ∷ []); skip = 0 }
held_after command (word ∷ words) = record {
  rows = settled_rows rules (Some (codes "command", command ∷ [])) [];
  pending = Some (codes "rest", word ∷ words);
  skip = 0;
}

abbrev pub waiting_after : List Text → Waiting
waiting_after [] = idle
waiting_after (word ∷ words) = positional

abbrev pub walk_after : Bool → Text → List Text → Walk
walk_after is_trailing command words = record {
  held = held_after command words;
  waiting = waiting_after words;
  position = 2;
  is_trailing = is_trailing;
  stopped = None;
}

abbrev pub walk_at_start : Bool → Walk
walk_at_start is_trailing = record (walk_from nothing_held) { is_trailing = is_trailing }

-- a word that is neither `--` nor a flag is a value
by_its_form : (words : List Text) (position : ℕ) (word : Text) (held : Held) → bytes_eq word (45 ∷ 45 ∷ []) ≡ false → long_of word ≡ None
    → short_of word ≡ None → word_met rules [] false (waiting_after words) position word held ≡ (held, value)
by_its_form [] position word held dashes long short =
    ap (λ test. if test then (held, trailing position) else long_or_other rules idle word (long_of word) held) dashes
    ∙ ap (λ found. long_or_other rules idle word found held) long ∙ ap (λ found. short_or_plain rules idle word found held) short
by_its_form (w ∷ ws) position word held dashes long short =
    ap (λ test. if test then (held, trailing position) else long_or_other rules positional word (long_of word) held) dashes
    ∙ ap (λ found. long_or_other rules positional word found held) long ∙ ap (λ found. short_or_plain rules positional word found held) short

and_false : (test : Bool) → test && false ≡ false
and_false true = refl
and_false false = refl

not_and : (test more : Bool) → not test ≡ true → test && more ≡ false
not_and true more other = absurd (cc)
not_and false more other = refl

no_long_byte : (test : Bool) → option_and_then long_of_rest (option_and_then (strip_byte 45) (if test then Some [] else None)) ≡ None
no_long_byte true = refl
no_long_byte false = refl

no_short_byte : (test : Bool) → option_and_then short_of_rest (if test then Some [] else None) ≡ None
no_short_byte true = refl
no_short_byte false = refl

no_long : (test : Bool) (rest : Text) → not test ≡ true → option_and_then long_of_rest (option_and_then (strip_byte 45) (if test then Some rest else None)) ≡ None
no_long true rest other = absurd (cc)
no_long false rest other = refl

no_short : (test : Bool) (rest : Text) → not test ≡ true → option_and_then short_of_rest (if test then Some rest else None) ≡ None
no_short true rest other = absurd (cc)
no_short false rest other = refl

-- a word that is no option is neither `--` nor a flag
pub form_of : (word : Text) → is_plain word ≡ true → (bytes_eq word (45 ∷ 45 ∷ []) ≡ false) × ((long_of word ≡ None) × (short_of word ≡ None))
form_of [] stands = (refl, (refl, refl))
form_of (b ∷ []) stands = (and_false (b == 45), (no_long_byte (b == 45), no_short_byte (b == 45)))
form_of (b ∷ c ∷ bs) stands = (not_and (b == 45) _ stands, (no_long (b == 45) (c ∷ bs) stands, no_short (b == 45) (c ∷ bs) stands))

-- a word that stands is a value
pub value_met : (is_trailing : Bool) (words : List Text) (position : ℕ) (word : Text) (held : Held) → Stands is_trailing word
    → word_met rules [] is_trailing (waiting_after words) position word held ≡ (held, value)
value_met true words position word held stands = refl
value_met false words position word held stands =
    let form = form_of word stands in
    by_its_form words position word held form.0 form.1.0 form.1.1

-- the first word is the command's
pub command_walked : (is_trailing : Bool) (command : Text) → Stands is_trailing command
    → walked rules [] (walk_at_start is_trailing) command ≡ walk_after is_trailing command []
unfolding evroute clap_on_literals
command_walked true command stands =
    ap (λ (met : Held × Step). after_step rules command (walk_at_start true) met.0 met.1) (value_met true [] 1 command nothing_held stands)
command_walked false command stands =
    ap (λ (met : Held × Step). after_step rules command (walk_at_start false) met.0 met.1) (value_met false [] 1 command nothing_held stands)

-- each other word is one more of the others
pub word_walked : (is_trailing : Bool) (command : Text) (words : List Text) (word : Text) → Stands is_trailing word
    → walked rules [] (walk_after is_trailing command words) word ≡ walk_after is_trailing command (words ++ word ∷ [])
unfolding evroute clap_on_literals
word_walked true command [] word stands =
    ap (λ (met : Held × Step). after_step rules word (walk_after true command []) met.0 met.1) (value_met true [] 2 word (held_after command []) stands)
word_walked false command [] word stands =
    ap (λ (met : Held × Step). after_step rules word (walk_after false command []) met.0 met.1) (value_met false [] 2 word (held_after command []) stands)
word_walked true command (w ∷ ws) word stands =
    ap (λ (met : Held × Step). after_step rules word (walk_after true command (w ∷ ws)) met.0 met.1)
    (value_met true (w ∷ ws) 2 word (held_after command (w ∷ ws)) stands)
word_walked false command (w ∷ ws) word stands =
    ap (λ (met : Held × Step). after_step rules word (walk_after false command (w ∷ ws)) met.0 met.1)
    (value_met false (w ∷ ws) 2 word (held_after command (w ∷ ws)) stands)

pub words_walked : (is_trailing : Bool) (command : Text) (front words : List Text) → AllStand is_trailing words
    → fold (walked rules []) (walk_after is_trailing command front) words ≡ walk_after is_trailing command (front ++ words)
words_walked is_trailing command front [] stand = ap (walk_after is_trailing command) (sym (append-nil front))
words_walked is_trailing command front (word ∷ words) stand =
    ap (λ walk. fold (walked rules []) walk words) (word_walked is_trailing command front word stand.0)
    ∙ words_walked is_trailing command (front ++ word ∷ []) words stand.1
    ∙ ap (walk_after is_trailing command) (append_assoc front (word ∷ []) words)
