-- The command takes words that are no options, and their job is that of the first and of the others.
use Rattle.std.proofs.Common.{◌≡◌, ◌∙◌, ◌-◌, ◌^◌, ◌<◌, ◌∷◌, ◌++◌, ◌&&◌, ℕ, [], List, None, Bool, Global, String, true, false, length, map, string_bytes, codes, arith, ap, refl, sym}
use Rattle.std.specs.Prelude.{fold, if◌then◌else◌, is_some}
use Rattle.std.specs.Bool.{◌==◌}
use Rattle.std.specs.List.{list_all}
use Rattle.std.specs.Option.{option_map_or}
use Rattle.std.proofs.lemmas.Bool.Decides.{nat_tests}
use Rattle.clap.proofs.OnLiterals.{clap_on_literals}
use Rattle.clap.specs.Faults.{bundle_fault, check_fault, defaults_fault, entered_fault, flag_word_fault, settle_fault, step_fault, turn_fault, walk_fault, word_fault}
use Rattle.clap.specs.Kinds.{Kinds, or_else, range_kinds, values_kinds}
use Rattle.clap.specs.Lexer.{long_of}
use Rattle.clap.specs.Simple.{Shape, built, entered}
use Rattle.clap.specs.Walk.{Held, Row, Step, Text, Walk, finished, nothing_held, settled, value, walk, walk_from, walked}
use Rattle.clap.specs.Words.{fault_of, matches_of}
use Rattle.clap.specs.declared.builder.value_parser.ValueParser.TheVariants as vp
use Rattle.command_line.proofs.Plain.{AllStand, Stands, command_walked, form_of, held_after, rules, value_met, waiting_after, walk_after, walk_at_start, word_walked, words_walked}
use Rattle.command_line.specs.Command.{evroute}
use Rattle.command_line.specs.Plain.{is_plain}
use Rattle.call_words.specs.Matches.{job_unless}
use Rattle.command_line.specs.Words.{job_in, job_of, job_of_command, named}

abbrev pub shape : Shape
shape = (built evroute).top

-- a word that stands is no fault
no_word_fault : (is_trailing : Bool) (words : List Text) (word : Text) (held : Held) → Stands is_trailing word
    → word_fault shape [] is_trailing (waiting_after words) word held ≡ []
unfolding evroute clap_on_literals
no_word_fault true words word held stands = refl
no_word_fault false [] word held stands =
    let form = form_of word stands in
    ap (λ test. if test then [] else flag_word_fault rules false (long_of word) word held) form.0
    ∙ ap (λ found. flag_word_fault rules false found word held) form.1.0
    ∙ ap (λ found. option_map_or (λ flags. bundle_fault rules false flags held) found []) form.1.1
no_word_fault false (w ∷ ws) word held stands =
    let form = form_of word stands in
    ap (λ test. if test then [] else flag_word_fault rules false (long_of word) word held) form.0
    ∙ ap (λ found. flag_word_fault rules false found word held) form.1.0
    ∙ ap (λ found. option_map_or (λ flags. bundle_fault rules false flags held) found []) form.1.1

no_step_fault : (command : Text) (words : List Text) → step_fault shape 2 (held_after command words) value ≡ []
unfolding evroute clap_on_literals
no_step_fault command [] = refl
no_step_fault command (w ∷ ws) = refl

-- neither the first word nor another one is a fault
no_first_fault : (is_trailing : Bool) (command : Text) → Stands is_trailing command → turn_fault shape [] (walk_at_start is_trailing) command ≡ []
unfolding evroute clap_on_literals
no_first_fault true command stands = refl
no_first_fault false command stands =
    ap (λ (met : Held × Step). or_else (word_fault shape [] false (waiting_after []) command nothing_held) (step_fault shape 1 met.0 met.1))
    (value_met false [] 1 command nothing_held stands)
    ∙ ap (λ kinds. or_else kinds []) (no_word_fault false [] command nothing_held stands)

no_turn_fault : (is_trailing : Bool) (command : Text) (words : List Text) (word : Text) → Stands is_trailing word
    → turn_fault shape [] (walk_after is_trailing command words) word ≡ []
unfolding evroute clap_on_literals
no_turn_fault is_trailing command words word stands =
    let held = held_after command words in
    ap (λ (met : Held × Step). or_else (word_fault shape [] is_trailing (waiting_after words) word held) (step_fault shape 2 met.0 met.1))
    (value_met is_trailing words 2 word held stands)
    ∙ ap (λ kinds. or_else kinds (step_fault shape 2 held value)) (no_word_fault is_trailing words word held stands)
    ∙ no_step_fault command words

no_walk_fault : (is_trailing : Bool) (command : Text) (front words : List Text) → AllStand is_trailing words
    → walk_fault shape [] (walk_after is_trailing command front) words ≡ []
unfolding evroute clap_on_literals
no_walk_fault is_trailing command front [] stand = refl
no_walk_fault is_trailing command front (word ∷ words) stand =
    ap (λ kinds. or_else kinds (walk_fault shape [] (walked rules [] (walk_after is_trailing command front) word) words))
    (no_turn_fault is_trailing command front word stand.0)
    ∙ ap (λ walk. walk_fault shape [] walk words) (word_walked is_trailing command front word stand.0)
    ∙ no_walk_fault is_trailing command (front ++ word ∷ []) words stand.1

no_fault_from_start : (is_trailing : Bool) (command : Text) (words : List Text) → Stands is_trailing command → AllStand is_trailing words
    → walk_fault shape [] (walk_at_start is_trailing) (command ∷ words) ≡ []
unfolding evroute clap_on_literals
no_fault_from_start is_trailing command words stands stand =
    ap (λ kinds. or_else kinds (walk_fault shape [] (walked rules [] (walk_at_start is_trailing) command) words))
    (no_first_fault is_trailing command stands)
    ∙ ap (λ walk. walk_fault shape [] walk words) (command_walked is_trailing command stands)
    ∙ no_walk_fault is_trailing command [] words stand

-- the faults behind the walk
abbrev pub faults_after : Kinds → Kinds → List Row → Kinds
faults_after walked settled rows = or_else walked (or_else settled (or_else (defaults_fault rows rules) (check_fault shape rows false)))

in_range : (n : ℕ) → n < 2 ^ 64 → range_kinds 0 (2 ^ 64 - 1) n ≡ []
in_range n small = grind (arith, nat_tests)

texts_pass : (words : List Text) → values_kinds false vp.String words ≡ []
texts_pass [] = refl
texts_pass (word ∷ words) = texts_pass words

no_settle_fault : (command : Text) (words : List Text) → length words < 2 ^ 64 → settle_fault rules false (held_after command words) ≡ []
unfolding evroute clap_on_literals
no_settle_fault command [] small = refl
no_settle_fault command (word ∷ words) small =
    ap (λ kinds. or_else kinds (values_kinds false vp.String (word ∷ words))) (in_range (length (word ∷ words)) small)
    ∙ texts_pass (word ∷ words)

no_late_fault : (command : Text) (words : List Text) → faults_after [] [] (settled rules (held_after command words)).rows ≡ []
unfolding evroute clap_on_literals
no_late_fault command [] = refl
no_late_fault command (word ∷ words) = refl

found_job : (command : Text) (words : List Text) → job_in (finished rules (held_after command words)) ≡ job_of_command command words []
unfolding evroute clap_on_literals
found_job command [] = refl
found_job command (a ∷ []) = refl
found_job command (a ∷ b ∷ []) = refl
found_job command (a ∷ b ∷ c ∷ []) = refl
found_job command (a ∷ b ∷ c ∷ d ∷ []) = refl
found_job command (a ∷ b ∷ c ∷ d ∷ e ∷ words) = refl

-- the faults of words, by where their walk ends without a subcommand and by the faults on the way
abbrev pub faults_by : Kinds → Walk → Kinds
faults_by met end =
    or_else met
    (or_else (entered_fault (built evroute) end.stopped)
    (or_else (settle_fault rules false end.held)
    (or_else (defaults_fault (settled rules end.held).rows rules)
    (check_fault shape (finished rules end.held) (is_some (entered (built evroute) end.stopped))))))

by_the_walk : (words : List Text) → fault_of evroute (named words) ≡ faults_by (walk_fault shape [] (walk_from nothing_held) words) (walk rules [] nothing_held words)
unfolding evroute clap_on_literals
by_the_walk words = refl

rows_of_the_walk : (words : List Text) → matches_of evroute (named words) ≡ finished rules (walk rules [] nothing_held words).held
unfolding evroute clap_on_literals
rows_of_the_walk words = refl

no_fault_at_end : (is_trailing : Bool) (command : Text) (words : List Text) → length words < 2 ^ 64 → faults_by [] (walk_after is_trailing command words) ≡ []
unfolding evroute clap_on_literals
no_fault_at_end is_trailing command [] small = refl
no_fault_at_end is_trailing command (word ∷ words) small =
    ap (λ kinds. or_else kinds (faults_after [] [] (settled rules (held_after command (word ∷ words))).rows)) (no_settle_fault command (word ∷ words) small)
    ∙ no_late_fault command (word ∷ words)

-- words whose walk meets no fault and ends behind a command and other words
job_by_the_walk : (all : List Text) (is_trailing : Bool) (command : Text) (words : List Text) → length words < 2 ^ 64
    → walk_fault shape [] (walk_from nothing_held) all ≡ [] → walk rules [] nothing_held all ≡ walk_after is_trailing command words
    → job_of all ≡ job_of_command command words []
job_by_the_walk all is_trailing command words small met walked =
    let none : fault_of evroute (named all) ≡ [] =
    by_the_walk all ∙ ap (λ kinds. faults_by kinds (walk rules [] nothing_held all)) met ∙ ap (faults_by []) walked
    ∙ no_fault_at_end is_trailing command words small in
    ap (λ kinds. job_unless kinds (job_in (matches_of evroute (named all)))) none
    ∙ ap job_in (rows_of_the_walk all)
    ∙ ap (λ (end : Walk). job_in (finished rules end.held)) walked
    ∙ found_job command words

from_the_start : (is_trailing : Bool) (command : Text) (words : List Text) → Stands is_trailing command → AllStand is_trailing words
    → fold (walked rules []) (walk_at_start is_trailing) (command ∷ words) ≡ walk_after is_trailing command words
from_the_start is_trailing command words stands stand =
    ap (λ walk. fold (walked rules []) walk words) (command_walked is_trailing command stands)
    ∙ words_walked is_trailing command [] words stand

all_plain : (words : List Text) → list_all is_plain words ≡ true → AllStand false words
all_plain [] plain = tt
all_plain (word ∷ words) plain = by (is_plain word) refl plain (all_plain words)
  where
    by : (test : Bool) → is_plain word ≡ test → test && list_all is_plain words ≡ true
        → (list_all is_plain words ≡ true → AllStand false words) → AllStand false (word ∷ words)
    by true e more rest = (e, rest more)
    by false e more rest = absurd (cc)

all_behind : (words : List Text) → AllStand true words
all_behind [] = tt
all_behind (word ∷ words) = (tt, all_behind words)

pub plain_job : (command : Text) (words : List Text) → length words < 2 ^ 64 → list_all is_plain (command ∷ words) ≡ true
    → job_of (command ∷ words) ≡ job_of_command command words []
plain_job command words small plain =
    let stand = all_plain (command ∷ words) plain in
    job_by_the_walk (command ∷ words) false command words small
    (no_fault_from_start false command words stand.0 stand.1) (from_the_start false command words stand.0 stand.1)

dashes_fault : (words : List Text)
    → walk_fault shape [] (walk_from nothing_held) (codes "--" ∷ words) ≡ walk_fault shape [] (walk_at_start true) words
unfolding evroute clap_on_literals
dashes_fault words = refl

dashes_walk : (words : List Text) → walk rules [] nothing_held (codes "--" ∷ words) ≡ fold (walked rules []) (walk_at_start true) words
unfolding evroute clap_on_literals
dashes_walk words = refl

pub dashes_job : (command : Text) (words : List Text) → length words < 2 ^ 64 → job_of (codes "--" ∷ command ∷ words) ≡ job_of_command command words []
dashes_job command words small =
    job_by_the_walk (codes "--" ∷ command ∷ words) true command words small
    (dashes_fault (command ∷ words) ∙ no_fault_from_start true command words tt (all_behind words))
    (dashes_walk (command ∷ words) ∙ from_the_start true command words tt (all_behind words))

-- no words name no job: the word of the command is wanted
empty_job : job_of [] ≡ None
unfolding evroute clap_on_literals
empty_job = refl

pub empty_words : (words : List (String Global)) (test : Bool) → test ≡ true → test ≡ (length words == 0) → None ≡ job_of (map string_bytes words)
empty_words [] test is tests = sym empty_job
empty_words (word ∷ words) test is tests = absurd (grind (arith, nat_tests, is, tests))
