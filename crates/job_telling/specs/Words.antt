-- The words that ask of a program alone.
use Rattle.std.specs.Prelude.{List, [], ◌∷◌, Option, None, Some, codes, if◌then◌else◌, ℕ}
use Rattle.std.specs.Str.{bytes_eq}
use Rattle.job_telling.specs.declared.words.Told.{Told}
use Rattle.job_telling.specs.declared.words.Told.TheVariants.{Help, Version}

-- what a word that stands alone asks of the program
abbrev pub told_by_word : List ℕ → Option Told
told_by_word word =
    if bytes_eq word (codes "--help") then Some Help
    else if bytes_eq word (codes "--version") then Some Version
    else None

-- what the words ask of the program: they are one word, `--help` or `--version`
abbrev pub told_by : List (List ℕ) → Option Told
told_by (word ∷ []) = told_by_word word
told_by words = None

-- the job of the words: that of telling it, where they ask of the program alone, and else this one
abbrev pub told_or : {Job : Type 0} → (Told → Job) → Option Told → Option Job → Option Job
told_or {Job} telling (Some told) job = Some (telling told)
told_or {Job} telling None job = job
