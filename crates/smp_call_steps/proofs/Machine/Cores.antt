-- A step, over a core's list of words and list of controls.
use Rattle.std.proofs.Common.{◌≡◌, ℕ, ◌<◌, Bool, nat_lt, Option, Some, None, List, length, refl, arith}
use Rattle.std.proofs.lemmas.List.{get_or-set_same, get_or-set_other, get_or_past, length-set}
use Rattle.std.proofs.lemmas.Bool.{ltb-true, ltb-false}
use Rattle.std.specs.Prelude.{slice_set}
use Rattle.smp_words.specs.Size.{cpus, table_size}
use Rattle.smp_words.specs.Put.{put, put_word}
use Rattle.smp_words.specs.Layout.{number_in, put_in, put_at}
use Rattle.smp_words.specs.Access.{word_of, put_by, put_if, at_after, words_after, seen_of}
use Rattle.smp_call_steps.specs.{CallState, tells, ControlValue, access_of, outcome_of, control_after, ValuesShow, control_of, Word, Access, Seen, Stage}
use Rattle.smp_call_steps.proofs.Machine.Accesses.{access_in_table}
use Rattle.smp_call_steps.proofs.Steps.Every.{step_shown}
use Rattle.smp_words.proofs.Links.{HasIndex, number_in-put_in}
use Rattle.smp_words.proofs.Puts.{at_test}

words_if : (words : List ℕ) (w : Word) (put : Option ℕ) → length words ≡ table_size → HasIndex w
    → number_in (put_if put_in words w put) ≡ put_if put_word (number_in words) w put
words_if words w (Some n) l h = number_in-put_in words w n l h
words_if words w None l h = refl

-- the words by name, after an access
pub words_by_name : (words : List ℕ) (access : Access) → length words ≡ table_size → HasIndex (word_of access)
    → number_in (words_after words access) ≡ at_after (number_in words) access
words_by_name words access l h = words_if words (word_of access) (put_by access (number_in words (word_of access))) l h

length-put_at : (words : List ℕ) (i : Option ℕ) (n : ℕ) → length (put_at words i n) ≡ length words
length-put_at words x n = search (length-set, arith)

length_if : (words : List ℕ) (w : Word) (put : Option ℕ) → length (put_if put_in words w put) ≡ length words
length_if words w y = search (length-put_at, arith)

-- a table keeps its length
pub length-words_after : (words : List ℕ) (access : Access) → length (words_after words access) ≡ length words
length-words_after words access = length_if words (word_of access) (put_by access (number_in words (word_of access)))

set_control : (controls : List ControlValue) (me : ℕ) (x : ControlValue) → length controls ≡ cpus → me < cpus → (j : ℕ)
    → control_of (slice_set controls me x) j ≡ put (control_of controls) me x j
set_control controls me x l m j = search (at_test, get_or-set_same, get_or-set_other, arith)

-- the controls by CPU, with one of them set
pub controls_by_cpu : (controls : List ControlValue) (me : ℕ) (x : ControlValue) → length controls ≡ cpus → me < cpus
    → control_of (slice_set controls me x) ≡ put (control_of controls) me x
controls_by_cpu controls me x l m = λ k j. set_control controls me x l m j k

below_if : (controls : List ControlValue) (me : ℕ) (stage : Stage) (b : Bool) → nat_lt me cpus ≡ b → length controls ≡ cpus
    → (control_of controls me).stage ≡ Some stage → me < cpus
below_if controls me stage x t l e = search (ltb-true, ltb-false, get_or_past, arith)

-- a CPU inside a command is one that there can be
pub inside_below : (controls : List ControlValue) (me : ℕ) (stage : Stage) → length controls ≡ cpus → (control_of controls me).stage ≡ Some stage → me < cpus
inside_below controls me stage l e = below_if controls me stage (nat_lt me cpus) refl l e

-- the words and controls of a core after a step
core_shown : (a : CallState) (words : List ℕ) (controls : List ControlValue) (me : ℕ) (stage : Stage) → length words ≡ table_size → length controls ≡ cpus →
    ValuesShow a words controls → (control_of controls me).stage ≡ Some stage →
    let access = access_of (number_in words) me stage in
    let found = number_in words (word_of access) in
    ValuesShow (tells a (seen_of me access found (outcome_of (control_of controls me).drain stage found).note)) (words_after words access)
    (slice_set controls me (control_after (control_of controls me) stage found))
core_shown a words controls me stage l m s e =
    let at = number_in words in
    let in_table = access_in_table a at (control_of controls) me s stage e in
    let access = access_of at me stage in
    let after = control_after (control_of controls me) stage (at (word_of access)) in
    rw (words_by_name words access l in_table, controls_by_cpu controls me after m (inside_below controls me stage m e))
    (step_shown a at (control_of controls) me s stage e)

-- what the code makes of each part of a step
pub record Made (words : List ℕ) (controls : List ControlValue) (me : ℕ) (stage : Stage) (access : Access) (found : ℕ) (seen : Seen) (words' : List ℕ)
    (control' : ControlValue) : Type 0 where
  pub at_stage : (control_of controls me).stage ≡ Some stage
  pub is_access : access ≡ access_of (number_in words) me stage
  pub is_found : found ≡ number_in words (word_of access)
  pub is_words : words' ≡ words_after words access
  pub is_control : control' ≡ control_after (control_of controls me) stage found
  pub is_seen : seen ≡ seen_of me access found (outcome_of (control_of controls me).drain stage found).note

pub made_shown : (a : CallState) (words : List ℕ) (controls : List ControlValue) (me : ℕ) (stage : Stage) (access : Access) (found : ℕ) (seen : Seen)
    (words' : List ℕ) (control' : ControlValue) →
    Made words controls me stage access found seen words' control' → length words ≡ table_size → length controls ≡ cpus →
    ValuesShow a words controls → ValuesShow (tells a seen) words' (slice_set controls me control')
made_shown a words controls me stage access found seen words' control' m l n s =
    rw (m.is_seen, m.is_words, m.is_control, m.is_found, m.is_access) (core_shown a words controls me stage l n s m.at_stage)
