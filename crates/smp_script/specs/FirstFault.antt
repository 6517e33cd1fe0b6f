-- What is wrong with a text that is no script: every fault of it, and which of them is the first.
use Rattle.std.specs.Prelude.{◌≡◌, ◌≢◌, ℕ, ◌+◌, ◌<◌, ◌≤◌, false, if◌then◌else◌, List, [], ◌∷◌, length, take, slice_get, sum_by, Option, Some, None}
use Rattle.std.specs.Prelude.{Result, Ok, Err, codes}
use Rattle.std.specs.Str.{bytes_eq}
use Rattle.smp_mask.specs.declared.error.Cause.{Cause}
use Rattle.smp_mask.specs.declared.error.Cause.TheVariants.{TooLong, Cut, Word, SharedKey}
use Rattle.smp_script.specs.declared.mode.Mode.{Mode}
use Rattle.smp_script.specs.declared.setting.Setting.{Setting}
use Rattle.smp_script.specs.declared.version.Version.TheVariants.{One, Two}
use Rattle.smp_script.specs.Fields.{mask_of}
use Rattle.smp_script.specs.FieldFaults.{FieldFault, field_at, value_of}
use Rattle.smp_script.specs.Keys.{KeyUse}
use Rattle.smp_script.specs.Lines.{Line, fields_of, lines_of}
use Rattle.smp_script.specs.Shapes.{Form, is_one_of, shape_of}
use Rattle.smp_script.specs.Versions.{limit_of, version_text}

-- what is wrong with line n, where the lines up to it make this number of events, and where it shares a key or not, by rank: its place
-- in the order of a line's faults
pub data LineFault (s : Setting) (n events : ℕ) (shared : Type 0) (line : Line) : ℕ → Cause → Type 0 where
  past_lines : 2000 < n → LineFault s n events shared line 0 TooLong
  unended : line.ended ≡ false → LineFault s n events shared line 1 Cut
  no_shape : shape_of s n (fields_of line.text) ≡ None → LineFault s n events shared line 2 Word
  wrong_field : (i : ℕ) {shape : List Form} {form : Form} {cause : Cause} → shape_of s n (fields_of line.text) ≡ Some shape → slice_get shape i ≡ Some form
      → FieldFault (fields_of line.text) i form cause → LineFault s n events shared line (3 + i) cause
  shared_key : shared → LineFault s n events shared line (3 + length (fields_of line.text)) SharedKey
  past_events : 100000 < events → LineFault s n events shared line (4 + length (fields_of line.text)) TooLong

-- how many events a line makes: `start` one, `step CPU N` as many as its number
abbrev pub events_in : List (List ℕ) → ℕ
events_in (name ∷ cpu ∷ third ∷ rest) = if bytes_eq name (codes "step") then value_of third else (if bytes_eq name (codes "start") then 1 else 0)
events_in _ = 0

-- how many the first n lines make
abbrev pub events_to : List ℕ → ℕ → ℕ
events_to text n = sum_by (λ l. events_in (fields_of l.text)) (take n (lines_of text))

-- the operations with a key
abbrev pub with_key : List (List ℕ)
with_key = codes "set" ∷ codes "inc" ∷ codes "dec" ∷ []

-- the CPU of a line `do CPU N NAME K ..`, and its key, where the operation has one
abbrev pub key_in : List (List ℕ) → Option KeyUse
key_in (do_word ∷ cpu ∷ count ∷ name ∷ key ∷ rest) =
    if bytes_eq do_word (codes "do") then (if is_one_of with_key name then Some (value_of cpu, value_of key) else None) else None
key_in _ = None

-- line n, counted from 0, has a key that a line before it has too, for another CPU
pub record SharesKey (text : List ℕ) (n : ℕ) : Type 0 where
  pub place : ℕ
  pub is_before : place < n
  pub line : Line
  pub earlier : Line
  pub here : slice_get (lines_of text) n ≡ Some line
  pub there : slice_get (lines_of text) place ≡ Some earlier
  pub cpu : ℕ
  pub other : ℕ
  pub key : ℕ
  pub uses : key_in (fields_of line.text) ≡ Some (cpu, key)
  pub used : key_in (fields_of earlier.text) ≡ Some (other, key)
  pub apart : cpu ≢ other

-- what is wrong with line n of a text, by rank; lines are counted from 1, and line 0 is the text as a whole
pub data IsFault (s : Setting) (text : List ℕ) : ℕ → ℕ → Cause → Type 0 where
  past_bytes : 65536 < length text → IsFault s text 0 0 TooLong
  no_line : {n : ℕ} → length (lines_of text) < n → n ≤ 2 → IsFault s text n 1 Cut
  in_line : (n : ℕ) {rank : ℕ} {line : Line} {cause : Cause} → slice_get (lines_of text) n ≡ Some line
      → LineFault s (n + 1) (events_to text (n + 1)) (SharesKey text n) line rank cause → IsFault s text (n + 1) rank cause

-- the first fault of a text: no line before has one, and line n has none of a lower rank
pub record IsFirstFault (s : Setting) (text : List ℕ) (n : ℕ) (cause : Cause) : Type 0 where
  pub rank : ℕ
  pub fault : IsFault s text n rank cause
  pub before : (m k : ℕ) (other : Cause) → m < n → IsFault s text m k other → ⊥
  pub least : (k : ℕ) (other : Cause) → k < rank → IsFault s text n k other → ⊥

-- no line has a fault, nor has the text as a whole
abbrev pub IsFaultless : Setting → List ℕ → Type 0
IsFaultless s text = (n rank : ℕ) → (cause : Cause) → IsFault s text n rank cause → ⊥

-- the word of a text's version: field 1 of its first line
abbrev pub version_word : List Line → List ℕ
version_word [] = []
version_word (l ∷ ls) = field_at (fields_of l.text) 1

-- the CPUs of a text have numbers below this; where the first line tells no version, that line is at fault before all others
abbrev pub limit_in : List ℕ → ℕ
limit_in text = limit_of (if bytes_eq (version_word (lines_of text)) (version_text Two) then Two else One)

-- the mask of a text's CPUs online: field 2 of its second line
abbrev pub online_word : List Line → List ℕ
online_word (title ∷ l ∷ ls) = field_at (fields_of l.text) 2
online_word _ = []

abbrev pub or_none : Result ℕ Cause → ℕ
or_none (Ok mask) = mask
or_none (Err cause) = 0

-- the CPUs online; where that word is no mask, the second line or the first is at fault before all others
abbrev pub online_in : List ℕ → ℕ
online_in text = or_none (mask_of (limit_in text) (online_word (lines_of text)))

-- what the first two lines of a text settle, as a script of that kind
abbrev pub setting_in : Mode → List ℕ → Setting
setting_in mode text = record { mode = mode; limit = limit_in text; online = online_in text }
