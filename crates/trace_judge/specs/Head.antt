-- The head of a trace: its title, its CPUs, its labels line and what it leaves out.
use Rattle.std.specs.Prelude.{◌≡◌, ℕ, ◌+◌, ◌-◌, Bool, true, false, not, ◌&&◌, ◌||◌, nat_lt, if◌then◌else◌, List, [], ◌∷◌, ◌++◌, length, map, replicate}
use Rattle.std.specs.Prelude.{Result, Ok, Err, codes}
use Rattle.std.specs.Str.{bytes_eq}
use Rattle.smp_mask.specs.declared.error.Cause.{Cause}
use Rattle.smp_mask.specs.declared.error.Cause.TheVariants.{Cut, Word}
use Rattle.smp_mask.specs.declared.error.SmpError.{SmpError}
use Rattle.smp_mask.specs.declared.error.SmpError.TheVariants as errors
use Rattle.smp_labels.specs.Entries.{entry_word}
use Rattle.smp_labels.specs.Labels.{Labels, first_site}
use Rattle.smp_labels.specs.declared.words.LabelWords.{LabelWords}
use Rattle.smp_labels.specs.declared.words.TheConstants.{MOST_KEYS, MOST_SITES}
use Rattle.smp_script.specs.Commands.{are_whole}
use Rattle.smp_words.specs.FirstFault.{◌>>=◌}
use Rattle.smp_script.specs.Labels.{whole_labels}
use Rattle.smp_script.specs.Lines.{Line, fields_of, lines_of}
use Rattle.trace_model.specs.declared.without.Setting.{Setting}
use Rattle.trace_model.specs.declared.without.Without.{Without}
use Rattle.trace_judge.specs.Cpus.{cpus_told}
use Rattle.trace_judge.specs.declared.early_end.EarlyEnd.{EarlyEnd}
use Rattle.trace_judge.specs.declared.early_end.EarlyEnd.TheVariants.{Fault, NoMemory}
use Rattle.trace_judge.specs.Judged.{at_line, used_after}

-- where a trace is read to: the number of the next line, how many bytes were used, and the lines that are left
pub record CursorValue : Type 0 where
  pub number : ℕ
  pub used : ℕ
  pub lines : List Line

-- behind the next line
abbrev pub behind : CursorValue → ℕ → List Line → CursorValue
behind s used lines = record { number = s.number + 1; used = used; lines = lines }

-- the fields of the line that has to be next
abbrev pub needed_from : CursorValue → List Line → Result (List ℕ × CursorValue) EarlyEnd
needed_from s [] = Err (Fault s.number Cut)
needed_from s (l ∷ ls) = used_after s.number s.used l >>= λ used. Ok (l.text, behind s used ls)

unfoldable pub needed : CursorValue → Result (List ℕ × CursorValue) EarlyEnd
needed s = needed_from s s.lines

-- line 1
abbrev pub is_title : List ℕ → List (List ℕ) → Bool
is_title version (a ∷ b ∷ c ∷ []) = bytes_eq a (codes "smp") && bytes_eq b version && bytes_eq c (codes "trace")
is_title version _ = false

-- whether it is of version 3, and else of version 2
abbrev pub version_in : List (List ℕ) → Result Bool EarlyEnd
version_in fields =
    if is_title (codes "2") fields then Ok false else (if is_title (codes "3") fields then Ok true else Err (Fault 1 Word))

unfoldable pub titled : List Line → Result (Bool × CursorValue) EarlyEnd
titled lines = needed (record { number = 1; used = 0; lines = lines }) >>= λ found. version_in (fields_of found.0) >>= λ is_third. Ok (is_third, found.1)

-- line 2: how many CPUs there are, and those below 32 that are online
unfoldable pub cpus_at : Bool → CursorValue → Result ((ℕ × ℕ) × CursorValue) EarlyEnd
cpus_at is_third s = needed s >>= λ found. at_line 2 (cpus_told is_third (fields_of found.0)) >>= λ cpus. Ok (cpus, found.1)

-- `labels KEYS ITEMS`
abbrev pub is_labels : List (List ℕ) → Bool
is_labels (word ∷ keys ∷ items ∷ []) = bytes_eq word (codes "labels")
is_labels _ = false

abbrev pub no_labels : Labels
no_labels = record { keys = 0; entries = [] }

-- the labels, where the next line, which is line 3, has some
abbrev pub labels_from : CursorValue → List Line → Result (Labels × CursorValue) EarlyEnd
labels_from s [] = Ok (no_labels, s)
labels_from s (l ∷ ls) = used_after s.number s.used l >>= λ used.
    if is_labels (fields_of l.text) then (at_line 3 (whole_labels (fields_of l.text)) >>= λ labels. Ok (labels, behind s used ls))
    else Ok (no_labels, s)

-- there are none of more than 32 CPUs
unfoldable pub labels_at : ℕ → CursorValue → Result (Labels × CursorValue) EarlyEnd
labels_at cpus s = if nat_lt 32 cpus then Ok (no_labels, s) else labels_from s s.lines

-- a word is the first of these, and what is left behind it
unfoldable pub is_next : List ℕ → List (List ℕ) → Bool
is_next word [] = false
is_next word (f ∷ fs) = bytes_eq f word

unfoldable pub past : List ℕ → List (List ℕ) → List (List ℕ)
past word [] = []
past word (f ∷ fs) = if bytes_eq f word then fs else f ∷ fs

-- nothing is left out
abbrev pub all_told : Without
all_told = record { gate = false; interrupts = false; order = false; raises = false; switches = false; unlocks = false }

-- no name is left, and the order of queues is left out only with interrupts and unlocks
abbrev pub is_left_out : Without → List (List ℕ) → Bool
is_left_out w [] = not w.order || w.interrupts && w.unlocks
is_left_out w (f ∷ fs) = false

abbrev pub if_left_out : Without → List (List ℕ) → Result Without Cause
if_left_out w rest = if is_left_out w rest then Ok w else Err Word

-- the groups of these names, in their order, each once
unfoldable pub groups_of : List (List ℕ) → Result Without Cause
groups_of names =
    let a = past (codes "gate") names in
    let b = past (codes "interrupts") a in
    let c = past (codes "order") b in
    let d = past (codes "raises") c in
    let e = past (codes "switches") d in
    if_left_out (record {
      gate = is_next (codes "gate") names;
      interrupts = is_next (codes "interrupts") a;
      order = is_next (codes "order") b;
      raises = is_next (codes "raises") c;
      switches = is_next (codes "switches") d;
      unlocks = is_next (codes "unlocks") e;
    }) (past (codes "unlocks") e)

-- `without GROUP ..`, with one group at least and no empty field
abbrev pub some_groups : List (List ℕ) → Result Without Cause
some_groups [] = Err Word
some_groups (f ∷ fs) = groups_of (f ∷ fs)

abbrev pub whole_groups : List (List ℕ) → Result Without Cause
whole_groups names = if are_whole names then some_groups names else Err Word

-- what is left out, where the next line says so
abbrev pub without_from : CursorValue → ℕ → List Line → List ℕ → List (List ℕ) → Result (Without × CursorValue) EarlyEnd
without_from s used ls word names =
    if bytes_eq word (codes "without") then (at_line s.number (whole_groups names) >>= λ w. Ok (w, behind s used ls)) else Ok (all_told, s)

abbrev pub without_in : CursorValue → ℕ → List Line → List (List ℕ) → Result (Without × CursorValue) EarlyEnd
without_in s used ls [] = Ok (all_told, s)
without_in s used ls (word ∷ names) = without_from s used ls word names

abbrev pub without_line : CursorValue → List Line → Result (Without × CursorValue) EarlyEnd
without_line s [] = Ok (all_told, s)
without_line s (l ∷ ls) = used_after s.number s.used l >>= λ used. without_in s used ls (fields_of l.text)

unfoldable pub without_at : CursorValue → Result (Without × CursorValue) EarlyEnd
without_at s = without_line s s.lines

-- the words of labels while all keys are off
unfoldable pub words_of : Labels → LabelWords
words_of labels = record {
  keys = replicate MOST_KEYS 0;
  entries = map entry_word labels.entries ++ replicate (MOST_SITES - length labels.entries) 0;
  sites = map first_site labels.entries ++ replicate (MOST_SITES - length labels.entries) 0;
}

-- what the head of a trace says, and where its events begin
pub record HeadValue : Type 0 where
  pub setting : Setting
  pub words : LabelWords
  pub cursor : CursorValue

abbrev pub setting_with : Bool → ℕ × ℕ → Labels → Without → Setting
setting_with is_third cpus labels without = record {
  cpus = cpus.0;
  online = cpus.1;
  keys = labels.keys;
  sites = length labels.entries;
  is_third = is_third;
  without = without;
}

-- of version 2
abbrev pub setting_of : ℕ → Labels → Without → Setting
setting_of online labels without = setting_with false (32, online) labels without

abbrev pub head_with : Setting → Labels → CursorValue → HeadValue
head_with setting labels cursor = record { setting = setting; words = words_of labels; cursor = cursor }

unfoldable pub head_of : List Line → Result HeadValue EarlyEnd
head_of lines = titled lines >>= λ second. cpus_at second.0 second.1 >>= λ cpus. labels_at cpus.0.0 cpus.1 >>= λ labels.
    without_at labels.1 >>= λ without.
    Ok (head_with (setting_with second.0 cpus.0 labels.0 without.0) labels.0 without.1)

-- what a function reads is so, seen by view, unless memory ran out
abbrev pub Sees : {X Y : Type 0} → (X → Y) → Result X EarlyEnd → Result Y EarlyEnd → Type 0
Sees view (Ok x) read = read ≡ Ok (view x)
Sees view (Err NoMemory) read = Unit {0}
Sees view (Err why) read = read ≡ Err why

-- a fault of the reader of scripts, as one of a trace
abbrev pub early_end_of : SmpError → EarlyEnd
early_end_of (errors.BadScript line cause) = Fault line cause
early_end_of _ = NoMemory
