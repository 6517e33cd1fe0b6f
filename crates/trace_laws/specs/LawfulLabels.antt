-- Keys and sites, as events tell them.
use Rattle.std.specs.Prelude.{◌≡◌, ℕ, ◌+◌, ◌-◌, ◌<◌, ◌≤◌, ◌⊎◌, Bool, true, false, ◌==◌, not, if◌then◌else◌, List, [], ◌∷◌, ◌++◌, length, slice_index}
use Rattle.std.specs.Prelude.{slice_set, Some}
use Rattle.smp_labels.specs.declared.words.LabelWords.{LabelWords}
use Rattle.smp_labels.specs.Keys.{is_on}
use Rattle.smp_labels.specs.Law.{HaveKinds}
use Rattle.smp_labels.specs.Words.{table_of}
use Rattle.smp_mask.specs.Mask.{has}
use Rattle.smp_words.specs.declared.work.Kind.TheVariants.{Patch}
use Rattle.trace_model.specs.declared.event.Event.{Event}
use Rattle.trace_model.specs.declared.event.Event.TheVariants as event
use Rattle.trace_model.specs.declared.event.LabelEvent.{LabelEvent}
use Rattle.trace_model.specs.declared.event.LabelEvent.TheVariants as labels
use Rattle.trace_model.specs.declared.stop.Task.{Task}
use Rattle.trace_model.specs.declared.without.Setting.{Setting}
use Rattle.trace_model.specs.Online.{is_online}
use Rattle.trace_model.specs.State.{StateValue}
use Rattle.trace_laws.specs.StopEvents.{IsHeld, work}
use Rattle.trace_laws.specs.Traces.{IsTrace}

-- a key with this count, a site with this word, and a count that goes up or down by one
abbrev pub with_key : ℕ → ℕ → LabelWords → LabelWords
with_key key count words = record words { keys = slice_set words.keys key count }

abbrev pub with_site : ℕ → Bool → LabelWords → LabelWords
with_site site jumps words = record words { sites = slice_set words.sites site (if jumps then 1 else 0) }

abbrev pub moved : Bool → ℕ → ℕ
moved true count = count + 1
moved false count = count - 1

-- the keys and sites after one more event
abbrev pub words_next : LabelWords → ℕ × Event → LabelWords
words_next words (cpu, event.Label (labels.Set key count)) = with_key key count words
words_next words (cpu, event.Label (labels.Turn site jumps)) = with_site site jumps words
words_next words (cpu, event.Label (labels.Nudge key up)) = with_key key (moved up (slice_index words.keys key)) words
words_next words _ = words

-- the keys and sites, as events tell them
unfoldable pub words_from : LabelWords → List (ℕ × Event) → LabelWords
words_from words [] = words
words_from words (e ∷ es) = words_from (words_next words e) es

-- There are four keys and sixteen sites, and each site has the kind of its key's state and its branch.
pub record AreLabels (u : Setting) (words : LabelWords) : Type 0 where
  pub keys_are : length words.keys ≡ 4
  pub sites_are : length words.sites ≡ 16
  pub keys : u.keys ≤ 4
  pub lawful : HaveKinds (table_of words)

-- A patch is at RUN: all CPUs online are held in its stop.
pub record IsPatching (u : Setting) (es : List (ℕ × Event)) : Type 0 where
  pub number : ℕ
  pub task : Task
  pub opened : work number es ≡ Some task
  pub kind_is : task.kind ≡ Patch
  pub all : (member : ℕ) → member < 32 → has u.online member ≡ true → IsHeld u es number member

-- each site has the kind of its key's state and its branch, but while a patch is at RUN
abbrev pub LabelsAreLawful : Type 0
LabelsAreLawful = (u : Setting) (words : LabelWords) (es : List (ℕ × Event)) (t : StateValue) → AreLabels u words → IsTrace u words es t
    → HaveKinds (table_of (words_from words es)) ⊎ IsPatching u es

-- what a CPU reads is what the events have stored
abbrev pub Reads : LabelEvent → LabelWords → Type 0
Reads (labels.Key key on) words = is_on (slice_index words.keys key) ≡ on
Reads (labels.Site site jumps) words = not (slice_index words.sites site == 0) ≡ jumps
Reads _ words = Unit {0}

-- an event reads a key or a site
abbrev pub reads : LabelEvent → Bool
reads (labels.Key key on) = true
reads (labels.Site site jumps) = true
reads _ = false

-- a CPU that is online reads a key or a site only where each site has the kind of its key's state and its branch
abbrev pub ReadsAreLawful : Type 0
ReadsAreLawful = (u : Setting) (words : LabelWords) (es : List (ℕ × Event)) (t : StateValue) (cpu : ℕ) (e : LabelEvent) → AreLabels u words
    → IsTrace u words (es ++ (cpu, event.Label e) ∷ []) t → is_online u cpu ≡ true → reads e ≡ true
    → HaveKinds (table_of (words_from words es)) × Reads e (words_from words es)
