-- What `show` prints: the queues, the locked records and the phases.
use Rattle.std.specs.Prelude.{ℕ, zero, suc, ◌%◌, Bool, false, ◌==◌, if◌then◌else◌, List, [], ◌∷◌, ◌++◌, Option, Some, None, codes}
use Rattle.std.specs.Fmt.{decimal}
use Rattle.std.specs.List.{flat_map}
use Rattle.smp_mask.specs.Mask.{members}
use Rattle.smp_words.specs.Size.{cpus, records}
use Rattle.smp_core.specs.Value.{CoreValue, word_in}
use Rattle.smp_core.specs.Queues.{queue_in}
use Rattle.smp_words.specs.declared.word.Word.TheVariants.{Flags, Slot}
use Rattle.smp_words.specs.declared.field.Field.TheVariants.{State}
use Rattle.smp_replay.specs.Text.{list_text}

-- the line of a queue: its CPU and its records, oldest first
abbrev pub queue_text : CoreValue → ℕ → List ℕ
queue_text core cpu = codes "queue " ++ decimal cpu ++ codes ":" ++ list_text (queue_in core cpu) ++ 10 ∷ []

-- a record is locked where its flags word has LOCK
abbrev pub has_lock : Option ℕ → Bool
has_lock None = false
has_lock (Some flags) = flags % 2 == 1

abbrev pub is_locked : CoreValue → ℕ → Bool
is_locked core id = has_lock (word_in core (Flags id))

abbrev pub if_locked : CoreValue → ℕ → List ℕ
if_locked core id = if is_locked core id then id ∷ [] else []

-- the locked records below n, ascending
unfoldable pub locked_below : CoreValue → ℕ → List ℕ
locked_below core zero = []
locked_below core (suc n) = locked_below core n ++ if_locked core n

-- a slot whose state is not 0
abbrev pub state_text : ℕ → Option ℕ → List ℕ
state_text slot None = codes ""
state_text slot (Some state) = if state == 0 then codes "" else codes " " ++ decimal slot ++ codes "=" ++ decimal state

abbrev pub phase_text : CoreValue → ℕ → List ℕ
phase_text core slot = state_text slot (word_in core (Slot slot State))

-- the phases of the slots below n, ascending
unfoldable pub phases_below : CoreValue → ℕ → List ℕ
phases_below core zero = []
phases_below core (suc n) = phases_below core n ++ phase_text core n

-- a line for each CPU online, the locked records, and the phases
abbrev pub show_text : CoreValue → List ℕ
show_text core =
    flat_map (queue_text core) (members core.online) ++ codes "locked:" ++ list_text (locked_below core records) ++ codes "\nphase:" ++ phases_below core cpus
    ++ 10 ∷ []
