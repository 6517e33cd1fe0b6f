-- What is said of commands in both halves: their numbers, the first access of each, a refusal, the step that ends one, and its note.
use Rattle.std.specs.Int.{w32}
use Rattle.std.specs.Prelude.{◌≡◌, ◌⊎◌, ℕ, ◌+◌, ◌<◌, ◌^◌, FitsSigned, Bool, true, false, Option, Some, None}
use Rattle.smp_mask.specs.declared.error.SmpError.{SmpError}
use Rattle.smp_words.specs.{Access.word_of, Kinds.kind_word, Size.record_of, declared.access.Access.Access, declared.seen.Note.Note}
use Rattle.smp_words.specs.declared.access.Access.TheVariants.{Load, Store, Exchange}
use Rattle.smp_words.specs.declared.word.Word.TheVariants.{Intr, Hand, Flags, Gate, Slot, Key, Site}
use Rattle.smp_words.specs.declared.command.Command.{Command}
use Rattle.smp_words.specs.declared.command.Command.TheVariants as command
use Rattle.smp_words.specs.declared.field.Field.TheVariants as field

-- numbers of a command's types
abbrev pub FitsCommand : Command → Type 0
FitsCommand (command.Post k to class func info tries) = (func < 2 ^ 16) × (info < 2 ^ 64)
FitsCommand (command.Begin work) = work.func < 2 ^ 16
FitsCommand (command.Advance answer) = FitsSigned w32 answer
FitsCommand (command.RunOne answer) = FitsSigned w32 answer
FitsCommand _ = Unit {0}

-- the first access of a command, by a CPU in the stop of this slot or in none, is to the word that the command names
abbrev pub FirstAccess : ℕ → Option ℕ → Command → Access → Type 0
FirstAccess cpu inside (command.Post k to class func info tries) access = access ≡ Load (Flags (record_of cpu k))
FirstAccess cpu inside (command.Send to) access = access ≡ Store (Intr to) 1
FirstAccess cpu inside (command.Done k) access = access ≡ Load (Flags (record_of cpu k))
FirstAccess cpu inside command.Handle access = access ≡ Store (Hand cpu) 1
FirstAccess cpu inside command.Gate access = access ≡ Exchange Gate 0 (cpu + 1)
FirstAccess cpu inside command.Ungate access = access ≡ Store Gate 0
FirstAccess cpu inside (command.Begin work) access = access ≡ Store (Slot cpu field.Kind) (kind_word work.kind)
FirstAccess cpu inside (command.Enter slot) access = word_of access ≡ Slot slot field.Roll
FirstAccess cpu (Some slot) (command.Advance answer) access = access ≡ Load (Slot slot field.State)
FirstAccess cpu (Some slot) (command.RunOne answer) access = access ≡ Load (Slot slot field.Func)
FirstAccess cpu (Some slot) command.Finish access = (word_of access ≡ Slot slot field.Result) ⊎ (word_of access ≡ Slot slot field.Todo)
FirstAccess cpu inside command.Poll access = access ≡ Load (Slot cpu field.Done)
FirstAccess cpu inside (command.Key k) access = access ≡ Load (Key k)
FirstAccess cpu inside (command.Site i) access = access ≡ Load (Site i)
FirstAccess cpu inside (command.Nudge k up) access = access ≡ Load (Key k)
FirstAccess cpu inside _ access = ⊥

-- no refusal where the command may start, else just this one
abbrev pub Refuses : Type 0 → SmpError → Option SmpError → Type 0
Refuses may e None = may
Refuses may e (Some refused) = (refused ≡ e) × (may → ⊥)

-- A command ends with the step that has its note, and only there; in the middle a step may say that a function runs, and nothing else.
abbrev pub EndsSo : {A : Type 0} → (Option Note → Bool) → Option Note → Option A → Type 0
EndsSo runs None None = ⊥
EndsSo runs None (Some stage) = Unit {0}
EndsSo runs (Some n) None = runs (Some n) ≡ false
EndsSo runs (Some n) (Some stage) = runs (Some n) ≡ true

-- no step follows where the command ends; everywhere else one of the same command does
abbrev pub Follows : {A : Type 0} → (A → A → Type 0) → A → Bool → Option A → Type 0
Follows IsSame stage true next = next ≡ None
Follows IsSame stage false None = ⊥
Follows IsSame stage false (Some next) = IsSame stage next

-- a note that is said just where a fact holds, and another one elsewhere
pub record Either (fact : Bool) (said : Option Note) (here there : Option Note) : Type 0 where
  pub where_true : fact ≡ true → said ≡ here
  pub where_false : fact ≡ false → said ≡ there
