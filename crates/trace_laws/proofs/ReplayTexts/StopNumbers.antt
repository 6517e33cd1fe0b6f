-- The numbers of the steps of stops are of their types, where those of each stop that begins are.
use Rattle.trace_laws.proofs.Names.{arith, Bool, List, Option, Some, false, refl, true, ℕ, ◌<◌, ◌^◌, ◌≡◌}
use Rattle.trace_laws.proofs.ReplayNames.{Access, Advance, Begin, Change, Command, Complete, CompletionStage, Field, RoundStage}
use Rattle.trace_laws.proofs.ReplayNames.{StopControlValue, StopStage, Visit, Word, Work, at_after, change_at}
use Rattle.trace_laws.proofs.ReplayNames.{cpus, same_word, stop_access}
use Rattle.trace_laws.proofs.ReplayNames.{stop_outcome, word_of}
use Rattle.smp_words.specs.declared.command.Command.TheVariants as command
use Rattle.smp_words.specs.declared.field.Field.TheVariants as field
use Rattle.smp_words.specs.declared.word.Word.TheVariants as word
use Rattle.smp_stop_steps.specs.declared.stage.CompletionStage.TheVariants as completion
use Rattle.smp_stop_steps.specs.declared.stage.RoundStage.TheVariants as round
use Rattle.trace_laws.proofs.ReplayStops.StepEvents.{word_kept}

-- the function and the argument of a stop that begins
abbrev pub BeginFits : Option StopStage → Type 0
BeginFits (Some (Begin w g)) = (w.func < 2 ^ 16) × (w.arg < 2 ^ 64)
BeginFits _ = Unit {0}

pub stage_begins : (me : ℕ) (c : StopControlValue) (stage : StopStage) (found : ℕ) → BeginFits (Some stage)
    → BeginFits (stop_outcome me c stage found).control.stage
stage_begins me c stage found h1 = search arith

-- the numbers of a stop that a command begins
abbrev pub WorkFits : Command → Type 0
WorkFits (command.Begin work) = (work.func < 2 ^ 16) × (work.arg < 2 ^ 64)
WorkFits _ = Unit {0}

-- the arguments of all slots
abbrev pub ArgsFit : (Word → ℕ) → Type 0
ArgsFit at = (slot : ℕ) → at (word.Slot slot field.Arg) < 2 ^ 64

-- a word that keeps no argument
abbrev is_arg : Word → Bool
is_arg (word.Slot slot field.Arg) = true
is_arg _ = false

other_word : (slot : ℕ) (w : Word) → is_arg w ≡ false → same_word (word.Slot slot field.Arg) w ≡ false
other_word slot w h1 = search arith

args_kept : (at : Word → ℕ) (access : Access) → is_arg (word_of access) ≡ false → ArgsFit at → ArgsFit (at_after at access)
args_kept at access e k slot = search (word_kept, other_word, arith)

begin_args : (at : Word → ℕ) (me : ℕ) (w : Work) (g : Field) (changes : List Change) → BeginFits (Some (Begin w g)) → ArgsFit at
    → ArgsFit (at_after at (stop_access cpus me changes (Begin w g)))
begin_args at me w g changes h1 h2 = search (args_kept, arith)

change_args : (at : Word → ℕ) (me : ℕ) (x : Visit) (made : ℕ) (changes : List Change) (change : Change) → change_at changes made ≡ change → ArgsFit at
    → ArgsFit (at_after at (stop_access cpus me changes (Advance x (round.StoreChange made))))
change_args at me x made changes change e k = search arith

round_args : (at : Word → ℕ) (me : ℕ) (x : Visit) (stage : RoundStage) (changes : List Change) → ArgsFit at
    → ArgsFit (at_after at (stop_access cpus me changes (Advance x stage)))
round_args at me x (round.LoadArg answer func) changes k = k
round_args at me x (round.StoreChange made) changes k = change_args at me x made changes (change_at changes made) refl k
round_args at me x (round.Look answer) changes k = k
round_args at me x stage changes k = args_kept at (stop_access cpus me changes (Advance x stage)) refl k

completion_args : (at : Word → ℕ) (me : ℕ) (x : Visit) (stage : CompletionStage) (changes : List Change) → ArgsFit at
    → ArgsFit (at_after at (stop_access cpus me changes (Complete x stage)))
completion_args at me x (completion.LoadArg answer func) changes k = k
completion_args at me x (completion.LoadFunc answer) changes k = k
completion_args at me x stage changes k = args_kept at (stop_access cpus me changes (Complete x stage)) refl k

pub stage_args : (at : Word → ℕ) (me : ℕ) (stage : StopStage) (changes : List Change) → BeginFits (Some stage) → ArgsFit at
    → ArgsFit (at_after at (stop_access cpus me changes stage))
stage_args at me (Begin w g) changes f k = begin_args at me w g changes f k
stage_args at me (Advance x stage) changes f k = round_args at me x stage changes k
stage_args at me (Complete x stage) changes f k = completion_args at me x stage changes k
stage_args at me stage changes f k = args_kept at (stop_access cpus me changes stage) refl k
