-- What a command's steps take from the command, where its note is, and when interrupts go off.
use Rattle.std.specs.Prelude.{◌≡◌, ◌≢◌, ◌⊎◌, ℕ, ◌+◌, ◌++◌, Bool, true, false, [], ◌∷◌, Option, Some, None, IfSome, option_map}
use Rattle.smp_words.specs.declared.access.Access.TheVariants.{Load, Store}
use Rattle.smp_words.specs.Commands.{FirstAccess, EndsSo}
use Rattle.smp_words.specs.declared.word.Word.TheVariants.{Slot}
use Rattle.smp_words.specs.{Access.word_of, Kinds.kind_word, declared.access.Access.Access, declared.command.Command.Command, declared.field.Field.Field}
use Rattle.smp_words.specs.{declared.seen.Note.Note, declared.work.Kind.TheVariants.One, declared.work.Work.Work}
use Rattle.smp_stop_steps.specs.{Counts.mask_weight, Promises.OfEachCpu, Stages.StopControlValue, Stages.stop_access, Stages.stop_outcome, Start.stop_first}
use Rattle.smp_stop_steps.specs.{Steps.is_run, Steps.state_after, declared.stage.StopStage.StopStage, declared.stage.Visit.Visit}
use Rattle.smp_stop_steps.specs.declared.stage.StopStage.TheVariants.{TakeGate, OpenGate, Begin, Enter, Advance, Complete, LoadDone, ReadKey, ReadSite}
use Rattle.smp_stop_steps.specs.declared.stage.StopStage.TheVariants.{NudgeKey, ExchangeKey}
use Rattle.std.specs.Int.{w32, cast_unsigned}
use Rattle.smp_words.specs.declared.command.Command.TheVariants as command
use Rattle.smp_stop_steps.specs.declared.stage.RoundStage.TheVariants as round
use Rattle.smp_stop_steps.specs.declared.stage.CompletionStage.TheVariants as completion
use Rattle.smp_words.specs.declared.field.Field.TheVariants as field
use Rattle.smp_words.specs.declared.seen.Note.TheVariants as note
use Rattle.smp_stop_steps.specs.Names.{PREPARE, DISABLE_IRQ}

-- A command begins with its own first step, and with its own numbers: a turn with a look, a completion with the store of its answer
-- where that is not 0. A command of the other half begins nowhere here.
abbrev pub BeginsWhat : Option Visit → Command → Option StopStage → Type 0
BeginsWhat visit command.Gate first = first ≡ Some TakeGate
BeginsWhat visit command.Ungate first = first ≡ Some OpenGate
BeginsWhat visit (command.Begin work) first = first ≡ Some (Begin work field.Kind)
BeginsWhat visit (command.Enter slot) first = first ≡ Some (Enter slot)
BeginsWhat (Some v) (command.Advance answer) first = first ≡ Some (Advance v (round.Look (cast_unsigned w32 answer)))
BeginsWhat (Some v) (command.RunOne answer) first = first ≡ Some (Complete v (completion.LoadFunc (cast_unsigned w32 answer)))
BeginsWhat (Some v) command.Finish first = (v.answer ≡ 0 → first ≡ Some (Complete v completion.CountDown)) ×
    (v.answer ≢ 0 → first ≡ Some (Complete v completion.StoreAnswer))
BeginsWhat visit command.Poll first = first ≡ Some LoadDone
BeginsWhat visit (command.Key k) first = first ≡ Some (ReadKey k)
BeginsWhat visit (command.Site i) first = first ≡ Some (ReadSite i)
BeginsWhat visit (command.Nudge k up) first = first ≡ Some (NudgeKey k up)
BeginsWhat visit _ first = first ≡ None

abbrev pub CommandsBeginSo : Type 0
CommandsBeginSo = (cpu : ℕ) (c : StopControlValue) (command : Command) → let first = stop_first c command in
    IfSome first (λ stage. (n : ℕ) → FirstAccess cpu (option_map (λ v. v.slot) c.visit) command (stop_access n cpu c.changes stage))
    × BeginsWhat c.visit command first

-- what a begin of this work stores in each field, where there are n CPUs
abbrev pub Stores : ℕ → Work → Field → ℕ → Type 0
Stores n work field.Kind x = x ≡ kind_word work.kind
Stores n work field.Mask x = x ≡ work.mask
Stores n work field.Active x = x ≡ work.active
Stores n work field.Func x = x ≡ work.func
Stores n work field.Arg x = x ≡ work.arg
Stores n work field.Result x = x ≡ 0
Stores n work field.Todo x = x ≡ mask_weight n work.mask
Stores n work field.Done x = x ≡ 0
Stores n work field.Ack x = x ≡ mask_weight n work.mask
Stores n work field.State x = ((work.kind ≡ One) × (x ≡ 0)) ⊎ ((work.kind ≢ One) × (x ≡ PREPARE))
Stores n work field.Roll x = x ≡ work.mask

-- a store into the own slot of what belongs there
abbrev pub IsStoreOf : ℕ → ℕ → Work → Field → Access → Type 0
IsStoreOf n cpu work f (Store (Slot s g) x) = (s ≡ cpu) × ((g ≡ f) × Stores n work f x)
IsStoreOf n cpu work f _ = ⊥

-- a begin stays that of its work until it ends
abbrev pub IsOfBegin : Work → Option StopStage → Type 0
IsOfBegin work None = Unit {0}
IsOfBegin work (Some (Begin w f)) = w ≡ work
IsOfBegin work (Some _) = ⊥

-- each of its stores, and what follows
abbrev pub BeginsStoreTheWork : Type 0
BeginsStoreTheWork = (n cpu : ℕ) (c : StopControlValue) (work : Work) (f : Field) (found : ℕ) →
    IsStoreOf n cpu work f (stop_access n cpu c.changes (Begin work f)) × IsOfBegin work (stop_outcome cpu c (Begin work f) found).control.stage

-- the last store of a begin opens the stop of its work
abbrev pub WorksAreBegun : Type 0
WorksAreBegun = OfEachCpu (λ u p at c me.
    (work : Work) → c.stage ≡ Some (Begin work field.Roll) →
    (state_after u p at c me (Begin work field.Roll)).begun me ≡ p.begun me ++ work ∷ [])

-- the load of a nudge goes on to the exchange of the count found for the next one in that direction
abbrev pub NudgesBy : ℕ → Bool → ℕ → Option StopStage → Type 0
NudgesBy k true found (Some (ExchangeKey j expected new)) = (j ≡ k) × ((expected ≡ found) × (new ≡ found + 1))
NudgesBy k false found (Some (ExchangeKey j expected new)) = (j ≡ k) × ((expected ≡ found) × (found ≡ new + 1))
NudgesBy k up found (Some _) = ⊥
NudgesBy k up found None = Unit {0}

-- or it ends: with `stop` just where the key would turn on, or off
abbrev pub SaysStop : Bool → ℕ → Option Note → Type 0
SaysStop true found (Some note.Stop) = found ≡ 0
SaysStop false found (Some note.Stop) = found ≡ 1
SaysStop up found _ = Unit {0}

abbrev pub NudgesGoSo : Type 0
NudgesGoSo = (me : ℕ) (c : StopControlValue) (k : ℕ) (up : Bool) (found : ℕ) → let o = stop_outcome me c (NudgeKey k up) found in
    NudgesBy k up found o.control.stage × SaysStop up found o.note

abbrev pub NotesEndCommands : Type 0
NotesEndCommands = (me : ℕ) (c : StopControlValue) (stage : StopStage) (found : ℕ) → let o = stop_outcome me c stage found in
    EndsSo is_run o.note o.control.stage

-- Interrupts go off only by a load that finds phase 2 in the state word of the stop that the CPU is in. So they are on while it is
-- in PREPARE, in a stop of one CPU, and in no stop.
abbrev pub GoesOff : Access → ℕ → Type 0
GoesOff (Load (Slot s field.State)) found = found ≡ DISABLE_IRQ
GoesOff _ found = ⊥

abbrev pub InterruptsGoOffAtDisable : Type 0
InterruptsGoOffAtDisable = OfEachCpu (λ u p at c me.
    (stage : StopStage) → c.stage ≡ Some stage → p.now.irq me ≡ true → (state_after u p at c me stage).now.irq me ≡ false →
    let access = stop_access u.cpus me c.changes stage in GoesOff access (at (word_of access)))
