-- When a command of the stop half may start, and where it begins.
use Rattle.std.specs.Prelude.{ℕ, ℤ, ◌+◌, ◌^◌, Bool, true, false, ◌==◌, ◌&&◌, ◌||◌, not, nat_lt, if◌then◌else◌, Option, Some, None, length}
use Rattle.std.specs.{Int.cast_unsigned, Int.w32, Int.Bits.bit_and}
use Rattle.smp_words.specs.declared.size.TheConstants.{FIRST_TARGETS}
use Rattle.smp_stop_steps.specs.Names.{SmpError, cpus, Command, StopStage, TakeGate, OpenGate, Begin, Enter, Advance, Complete, LoadDone, NudgeKey, Visit, Kind}
use Rattle.smp_stop_steps.specs.Names.{One, Multi, Patch, Work, Gate, EXIT, Field, CompletionStage, RoundStage}
use Rattle.smp_stop_steps.specs.Value.{StopsValue, first_below, stop_control_of}
use Rattle.smp_stop_steps.specs.{Counts.mask_weight, Stages.StopControlValue, Stages.completes_from, Table.stop_number, Tells.is_one, Begins.stop_begun}
use Rattle.smp_stop_steps.specs.{declared.stage.StopStage.TheVariants.ReadKey, declared.stage.StopStage.TheVariants.ReadSite, declared.start.Terms.Terms}

-- what the half of this value is asked for before a CPU starts a command
abbrev pub terms_of : StopsValue → ℕ → Terms
terms_of v cpu = record {
  nr = v.nr;
  online = v.online;
  keys = v.labels.keys;
  sites = length v.labels.entries;
  holds_gate = stop_number v.table Gate == cpu + 1;
}

-- a slot may be entered that is one of the first, or that of a CPU
abbrev pub has_slot : ℕ → ℕ → Bool
has_slot nr slot = nat_lt slot cpus && (nat_lt slot FIRST_TARGETS || nat_lt slot nr)

-- whether a work is a patch's, as the code tests it: what this means is IsPatchWork
abbrev pub fits_patch : Terms → Work → Bool
fits_patch t work = ((work.mask == t.online && work.active == 2 ^ first_below t.online cpus) && nat_lt work.func t.keys) && nat_lt work.arg 4

-- whether it has as many CPUs as its kind may have
abbrev pub fits_kind : Terms → Work → Kind → Bool
fits_kind t work One = mask_weight cpus work.mask == 1
fits_kind t work Multi = true
fits_kind t work Patch = fits_patch t work

-- whether it has some CPUs, those of its kind
abbrev pub fits_work : Terms → Work → Bool
fits_work t work = not (mask_weight cpus work.mask == 0) && fits_kind t work work.kind

-- none where the test passed
abbrev pub unless : Bool → SmpError → Option SmpError
unless test refused = if test then None else Some refused

-- the refusals of begin, as the code computes them: what they mean is BeginRefuses, of members
abbrev pub begin_refusal : Terms → Work → Bool → Option SmpError
begin_refusal t work true = Some SmpError.SlotBusy
begin_refusal t work false =
    if t.holds_gate && fits_work t work then unless (bit_and work.mask t.online == work.mask) SmpError.NoStopper else Some SmpError.BadArgument

-- the CPU is in no stop
abbrev pub is_free : Option Visit → Bool
is_free None = true
is_free (Some v) = false

-- it is in a stop of several CPUs, and has not left it
abbrev pub may_advance : Option Visit → Bool
may_advance None = false
may_advance (Some v) = not (is_one v.kind) && not (v.acked == EXIT)

-- it is in a stop of one CPU
abbrev pub may_run : Option Visit → Bool
may_run None = false
may_run (Some v) = is_one v.kind

-- it has left a stop of several CPUs, and has not completed
abbrev pub may_finish : Option Visit → Bool
may_finish None = false
may_finish (Some v) = v.acked == EXIT

-- the refusals of a CPU at such a place; none for a command of the other half but a handle with interrupts off
abbrev pub refusal_on : Terms → StopControlValue → Command → Option SmpError
refusal_on t c Command.Handle = unless c.interrupts SmpError.BadArgument
refusal_on t c Command.Ungate = unless t.holds_gate SmpError.BadArgument
refusal_on t c (Command.Begin work) = begin_refusal t work c.is_open
refusal_on t c (Command.Enter slot) = unless (is_free c.visit && has_slot t.nr slot) SmpError.Stale
refusal_on t c (Command.Advance answer) = unless (may_advance c.visit) SmpError.BadArgument
refusal_on t c (Command.RunOne answer) = unless (may_run c.visit) SmpError.BadArgument
refusal_on t c Command.Finish = unless (may_finish c.visit) SmpError.BadArgument
refusal_on t c Command.Poll = unless c.is_open SmpError.BadArgument
refusal_on t c (Command.Key k) = unless (c.interrupts && nat_lt k t.keys) SmpError.BadArgument
refusal_on t c (Command.Site i) = unless (c.interrupts && nat_lt i t.sites) SmpError.BadArgument
refusal_on t c (Command.Nudge k up) = unless (c.interrupts && nat_lt k t.keys) SmpError.BadArgument
refusal_on t c _ = None

abbrev pub stop_refusal : StopsValue → ℕ → Command → Option SmpError
stop_refusal v cpu c = refusal_on (terms_of v cpu) (stop_control_of v.controls cpu) c

-- an answer as a word has it
abbrev pub answer_word : ℤ → ℕ
answer_word answer = cast_unsigned w32 answer

-- the stage of who is in a stop
abbrev pub in_visit : Option Visit → (Visit → StopStage) → Option StopStage
in_visit None stage = None
in_visit (Some v) stage = Some (stage v)

-- where a command begins; none for one of the other half
abbrev pub stop_first : StopControlValue → Command → Option StopStage
stop_first c Command.Gate = Some TakeGate
stop_first c Command.Ungate = Some OpenGate
stop_first c (Command.Begin work) = Some (Begin work Field.Kind)
stop_first c (Command.Enter slot) = Some (Enter slot)
stop_first c (Command.Advance answer) = in_visit c.visit (λ v. Advance v (RoundStage.Look (answer_word answer)))
stop_first c (Command.RunOne answer) = in_visit c.visit (λ v. Complete v (CompletionStage.LoadFunc (answer_word answer)))
stop_first c Command.Finish = in_visit c.visit (λ v. Complete v (completes_from v))
stop_first c Command.Poll = Some LoadDone
stop_first c (Command.Key k) = Some (ReadKey k)
stop_first c (Command.Site i) = Some (ReadSite i)
stop_first c (Command.Nudge k up) = Some (NudgeKey k up)
stop_first c _ = None

-- the half with the CPU at the beginning of a command, where that is one of this half
abbrev pub stop_begun_if : StopsValue → ℕ → Option StopStage → StopsValue
stop_begun_if v cpu None = v
stop_begun_if v cpu (Some stage) = stop_begun v cpu stage

abbrev pub stop_started : StopsValue → ℕ → Command → StopsValue
stop_started v cpu c = stop_begun_if v cpu (stop_first (stop_control_of v.controls cpu) c)
