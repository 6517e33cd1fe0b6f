-- A state of the model of events that agrees with the stops of a machine.
use Rattle.std.specs.Int.{w32, cast_signed}
use Rattle.std.specs.Prelude.{◌≡◌, ◌≢◌, ℕ, ℤ, pos, ◌<◌, ◌≤◌, ◌%◌, ◌^◌, Bool, true, false, List, length, Option, Some, None}
use Rattle.smp_labels.specs.declared.words.LabelWords.{LabelWords}
use Rattle.smp_mask.specs.Mask.{has}
use Rattle.smp_words.specs.Size.{cpus}
use Rattle.smp_words.specs.declared.field.Field.{Field}
use Rattle.smp_words.specs.declared.field.Field.TheVariants as field
use Rattle.smp_words.specs.declared.word.Word.{Word}
use Rattle.smp_words.specs.declared.word.Word.TheVariants.{Key, Site}
use Rattle.smp_words.specs.declared.work.Kind.{Kind}
use Rattle.smp_words.specs.declared.work.Kind.TheVariants.{Patch}
use Rattle.smp_words.specs.declared.work.Work.{Work}
use Rattle.smp_stop_steps.specs.Labels.{Patching}
use Rattle.smp_stop_steps.specs.State.{StopState}
use Rattle.smp_stop_steps.specs.Stop.{Raising, Nobody, Refills, Raises, Standing, Called, Inside, Answering, Completed, Stop, acked, is_called}
use Rattle.smp_stop_steps.specs.declared.known.Calling.{Calling}
use Rattle.smp_stop_steps.specs.declared.known.Calling.TheVariants.{Idle, Calls, Carries}
use Rattle.smp_stop_steps.specs.declared.stage.StopStage.{StopStage}
use Rattle.smp_stop_steps.specs.declared.stage.StopStage.TheVariants.{Begin}
use Rattle.trace_model.specs.declared.stop.Patch.{Patch as ToldPatch}
use Rattle.trace_model.specs.declared.stop.Stop.{Stop as ToldStop}
use Rattle.trace_model.specs.declared.stop.Task.{Task}
use Rattle.trace_model.specs.Labels.{count_at, site_at}
use Rattle.trace_model.specs.State.{StateValue, cpu_at, stop_at}
use Rattle.trace_model.specs.Stop.{acked_by, answer_by, answer_of, has_run, is_called as is_called_in}
use Rattle.trace_events.specs.Past.{past_at}
use Rattle.trace_events.specs.declared.past.Draft.{Draft}
use Rattle.trace_events.specs.declared.past.Past.{Past}
use Rattle.trace_laws.specs.AgreeingPatches.{PatchingIs}
use Rattle.smp_words.specs.declared.phase.TheConstants.{RUN}

-- a work, as events tell it
abbrev pub told_work : Work → Task
told_work w = record { kind = w.kind; mask = w.mask; active = w.active; func = w.func; arg = w.arg }

-- the CPU that is to raise the phase: the last to acknowledge, until it has stored the phase
abbrev pub raiser_of : Raising → Option ℕ
raiser_of Nobody = None
raiser_of (Refills cpu) = Some cpu
raiser_of (Raises cpu) = Some cpu

-- the number of an i32, as a word has it
abbrev pub as_i32 : ℕ → ℤ
as_i32 word = cast_signed w32 (word % 2 ^ 32)

-- the answer of a CPU that has completed
abbrev pub given_by : Standing → Option ℤ
given_by (Completed a answer) = Some (as_i32 answer)
given_by _ = None

-- a CPU has entered the function of its stop
abbrev pub has_entered : Calling → Bool
has_entered Idle = false
has_entered (Calls call) = true
has_entered (Carries answer) = true

-- the same by the kind of its stop: a patch calls no function
abbrev pub has_called : Kind → Calling → Bool
has_called Patch calling = false
has_called _ calling = has_entered calling

-- lists of one entry for each CPU
pub record IsSized (stop : ToldStop) : Type 0 where
  pub entered : length stop.entered ≡ 32
  pub acked : length stop.acked ≡ 32
  pub ran : length stop.ran ≡ 32
  pub answers : length stop.answers ≡ 32

-- One CPU of an open stop.
pub record MemberIs (standing : Standing) (told : ToldStop) (cpu : ℕ) : Type 0 where
  pub called : is_called_in told cpu ≡ is_called standing
  pub acked_is : acked_by told cpu ≡ acked standing
  pub answer : answer_of told cpu ≡ given_by standing
  pub fresh : standing ≡ Called → has_run told cpu ≡ false
  pub unmade : standing ≡ Called → has told.task.active cpu ≡ true → told.patch ≡ None

-- An open stop.
pub record OpenIs (stop : Stop) (told : ToldStop) : Type 0 where
  pub task : told.task ≡ told_work stop.work
  pub phase : told.phase ≡ stop.phase
  pub raiser : told.raiser ≡ raiser_of stop.raising
  pub members : (cpu : ℕ) → cpu < cpus → MemberIs (stop.standing cpu) told cpu
  pub patch : stop.work.kind ≢ Patch → told.patch ≡ None

pub record StopIs (stop : Stop) (told : ToldStop) : Type 0 where
  pub sized : IsSized told
  pub is_open : told.is_open ≡ stop.is_open
  pub shows : stop.is_open ≡ true → OpenIs stop told

-- the phase that it looked at last is the one that it last loaded anew
abbrev pub PhaseIs : Standing → ℕ → Type 0
PhaseIs (Inside a l) phase = l ≢ 0 → phase ≡ l
PhaseIs _ phase = Unit {0}

-- the answer that it has stored
abbrev pub AnswerIs : Standing → ℤ → Type 0
AnswerIs (Answering a answer) stored = stored ≡ as_i32 answer
AnswerIs _ stored = stored ≡ pos 0

-- what is told of a patch, of the CPU that makes it: what is left of it, and once it is acknowledged the answer
abbrev pub MadeIs : LabelWords → Patching → Calling → Option ToldPatch → Type 0
MadeIs words patching (Carries answer) told = answer_by told true ≡ as_i32 answer
MadeIs words patching _ told = PatchingIs words patching told

abbrev pub PatchIs : StopState → StateValue → ℕ → ℕ → Type 0
PatchIs p s cpu source = (p.now.stop source).work.kind ≡ Patch → has (p.now.stop source).work.active cpu ≡ true
    → MadeIs s.words p.now.patching (p.calling cpu) (stop_at s source).patch

-- One CPU, in a stop: what it has done there.
pub record InsideIs (p : StopState) (s : StateValue) (past : Past) (cpu source : ℕ) : Type 0 where
  pub below : source < cpus
  pub ran : has_run (stop_at s source) cpu ≡ has_called (p.now.stop source).work.kind (p.calling cpu)
  pub patch : PatchIs p s cpu source
  pub phase : PhaseIs ((p.now.stop source).standing cpu) past.phase
  pub answer : AnswerIs ((p.now.stop source).standing cpu) past.answer

-- One CPU.
pub record CpuIs (p : StopState) (s : StateValue) (past : Past) (cpu : ℕ) : Type 0 where
  pub inside : (cpu_at s cpu).inside ≡ p.now.inside cpu
  pub irq : (cpu_at s cpu).irq ≡ p.now.irq cpu
  pub stop : (source : ℕ) → p.now.inside cpu ≡ Some source → InsideIs p s past cpu source
  pub answer : p.now.inside cpu ≡ None → past.answer ≡ pos 0
  pub reads : past.phase ≡ RUN → p.now.irq cpu ≡ false

-- All stops and CPUs. The stop of a source has the source's number, and no other is open.
pub record FollowsStops (p : StopState) (at : Word → ℕ) (pasts : List Past) (s : StateValue) : Type 0 where
  pub stops_are : length s.stops ≡ 64
  pub keys_are : length s.words.keys ≡ 4
  pub sites_are : length s.words.sites ≡ 16
  pub gate : s.gate ≡ p.gate
  pub stops : (source : ℕ) → source < cpus → StopIs (p.now.stop source) (stop_at s source)
  pub no_more : (number : ℕ) → cpus ≤ number → (stop_at s number).is_open ≡ false
  pub cpus_are : (cpu : ℕ) → CpuIs p s (past_at pasts cpu) cpu
  pub keys : (key : ℕ) → count_at s.words key ≡ at (Key key)
  pub sites : (site : ℕ) → site_at s.words site ≡ at (Site site)

-- what a CPU has stored of the stop that it begins, by the field that it stores next
abbrev pub DraftIs : Work → Field → Draft → Type 0
DraftIs w field.Kind d = Unit {0}
DraftIs w field.Mask d = d.kind ≡ w.kind
DraftIs w field.Active d = (d.kind ≡ w.kind) × (d.mask ≡ w.mask)
DraftIs w field.Func d = (d.kind ≡ w.kind) × ((d.mask ≡ w.mask) × (d.active ≡ w.active))
DraftIs w field.Arg d = (d.kind ≡ w.kind) × ((d.mask ≡ w.mask) × ((d.active ≡ w.active) × (d.func ≡ w.func)))
DraftIs w _ d = (d.kind ≡ w.kind) × ((d.mask ≡ w.mask) × ((d.active ≡ w.active) × ((d.func ≡ w.func) × (d.arg ≡ w.arg))))

-- the masks of a work are of CPUs
pub record IsOfCpus (w : Work) : Type 0 where
  pub mask : w.mask < 2 ^ 32
  pub active : w.active < 2 ^ 32

abbrev pub Drafts : Option StopStage → Draft → Type 0
Drafts (Some (Begin w f)) d = IsOfCpus w × DraftIs w f d
Drafts _ d = Unit {0}
