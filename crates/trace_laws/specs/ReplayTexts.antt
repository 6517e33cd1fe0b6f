-- The text of a replay: its head and a line for each event.
use Rattle.std.specs.Prelude.{◌≡◌, ℕ, ◌<◌, ◌≤◌, ◌^◌, true, List, [], ◌∷◌, ◌++◌, length, Option, is_some, Ok}
use Rattle.std.specs.List.{AllByRecursion, flat_map}
use Rattle.smp_labels.specs.declared.words.LabelWords.{LabelWords}
use Rattle.smp_mask.specs.Mask.{has}
use Rattle.smp_mask.specs.declared.error.SmpError.{SmpError}
use Rattle.smp_words.specs.declared.command.Command.TheVariants as started
use Rattle.smp_words.specs.declared.command.Event.{Event as Command}
use Rattle.smp_words.specs.declared.command.Event.TheVariants as command
use Rattle.smp_words.specs.declared.seen.Seen.{Seen}
use Rattle.smp_script.specs.Lines.{Line, lines_of}
use Rattle.smp_script.specs.Script.{Script, first_line, script_of}
use Rattle.smp_script.specs.Spelling.{IsAnswer}
use Rattle.smp_script.specs.declared.mode.Mode.TheVariants.{Replay}
use Rattle.smp_core.specs.New.{new_core}
use Rattle.smp_core.specs.Runs.{IsReplay}
use Rattle.smp_core.specs.Value.{CoreValue}
use Rattle.trace_model.specs.declared.event.CallEvent.{CallEvent}
use Rattle.trace_model.specs.declared.event.CallEvent.TheVariants as calls
use Rattle.trace_model.specs.declared.event.Event.{Event}
use Rattle.trace_model.specs.declared.event.Event.TheVariants as event
use Rattle.trace_model.specs.declared.event.LabelEvent.{LabelEvent}
use Rattle.trace_model.specs.declared.event.LabelEvent.TheVariants as labels
use Rattle.trace_model.specs.declared.event.StopEvent.{StopEvent}
use Rattle.trace_model.specs.declared.event.StopEvent.TheVariants as stops
use Rattle.trace_model.specs.declared.without.Setting.{Setting}
use Rattle.smp_replay.specs.Output.{labels_or_none}
use Rattle.trace_judge.specs.Head.{HeadValue, all_told, head_of, setting_of, words_of}
use Rattle.trace_judge.specs.Reading.{own_stop}
use Rattle.trace_judge.specs.Runs.{Told, told_by}
use Rattle.trace_judge.specs.Verdict.{verdict_of}
use Rattle.trace_events.specs.Front.{front_text}
use Rattle.trace_events.specs.Traces.{all_fresh, events_of, lines_text}
use Rattle.trace_events.specs.ScriptTrace.{steps_of, trace_of}
use Rattle.trace_events.specs.Moments.{moments_of}
use Rattle.trace_events.specs.Replays.{rows_of_script}
use Rattle.trace_events.specs.declared.moments.Asked.{Asked}
use Rattle.trace_events.specs.declared.moments.Asked.TheVariants.{Turn, Show}
use Rattle.trace_events.specs.declared.moments.Moment.{Moment}
use Rattle.trace_laws.specs.AcceptedReplays.{FitsCpus, IsAccepted}
use Rattle.smp_words.specs.declared.phase.TheConstants.{PREPARE, DISABLE_IRQ, EXIT, OVER}

-- the numbers of an event of calls are of its types; versions before 3 have nothing but calls in queues
abbrev pub CallFits : CallEvent → Type 0
CallFits (calls.Queue id to class func info) = (id < 2 ^ 16) × (to < 2 ^ 32) × (func < 2 ^ 64) × (info < 2 ^ 64)
CallFits (calls.QueueOther to node) = ⊥
CallFits (calls.Free id) = id < 2 ^ 16
CallFits (calls.Send to) = to < 2 ^ 32
CallFits (calls.Unlock id) = id < 2 ^ 16
CallFits (calls.Begin id func info) = (id < 2 ^ 16) × (func < 2 ^ 64) × (info < 2 ^ 64)
CallFits (calls.End id) = id < 2 ^ 16
CallFits _ = Unit {0}

-- those of an event of stops, with its phase in range
abbrev pub StopFits : StopEvent → Type 0
StopFits (stops.Open number t) = (t.mask < 2 ^ 32) × (t.active < 2 ^ 32) × (t.func < 2 ^ 64) × (t.arg < 2 ^ 64)
StopFits (stops.Enter number) = number < 2 ^ 32
StopFits (stops.Ack phase) = (PREPARE ≤ phase) × (phase ≤ EXIT)
StopFits (stops.Raise phase) = (DISABLE_IRQ ≤ phase) × (phase ≤ OVER)
StopFits (stops.Run func arg) = (func < 2 ^ 64) × (arg < 2 ^ 64)
StopFits (stops.Complete answer) = IsAnswer answer
StopFits (stops.Collect number answer) = IsAnswer answer
StopFits _ = Unit {0}

-- its key or site is one of the trace, and a count is one that a key may have
abbrev pub LabelFits : Setting → LabelEvent → Type 0
LabelFits u (labels.Set key count) = (key < u.keys) × (count ≤ 65535)
LabelFits u (labels.Turn site jumps) = site < u.sites
LabelFits u (labels.Key key on) = key < u.keys
LabelFits u (labels.Site site jumps) = site < u.sites
LabelFits u (labels.Nudge key up) = key < u.keys

abbrev pub EventFits : Setting → Event → Type 0
EventFits u (event.Call call) = CallFits call
EventFits u (event.Stop stop) = StopFits stop
EventFits u (event.Label label) = LabelFits u label

-- a stop that a CPU opens or collects has the CPU's number, which the text leaves out
abbrev pub OwnStop : ℕ → Event → Type 0
OwnStop cpu e = own_stop cpu e ≡ e

-- an event may be told in a trace: its CPU is online, its numbers fit, and its stop is the CPU's
abbrev pub IsTold : Setting → ℕ × Event → Type 0
IsTold u (cpu, e) = (cpu < 32) × (has u.online cpu ≡ true) × EventFits u e × OwnStop cpu e

abbrev pub AreTold : Setting → List (ℕ × Event) → Type 0
AreTold u events = AllByRecursion (IsTold u) events

-- each line has at most 1024 bytes, with its line feed
abbrev pub AreReadable : List Line → Type 0
AreReadable lines = AllByRecursion (λ l. length l.text < 1024) lines

-- a text is within the limits of the judge
pub record IsWithin (text : List ℕ) : Type 0 where
  pub bytes : length text ≤ 16777216
  pub count : length (lines_of text) ≤ 1000000
  pub lines : AreReadable (lines_of text)

-- what the trace of a script's replay is of: the script's CPUs and labels, and nothing is left out
abbrev pub traced : Script → Setting
traced script = setting_of script.online (labels_or_none script.labels) all_told

-- the trace of these events, behind the head that is made of the text of a script
abbrev pub trace_text : List ℕ → Script → List (ℕ × Event) → List ℕ
trace_text text script events = front_text (is_some script.labels) (lines_of text) ++ lines_text events

-- a text has a head of this setting and these words, and its lines tell just these events
pub record ReadsBack (text : List ℕ) (u : Setting) (words : LabelWords) (events : List (ℕ × Event)) : Type 0 where
  pub head : HeadValue
  pub head_is : head_of (lines_of text) ≡ Ok head
  pub setting_is : head.setting ≡ u
  pub words_are : head.words ≡ words
  pub told : Told
  pub told_is : told_by head.setting head.cursor.number head.cursor.used head.cursor.lines ≡ Ok told
  pub events_are : told.events ≡ events

-- For each script, the trace of events whose numbers fit reads back as these events, within the limits of the judge.
abbrev pub TextsReadBack : Type 0
TextsReadBack = (text : List ℕ) (script : Script) (events : List (ℕ × Event)) → script_of Replay text ≡ Ok script → AreTold (traced script) events
    → IsWithin (trace_text text script events)
    → ReadsBack (trace_text text script events) (traced script) (words_of (labels_or_none script.labels)) events

-- The trace of these steps is judged lawful, with just their events. The state at its end is one to which the model goes by them: it
-- is as in the core.
pub record IsJudged (script : Script) (text : List ℕ) (steps : List Seen) (core : CoreValue) : Type 0 where
  pub accepted : IsAccepted (traced script) (words_of (labels_or_none script.labels)) steps core
  pub verdict : verdict_of text ≡ Ok (length (events_of all_fresh steps), accepted.end)

-- the argument of a stop that begins is of 64 bits
abbrev pub ArgFits : Command → Type 0
ArgFits (command.Start cpu (started.Begin work)) = work.arg < 2 ^ 64
ArgFits _ = Unit {0}

-- The trace of each replay of a script, from a machine in which nothing was begun, is judged lawful within the limits of the judge,
-- where the numbers of its commands are of their types.
abbrev pub TextsOfReplaysAreLawful : Type 0
TextsOfReplaysAreLawful = (text : List ℕ) (script : Script) (commands : List Command) (core : CoreValue) (steps : List Seen)
    (stopped : Option (ℕ × SmpError)) → let first = new_core script.nr script.online (labels_or_none script.labels) in
    let trace = trace_text text script (events_of all_fresh steps) in
    script_of Replay text ≡ Ok script → AllByRecursion FitsCpus commands → AllByRecursion ArgFits commands
    → IsReplay first commands core steps stopped → IsWithin trace → IsJudged script trace steps core

-- what is asked for at a moment, where it is a command or a step
abbrev pub command_in : Asked → List Command
command_in (Turn e) = e ∷ []
command_in Show = []

-- the commands and the steps of a script
abbrev pub commands_at : List Moment → List Command
commands_at moments = flat_map (λ m. command_in m.asked) moments

abbrev pub commands_of : Script → List Command
commands_of script = commands_at (moments_of (first_line script.labels) script.directives)

-- The trace of a script is that of the replay of its commands and steps, and is judged lawful.
pub record IsLawfulTrace (text : List ℕ) (script : Script) : Type 0 where
  pub core : CoreValue
  pub stopped : Option (ℕ × SmpError)
  pub replay : IsReplay (new_core script.nr script.online (labels_or_none script.labels)) (commands_of script) core (steps_of (rows_of_script script)) stopped
  pub judged : IsJudged script (trace_of text script) (steps_of (rows_of_script script)) core

-- So is the trace of each script, within the limits of the judge.
abbrev pub TracesAreLawful : Type 0
TracesAreLawful = (text : List ℕ) (script : Script) → script_of Replay text ≡ Ok script → IsWithin (trace_of text script) → IsLawfulTrace text script
