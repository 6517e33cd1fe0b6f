-- The events of a replay are accepted.
use Rattle.std.specs.Prelude.{◌≡◌, ℕ, Bool, true, false, List, filter, length, slice_index_or, Option}
use Rattle.std.specs.List.{AllByRecursion}
use Rattle.smp_labels.specs.Labels.{Labels}
use Rattle.smp_labels.specs.declared.words.LabelWords.{LabelWords}
use Rattle.smp_mask.specs.declared.error.SmpError.{SmpError}
use Rattle.smp_words.specs.Commands.{FitsCommand}
use Rattle.smp_words.specs.declared.command.Command.{Command as Started}
use Rattle.smp_words.specs.declared.command.Command.TheVariants as started
use Rattle.smp_words.specs.declared.command.Event.{Event as Command}
use Rattle.smp_words.specs.declared.command.Event.TheVariants as command
use Rattle.smp_words.specs.declared.seen.Seen.{Seen}
use Rattle.smp_words.specs.declared.word.Word.TheVariants.{Key, Entry, Site}
use Rattle.smp_call_steps.specs.Calls.{no_calls, tells_all}
use Rattle.smp_stop_steps.specs.State.{StopState, no_stops}
use Rattle.smp_stop_steps.specs.Table.{stop_number}
use Rattle.smp_stop_steps.specs.Value.{StopShown, StopsValue}
use Rattle.smp_core.specs.New.{new_core}
use Rattle.smp_core.specs.Runs.{IsReplay}
use Rattle.smp_core.specs.Value.{CoreValue, Shown}
use Rattle.smp_core.specs.Whole.{IsWhole}
use Rattle.trace_model.specs.declared.event.Event.{Event}
use Rattle.trace_model.specs.declared.event.Event.TheVariants as event
use Rattle.trace_model.specs.declared.without.Setting.{Setting}
use Rattle.trace_model.specs.Labels.{count_at, site_at}
use Rattle.trace_model.specs.Opened.{opening}
use Rattle.trace_model.specs.Runs.{Runs}
use Rattle.trace_model.specs.State.{StateValue}
use Rattle.trace_events.specs.Traces.{all_fresh, events_of}
use Rattle.trace_events.specs.declared.past.Past.{Past}
use Rattle.trace_laws.specs.AgreeingCalls.{Follows, nothing_left_out}
use Rattle.trace_laws.specs.AgreeingStops.{FollowsStops, IsOfCpus}

-- an event is one of calls
abbrev pub is_of_call : ℕ × Event → Bool
is_of_call (cpu, event.Call call) = true
is_of_call (cpu, event.Stop stop) = false
is_of_call (cpu, event.Label label) = false

-- the events of calls among these, those of stops, keys and sites left out
abbrev pub call_events : List (ℕ × Event) → List (ℕ × Event)
call_events events = filter is_of_call events

-- the numbers of a command that a replay begins are of its types
abbrev pub Fits : Command → Type 0
Fits (command.Start cpu c) = FitsCommand c
Fits (command.Step cpu) = Unit {0}

-- a trace is of these CPUs, and leaves nothing out
pub record IsOf (u : Setting) (mask : ℕ) : Type 0 where
  pub online : u.online ≡ mask
  pub whole : u.without ≡ nothing_left_out

-- The events of calls that these steps tell are a run of the model of events. It leads to a state in which each queue, each batch,
-- each call that runs, each interrupt and each record is as in the calls that the steps tell, which are those of the core.
pub record CallsAreAccepted (u : Setting) (words : LabelWords) (steps : List Seen) (core : CoreValue) : Type 0 where
  pub end : StateValue
  pub run : Runs (opening u words) (call_events (events_of all_fresh steps)) end
  pub shown : Shown (tells_all no_calls steps) core
  pub follows : Follows core.online (tells_all no_calls steps) end

-- For each replay, from a machine in which nothing was begun, the events of calls are accepted.
abbrev pub CallsOfReplaysAreAccepted : Type 0
CallsOfReplaysAreAccepted = (nr online : ℕ) (labels : Labels) (commands : List Command) (core : CoreValue) (steps : List Seen)
    (stopped : Option (ℕ × SmpError)) (u : Setting) (words : LabelWords) → IsWhole (new_core nr online labels) → AllByRecursion Fits commands
    → IsReplay (new_core nr online labels) commands core steps stopped
    → IsOf u online → CallsAreAccepted u words steps core

-- the masks of a stop that begins are of CPUs
abbrev pub BeginsOfCpus : Started → Type 0
BeginsOfCpus (started.Begin work) = IsOfCpus work
BeginsOfCpus _ = Unit {0}

-- the same of what a replay does, and the numbers of a command are of its types
abbrev pub FitsCpus : Command → Type 0
FitsCpus (command.Start cpu c) = FitsCommand c × BeginsOfCpus c
FitsCpus (command.Step cpu) = Unit {0}

-- a trace has the keys of a stop half, and its words are those of the half
pub record AreWordsOf (u : Setting) (words : LabelWords) (half : StopsValue) : Type 0 where
  pub count : u.keys ≡ half.labels.keys
  pub keys_are : length words.keys ≡ 4
  pub sites_are : length words.sites ≡ 16
  pub keys : (key : ℕ) → count_at words key ≡ stop_number half.table (Key key)
  pub entries : (site : ℕ) → slice_index_or words.entries site 0 ≡ stop_number half.table (Entry site)
  pub sites : (site : ℕ) → site_at words site ≡ stop_number half.table (Site site)

-- The events that these steps tell are a run of the model of events. It leads to a state in which all of the calls, and all of the
-- stops, the gate, and the keys and sites, is as in the core.
pub record IsAccepted (u : Setting) (words : LabelWords) (steps : List Seen) (core : CoreValue) : Type 0 where
  pub end : StateValue
  pub run : Runs (opening u words) (events_of all_fresh steps) end
  pub shown : Shown (tells_all no_calls steps) core
  pub follows : Follows core.online (tells_all no_calls steps) end
  pub stops : StopState
  pub stops_shown : StopShown stops core.stops
  pub pasts : List Past
  pub follows_stops : FollowsStops stops (stop_number core.stops.table) pasts end

-- Each replay from a machine in which nothing was begun is accepted.
abbrev pub ReplaysAreAccepted : Type 0
ReplaysAreAccepted = (nr online : ℕ) (labels : Labels) (commands : List Command) (core : CoreValue) (steps : List Seen)
    (stopped : Option (ℕ × SmpError)) (u : Setting) (words : LabelWords) → let first = new_core nr online labels in
    IsWhole first → StopShown no_stops first.stops → AllByRecursion FitsCpus commands → IsReplay first commands core steps stopped
    → IsOf u online → AreWordsOf u words first.stops → IsAccepted u words steps core
