-- What a script prints: its events one after the other, up to the first that is refused.
use Rattle.std.specs.Prelude.{ℕ, zero, suc, ◌+◌, Bool, true, false, if◌then◌else◌, List, [], ◌∷◌, ◌++◌, Option, Some, None, Result, Ok, Err}
use Rattle.smp_mask.specs.declared.error.SmpError.{SmpError}
use Rattle.smp_core.specs.Value.{CoreValue}
use Rattle.smp_labels.specs.Labels.{Labels}
use Rattle.smp_core.specs.New.{new_core, no_labels}
use Rattle.smp_core.specs.Replay.{turn_of}
use Rattle.smp_words.specs.declared.seen.Seen.{Seen}
use Rattle.smp_words.specs.declared.command.Event.{Event}
use Rattle.smp_words.specs.declared.command.Event.TheVariants as event
use Rattle.smp_script.specs.declared.directive.Directive.{Directive}
use Rattle.smp_script.specs.declared.directive.Directive.TheVariants.{Start, Step, Show, Do}
use Rattle.smp_replay.specs.Text.{seen_text, stopped_text}
use Rattle.smp_replay.specs.Showing.{show_text}
use Rattle.smp_script.specs.Script.{Script}

-- how far a replay is: the core, how many events it made, what it printed, and whether an event was refused
pub record Progress : Type 0 where
  pub core : CoreValue
  pub position : ℕ
  pub text : List ℕ
  pub stopped : Bool

-- a step prints its line, and a start none
abbrev pub event_text : Option Seen → List ℕ
event_text None = []
event_text (Some seen) = seen_text seen

-- after an event that was answered so: a refused event prints a line of its own, and the replay ends
abbrev pub after_answer : CoreValue → ℕ → List ℕ → Result (Option Seen) SmpError → Progress
after_answer core position text (Ok seen) = record { core = core; position = position + 1; text = text ++ event_text seen; stopped = false }
after_answer core position text (Err error) = record { core = core; position = position; text = text ++ stopped_text position error; stopped = true }

-- after one event more
unfoldable pub event_after : Progress → Event → Progress
event_after p e = if p.stopped then p else after_answer (turn_of p.core e).core p.position p.text (turn_of p.core e).answer

-- after this number of steps more
unfoldable pub steps_after : Progress → ℕ → ℕ → Progress
steps_after p cpu zero = p
steps_after p cpu (suc n) = event_after (steps_after p cpu n) (event.Step cpu)

abbrev pub show_after : Progress → Progress
show_after p = if p.stopped then p else record { core = p.core; position = p.position; text = p.text ++ show_text p.core; stopped = false }

-- after one line more; a replay has no `do` line
abbrev pub directive_after : Progress → Directive → Progress
directive_after p (Start cpu command) = event_after p (event.Start cpu command)
directive_after p (Step cpu count) = steps_after p cpu count
directive_after p Show = show_after p
directive_after p (Do cpu count request) = p

-- after these lines
unfoldable pub replay_after : Progress → List Directive → Progress
replay_after p [] = p
replay_after p (d ∷ ds) = replay_after (directive_after p d) ds

-- no keys and no sites where there is no labels line
abbrev pub labels_or_none : Option Labels → Labels
labels_or_none None = no_labels
labels_or_none (Some labels) = labels

-- before the first line
abbrev pub new_progress : ℕ → ℕ → Labels → Progress
new_progress nr online labels = record { core = new_core nr online labels; position = 0; text = []; stopped = false }

-- the replay of a script, from a table with no calls and no stops, all keys off
abbrev pub replay_of : Script → Progress
replay_of script = replay_after (new_progress script.nr script.online (labels_or_none script.labels)) script.directives
