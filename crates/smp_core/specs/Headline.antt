-- The headline, of a core: whatever calls and stops it shows.
use Rattle.std.specs.Prelude.{ℕ, List}
use Rattle.smp_words.specs.Layout.{number_in}
use Rattle.smp_words.specs.declared.word.Word.{Word}
use Rattle.smp_words.specs.declared.seen.Seen.{Seen}
use Rattle.smp_words.specs.declared.command.Event.{Event}
use Rattle.smp_call_steps.specs.Calls.{tells_all}
use Rattle.smp_call_steps.specs.State.{CallState, no_calls}
use Rattle.smp_stop_steps.specs.State.{StopState, no_stops}
use Rattle.smp_stop_steps.specs.Table.{stop_number}
use Rattle.smp_stop_steps.specs.Tells.{tells_all as tells_stops}
use Rattle.smp_stop_steps.specs.Shows.{AreAtSeats}
use Rattle.smp_core.specs.Machine.{setup_in}
use Rattle.smp_core.specs.Replay.{answers_from}
use Rattle.smp_core.specs.Value.{CoreValue, Shown}

-- it shows some calls and some stops
pub record HasState (core : CoreValue) : Type 0 where
  pub calls : CallState
  pub shows_calls : Shown calls core
  pub stops : StopState
  pub shows_stops : AreAtSeats (setup_in core) stops (stop_number core.stops.table)

-- a law of all calls that it shows, with its words; and one of all stops
abbrev pub OfCalls : CoreValue → (CallState → (Word → ℕ) → Type 0) → Type 0
OfCalls core Law = (a : CallState) → Shown a core → Law a (number_in core.words)

abbrev pub OfStops : CoreValue → (StopState → (Word → ℕ) → Type 0) → Type 0
OfStops core Law = (p : StopState) → AreAtSeats (setup_in core) p (stop_number core.stops.table) → Law p (stop_number core.stops.table)

-- the calls and the stops after all steps of a replay of these events, from nothing called and nothing begun
abbrev pub calls_after : List Seen → CallState
calls_after seen = tells_all no_calls seen

abbrev pub stops_after : CoreValue → List Event → List Seen → StopState
stops_after first events seen = tells_stops (setup_in first) no_stops seen (answers_from first events)
