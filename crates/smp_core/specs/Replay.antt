-- A list of events, one after the other, up to the first that is refused.
use Rattle.std.specs.Prelude.{ℕ, ◌+◌, Option, Some, None, Result, Ok, Err, List, [], ◌∷◌, ◌++◌}
use Rattle.smp_mask.specs.declared.error.SmpError.{SmpError}
use Rattle.smp_mask.specs.declared.error.SmpError.TheVariants as error
use Rattle.smp_core.specs.Value.{CoreValue}
use Rattle.smp_core.specs.Machine.{Stepped, step_of}
use Rattle.smp_core.specs.Start.{refusal_of, started}
use Rattle.smp_words.specs.declared.seen.Seen.{Seen}
use Rattle.smp_words.specs.declared.command.Event.{Event}
use Rattle.smp_words.specs.declared.command.Event.TheVariants as event

-- the answer to one event, the core after it, and what the CPU's function answers, where the event is a step that loads
-- its argument
pub record Turn : Type 0 where
  pub answer : Result (Option Seen) SmpError
  pub core : CoreValue
  pub answered : ℕ

abbrev pub start_turn : CoreValue → CoreValue → Option SmpError → Turn
start_turn old new (Some refused) = record { answer = Err refused; core = old; answered = 0 }
start_turn old new None = record { answer = Ok None; core = new; answered = 0 }

abbrev pub step_turn : CoreValue → Option Stepped → Turn
step_turn core None = record { answer = Err error.IdleStep; core = core; answered = 0 }
step_turn core (Some s) = record { answer = Ok (Some s.seen); core = s.core; answered = s.answer }

-- one event
abbrev pub turn_of : CoreValue → Event → Turn
turn_of core (event.Start cpu command) = start_turn core (started core cpu command) (refusal_of core cpu command)
turn_of core (event.Step cpu) = step_turn core (step_of core cpu)

-- what a replay leaves
pub record Replay : Type 0 where
  pub core : CoreValue
  pub seen : List Seen
  pub stopped : Option (ℕ × SmpError)

abbrev pub seen_list : Option Seen → List Seen
seen_list None = []
seen_list (Some seen) = seen ∷ []

-- with these seen before
abbrev pub after_seen : List Seen → Replay → Replay
after_seen before r = record { core = r.core; seen = before ++ r.seen; stopped = r.stopped }

-- where one event answered so: the end, or what it showed and then the rest
abbrev pub replay_on : ℕ → CoreValue → Result (Option Seen) SmpError → Replay → Replay
replay_on position core (Err refused) rest = record { core = core; seen = []; stopped = Some (position, refused) }
replay_on position core (Ok seen) rest = after_seen (seen_list seen) rest

-- the events from this position on
abbrev pub replay_from : ℕ → CoreValue → List Event → Replay
replay_from position core [] = record { core = core; seen = []; stopped = None }
replay_from position core (event ∷ rest) =
    let turn = turn_of core event in
    replay_on position turn.core turn.answer (replay_from (position + 1) turn.core rest)

-- what the functions have answered, one number for each step that is seen
abbrev pub answers_on : Result (Option Seen) SmpError → ℕ → List ℕ → List ℕ
answers_on (Err refused) answer rest = []
answers_on (Ok None) answer rest = rest
answers_on (Ok (Some seen)) answer rest = answer ∷ rest

abbrev pub answers_from : CoreValue → List Event → List ℕ
answers_from core [] = []
answers_from core (event ∷ rest) =
    let turn = turn_of core event in
    answers_on turn.answer turn.answered (answers_from turn.core rest)
