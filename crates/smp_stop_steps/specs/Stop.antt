-- The steps of one stop.
use Rattle.std.specs.Prelude.{ℕ, true, false, ◌==◌, cond}
use Rattle.smp_stop_steps.specs.Names.{has, put, Kind, One, Multi, Patch, Work, PREPARE}
pub use Rattle.smp_stop_steps.specs.Standings.{Standing, Outside, Called, Inside, Answering, Completed, Raising, Nobody, Refills, Raises}
pub use Rattle.smp_stop_steps.specs.Standings.{Ending, Running, Last, Ended, Stop, no_stop, acked, is_of, is_called, is_inside, answer_of}

-- the phase in which a stop of this kind opens
abbrev pub first_phase : Kind → ℕ
first_phase One = 0
first_phase Multi = PREPARE
first_phase Patch = PREPARE

-- open: all of the mask are called
abbrev pub opened : Stop → Work → Stop
opened stop work = record {
  is_open = true;
  work = work;
  phase = first_phase work.kind;
  standing = λ cpu. cond (has work.mask cpu) Called Outside;
  raising = Nobody;
  ending = Running;
}

-- a CPU goes elsewhere: it enters, it looks, or it stores its answer
abbrev pub stands : Stop → ℕ → Standing → Stop
stands stop me to = record stop { standing = put stop.standing me to }

-- acknowledge: who finds 1 sets the next phase
abbrev pub acknowledged : Stop → ℕ → ℕ → ℕ → Stop
acknowledged stop me p found = record stop { standing = put stop.standing me (Inside p p); raising = cond (found == 1) (Refills me) stop.raising }

-- the count is refilled
abbrev pub refilled : Stop → ℕ → Stop
refilled stop me = record stop { raising = Raises me }

-- raise: the phase grows by 1
abbrev pub raised : Stop → ℕ → Stop
raised stop p = record stop { phase = p; raising = Nobody }

-- complete: who finds 1 is the last
abbrev pub completed : Stop → ℕ → ℕ → ℕ → ℕ → Stop
completed stop me a v found = record stop { standing = put stop.standing me (Completed a v); ending = cond (found == 1) (Last me) stop.ending }

-- the last has stored done
abbrev pub ended : Stop → Stop
ended stop = record stop { ending = Ended }

-- collect: the stop is closed
abbrev pub closed : Stop → Stop
closed stop = record stop { is_open = false; standing = λ cpu. Outside }
