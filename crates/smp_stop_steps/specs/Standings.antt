-- One stop: its work, its phase, where each CPU is with it, who sets the next phase, and how far it has completed.
use Rattle.std.specs.Prelude.{ℕ, Bool, true, false}
use Rattle.smp_stop_steps.specs.Names.{One, Work}

-- where a CPU is with one stop
pub data Standing : Type 0 where
  -- not of its mask, or no stop is open
  Outside : Standing
  -- of its mask, and has not entered
  Called : Standing
  -- inside, with the last phase that it acknowledged and the last that it looked at
  Inside : (acked looked : ℕ) → Standing
  -- inside, with its answer in the result word, before it counts itself
  Answering : (acked answer : ℕ) → Standing
  -- it has completed, with its answer
  Completed : (acked answer : ℕ) → Standing

-- who sets the next phase: at most one by construction
pub data Raising : Type 0 where
  Nobody : Raising
  -- it was the last to acknowledge, and has not refilled the count
  Refills : (cpu : ℕ) → Raising
  -- it has refilled it, and has not stored the phase
  Raises : (cpu : ℕ) → Raising

-- how far the completion is
pub data Ending : Type 0 where
  Running : Ending
  -- all have completed; this one, the last, has not stored done
  Last : (cpu : ℕ) → Ending
  Ended : Ending

-- the stop of one source
pub record Stop : Type 0 where
  pub is_open : Bool
  pub work : Work
  -- 0 in a stop of kind One, else PREPARE to OVER
  pub phase : ℕ
  pub standing : ℕ → Standing
  pub raising : Raising
  pub ending : Ending

-- a slot whose stop is not open
abbrev pub no_stop : Stop
no_stop = record {
  is_open = false;
  work = record { kind = One; mask = 0; active = 0; func = 0; arg = 0 };
  phase = 0;
  standing = λ _. Outside;
  raising = Nobody;
  ending = Running;
}

-- the last phase that a CPU acknowledged
abbrev pub acked : Standing → ℕ
acked Outside = 0
acked Called = 0
acked (Inside a l) = a
acked (Answering a v) = a
acked (Completed a v) = a

-- it is of the mask of an open stop
abbrev pub is_of : Standing → Bool
is_of Outside = false
is_of _ = true

-- it has not entered
abbrev pub is_called : Standing → Bool
is_called Called = true
is_called _ = false

-- it has entered and not completed
abbrev pub is_inside : Standing → Bool
is_inside (Inside a l) = true
is_inside (Answering a v) = true
is_inside _ = false

-- the answer that it gave
abbrev pub answer_of : Standing → ℕ
answer_of (Answering a v) = v
answer_of (Completed a v) = v
answer_of _ = 0
