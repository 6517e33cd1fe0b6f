-- What the answer of a post says of running threads.
use Rattle.std.specs.Prelude.{◌≡◌, ℕ, Bool, [], ◌∷◌, ◌++◌}
use Rattle.smp_words.specs.Size.{record_of}
use Rattle.smp_call_steps.specs.Calls.{CallState}
use Rattle.smp_call_steps.specs.Histories.{mark, sent_to, marked_from, history_of}
use Rattle.smp_call_steps.specs.Reached.{IsReached}
use Rattle.smp_call_steps.specs.Shows.{Shows}
use Rattle.smp_call_steps.specs.Stages.{ControlValue}
use Rattle.smp_call_steps.specs.declared.place.RecPlace.TheVariants as place
use Rattle.smp_queue.specs.Names.{Call, Class, Word}
use Rattle.smp_queue.specs.Cpu.{CpuValue, cpu_in}

-- some words of the table show calls that are reached and keep all laws, of which this value is its CPU's part, and of which
-- this holds
pub record ShowsThat (c : CpuValue) (P : CallState → Type 0) : Type 0 where
  pub calls : CallState
  pub at : Word → ℕ
  pub reached : IsReached calls at
  pub controls : ℕ → ControlValue
  pub shown : Shows calls at controls
  pub view : c ≡ cpu_in c.table c.setting calls c
  pub holds : P calls

-- the record k of this CPU is free
abbrev pub IsFree : CpuValue → ℕ → CallState → Type 0
IsFree c k calls = calls.place (record_of c.number k) ≡ place.Free

-- a call by the record k of this CPU
abbrev pub call_by : CpuValue → ℕ → Class → ℕ → ℕ → Call
call_by c k class func info = record { id = record_of c.number k; class = class; func = func; info = info }

-- this CPU's calls for a target are those that it had queued there before, and then this call; the mark says whether it is first there
abbrev pub IsMarked : CpuValue → ℕ → Call → Bool → CallState → Type 0
IsMarked old to call first calls =
    marked_from old.number (history_of (calls.taken to) (calls.queue to)) ≡ sent_to to old.part.sent ++ mark first call ∷ []
