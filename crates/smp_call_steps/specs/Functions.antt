-- When the function of a call runs: what each step does of the calls that run, and what it says of them.
use Rattle.std.specs.Prelude.{◌≡◌, ◌⊎◌, ℕ, ◌==◌, Bool, true, false, if◌then◌else◌, Option, Some, List, [], ◌∷◌, ◌++◌}
use Rattle.smp_words.specs.Put.{put}
use Rattle.smp_words.specs.Size.{owner}
use Rattle.smp_call_steps.specs.Calls.{CallState, Running, Nothing, SyncCall, CountedCall, AsyncCall}
use Rattle.smp_call_steps.specs.Histories.{running_call}
use Rattle.smp_call_steps.specs.Names.{Call, Class, Sync, Async, RecPlace, Note, Seen}
use Rattle.smp_call_steps.specs.Names.place
use Rattle.smp_call_steps.specs.Names.note

-- while its function runs
abbrev pub runs_as : Class → Call → Running
runs_as Sync call = SyncCall call
runs_as Async call = AsyncCall call

-- as it ends: a SYNC call is counted before, an ASYNC call by that step
abbrev pub ends_as : Class → Call → Running
ends_as Sync call = CountedCall call
ends_as Async call = AsyncCall call

-- where its record is while its function runs: that of a SYNC call stays locked
abbrev pub place_as : Class → ℕ → RecPlace
place_as Sync me = place.Running me
place_as Async me = place.Free

-- what a step may tell of functions: the call that each CPU runs, and those that have ended there
pub record ToldCalls : Type 0 where
  pub running : ℕ → Running
  pub ran : ℕ → List Call

abbrev pub told_of : CallState → ToldCalls
told_of a = record { running = a.running; ran = a.ran }

-- whether the note says that a function runs
abbrev pub is_call : Option Note → Bool
is_call (Some (note.Call source func info)) = true
is_call _ = false

-- the step tells nothing of functions
pub record Silent (a b : CallState) (said : Option Note) : Type 0 where
  pub same : told_of b ≡ told_of a
  pub says : is_call said ≡ false

-- The CPU begins the call at the front of its batch, and says so with its source, function and info; it had none running.
pub record BeginsIt (a b : CallState) (me : ℕ) (said : Option Note) : Type 0 where
  pub call : Call
  pub front : a.batch me ≡ call ∷ b.batch me
  pub idle : a.running me ≡ Nothing
  pub runs : told_of b ≡ record (told_of a) { running = put a.running me (runs_as call.class call) }
  pub placed : b.place call.id ≡ place_as call.class me
  pub says : said ≡ Some (note.Call (owner call.id) call.func call.info)

-- it counts a SYNC call whose function has run
pub record CountsIt (a b : CallState) (me : ℕ) (said : Option Note) : Type 0 where
  pub call : Call
  pub was : a.running me ≡ SyncCall call
  pub counts : told_of b ≡ record (told_of a) { running = put a.running me (CountedCall call) }
  pub says : is_call said ≡ false

-- it ends the call that it runs, which is the last of those that have ended there
pub record EndsIt (a b : CallState) (me : ℕ) (said : Option Note) : Type 0 where
  pub call : Call
  pub was : a.running me ≡ ends_as call.class call
  pub ends : told_of b ≡ record { running = put a.running me Nothing; ran = put a.ran me (a.ran me ++ call ∷ []) }
  pub says : is_call said ≡ false

-- what a step does of functions is one of these
abbrev pub FunctionGoes : CallState → CallState → ℕ → Option Note → Type 0
FunctionGoes a b me said = Silent a b said ⊎ BeginsIt a b me said ⊎ CountsIt a b me said ⊎ EndsIt a b me said

-- the calls that have begun at a CPU: those that have ended there, and the one that runs
abbrev pub begun_in : ToldCalls → ℕ → List Call
begun_in t cpu = t.ran cpu ++ running_call (t.running cpu)

-- a function call, as a step says it
pub record Said : Type 0 where
  pub source : ℕ
  pub func : ℕ
  pub info : ℕ

-- these calls, as the steps that begin them say it
abbrev pub all_said : List Call → List Said
all_said [] = []
all_said (call ∷ rest) = record { source = owner call.id; func = call.func; info = call.info } ∷ all_said rest

abbrev pub call_in : Option Note → List Said
call_in (Some (note.Call source func info)) = record { source = source; func = func; info = info } ∷ []
call_in _ = []

-- what the steps of this CPU say, of all these
abbrev pub said_by : ℕ → List Seen → List Said
said_by cpu [] = []
said_by cpu (seen ∷ rest) = (if cpu == seen.cpu then call_in seen.note else []) ++ said_by cpu rest

-- the function calls that these steps say, CPU by CPU and in order, are the calls that have begun there meanwhile
abbrev pub SaysWhatBegins : CallState → List Seen → CallState → Type 0
SaysWhatBegins a seen b = (cpu : ℕ) → all_said (begun_in (told_of b) cpu) ≡ all_said (begun_in (told_of a) cpu) ++ said_by cpu seen
