-- Which calls the lines of a script ask a CPU to send, and how many direct calls they ask it to make.
use Rattle.std.specs.Prelude.{◌≡◌, ℕ, zero, suc, ◌+◌, ◌*◌, ◌<◌, Bool, true, false, not, ◌&&◌, ◌==◌, if◌then◌else◌, List, [], ◌∷◌, ◌++◌, length, map}
use Rattle.std.specs.List.{flat_map, sum_by}
use Rattle.smp_mask.specs.Mask.{has}
use Rattle.smp_queue.specs.Cpu.{confirmed_at}
use Rattle.smp_words.specs.Size.{cpus, record_of, records_of_one}
use Rattle.smp_words.specs.declared.call.Call.{Call}
use Rattle.smp_words.specs.declared.call.Class.{Class}
use Rattle.smp_words.specs.declared.call.Class.TheVariants.{Sync, Async}
use Rattle.smp_call_steps.specs.declared.known.Sending.{Sending}
use Rattle.smp_calls.specs.Records.{call_by, many_call, single_record, user_record, class_for}
use Rattle.smp_calls.specs.Targets.{is_target}
use Rattle.smp_machine.specs.MachineCpu.{MachineCpuValue}
use Rattle.smp_script.specs.declared.request.Request.{Request}
use Rattle.smp_script.specs.declared.request.Request.TheVariants.{Single, User, Any, Many, Cond}
use Rattle.smp_script.specs.declared.directive.Directive.{Directive}
use Rattle.smp_script.specs.declared.directive.Directive.TheVariants.{Do}
use Rattle.smp_run.specs.Answers.{says}

-- a call, by its record, class, function and info, and the CPU that it was queued for
pub record Sent : Type 0 where
  pub call : Call
  pub to : ℕ

-- what a CPU has sent, without the marks that say which queues were empty
abbrev pub sent_of : List Sending → List Sent
sent_of sendings = map (λ s. record { call = s.call; to = s.to }) sendings

-- since then a CPU has sent just these calls, in order, and has made this number of direct calls: calls to itself, run at once
pub record HasCalled (calls : List Sent) (direct : ℕ) (old new : MachineCpuValue) : Type 0 where
  pub sent : sent_of new.calls.part.sent ≡ sent_of old.calls.part.sent ++ calls
  pub direct_is : length new.calls.direct ≡ length old.calls.direct + direct

-- whether calls of a class are waited for
abbrev pub is_sync : Class → Bool
is_sync Sync = true
is_sync Async = false

-- whether the last of some calls by this record is waited for; before them it was as given
abbrev pub is_waited : Bool → ℕ → List Sending → Bool
is_waited was id [] = was
is_waited was id (s ∷ more) = is_waited (if id == s.call.id then is_sync s.call.class else was) id more

-- each record of a CPU whose last call waits was seen confirmed: that call has ended
pub record HasWaited (p : MachineCpuValue) : Type 0 where
  pub each : (k : ℕ) → k < records_of_one → is_waited false (record_of p.calls.number k) p.calls.part.sent ≡ true → confirmed_at p.calls k ≡ true

-- the call for each of these CPUs
abbrev pub calls_to : (ℕ → Call) → List ℕ → List Sent
calls_to call to = map (λ c. record { call = call c; to = c }) to

-- the numbers below n that pass a test, ascending
unfoldable pub passing_below : (ℕ → Bool) → ℕ → List ℕ
passing_below passes zero = []
passing_below passes (suc n) = passing_below passes n ++ (if passes n then n ∷ [] else [])

-- the CPUs that pass a test, ascending
abbrev pub cpus_with : (ℕ → Bool) → List ℕ
cpus_with passes = passing_below passes cpus

-- the first of a list, if there is one
abbrev pub first_only : List ℕ → List ℕ
first_only [] = []
first_only (x ∷ xs) = x ∷ []

-- whose queue a call to one CPU goes into: that CPU's, where it is online and not the caller
abbrev pub queue_of_one : ℕ → ℕ → ℕ → List ℕ
queue_of_one online this dst = if has online dst && not (dst == this) then dst ∷ [] else []

-- whose queue a call to any CPU of a mask goes into: the lowest one's that is online, where the mask lacks the caller
abbrev pub queue_of_any : ℕ → ℕ → ℕ → List ℕ
queue_of_any online this mask = if has mask this then [] else first_only (cpus_with (λ c. has mask c && has online c))

-- the calls that a CPU sends which makes a request once, of a machine with these CPUs online
abbrev pub request_calls : ℕ → ℕ → Request → List Sent
request_calls online this (Single wait dst func info) =
    calls_to (λ _. call_by this (single_record wait) (class_for wait) func info) (queue_of_one online this dst)
request_calls online this (User u dst func info) = calls_to (λ _. call_by this (user_record u) Async func info) (queue_of_one online this dst)
request_calls online this (Any wait mask func info) =
    calls_to (λ _. call_by this (single_record wait) (class_for wait) func info) (queue_of_any online this mask)
request_calls online this (Many wait mask func info) = calls_to (many_call this (class_for wait) func info) (cpus_with (is_target mask online this false))
request_calls online this (Cond which wait mask func info) =
    calls_to (many_call this (class_for wait) func info) (cpus_with (λ c. is_target mask online this false c && says which c))
request_calls online this _ = []

-- one direct call, or none
abbrev pub one_if : Bool → ℕ
one_if called = if called then 1 else 0

-- the direct calls of a CPU that is online and makes a request once: one where the request calls that CPU itself
abbrev pub request_direct : ℕ → Request → ℕ
request_direct this (Single wait dst func info) = one_if (dst == this)
request_direct this (User u dst func info) = one_if (dst == this)
request_direct this (Any wait mask func info) = one_if (has mask this)
request_direct this (Cond which wait mask func info) = one_if (has mask this && says which this)
request_direct this _ = 0

-- since then a CPU has made the calls of a request once
abbrev pub HasRequested : ℕ → Request → MachineCpuValue → MachineCpuValue → Type 0
HasRequested online request old new = HasCalled (request_calls online old.calls.number request) (request_direct old.calls.number request) old new

-- a list this number of times
unfoldable pub repeated : {A : Type 0} → ℕ → List A → List A
repeated zero xs = []
repeated (suc n) xs = repeated n xs ++ xs

-- the calls of a line, as often as it says, where it is this CPU's own
abbrev pub line_calls : ℕ → ℕ → Directive → List Sent
line_calls online this (Do cpu count request) = if cpu == this then repeated count (request_calls online this request) else []
line_calls online this _ = []

-- the direct calls of a line, as often as it says, where it is this CPU's own
abbrev pub line_direct : ℕ → Directive → ℕ
line_direct this (Do cpu count request) = if cpu == this then count * request_direct this request else 0
line_direct this _ = 0

-- the calls of all lines, in the order of the script
abbrev pub script_calls : ℕ → ℕ → List Directive → List Sent
script_calls online this lines = flat_map (line_calls online this) lines

-- the direct calls of all lines
abbrev pub script_direct : ℕ → List Directive → ℕ
script_direct this lines = sum_by (line_direct this) lines
