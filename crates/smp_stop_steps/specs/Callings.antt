-- How far a CPU is with the function of the stop that it is in, by its seat.
use Rattle.std.specs.Prelude.{◌≡◌, ◌⊎◌, ℕ, ◌≤◌, true, false}
use Rattle.smp_stop_steps.specs.Seats.{StopRole, Free, In, Gives, Alters, Closes, Duty, Rests}
use Rattle.smp_stop_steps.specs.State.{StopCall, Calling, Idle, Calls, Carries, Present}
use Rattle.smp_stop_steps.specs.{Names.has, Names.One, Names.Work, Names.DISABLE_IRQ, Names.RUN, Stop.Standing, Stop.Completed, Stop.Last, Tells.calls_at_run}

-- the answer that it completes with: 0 where it has called no function
abbrev pub answer_in : Calling → ℕ
answer_in Idle = 0
answer_in (Calls call) = call.answer
answer_in (Carries answer) = answer

-- with another answer
abbrev pub with_answer : ℕ → Calling → Calling
with_answer x Idle = Idle
with_answer x (Calls call) = Calls (record call { answer = x })
with_answer x (Carries answer) = Carries x

-- the call is of the function of this work
abbrev pub IsCallOf : Work → StopCall → Type 0
IsCallOf w call = (call.func ≡ w.func) × (call.arg ≡ w.arg)

-- it may call it: in a stop of kind One, or active in one of kind Multi at RUN, which it has looked at and not acknowledged
abbrev pub MayCall : ℕ → Work → ℕ → ℕ → Duty → Type 0
MayCall c w a l t = (t ≡ Rests) × ((w.kind ≡ One) ⊎ ((a ≡ DISABLE_IRQ) × (l ≡ RUN) × (calls_at_run c w ≡ true)))

-- an active CPU carries an answer from its acknowledgement of RUN on, and no other does, nor stores one
abbrev pub IsCalling : ℕ → StopRole → Calling → Type 0
IsCalling c (In s w a l t) Idle = RUN ≤ a → has w.active c ≡ false
IsCalling c (In s w a l t) (Calls call) = IsCallOf w call × MayCall c w a l t
IsCalling c (In s w a l t) (Carries answer) = (RUN ≤ a) × (has w.active c ≡ true)
IsCalling c (Gives s w a v) (Calls call) = IsCallOf w call × (w.kind ≡ One) × (call.answer ≡ v)
IsCalling c (Gives s w a v) (Carries answer) = (answer ≡ v) × (has w.active c ≡ true)
IsCalling c (Alters s w count made rest) Idle = Unit {0}
IsCalling c (Closes s) Idle = Unit {0}
IsCalling c Free Idle = Unit {0}
IsCalling c _ _ = ⊥

-- a CPU that acknowledges RUN has called its function, or is not to call one
abbrev pub HasCalled : ℕ → Work → Calling → Type 0
HasCalled c w Idle = has w.active c ≡ false
HasCalled c w _ = Unit {0}

-- where all have completed and done is not stored, the last to complete is to store it
abbrev pub HasCompleted : Standing → Type 0
HasCompleted (Completed a v) = Unit {0}
HasCompleted _ = ⊥

abbrev pub AreClosing : Present → (ℕ → StopRole) → Type 0
AreClosing n seat = (s c : ℕ) → (n.stop s).is_open ≡ true → (n.stop s).ending ≡ Last c → (seat c ≡ Closes s) × HasCompleted ((n.stop s).standing c)
