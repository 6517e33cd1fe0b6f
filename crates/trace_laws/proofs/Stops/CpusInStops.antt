-- What holds of each CPU in each stop.
use Rattle.trace_laws.proofs.Names.{arith, Bool, CpuState, Kind, None, Ok, One, Option, Seen, Some, StateValue, Stop, Task, acked_by, answer_of, cases_eq}
use Rattle.trace_laws.proofs.Names.{closed, cpu_at, eq-eqb, false, get_or-set_other, get_or-set_same, handles_nothing, has, has_run, if◌then◌else◌, is_some}
use Rattle.trace_laws.proofs.Names.{length, length-set, ne_eqb, refl, slice_index_or, stop_at, sym, true, with_cpu, with_stop, ℕ, ℤ, ◌+◌, ◌<◌, ◌==◌, ◌∙◌, ◌≡◌}
use Rattle.trace_laws.proofs.Names.{◌≢◌, ◌≤◌, ◌⊎◌}
use Rattle.trace_laws.proofs.{Calls.StateSteps.cpu_changed, Calls.StateSteps.cpu_kept, Stops.QuietCpus.KeepsRounds}
use Rattle.smp_words.specs.declared.phase.TheConstants.{DISABLE_IRQ, RUN, EXIT}

-- a stop with phases
abbrev pub is_round : Kind → Bool
is_round One = false
is_round _ = true

-- What a stop has of one CPU.
pub record Member : Type 0 where
  pub is_open : Bool
  pub task : Task
  pub phase : ℕ
  pub raiser : Option ℕ
  pub entered : Bool
  pub acked : ℕ
  pub ran : Bool
  pub answer : Option ℤ

abbrev pub member_of : ℕ → Stop → Member
member_of cpu stop = record {
  is_open = stop.is_open;
  task = stop.task;
  phase = stop.phase;
  raiser = stop.raiser;
  entered = slice_index_or stop.entered cpu false;
  acked = acked_by stop cpu;
  ran = has_run stop cpu;
  answer = answer_of stop cpu;
}

-- A CPU is in an open stop, and has not completed.
pub record IsIn (cpu : ℕ) (w : Member) : Type 0 where
  pub is_open : w.is_open ≡ true
  pub entered : w.entered ≡ true
  pub unanswered : w.answer ≡ None
  pub member : has w.task.mask cpu ≡ true

-- A CPU has not entered.
pub record IsOut (w : Member) : Type 0 where
  pub acked : w.acked ≡ 0
  pub ran : w.ran ≡ false
  pub unanswered : w.answer ≡ None

-- What holds of a CPU and a stop.
pub record RoundAt (left_out : Bool) (number cpu : ℕ) (v : Seen) (w : Member) (inside : Option ℕ) (irq : Bool) : Type 0 where
  pub in_stop : inside ≡ Some number → IsIn cpu w
  pub is_in : w.is_open ≡ true → w.entered ≡ true → w.answer ≡ None → inside ≡ Some number
  pub out : w.entered ≡ false → IsOut w
  pub up_to : is_round w.task.kind ≡ true → w.phase ≤ RUN → w.acked ≤ w.phase
  pub all : is_round w.task.kind ≡ true → has w.task.mask cpu ≡ true → DISABLE_IRQ ≤ w.phase → w.phase ≤ w.acked + 1
  pub last : is_some w.raiser ≡ true → has w.task.mask cpu ≡ true → w.phase ≤ w.acked
  pub nobody : left_out ≡ true → w.raiser ≡ None
  pub answered : is_round w.task.kind ≡ true → w.acked < EXIT → w.answer ≡ None
  pub disabled : inside ≡ Some number → is_round w.task.kind ≡ true → DISABLE_IRQ ≤ w.acked → w.acked < EXIT → irq ≡ false
  pub acked_is : inside ≡ Some number → w.acked ≡ v.acked
  pub ran_is : inside ≡ Some number → w.ran ≡ v.ran

-- What holds of a CPU.
pub record CpuAt (left_out : Bool) (v : Seen) (c : CpuState) : Type 0 where
  pub quiet : c.irq ≡ false → handles_nothing c ≡ Ok tt
  pub below : (x : ℕ) → c.inside ≡ Some x → x < 64
  pub inside_is : c.inside ≡ v.inside
  pub irq_is : left_out ≡ false → c.irq ≡ v.irq

-- What holds of a stop.
pub record StopAt (w : Option Task) (stop : Stop) : Type 0 where
  pub entered_are : length stop.entered ≡ 32
  pub acked_are : length stop.acked ≡ 32
  pub ran_are : length stop.ran ≡ 32
  pub answers_are : length stop.answers ≡ 32
  pub work_is : stop.is_open ≡ true → w ≡ Some stop.task

-- What holds of each CPU in each stop, where their events tell that. CPUs from 32 on are in no stop.
pub record Rounds (seen : ℕ → Seen) (work : ℕ → Option Task) (s : StateValue) : Type 0 where
  pub cpus_are : length s.cpus ≡ 512
  pub stops_are : length s.stops ≡ 64
  pub at : (number : ℕ) → number < 64 → (cpu : ℕ) → cpu < 32
      → RoundAt s.setting.without.raises number cpu (seen cpu) (member_of cpu (stop_at s number)) (cpu_at s cpu).inside (cpu_at s cpu).irq
  pub cpu : (cpu : ℕ) → cpu < 32 → CpuAt s.setting.without.switches (seen cpu) (cpu_at s cpu)
  pub away : (cpu : ℕ) → 32 ≤ cpu → cpu < 512 → (cpu_at s cpu).inside ≡ None
  pub stop : (number : ℕ) → number < 64 → StopAt (work number) (stop_at s number)

-- what the events of one CPU tell is changed
abbrev pub put_seen : ℕ → (Seen → Seen) → (ℕ → Seen) → ℕ → Seen
put_seen actor f seen cpu = if actor == cpu then f (seen cpu) else seen cpu

pub seen_here : (actor cpu : ℕ) (f : Seen → Seen) (seen : ℕ → Seen) → cpu ≡ actor → put_seen actor f seen cpu ≡ f (seen cpu)
seen_here actor cpu f seen e = let t : (actor == cpu) ≡ true = eq-eqb actor cpu (sym e) in rw t refl

pub seen_elsewhere : (actor cpu : ℕ) (f : Seen → Seen) (seen : ℕ → Seen) → cpu ≢ actor → put_seen actor f seen cpu ≡ seen cpu
seen_elsewhere actor cpu f seen ne = let t : (actor == cpu) ≡ false = ne_eqb actor cpu (λ e. ne (sym e)) in rw t refl

-- a stop is changed
pub stop_changed : (number : ℕ) (s : StateValue) (stop : Stop) → number < length s.stops → stop_at (with_stop number s stop) number ≡ stop
stop_changed number s stop below = get_or-set_same s.stops number stop (closed 0) below

pub stop_kept : (number other : ℕ) (s : StateValue) (stop : Stop) → number ≢ other → stop_at (with_stop other s stop) number ≡ stop_at s number
stop_kept number other s stop ne = get_or-set_other s.stops other number stop (closed 0) ne

-- What an event of a CPU in a stop has to show, for all to hold after it: of others in that stop, of the CPU in other stops, and
-- of the CPU in that stop.
pub record Change (seen : ℕ → Seen) (work : ℕ → Option Task) (s : StateValue) (number actor : ℕ) (f : Seen → Seen) (stop : Stop) (c : CpuState) : Type 0 where
  pub low : actor < 32
  pub stop_is : StopAt (work number) stop
  pub cpu_is : CpuAt s.setting.without.switches (f (seen actor)) c
  pub others : (cpu : ℕ) → cpu < 32 → cpu ≢ actor
      → RoundAt s.setting.without.raises number cpu (seen cpu) (member_of cpu stop) (cpu_at s cpu).inside (cpu_at s cpu).irq
  pub elsewhere : (other : ℕ) → other < 64 → other ≢ number
      → RoundAt s.setting.without.raises other actor (f (seen actor)) (member_of actor (stop_at s other)) c.inside c.irq
  pub here : RoundAt s.setting.without.raises number actor (f (seen actor)) (member_of actor stop) c.inside c.irq

-- the state after such an event
abbrev pub changed_to : ℕ → ℕ → StateValue → Stop → CpuState → StateValue
changed_to number actor s stop c = with_cpu actor (with_stop number s stop) c

at_changed : (seen : ℕ → Seen) (work : ℕ → Option Task) (s : StateValue) (number actor : ℕ) (f : Seen → Seen) (stop : Stop) (c : CpuState)
    → Rounds seen work s → Change seen work s number actor f stop c → (other : ℕ) → other < 64 → (cpu : ℕ) → cpu < 32
    → other ≡ number ⊎ other ≢ number → cpu ≡ actor ⊎ cpu ≢ actor → let t = changed_to number actor s stop c in
    RoundAt s.setting.without.raises other cpu (put_seen actor f seen cpu) (member_of cpu (stop_at t other)) (cpu_at t cpu).inside (cpu_at t cpu).irq
at_changed seen work s number actor f stop c h1 h2 other h3 cpu h4 h5 h6 =
    search (stop_changed, cpu_changed, seen_here, cpu_kept, seen_elsewhere, stop_kept, arith)

cpu_is_changed : (seen : ℕ → Seen) (work : ℕ → Option Task) (s : StateValue) (number actor : ℕ) (f : Seen → Seen) (stop : Stop) (c : CpuState)
    → Rounds seen work s → Change seen work s number actor f stop c → (cpu : ℕ) → cpu < 32 → cpu ≡ actor ⊎ cpu ≢ actor
    → CpuAt s.setting.without.switches (put_seen actor f seen cpu) (cpu_at (changed_to number actor s stop c) cpu)
cpu_is_changed seen work s number actor f stop c h1 h2 cpu h3 h4 = search (cpu_changed, seen_here, cpu_kept, seen_elsewhere, arith)

-- all holds after it
pub changed : (seen : ℕ → Seen) (work : ℕ → Option Task) (s : StateValue) (number actor : ℕ) (f : Seen → Seen) (stop : Stop) (c : CpuState)
    → Rounds seen work s → Change seen work s number actor f stop c → Rounds (put_seen actor f seen) work (changed_to number actor s stop c)
changed seen work s number actor f stop c r ch = record {
  cpus_are = length-set s.cpus actor c ∙ r.cpus_are;
  stops_are = length-set s.stops number stop ∙ r.stops_are;
  at = λ other low cpu below. at_changed seen work s number actor f stop c r ch other low cpu below (cases_eq other number) (cases_eq cpu actor);
  cpu = λ cpu below. cpu_is_changed seen work s number actor f stop c r ch cpu below (cases_eq cpu actor);
  away = search (ch.low, r.away, cpu_kept, arith);
  stop = λ other low. search (stop_changed, stop_kept, arith);
}

-- A stop alone is changed, for each of its CPUs.
pub record StopChange (seen : ℕ → Seen) (work : Option Task) (s : StateValue) (number : ℕ) (stop : Stop) : Type 0 where
  pub stop_is : StopAt work stop
  pub each : (cpu : ℕ) → cpu < 32 → RoundAt s.setting.without.raises number cpu (seen cpu) (member_of cpu stop) (cpu_at s cpu).inside (cpu_at s cpu).irq

stop_each : (seen : ℕ → Seen) (work work' : ℕ → Option Task) (s : StateValue) (number : ℕ) (stop : Stop) → Rounds seen work s
    → StopChange seen (work' number) s number stop → (other : ℕ) → other < 64 → (cpu : ℕ) → cpu < 32 → other ≡ number ⊎ other ≢ number
    → let t = with_stop number s stop in
    RoundAt s.setting.without.raises other cpu (seen cpu) (member_of cpu (stop_at t other)) (cpu_at s cpu).inside (cpu_at s cpu).irq
stop_each seen work work' s number stop h1 h2 other h3 cpu h4 h5 = search (stop_changed, stop_kept, arith)

stop_work : (seen : ℕ → Seen) (work work' : ℕ → Option Task) (s : StateValue) (number : ℕ) (stop : Stop) → Rounds seen work s
    → StopChange seen (work' number) s number stop → ((other : ℕ) → other ≢ number → work' other ≡ work other) → (other : ℕ) → other < 64 →
    other ≡ number ⊎ other ≢ number
    → StopAt (work' other) (stop_at (with_stop number s stop) other)
stop_work seen work work' s number stop h1 h2 h3 other h4 h5 = search (stop_changed, stop_kept, arith)

pub stop_only : (seen : ℕ → Seen) (work work' : ℕ → Option Task) (s : StateValue) (number : ℕ) (stop : Stop) → Rounds seen work s
    → StopChange seen (work' number) s number stop → ((other : ℕ) → other ≢ number → work' other ≡ work other) → Rounds seen work' (with_stop number s stop)
stop_only seen work work' s number stop r ch kept = record {
  cpus_are = r.cpus_are;
  stops_are = length-set s.stops number stop ∙ r.stops_are;
  at = λ other low cpu below. stop_each seen work work' s number stop r ch other low cpu below (cases_eq other number);
  cpu = r.cpu;
  away = r.away;
  stop = λ other low. stop_work seen work work' s number stop r ch kept other low (cases_eq other number);
}

-- stops and what CPUs do in them are as they were
pub rounds_kept : (seen : ℕ → Seen) (work : ℕ → Option Task) (s t : StateValue) → Rounds seen work s → KeepsRounds s t → Rounds seen work t
rounds_kept seen work s t h1 h2 = search arith
