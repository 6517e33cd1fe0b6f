-- Events of stops and of labels leave calls as they are.

use Rattle.trace_laws.proofs.Names.{APatch, Bool, CpuState, Err, Key, Kind, LabelEvent, None, Ok, Option, Patch, Place, Reason, Result, Site, Some, StateValue}
use Rattle.trace_laws.proofs.Names.{Stop, StopEvent, Task, ack_by, acked, acknowledged, acks_as, acks_at_run, acks_disabled, arith, at_phase, cases_eq}
use Rattle.trace_laws.proofs.Names.{collect_by, complete_by, completed, cpu_at, enter_by, enter_from, entered, entered_open, false, gate_by, has, has_run}
use Rattle.trace_laws.proofs.Names.{holds_gate, if◌then◌else◌, in_patch, in_round, in_stop, inside_goes, key_by, label_goes, length, length-set, made_store}
use Rattle.trace_laws.proofs.Names.{may_ack, may_off, nat_lt, next_store, not, off_by, on_by, on_stop, open_by, patch_by, patch_left, patch_over, raise_by}
use Rattle.trace_laws.proofs.Names.{raised, refl, run_by, site_by, site_word, stop_at, stop_goes, stop_of, subst, switched_at, switched_on, through, true}
use Rattle.trace_laws.proofs.Names.{ungate_by, with_cpu, with_inside, with_interrupts, with_irq, with_stop, ℕ, ℤ, ◌&&◌, ◌<◌, ◌==◌, ◌>>=◌, ◌≡◌}
use Rattle.trace_model.specs.declared.event.LabelEvent.TheVariants as labels
use Rattle.trace_model.specs.declared.event.StopEvent.TheVariants as stops
use Rattle.trace_model.specs.declared.reason.Reason.TheVariants as reason
use Rattle.trace_laws.proofs.Calls.MadeSteps.{both_made, failed, low_event, passed}
use Rattle.trace_laws.proofs.{Calls.CpuSteps.SameCalls, Calls.StateSteps.cpu_changed, Calls.StateSteps.cpu_kept, Calls.StateSteps.same_calls}
use Rattle.smp_words.specs.declared.phase.TheConstants.{DISABLE_IRQ, RUN, OVER}

-- what shares the queue of a CPU, its interrupts, and those that it owes are as before
pub record SameNodes (a b : CpuState) : Type 0 where
  pub others : b.others ≡ a.others
  pub pending : b.pending ≡ a.pending
  pub accepted : b.accepted ≡ a.accepted
  pub owes : b.owes ≡ a.owes

same_nodes : (a : CpuState) → SameNodes a a
same_nodes a = record { others = refl; pending = refl; accepted = refl; owes = refl }

-- The calls and the interrupts of each CPU, and where each record is, are as before.
pub record KeepsCalls (s t : StateValue) : Type 0 where
  pub setting_is : t.setting ≡ s.setting
  pub cpus_are : length t.cpus ≡ length s.cpus
  pub places_are : t.places ≡ s.places
  pub calls : (cpu : ℕ) → cpu < length s.cpus → SameCalls (cpu_at s cpu) (cpu_at t cpu)
  pub nodes : (cpu : ℕ) → cpu < length s.cpus → SameNodes (cpu_at s cpu) (cpu_at t cpu)

pub keeps_same : (s t : StateValue) → t.setting ≡ s.setting → t.cpus ≡ s.cpus → t.places ≡ s.places → KeepsCalls s t
keeps_same s t h1 h2 h3 = search (same_calls, same_nodes, arith)

pub keeps_then : (s m t : StateValue) → KeepsCalls s m → KeepsCalls m t → KeepsCalls s t
keeps_then s m t h1 h2 = search arith

-- a CPU with the calls that it had
pub keeps_cpu : (actor : ℕ) (s : StateValue) (c : CpuState) → SameCalls (cpu_at s actor) c → SameNodes (cpu_at s actor) c → KeepsCalls s (with_cpu actor s c)
keeps_cpu actor s c h1 h2 = search (length-set, cases_eq, cpu_changed, cpu_kept, same_calls, same_nodes, arith)

keeps_end : (s t u : StateValue) → t ≡ u → KeepsCalls s t → KeepsCalls s u
keeps_end s t u same k = subst (λ (x : StateValue). KeepsCalls s x) same k

keeps_irq : (cpu : ℕ) (on : Bool) (s : StateValue) → KeepsCalls s (with_irq cpu on s)
keeps_irq cpu on s = keeps_cpu cpu s (with_interrupts on (cpu_at s cpu))
    (record { queue = refl; batch = refl; current = refl; ran = refl; queued = refl }) (record { others = refl; pending = refl; accepted = refl; owes = refl })

keeps_inside : (cpu : ℕ) (number : Option ℕ) (s : StateValue) → KeepsCalls s (with_inside cpu number s)
keeps_inside cpu number s = keeps_cpu cpu s (in_stop number (cpu_at s cpu))
    (record { queue = refl; batch = refl; current = refl; ran = refl; queued = refl }) (record { others = refl; pending = refl; accepted = refl; owes = refl })

keeps_refl : (s : StateValue) → KeepsCalls s s
keeps_refl s = keeps_same s s refl refl refl

keeps_if : (s x y : StateValue) (test : Bool) → KeepsCalls s x → KeepsCalls s y → KeepsCalls s (if test then x else y)
keeps_if s x y test p q = search arith

-- a stop is changed
keeps_stop : (number : ℕ) (s t : StateValue) (made : Result Stop Reason) → on_stop number s made ≡ Ok t → KeepsCalls s t
keeps_stop number s t made e = search (both_made, keeps_end, keeps_same, arith)

-- a state is made after a test
keeps_after : {A : Type 0} (s t u : StateValue) (test : Result A Reason) → (test >>= λ u. Ok t) ≡ Ok u → KeepsCalls s t → KeepsCalls s u
keeps_after s t u test e k = let m = both_made test (λ u. Ok t) u e in keeps_end s t u (cc) k

keeps_gate : (cpu : ℕ) (s t : StateValue) → gate_by cpu s ≡ Ok t → KeepsCalls s t
unfolding gate_by
keeps_gate cpu s t e = search (keeps_end, keeps_same, arith)

keeps_ungate : (cpu : ℕ) (s t : StateValue) → ungate_by cpu s ≡ Ok t → KeepsCalls s t
unfolding ungate_by
keeps_ungate cpu s t e = keeps_after s (record s { gate = None }) t (holds_gate cpu s) e (keeps_same s (record s { gate = None }) refl refl refl)

keeps_open : (cpu number : ℕ) (task : Task) (s t : StateValue) → open_by cpu number task s ≡ Ok t → KeepsCalls s t
unfolding open_by
keeps_open cpu number task s t e = search (passed, failed, both_made, keeps_stop, arith)

keeps_entered_open : (cpu number : ℕ) (s t : StateValue) → entered_open cpu number s ≡ Ok t → KeepsCalls s t
keeps_entered_open cpu number s t e =
    let made = on_stop number s (entered cpu (stop_at s number)) in
    let p = passed (nat_lt number 64 && (stop_at s number).is_open) (made >>= λ x. Ok (with_inside cpu (Some number) x)) (reason.StopNotOpen number) t e in
    let m = both_made made (λ x. Ok (with_inside cpu (Some number) x)) t p.1 in
    keeps_then s m.0 t (keeps_stop number s m.0 (entered cpu (stop_at s number)) m.1.0)
    (keeps_end m.0 (with_inside cpu (Some number) m.0) t (cc) (keeps_inside cpu (Some number) m.0))

keeps_enter_from : (inside : Result ℕ Reason) (cpu number : ℕ) (s t : StateValue) → enter_from inside cpu number s ≡ Ok t → KeepsCalls s t
keeps_enter_from (Ok inside) cpu number s t e = absurd cc
keeps_enter_from (Err why) cpu number s t e = keeps_entered_open cpu number s t e

keeps_enter : (cpu number : ℕ) (s t : StateValue) → enter_by cpu number s ≡ Ok t → KeepsCalls s t
unfolding enter_by
keeps_enter cpu number s t e = keeps_enter_from (stop_of cpu s) cpu number s t e

keeps_patch_over : (next : Option (Place × ℕ)) (number : ℕ) (patch : Patch) (s t : StateValue) → patch_over next number patch s ≡ Ok t → KeepsCalls s t
keeps_patch_over next number patch s t e = search (keeps_end, keeps_same, arith)

keeps_acks_as : (kind : Kind) (cpu number : ℕ) (s t : StateValue) → acks_as kind cpu number s ≡ Ok t → KeepsCalls s t
keeps_acks_as APatch cpu number s t e = keeps_patch_over (next_store number s) number (patch_left number s) s t e
keeps_acks_as _ cpu number s t e =
    let p = passed (has_run (stop_at s number) cpu) (Ok s) reason.FunctionHasNotRun t e in keeps_end s s t (cc) (keeps_refl s)

keeps_acks_by : (two runs : Bool) (cpu number : ℕ) (s t : StateValue) (test : Result (Unit {0}) Reason)
    → (if two then (test >>= λ v. Ok s) else (if runs then acks_at_run cpu number s else Ok s)) ≡ Ok t → KeepsCalls s t
keeps_acks_by true runs cpu number s t test e = keeps_after s s t test e (keeps_refl s)
keeps_acks_by false true cpu number s t test e = keeps_acks_as (stop_at s number).task.kind cpu number s t e
keeps_acks_by false false cpu number s t test e = keeps_end s s t (cc) (keeps_refl s)

keeps_may_ack : (cpu number phase : ℕ) (s t : StateValue) → may_ack cpu number phase s ≡ Ok t → KeepsCalls s t
keeps_may_ack cpu number phase s t e =
    let tested = acks_disabled s.setting.without.switches cpu s in
    let runs = (phase == RUN) && has (stop_at s number).task.active cpu in
    let next : Result StateValue Reason = if phase == DISABLE_IRQ then (tested >>= λ v. Ok s) else (if runs then acks_at_run cpu number s else Ok s) in
    keeps_acks_by (phase == DISABLE_IRQ) runs cpu number s t tested (both_made (at_phase (stop_at s number) cpu phase) (λ u. next) t e).1.1

keeps_acked : (cpu number phase : ℕ) (s : StateValue) → KeepsCalls s (acked cpu number phase s)
keeps_acked cpu number phase s =
    let m = with_stop number s (acknowledged cpu phase (not s.setting.without.raises) (stop_at s number)) in
    keeps_then s m (acked cpu number phase s) (keeps_same s m refl refl refl)
    (keeps_if m (switched_at cpu number phase m) m m.setting.without.switches (search (keeps_if, keeps_irq, keeps_refl, arith)) (keeps_refl m))

keeps_ack : (cpu phase : ℕ) (s t : StateValue) → ack_by cpu phase s ≡ Ok t → KeepsCalls s t
unfolding ack_by
keeps_ack cpu phase s t e =
    let m = both_made (in_round cpu s) (λ number. may_ack cpu number phase s >>= λ x. Ok (acked cpu number phase x)) t e in
    let n = both_made (may_ack cpu m.0 phase s) (λ x. Ok (acked cpu m.0 phase x)) t m.1.1 in
    keeps_then s n.0 t (keeps_may_ack cpu m.0 phase s n.0 n.1.0) (keeps_end n.0 (acked cpu m.0 phase n.0) t (cc) (keeps_acked cpu m.0 phase n.0))

keeps_raise : (cpu phase : ℕ) (s t : StateValue) → raise_by cpu phase s ≡ Ok t → KeepsCalls s t
unfolding raise_by
keeps_raise cpu phase s t e =
    let m = both_made (in_round cpu s) (λ number. on_stop number s (raised cpu phase (stop_at s number)) >>= λ x. Ok (switched_on cpu phase x)) t e in
    let n = both_made (on_stop m.0 s (raised cpu phase (stop_at s m.0))) (λ x. Ok (switched_on cpu phase x)) t m.1.1 in
    keeps_then s n.0 t (keeps_stop m.0 s n.0 (raised cpu phase (stop_at s m.0)) n.1.0)
    (keeps_end n.0 (switched_on cpu phase n.0) t (cc)
    (keeps_if n.0 (with_irq cpu true n.0) n.0 (n.0.setting.without.switches && (phase == OVER)) (keeps_irq cpu true n.0) (keeps_refl n.0)))

keeps_off : (cpu : ℕ) (s t : StateValue) → off_by cpu s ≡ Ok t → KeepsCalls s t
unfolding off_by
keeps_off cpu s t e =
    let m = both_made (in_round cpu s) (λ number. may_off cpu number s >>= λ u. Ok (with_irq cpu false s)) t e in
    keeps_after s (with_irq cpu false s) t (may_off cpu m.0 s) m.1.1 (keeps_irq cpu false s)

keeps_on : (cpu : ℕ) (s t : StateValue) → on_by cpu s ≡ Ok t → KeepsCalls s t
unfolding on_by
keeps_on cpu s t e =
    let next = λ (number : ℕ). through (stop_at s number) cpu >>= λ u. Ok (with_irq cpu true s) in
    let m = both_made (in_round cpu s) (λ number. if (cpu_at s cpu).irq then Err reason.InterruptsOn else next number) t e in
    let p = failed (cpu_at s cpu).irq (next m.0) reason.InterruptsOn t m.1.1 in
    keeps_after s (with_irq cpu true s) t (through (stop_at s m.0) cpu) p.1 (keeps_irq cpu true s)

keeps_run : (cpu func arg : ℕ) (s t : StateValue) → run_by cpu func arg s ≡ Ok t → KeepsCalls s t
unfolding run_by
keeps_run cpu func arg s t e = search (both_made, keeps_stop, arith)

keeps_complete : (cpu : ℕ) (answer : ℤ) (s t : StateValue) → complete_by cpu answer s ≡ Ok t → KeepsCalls s t
unfolding complete_by
keeps_complete cpu answer s t e =
    let made = λ (number : ℕ). completed cpu answer (cpu_at s cpu).irq (stop_at s number) in
    let m = both_made (stop_of cpu s) (λ number. on_stop number s (made number) >>= λ x. Ok (with_inside cpu None x)) t e in
    let n = both_made (on_stop m.0 s (made m.0)) (λ x. Ok (with_inside cpu None x)) t m.1.1 in
    keeps_then s n.0 t (keeps_stop m.0 s n.0 (made m.0) n.1.0) (keeps_end n.0 (with_inside cpu None n.0) t (cc) (keeps_inside cpu None n.0))

keeps_collect : (number : ℕ) (answer : ℤ) (s t : StateValue) → collect_by number answer s ≡ Ok t → KeepsCalls s t
unfolding collect_by
keeps_collect number answer s t e = search (passed, keeps_stop, arith)

keeps_made_store : (next : Option (Place × ℕ)) (number : ℕ) (patch : Patch) (place : Place) (word : ℕ) (s t : StateValue)
    → made_store next number patch place word s ≡ Ok t → KeepsCalls s t
keeps_made_store next number patch place word s t h1 = search (passed, keeps_end, keeps_same, arith)

keeps_patch : (cpu : ℕ) (place : Place) (word : ℕ) (s t : StateValue) → patch_by cpu place word s ≡ Ok t → KeepsCalls s t
unfolding patch_by
keeps_patch cpu place word s t e =
    let m = both_made (in_patch cpu s) (λ number. made_store (next_store number s) number (patch_left number s) place word s) t e in
    keeps_made_store (next_store m.0 s) m.0 (patch_left m.0 s) place word s t m.1.1

-- an event of stops leaves calls as they are
pub stop_keeps_calls : (cpu : ℕ) (e : StopEvent) (s t : StateValue) → stop_goes cpu e s ≡ Ok t → KeepsCalls s t
unfolding stop_goes inside_goes
stop_keeps_calls cpu stops.Gate s t e = keeps_gate cpu s t e
stop_keeps_calls cpu stops.Ungate s t e = keeps_ungate cpu s t e
stop_keeps_calls cpu (stops.Open number task) s t e = keeps_open cpu number task s t e
stop_keeps_calls cpu (stops.Enter number) s t e = keeps_enter cpu number s t (low_event cpu _ t e).1
stop_keeps_calls cpu (stops.Ack phase) s t e = keeps_ack cpu phase s t (low_event cpu _ t e).1
stop_keeps_calls cpu (stops.Raise phase) s t e = keeps_raise cpu phase s t (low_event cpu _ t e).1
stop_keeps_calls cpu stops.Off s t e = keeps_off cpu s t (low_event cpu _ t e).1
stop_keeps_calls cpu stops.On s t e = keeps_on cpu s t (low_event cpu _ t e).1
stop_keeps_calls cpu (stops.Run func arg) s t e = keeps_run cpu func arg s t (low_event cpu _ t e).1
stop_keeps_calls cpu (stops.Complete answer) s t e = keeps_complete cpu answer s t (low_event cpu _ t e).1
stop_keeps_calls cpu (stops.Collect number answer) s t e = keeps_collect number answer s t e

-- so does one of keys and sites
pub label_keeps_calls : (cpu : ℕ) (e : LabelEvent) (s t : StateValue) → label_goes cpu e s ≡ Ok t → KeepsCalls s t
unfolding label_goes
label_keeps_calls cpu (labels.Set key count) s t e = keeps_patch cpu (Key key) count s t e
label_keeps_calls cpu (labels.Turn site jumps) s t e = keeps_patch cpu (Site site) (site_word jumps) s t e
label_keeps_calls cpu (labels.Key key on) s t e = keeps_after s s t (key_by cpu key on s) e (keeps_refl s)
label_keeps_calls cpu (labels.Site site jumps) s t e = keeps_after s s t (site_by cpu site jumps s) e (keeps_refl s)
label_keeps_calls cpu (labels.Nudge key up) s t e = search (both_made, keeps_end, keeps_same, arith)
