-- A CPU completes a stop once its function has run or it is through, and with 0 where its function has not run and it makes no patch.
use Rattle.trace_laws.proofs.Names.{APatch, Bool, Err, Event, Kind, List, Multi, None, Ok, One, Option, Patch, Reason, Result, Setting, Some, StateValue, Stop}
use Rattle.trace_laws.proofs.Names.{acked_by, answer_wanted, ap, arith, complete_by, completed, cpu_at, false, has, has_run, if◌then◌else◌, inside_goes, int_eq}
use Rattle.trace_laws.proofs.Names.{may_complete, not, on_stop, slice_set, stop_at, stop_goes, stop_of, sym, through, true, with_inside, with_stop, ℕ, ℤ, ◌&&◌}
use Rattle.trace_laws.proofs.Names.{◌<◌, ◌>>=◌, ◌∙◌, ◌≡◌, ◌≢◌, ◌≤◌}
use Rattle.std.proofs.lemmas.Bool.Decides.{Decides-int_eq}
use Rattle.trace_model.specs.declared.event.StopEvent.TheVariants as stops
use Rattle.trace_model.specs.declared.reason.Reason.TheVariants as reason
use Rattle.trace_model.specs.Stop.{answer_by}
use Rattle.trace_laws.proofs.Calls.MadeSteps.{both_made, failed, low_event, passed}
use Rattle.trace_laws.proofs.Stops.StopEvents.{stop_of_is, through_is}
use Rattle.trace_laws.proofs.Stops.ToldPhases.{Here, TraceTold, here_is, told_before, unless_patch}
use Rattle.smp_words.specs.declared.phase.TheConstants.{EXIT}
use Rattle.trace_laws.specs.Phases.{CompletesAreThrough, HasDone, IsThrough, MayComplete}

-- What a CPU that completes has shown.
record Done (stop : Stop) (cpu : ℕ) (answer : ℤ) (irq : Bool) : Type 0 where
  may : may_complete stop.task.kind cpu irq stop ≡ Ok tt
  given : has_run stop cpu ≡ false → answer ≡ answer_wanted stop cpu

given_so : (ran same : Bool) → (not ran && not same) ≡ false → ran ≡ false → same ≡ true
given_so ran same e idle = search arith

done_is : (stop to : Stop) (cpu : ℕ) (answer : ℤ) (irq : Bool) → completed cpu answer irq stop ≡ Ok to → Done stop cpu answer irq
unfolding completed
done_is stop to cpu answer irq e =
    let new = record stop { answers = slice_set stop.answers cpu (Some answer) } in
    let same = int_eq answer (answer_wanted stop cpu) in
    let test = not (has_run stop cpu) && not same in
    let m = both_made (may_complete stop.task.kind cpu irq stop) (λ u. if test then Err (reason.AnswerIs (answer_wanted stop cpu)) else Ok new) to e in
    let p = failed test (Ok new) (reason.AnswerIs (answer_wanted stop cpu)) to m.1.1 in
    record { may = m.1.0; given = λ idle. (Decides-int_eq answer (answer_wanted stop cpu)).0 (given_so (has_run stop cpu) same p.0 idle) }

-- What an event that completes finds.
record DoneAt (s : StateValue) (cpu : ℕ) (answer : ℤ) : Type 0 where
  number : ℕ
  low : number < 64
  inside : (cpu_at s cpu).inside ≡ Some number
  done : Done (stop_at s number) cpu answer (cpu_at s cpu).irq

done_at : (s t : StateValue) (cpu : ℕ) (answer : ℤ) → complete_by cpu answer s ≡ Ok t → DoneAt s cpu answer
unfolding complete_by
done_at s t cpu answer e =
    let made = λ (number : ℕ). completed cpu answer (cpu_at s cpu).irq (stop_at s number) in
    let m = both_made (stop_of cpu s) (λ number. on_stop number s (made number) >>= λ x. Ok (with_inside cpu None x)) t e in
    let o = stop_of_is s cpu m.0 m.1.0 in
    let n = both_made (on_stop m.0 s (made m.0)) (λ x. Ok (with_inside cpu None x)) t m.1.1 in
    let k = both_made (made m.0) (λ x. Ok (with_stop m.0 s x)) n.0 n.1.0 in
    record { number = m.0; low = o.1; inside = o.0; done = done_is (stop_at s m.0) k.0 cpu answer (cpu_at s cpu).irq k.1.0 }

through_so : (irq : Bool) (cpu : ℕ) (stop : Stop) (u : Unit {0}) → (through stop cpu >>= λ v. if irq then Ok tt else Err reason.InterruptsOff) ≡ Ok u
    → (EXIT ≤ acked_by stop cpu) × (irq ≡ true)
through_so irq cpu stop u e =
    let rest : Result (Unit {0}) Reason = if irq then Ok tt else Err reason.InterruptsOff in
    let m = both_made (through stop cpu) (λ v. rest) u e in
    let p = passed irq (Ok tt) reason.InterruptsOff u m.1.1 in
    (through_is stop cpu m.0 m.1.0, p.0)

is_through : (u : Setting) (es : List (ℕ × Event)) (s : StateValue) (number cpu : ℕ) → cpu < 32 → Here u es s number cpu
    → EXIT ≤ acked_by (stop_at s number) cpu → (cpu_at s cpu).irq ≡ true → IsThrough u es number cpu
is_through u es s number cpu below i past on = record {
  acked = let x = i.acks cpu below in omega arith;
  irq = λ told. sym (i.irq told) ∙ on;
}

has_done : (kind : Kind) (u : Setting) (es : List (ℕ × Event)) (s : StateValue) (number cpu : ℕ) → cpu < 32 → Here u es s number cpu
    → may_complete kind cpu (cpu_at s cpu).irq (stop_at s number) ≡ Ok tt → HasDone kind u es number cpu
has_done One u es s number cpu below i e = sym i.ran ∙ (passed (has_run (stop_at s number) cpu) (Ok tt) reason.FunctionHasNotRun tt e).0
has_done Multi u es s number cpu below i e =
    let x = through_so (cpu_at s cpu).irq cpu (stop_at s number) tt e in is_through u es s number cpu below i x.0 x.1
has_done APatch u es s number cpu below i e =
    let x = through_so (cpu_at s cpu).irq cpu (stop_at s number) tt e in is_through u es s number cpu below i x.0 x.1

-- a stop that makes no patch has none
patch_none : (kind : Kind) (patch : Option Patch) → unless_patch kind patch ≡ None → kind ≢ APatch → patch ≡ None
patch_none kind patch none ne = search arith

may_complete_it : (u : Setting) (es : List (ℕ × Event)) (cpu : ℕ) (answer : ℤ) (s t : StateValue) → TraceTold u es s
    → stop_goes cpu (stops.Complete answer) s ≡ Ok t → MayComplete u es cpu answer
unfolding stop_goes inside_goes
may_complete_it u es cpu answer s t h e =
    let low = low_event cpu _ t e in
    let a = done_at s t cpu answer low.1 in
    let number = a.number in
    let stop = stop_at s number in
    let i = here_is u es s number cpu h a.low low.0 a.inside in
    record {
      number = number;
      task = stop.task;
      inside = i.inside;
      opened = i.opened;
      done = has_done stop.task.kind u es s number cpu low.0 i a.done.may;
      zero = λ ne idle.
          let none = patch_none stop.task.kind stop.patch (h.told.each number a.low).unpatched ne in
          a.done.given (i.ran ∙ idle) ∙ ap (λ p. answer_by p (has stop.task.active cpu)) none;
    }

pub completes_are_through : CompletesAreThrough
completes_are_through u words es t cpu answer run =
    let b = told_before u words es t cpu (stops.Complete answer) run in may_complete_it u es cpu answer b.0 t b.1.0 b.1.1
