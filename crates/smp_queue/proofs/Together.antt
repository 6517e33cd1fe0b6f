-- Two CPUs of one table at one moment.
use Rattle.std.proofs.Common.{◌≡◌, ℕ, zero, suc, ◌<◌, ◌++◌, List, [], ◌∷◌, length, slice_index_or, sym, subst, ap, ◌∙◌, arith}
use Rattle.atomic_table.specs.Table.{Me}
use Rattle.atomic_table.specs.Seated.{TableId}
use Rattle.smp_start.specs.Crowd.{IsMoment}
use mathlib.Core.Option.{some}
use lib.ListN.{get_elem?}
use Rattle.atomic_table.specs.Table.{State}
use Rattle.smp_call_steps.specs.Histories.{calls_from, calls_to, running_call}
use Rattle.smp_call_steps.specs.Calls.{CallState}
use Rattle.smp_call_steps.specs.Order.{IsPrefix, of_class}
use Rattle.smp_call_steps.proofs.Headline.{run_as_sent}
use Rattle.smp_call_steps.proofs.ReachedLaws.{reached_laws}
use Rattle.smp_queue.specs.{KnownCalls, CallSetting, CallSeatView, Ruled, known, IsCpuSeat, SeatValue, CpuValue, cpu_of}
use Rattle.smp_queue.specs.Together.{KnowTogether, AreTogether, RunsWhatIsSent, CallsNow, IsPartOf, seats_of, AreCpuSeats, SeeAll}
use Rattle.smp_queue.specs.Together.{KnowAllTogether, cpus_at, values, ArePartsOf, AreAllTogether, AllRunWhatIsSent}
use Rattle.smp_queue.proofs.TheRule.Keeps.{knows_as}

pub know_together : {S : Type 0} (k : CallSetting) (s : State S CallSeatView) (i j : ℕ) (u v : CallSeatView) → Ruled k s → IsCpuSeat u → IsCpuSeat v
    → get_elem? s.views i ≡ some u → get_elem? s.views j ≡ some v → KnowTogether (known u) (known v)
know_together k s i j u v r is js at to =
    let one = knows_as k r.calls r.controls r.seat r.next i u is (r.each_seat i u at) in
    let other = knows_as k r.calls r.controls r.seat r.next j v js (r.each_seat j v to) in
    record {
      now = record { calls = r.calls; reached = r.reached; at = _; controls = r.controls; shown = r.shown };
      one = one.3;
      other = other.3;
      setting = one.2 ∙ sym other.2;
    }

pub are_together : (d e : SeatValue) → KnowTogether d.known e.known → AreTogether (cpu_of d) (cpu_of e)
are_together d e t = record {
  now = t.now;
  one = λ i. record (cpu_of d) { part = sym t.one.part i };
  other = λ i. record (cpu_of e) { part = sym t.other.part i };
  setting = t.setting;
}

-- calls of which both are parts keep the order of what is sent
pub runs_what_is_sent : (c d : CpuValue) → AreTogether c d → RunsWhatIsSent c d
runs_what_is_sent c d t class =
    let a = t.now.calls in
    let from = c.number in
    let to = d.number in
    let ran : a.ran to ++ running_call (a.running to) ≡ d.part.ran ++ running_call d.part.running =
    ap (λ (e : CpuValue). e.part.ran ++ running_call e.part.running) (sym t.other) in
    let sent : a.sent from ≡ c.part.sent = ap (λ (e : CpuValue). e.part.sent) (sym t.one) in
    subst (λ xs. IsPrefix (of_class class (calls_from from xs)) (of_class class (calls_to to c.part.sent))) ran
    (subst (λ xs. IsPrefix (of_class class (calls_from from (a.ran to ++ running_call (a.running to)))) (of_class class (calls_to to xs))) sent
    (run_as_sent (reached_laws t.now.calls t.now.at t.now.reached) from to class))

-- the same of the other and the one
pub turned : (c d : CpuValue) → AreTogether c d → AreTogether d c
turned c d t = record { now = t.now; one = t.other; other = t.one; setting = sym t.setting }

-- of two values that are these
pub of_both : {A B : Type 0} (R : A → B → Type 0) {a x : A} {b y : B} → a ≡ x → b ≡ y → R a b → R x y
of_both R {a} {x} {b} {y} e f k = subst (λ v. R v y) e (subst (λ w. R a w) f k)

-- all seats of a moment
module _ (k : CallSetting) (s : State (Unit {0}) CallSeatView) (r : Ruled k s) where
  abbrev now : CallsNow
  now = record { calls = r.calls; reached = r.reached; at = _; controls = r.controls; shown = r.shown }

  sees_all : (ms : List (TableId × (ℕ × Me (Unit {0}) CallSeatView))) → AreCpuSeats ms → IsMoment s ms → SeeAll now k (seats_of ms)
  sees_all [] are at = tt
  sees_all (m ∷ ms) are at =
      let one = knows_as k r.calls r.controls r.seat r.next m.1.0 m.1.1.0 are.0 (r.each_seat m.1.0 m.1.1.0 at.0) in
      ((one.3, one.2), sees_all ms are.1 at.1)

  pub know_all_together : (ms : List (TableId × (ℕ × Me (Unit {0}) CallSeatView))) → AreCpuSeats ms → IsMoment s ms → KnowAllTogether (seats_of ms)
  know_all_together ms are at = record { now = now; setting = k; parts = sees_all ms are at }

are_parts : (here : CallsNow) (k : CallSetting) (table : TableId) (ms : List (TableId × KnownCalls)) → SeeAll here k ms
    → ArePartsOf here.calls k (values (cpus_at table ms))
are_parts here k table [] all = tt
are_parts here k table (m ∷ ms) all =
    ((λ i. record (cpu_of (record { table = table; known = m.1 })) { part = sym all.0.0.part i }, all.0.1), are_parts here k table ms all.1)

pub are_all_together : (table : TableId) (ms : List (TableId × KnownCalls)) → KnowAllTogether ms → AreAllTogether (values (cpus_at table ms))
are_all_together table ms t = record { now = t.now; setting = t.setting; parts = are_parts t.now t.setting table ms t.parts }

pub part_at : (here : CallState) (k : CallSetting) (cs : List CpuValue) → ArePartsOf here k cs → (i : ℕ) (d : CpuValue) → i < length cs
    → IsPartOf here (slice_index_or cs i d) × ((slice_index_or cs i d).setting ≡ k)
part_at here k [] all i d l = absurd (omega arith)
part_at here k (c ∷ cs) all zero d l = all.0
part_at here k (c ∷ cs) all (suc i) d l = part_at here k cs all.1 i d (omega arith)

-- any two of them
pub any_two : (cs : List CpuValue) → AreAllTogether cs → (i j : ℕ) (d e : CpuValue) → i < length cs → j < length cs
    → AreTogether (slice_index_or cs i d) (slice_index_or cs j e)
any_two cs t i j d e l m =
    let one = part_at t.now.calls t.setting cs t.parts i d l in
    let other = part_at t.now.calls t.setting cs t.parts j e m in
    record { now = t.now; one = one.0; other = other.0; setting = one.1 ∙ sym other.1 }

pub run_all : (cs : List CpuValue) → AreAllTogether cs → AllRunWhatIsSent cs
run_all cs t i d l j e m = runs_what_is_sent _ _ (any_two cs t i j d e l m)
