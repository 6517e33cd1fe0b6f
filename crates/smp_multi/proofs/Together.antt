-- Two CPUs of one table at one moment.
use Rattle.std.proofs.Common.{◌≡◌, inl, inr, ℕ, zero, suc, ◌+◌, ◌<◌, ◌≤◌, List, [], ◌∷◌, length, slice_index_or, Bool, true, false, ◌&&◌, Option, Some}
use Rattle.std.proofs.Common.{None, refl, sym, subst, ap, ◌∙◌, arith}
use mathlib.Core.Option.{some}
use lib.ListN.{get_elem?}
use Rattle.atomic_table.specs.Table.{State}
use Rattle.atomic_table.specs.Table.{Me}
use Rattle.atomic_table.specs.Seated.{TableId}
use Rattle.smp_start.specs.Crowd.{IsMoment}
use Rattle.smp_mask.specs.Mask.{has}
use Rattle.smp_stop_steps.specs.Threads.Known.{Sees, setup_in}
use Rattle.smp_stop_steps.specs.Seats.{RoleStands}
use Rattle.smp_stop_steps.specs.Shows.{StopShows}
use Rattle.smp_stop_steps.specs.Slots.{IsLevel, Keeps, SlotShows}
use Rattle.smp_stop_steps.specs.State.{Present, StopState}
use Rattle.smp_stop_steps.specs.Stop.{Standing, Stop, Inside, Answering, is_of}
use Rattle.smp_words.specs.declared.phase.TheConstants.{DISABLE_IRQ, RUN}
use Rattle.smp_multi.specs.Names.{KnownStops, Work, StopRole, StopSetting, StopSeatView, Cpu, Free, In, Gives, Alters, Closes, Word, Slot}
use Rattle.smp_multi.specs.Cells.{number_in}
use Rattle.smp_multi.specs.Cpu.{CpuValue, Inside as InsideOf, cpu_of, inside_of}
use Rattle.smp_multi.specs.Laws.{IsPending}
use Rattle.smp_multi.specs.Places.{pending_of}
use Rattle.smp_multi.specs.Rule.{Ruled, SeatKnows, known}
use Rattle.smp_multi.specs.Seat.{SeatValue}
use Rattle.smp_stop_steps.specs.Reached.{IsReached}
use Rattle.smp_multi.specs.Together.{StopsNow, KnowTogether, AreTogether, IsLevelWith, AreInStep, WaitsFor}
use Rattle.smp_multi.specs.Together.{IsPartOf, seats_of, AreCpuSeats, SeeAll, KnowAllTogether, cpus_at, values, ArePartsOf, AreAllTogether}
use Rattle.smp_multi.specs.Together.{AllAreInStep, AllWaitFor}
use Rattle.smp_multi.proofs.Showing.{pending_shown}

pub know_together : {S : Type 0} (k : StopSetting) (s : State S StopSeatView) (i j : ℕ) (u v : StopSeatView) → Ruled k s → u ≡ Cpu (known u) → v ≡ Cpu (known v)
    → get_elem? s.views i ≡ some u → get_elem? s.views j ≡ some v → KnowTogether (known u) (known v)
know_together k s i j u v r is js at to =
    let one = subst (SeatKnows k r.stops r.seat r.source r.place r.next i) is (r.each_seat i u at) in
    let other = subst (SeatKnows k r.stops r.seat r.source r.place r.next j) js (r.each_seat j v to) in
    record {
      now = record {
        stops = r.stops;
        at = number_in s.words;
        reached = subst (λ l. IsReached (setup_in l) r.stops (number_in s.words)) (sym one.2) r.reached;
        seat = r.seat;
        source = r.source;
        shown = subst (λ l. StopShows (setup_in l) r.stops (number_in s.words) r.seat r.source) (sym one.2) r.shown;
      };
      one = one.3;
      other = other.3;
      setting = one.2 ∙ sym other.2;
    }

-- of two values that are these
pub of_both : {A B : Type 0} (R : A → B → Type 0) {a x : A} {b y : B} → a ≡ x → b ≡ y → R a b → R x y
of_both R {a} {x} {b} {y} e f k = subst (λ v. R v y) e (subst (λ w. R a w) f k)

-- the stop that a CPU is in is open, has this work, and is near what the CPU has acknowledged
abbrev IsOpenAt : Present → Option InsideOf → Type 0
IsOpenAt n None = Unit {0}
IsOpenAt n (Some x) = ((n.stop x.slot).work ≡ x.work) × IsLevel (n.stop x.slot).phase x.acked × ((n.stop x.slot).is_open ≡ true)

open_of : (b m : Bool) (x y : Standing) → y ≡ x → is_of x ≡ true → is_of y ≡ (b && m) → b ≡ true
open_of true m x y e o k = refl
open_of false m x y e o k = let bad : true ≡ false = sym o ∙ (ap is_of (sym e) ∙ k) in cc

module _ (cpus : ℕ) (n : Present) (at : Word → ℕ) (each : (s : ℕ) → SlotShows cpus (n.stop s) (λ f. at (Slot s f))) where
  opened : (s me : ℕ) (x : Standing) → (n.stop s).standing me ≡ x → is_of x ≡ true → (n.stop s).is_open ≡ true
  opened s me x e o = open_of (n.stop s).is_open (has (n.stop s).work.mask me) x ((n.stop s).standing me) e o ((each s).members me)

  keeps : (s me : ℕ) (x : Standing) → (n.stop s).standing me ≡ x → Keeps cpus (n.stop s).phase me x
  keeps s me x e = subst (Keeps cpus (n.stop s).phase me) e ((each s).keeps me)

  open_at : (me : ℕ) (x : StopRole) → RoleStands n me x → IsOpenAt n (inside_of x)
  open_at me Free st = tt
  open_at me (In s w a l t) st = (st.3, (keeps s me (Inside a l) st.1).1, opened s me (Inside a l) st.1 refl)
  open_at me (Gives s w a v) st = (st.3, (keeps s me (Answering a v) st.1).1, opened s me (Answering a v) st.1 refl)
  open_at me (Alters s w count made rest) st = (st.3, (keeps s me (Inside DISABLE_IRQ RUN) st.1).1, opened s me (Inside DISABLE_IRQ RUN) st.1 refl)
  open_at me (Closes s) st = tt

near : (p a b : ℕ) → IsLevel p a → IsLevel p b → a ≤ b + 1
near p a b (inl e) (inl f) = omega arith
near p a b (inl e) (inr f) = omega arith
near p a b (inr e) (inl f) = omega arith
near p a b (inr e) (inr f) = omega arith

level_with : (n : Present) (x y : InsideOf) → IsOpenAt n (Some x) → IsOpenAt n (Some y) → x.slot ≡ y.slot → IsLevelWith x y
level_with n x y i j same =
    let k : IsLevel (n.stop x.slot).phase y.acked = subst (λ s. IsLevel (n.stop s).phase y.acked) (sym same) j.1 in
    record {
      work = sym i.0 ∙ (ap (λ s. (n.stop s).work) same ∙ j.0);
      ahead = near (n.stop x.slot).phase x.acked y.acked i.1 k;
      behind = near (n.stop x.slot).phase y.acked x.acked k i.1;
    }

-- the work of an open stop that is pending
pending_is : (stop : Stop) (work : Work) (p : Option Work) → stop.is_open ≡ true → stop.work ≡ work → IsPending stop p → p ≡ Some work
pending_is stop work None o e k = let bad : true ≡ false = sym o ∙ k in cc
pending_is stop work (Some w) o e k = ap Some (sym k.1 ∙ e)

pub are_together : (d e : SeatValue) → KnowTogether d.known e.known → AreTogether (cpu_of d) (cpu_of e)
are_together d e t = record {
  now = t.now;
  one = record { known = d.known; sees = t.one; view = refl };
  other = record { known = e.known; sees = t.other; view = refl };
  setting = t.setting;
}

-- a CPU that is in a stop of this moment
module _ {k : StopSetting} (now : StopsNow k) where
  abbrev p : StopState
  p = now.stops

  inside_at : (v : KnownStops) → Sees p now.seat now.source v → IsOpenAt p.now (inside_of v.seat)
  inside_at v sees = open_at _ p.now now.at now.shown.present.slots v.number v.seat
      (subst (RoleStands p.now v.number) sees.seat_is (now.shown.present.stands v.number))

  are_in_step : (d e : SeatValue) → Sees p now.seat now.source d.known → Sees p now.seat now.source e.known → AreInStep (cpu_of d) (cpu_of e)
  are_in_step d e one other x y is js same =
      level_with p.now x y (subst (IsOpenAt p.now) is (inside_at d.known one)) (subst (IsOpenAt p.now) js (inside_at e.known other)) same

  is_waited_for : (d e : SeatValue) → Sees p now.seat now.source d.known → Sees p now.seat now.source e.known → WaitsFor (cpu_of d) (cpu_of e)
  is_waited_for d e one other x is same =
      let i = subst (IsOpenAt p.now) is (inside_at d.known one) in
      let number = e.known.number in
      let stop = p.now.stop number in
      pending_is stop x.work (pending_of e.known.source) (subst (λ s. (p.now.stop s).is_open ≡ true) same i.2)
      (subst (λ s. (p.now.stop s).work ≡ x.work) same i.0)
      (pending_shown (setup_in k) p.gate stop (λ f. now.at (Slot number f)) number (now.source number) e.known.source (now.shown.sources number)
      other.source_is)

-- two CPUs that are parts of the same stops
module _ (c d : CpuValue) (t : AreTogether c d) where
  abbrev one : SeatValue
  one = record { table = c.table; known = t.one.known }

  abbrev other : SeatValue
  other = record { table = d.table; known = t.other.known }

  pub in_step : AreInStep c d
  in_step = of_both AreInStep (sym t.one.view) (sym t.other.view) (are_in_step t.now one other t.one.sees t.other.sees)

  pub waits_for : WaitsFor c d × WaitsFor d c
  waits_for = (
    of_both WaitsFor (sym t.one.view) (sym t.other.view) (is_waited_for t.now one other t.one.sees t.other.sees),
    of_both WaitsFor (sym t.other.view) (sym t.one.view) (is_waited_for t.now other one t.other.sees t.one.sees),
  )

-- all seats of a moment
module _ (k : StopSetting) (s : State (Unit {0}) StopSeatView) (r : Ruled k s) where
  abbrev here : StopsNow k
  here = record { stops = r.stops; at = number_in s.words; reached = r.reached; seat = r.seat; source = r.source; shown = r.shown }

  sees_all : (ms : List (TableId × (ℕ × Me (Unit {0}) StopSeatView))) → AreCpuSeats ms → IsMoment s ms → SeeAll here (seats_of ms)
  sees_all [] are at = tt
  sees_all (m ∷ ms) are at =
      let one = subst (SeatKnows k r.stops r.seat r.source r.place r.next m.1.0) are.0 (r.each_seat m.1.0 m.1.1.0 at.0) in
      ((one.3, one.2), sees_all ms are.1 at.1)

  pub know_all_together : (ms : List (TableId × (ℕ × Me (Unit {0}) StopSeatView))) → AreCpuSeats ms → IsMoment s ms → KnowAllTogether (seats_of ms)
  know_all_together ms are at = record { setting = k; now = here; parts = sees_all ms are at }

are_parts : {k : StopSetting} (now : StopsNow k) (table : TableId) (ms : List (TableId × KnownStops)) → SeeAll now ms
    → ArePartsOf now (values (cpus_at table ms))
are_parts n table [] all = tt
are_parts n table (m ∷ ms) all = ((record { known = m.1; sees = all.0.0; view = refl }, all.0.1), are_parts n table ms all.1)

pub are_all_together : (table : TableId) (ms : List (TableId × KnownStops)) → KnowAllTogether ms → AreAllTogether (values (cpus_at table ms))
are_all_together table ms t = record { setting = t.setting; now = t.now; parts = are_parts t.now table ms t.parts }

pub part_at : {k : StopSetting} (now : StopsNow k) (cs : List CpuValue) → ArePartsOf now cs → (i : ℕ) (d : CpuValue) → i < length cs
    → IsPartOf now (slice_index_or cs i d) × ((slice_index_or cs i d).setting ≡ k)
part_at n [] all i d l = absurd (omega arith)
part_at n (c ∷ cs) all zero d l = all.0
part_at n (c ∷ cs) all (suc i) d l = part_at n cs all.1 i d (omega arith)

at_setting : (c d : CpuValue) (k : StopSetting) → c.setting ≡ k → d.setting ≡ k → (now : StopsNow k) → IsPartOf now c → IsPartOf now d → AreTogether c d
at_setting c d k e = subst (λ l. d.setting ≡ l → (now : StopsNow l) → IsPartOf now c → IsPartOf now d → AreTogether c d) e
    (λ f n one other. record { now = n; one = one; other = other; setting = sym f })

-- any two of them
pub any_two : (cs : List CpuValue) → AreAllTogether cs → (i j : ℕ) (d e : CpuValue) → i < length cs → j < length cs
    → AreTogether (slice_index_or cs i d) (slice_index_or cs j e)
any_two cs t i j d e l m =
    let one = part_at t.now cs t.parts i d l in
    let other = part_at t.now cs t.parts j e m in
    at_setting _ _ t.setting one.1 other.1 t.now one.0 other.0

pub all_in_step : (cs : List CpuValue) → AreAllTogether cs → AllAreInStep cs
all_in_step cs t i d l j e m = in_step _ _ (any_two cs t i j d e l m)

pub all_wait_for : (cs : List CpuValue) → AreAllTogether cs → AllWaitFor cs
all_wait_for cs t i d l j e m = (waits_for _ _ (any_two cs t i j d e l m)).0
