-- The steps round the function of a stop of one CPU.
use Rattle.std.proofs.Common.{◌≡◌, ◌≢◌, ℕ, ◌<◌, ◌^◌, ◌||◌, true, false, cond, sym, subst, refl, ap, ◌∙◌}
use Rattle.atomic_table.specs.Seated.{TableId}
use Rattle.smp_stop_steps.specs.Threads.Known.{setup_in, stepped}
use Rattle.smp_multi.specs.Lives.{StopMoment}
use Rattle.smp_stop_steps.specs.Threads.KnownAfter.{called_by, is_drafting}
use Rattle.smp_stop_steps.specs.Threads.Moves.{LoadArg, LoadField, IsPlain}
use Rattle.smp_stop_steps.specs.Tells.{is_one}
use Rattle.smp_stop_steps.specs.Seats.{RoleStands}
use Rattle.smp_stop_steps.specs.Sources.{SourceShows, IsWork}
use Rattle.smp_stop_steps.specs.Stop.{Inside}
use Rattle.smp_stop_steps.proofs.State.Phases.{is_open_inside}
use Rattle.smp_words.specs.Size.{cpus}
use Rattle.smp_multi.specs.Names.{Work, Kind, StopCall, Calling, Calls, Idle, Slot, Field, Load, StopRole, In, Rests, Duty}
use Rattle.smp_multi.specs.Names.{Source, Shut, Drafts}
use Rattle.smp_multi.specs.Names.{Owns, Collects, KnownStops}
use Rattle.smp_multi.specs.Names.field
use Rattle.smp_multi.specs.Places.{work_in}
use Rattle.smp_multi.specs.Running.{AtOne, calls_now}
use Rattle.smp_multi.specs.Seat.{SeatValue, Ready}
use Rattle.smp_multi.proofs.Cells.{slot_cell}

pub one_moved : (t : TableId) (d e : SeatValue) (slot n : ℕ) → AtOne t d slot → e.table ≡ t → e.known ≡ stepped n d.known → AtOne t e slot
one_moved t d e slot n a table same = record {
  table_is = table;
  sized = a.sized;
  low = a.low;
  idle = ap (λ (k : KnownStops). is_drafting k.source) same ∙ a.idle;
  seat_is = ap (λ (k : KnownStops). k.seat) same ∙ (a.seat_is ∙ sym (ap (λ (k : KnownStops). In slot (work_in k.seat) 0 0 Rests) same));
  one = ap (λ (k : KnownStops). (work_in k.seat).kind) same ∙ a.one;
}

pub one_called : (t : TableId) (d e : SeatValue) (slot n : ℕ) → AtOne t d slot → e.table ≡ t → e.known ≡ stepped n (calls_now d.known) → AtOne t e slot
one_called t d e slot n a table same = record {
  table_is = table;
  sized = a.sized;
  low = a.low;
  idle = ap (λ (k : KnownStops). is_drafting k.source) same ∙ a.idle;
  seat_is = ap (λ (k : KnownStops). k.seat) same ∙ (a.seat_is ∙ sym (ap (λ (k : KnownStops). In slot (work_in k.seat) 0 0 Rests) same));
  one = ap (λ (k : KnownStops). (work_in k.seat).kind) same ∙ a.one;
}

-- a CPU that calls a function is not idle
pub calls_some : (f : Calling) (call : StopCall) → f ≡ Calls call → f ≢ Idle
calls_some f call e none = absurd (no_call (sym e ∙ none))
  where
    no_call : Calls call ≢ Idle
    no_call x = cc

pub called_some : (u v : KnownStops) (n : ℕ) → u ≡ stepped n (calls_now v) → u.part.calling ≢ Idle
called_some u v n same = calls_some u.part.calling (record { func = (work_in v.seat).func; arg = (work_in v.seat).arg; answer = 0 })
    (ap (λ (k : KnownStops). k.part.calling) same)

module _ (t : TableId) (d : SeatValue) (slot : ℕ) where
  pub ready_arg : AtOne t d slot → Ready t d (Load (Slot slot field.Arg))
  ready_arg a = record {
    able =
        record {
          table_is = a.table_is;
          sized = a.sized;
          can = record { move = LoadArg slot (work_in d.known.seat) 0 0; may = a.seat_is; is_access = refl };
          cell = slot_cell slot field.Arg a.low;
          fits = tt;
        };
    apart = tt;
  }

  -- with the argument loaded it calls the function
  pub known_arg : (x : ℕ) → AtOne t d slot → x ≡ (work_in d.known.seat).arg → called_by x d.known.seat d.known ≡ calls_now d.known
  known_arg x a is =
      ap (λ (y : StopRole). called_by x y d.known) a.seat_is ∙ (
      ap (λ (k : Kind). cond (is_one k || false) (with_arg x) d.known) a.one ∙
      ap with_arg is)
    where
      with_arg : ℕ → KnownStops
      with_arg n = record (d.known) { part = record (d.known.part) { calling = Calls (record { func = (work_in d.known.seat).func; arg = n; answer = 0 }) } }

  pub ready_field : (f : Field) → AtOne t d slot → IsPlain f → Ready t d (Load (Slot slot f))
  ready_field f a plain = record {
    able =
        record {
          table_is = a.table_is;
          sized = a.sized;
          can = record { move = LoadField slot (work_in d.known.seat) 0 0 f; may = (plain, a.seat_is); is_access = refl };
          cell = slot_cell slot f a.low;
          fits = tt;
        };
    apart = tt;
  }

-- the work of a stop that a CPU is in is one that begin takes: its function has 16 bits
pub small_func : (v : KnownStops) (slot : ℕ) (w : Work) (acked looked : ℕ) (duty : Duty) (f : Field) (n : ℕ) → v.seat ≡ In slot w acked looked duty
    → StopMoment v (Slot slot f) n → w.func < 2 ^ 16
small_func v slot w acked looked duty f n is m = (go (m.source slot) (m.shown.sources slot)).func
  where
    st : RoleStands m.stops.now v.number (In slot w acked looked duty)
    st = subst (RoleStands m.stops.now v.number) (m.sees.seat_is ∙ is) (m.shown.present.stands v.number)

    opened : (m.stops.now.stop slot).is_open ≡ true
    opened = is_open_inside cpus (m.stops.now.stop slot) (λ g. m.at (Slot slot g)) (m.shown.present.slots slot) v.number (Inside acked looked) st.1 refl

    go : (y : Source) → SourceShows (setup_in v.setting) m.stops.gate (m.stops.now.stop slot) (λ g. m.at (Slot slot g)) slot y → IsWork (setup_in v.setting) w
    go Shut shut = absurd (let bad : true ≡ false = sym opened ∙ shut in cc)
    go (Drafts x k) e = absurd (let bad : true ≡ false = sym opened ∙ e.shut in cc)
    go (Owns x) e = subst (IsWork (setup_in v.setting)) (sym e.work_is ∙ st.3) e.is_work
    go (Collects x) e = subst (IsWork (setup_in v.setting)) (sym e.0.work_is ∙ st.3) e.0.is_work
