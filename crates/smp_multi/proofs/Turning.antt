-- A turn of a stop of several CPUs: what the CPU may do, what it finds, and where it is after each step.
use Rattle.std.proofs.Common.{◌≡◌, ◌≢◌, ◌⊎◌, ℕ, ◌+◌, ◌<◌, ◌≤◌, ◌&&◌, ◌||◌, not, Bool, true, false, cond, Some, None, sym, subst, refl, ap}
use Rattle.std.proofs.Common.{◌∙◌}
use Rattle.atomic_table.specs.Seated.{TableId}
use Rattle.smp_mask.specs.Mask.{has}
use Rattle.smp_words.specs.Size.{cpus}
use Rattle.smp_stop_steps.specs.Callings.{HasCalled}
use Rattle.smp_stop_steps.specs.Counts.{mask_weight}
use Rattle.smp_stop_steps.specs.Threads.Known.{setup_in, stepped}
use Rattle.smp_multi.specs.Lives.{StopMoment}
use Rattle.smp_stop_steps.specs.Threads.KnownAfter.{called_by, drafted_known, is_drafting, known_told, looked_known, looked_to, member_stored}
use Rattle.smp_stop_steps.specs.Threads.KnownAfter.{refilled_by}
use Rattle.smp_stop_steps.specs.Threads.Moves.{Look, Acknowledge, Refill, Raise, LoadArg, LoadField}
use Rattle.smp_stop_steps.specs.Seats.{RoleStands}
use Rattle.smp_stop_steps.specs.Sits.{IsLoaded}
use Rattle.smp_stop_steps.specs.Tells.{may_call, is_one, is_multi}
use Rattle.smp_stop_steps.specs.Stop.{Inside}
use Rattle.smp_words.specs.declared.phase.TheConstants.{DISABLE_IRQ, RUN, EXIT}
use Rattle.smp_stop_steps.specs.declared.stage.Visit.{Visit}
use Rattle.smp_stop_steps.proofs.Steps.Facts.{inside_keeps, state_near}
use Rattle.smp_stop_steps.proofs.Promises.Functions.{runs_alone}
use Rattle.smp_multi.specs.Names.{Work, Kind, Multi, Slot, Field, Load, Store, Sub, StopRole, In, Duty, Rests, Fills, Sets, KnownStops}
use Rattle.smp_multi.specs.Names.{Free, Alters}
use Rattle.smp_multi.specs.Names.{Calling, Idle, Calls, Carries}
use Rattle.smp_multi.specs.Names.act
use Rattle.smp_multi.specs.Names.field
use Rattle.smp_multi.specs.Laws.{IsAtRun}
use Rattle.smp_multi.specs.Places.{work_in}
use Rattle.smp_multi.specs.Rounds.{AtTurn, AtRun, AloneWhile}
use Rattle.smp_multi.specs.Running.{calls_now}
use Rattle.smp_multi.specs.Seat.{SeatValue, EndsWith, Ready}
use Rattle.smp_multi.proofs.Cells.{slot_cell}

-- a CPU that goes on in the stop that it is in
pub turn_on : (t : TableId) (d e : SeatValue) (v x : Visit) (l m : ℕ) (r q : Duty) → AtTurn t d v l r → e.table ≡ t
    → is_drafting e.known.source ≡ is_drafting d.known.source → x.slot ≡ v.slot → IsLoaded x (work_in d.known.seat)
    → e.known.seat ≡ In v.slot (work_in d.known.seat) x.acked m q → AtTurn t e x m q
turn_on t d e v x l m r q a table idle slot loaded seat =
    let work : work_in d.known.seat ≡ work_in e.known.seat = sym (ap work_in seat) in
    record {
      table_is = table;
      sized = a.sized;
      low = subst (λ n. n < cpus) (sym slot) a.low;
      idle = idle ∙ a.idle;
      loaded = subst (IsLoaded x) work loaded;
      seat_is = seat ∙ (λ i. In (sym slot i) (work i) x.acked m q);
    }

-- a CPU that knows the same is at the same place
pub turn_moved : (t : TableId) (d e : SeatValue) (v : Visit) (l : ℕ) (r : Duty) → AtTurn t d v l r → e.table ≡ t → e.known.source ≡ d.known.source
    → e.known.seat ≡ d.known.seat → AtTurn t e v l r
turn_moved t d e v l r a table source seat = turn_on t d e v v l l r r a table (ap is_drafting source) refl a.loaded (seat ∙ a.seat_is)

pub run_moved : (t : TableId) (d e : SeatValue) (v : Visit) (k : Kind) → AtRun t d v k → e.table ≡ t → e.known.number ≡ d.known.number
    → e.known.source ≡ d.known.source → e.known.seat ≡ d.known.seat → AtRun t e v k
run_moved t d e v k a table number source seat = record {
  at = turn_moved t d e v RUN Rests a.at table source seat;
  disabled = a.disabled;
  kind_is = a.kind_is;
  active = ap (λ n. has v.active n) number ∙ a.active;
}

-- what a CPU in a stop finds at a moment
module _ (v : KnownStops) (s : ℕ) (w : Work) (a l : ℕ) (t : Duty) (is : v.seat ≡ In s w a l t) where
  pub finds_near : (n : ℕ) → StopMoment v (Slot s field.State) n → (n ≡ a) ⊎ (n ≡ a + 1)
  finds_near n m = subst (λ k. (k ≡ a) ⊎ (k ≡ a + 1)) (sym m.number_is)
      (state_near (setup_in v.setting) m.stops m.at m.seat m.source m.shown s v.number w a l t (m.sees.seat_is ∙ is))

  pub few_phases : (f : Field) (n : ℕ) → StopMoment v (Slot s f) n → a ≤ EXIT
  few_phases f n m = (inside_keeps (setup_in v.setting) m.stops m.at m.seat m.source m.shown s v.number w a l t (m.sees.seat_is ∙ is)).4

-- at RUN its function, or its patch, runs alone
pub runs_alone_there : (v : KnownStops) (slot : ℕ) → IsAtRun v.seat slot → AloneWhile v slot
runs_alone_there v slot is p at seat source h sees =
    runs_alone (setup_in v.setting) p at seat source h slot v.number (go v.seat is (subst (RoleStands p.now v.number) sees.seat_is (h.present.stands v.number)))
  where
    go : (x : StopRole) → IsAtRun x slot → RoleStands p.now v.number x → (p.now.stop slot).standing v.number ≡ Inside DISABLE_IRQ RUN
    go Free run st = absurd run
    go (In s w a l t) run st = subst (λ n. (p.now.stop n).standing v.number ≡ Inside a l) run.0 st.1 ∙ (λ i. Inside (run.1 i) (run.2 i))
    go (Alters s w count made rest) run st = subst (λ n. (p.now.stop n).standing v.number ≡ Inside DISABLE_IRQ RUN) run st.1
    go _ run st = absurd run

pub run_alone : (t : TableId) (d : SeatValue) (v : Visit) (k : Kind) → AtRun t d v k → AloneWhile d.known v.slot
run_alone t d v k a = runs_alone_there d.known v.slot (subst (λ x. IsAtRun x v.slot) (sym a.at.seat_is) (refl, a.disabled, refl))

abbrev called_at : KnownStops → Work → ℕ → KnownStops
called_at v w n = record v { part = record (v.part) { calling = Calls (record { func = w.func; arg = n; answer = 0 }) } }

-- who calls no function at RUN has not to call one
called_not : (c : ℕ) (w : Work) (f : Calling) → has w.active c ≡ false → HasCalled c w f
called_not c w Idle calm = calm
called_not c w (Calls call) calm = tt
called_not c w (Carries x) calm = tt

-- who calls one has called it
called_some : (c : ℕ) (w : Work) (f : Calling) → f ≢ Idle → HasCalled c w f
called_some c w Idle some = absurd (some refl)
called_some c w (Calls call) some = tt
called_some c w (Carries x) some = tt

-- with the argument loaded it calls its function
pub known_arg : (t : TableId) (d : SeatValue) (v : Visit) (x : ℕ) → AtRun t d v Multi → x ≡ (work_in d.known.seat).arg
    → called_by x d.known.seat d.known ≡ calls_now d.known
known_arg t d v x a is =
    let w = work_in d.known.seat in
    let me = d.known.number in
    let kind : w.kind ≡ Multi = sym a.at.loaded.kind ∙ a.kind_is in
    let active : has w.active me ≡ true = ap (λ m. has m me) (sym a.at.loaded.active) ∙ a.active in
    let seat : d.known.seat ≡ In v.slot w DISABLE_IRQ RUN Rests = a.at.seat_is ∙ ap (λ n. In v.slot w n RUN Rests) a.disabled in
    let may : may_call me w (Inside DISABLE_IRQ RUN) ≡ true =
    ap (λ (k : Kind). is_one k || (has w.active me && is_multi k)) kind ∙ ap (λ b. b && true) active in
    ap (λ (y : StopRole). called_by x y d.known) seat ∙ (ap (λ b. cond b (called_at d.known w x) d.known) may ∙ ap (called_at d.known w) is)

-- the accesses of a turn
module _ (t : TableId) (d : SeatValue) (v : Visit) where
  abbrev work : Work
  work = work_in d.known.seat

  pub ready_look : AtTurn t d v v.acked Rests → v.acked ≢ EXIT → Ready t d (Load (Slot v.slot field.State))
  ready_look a more = record {
    able = record {
      table_is = a.table_is;
      sized = a.sized;
      can = record { move = Look v.slot work v.acked v.acked; may = (a.seat_is, more); is_access = refl };
      cell = slot_cell v.slot field.State a.low;
      fits = tt;
    };
    apart = tt;
  }

  pub ready_acknowledge : AtTurn t d v (v.acked + 1) Rests → (v.acked ≡ DISABLE_IRQ → has v.active d.known.number ≡ false)
      → Ready t d (Sub (Slot v.slot field.Ack))
  ready_acknowledge a calm =
      let none : v.acked ≡ DISABLE_IRQ → has work.active d.known.number ≡ false
      = λ two. ap (λ m. has m d.known.number) (sym a.loaded.active) ∙ calm two in
      record {
        able = record {
          table_is = a.table_is;
          sized = a.sized;
          can = record {
            move = Acknowledge v.slot work v.acked;
            may = (a.seat_is, λ two. called_not d.known.number work d.known.part.calling (none two));
            is_access = refl;
          };
          cell = slot_cell v.slot field.Ack a.low;
          fits = tt;
        };
        apart = none;
      }

  pub ready_refill : (n : ℕ) → AtTurn t d v v.acked Fills → n ≡ mask_weight cpus v.mask → Ready t d (Store (Slot v.slot field.Ack) n)
  ready_refill n a e = record {
    able = record {
      table_is = a.table_is;
      sized = a.sized;
      can = record {
        move = Refill v.slot work v.acked v.acked;
        may = (a.seat_is, a.idle);
        is_access = ap (Store (Slot v.slot field.Ack)) (ap (mask_weight cpus) (sym a.loaded.mask) ∙ sym e);
      };
      cell = slot_cell v.slot field.Ack a.low;
      fits = tt;
    };
    apart = tt;
  }

  pub ready_raise : (n : ℕ) → AtTurn t d v v.acked Sets → n ≡ v.acked + 1 → Ready t d (Store (Slot v.slot field.State) n)
  ready_raise n a e = record {
    able = record {
      table_is = a.table_is;
      sized = a.sized;
      can = record {
        move = Raise v.slot work v.acked v.acked;
        may = (a.seat_is, a.idle);
        is_access = ap (Store (Slot v.slot field.State)) (sym e);
      };
      cell = slot_cell v.slot field.State a.low;
      fits = tt;
    };
    apart = tt;
  }

  pub ready_func : (k : Kind) → AtRun t d v k → Ready t d (Load (Slot v.slot field.Func))
  ready_func k a = record {
    able = record {
      table_is = a.at.table_is;
      sized = a.at.sized;
      can = record { move = LoadField v.slot work v.acked RUN field.Func; may = (tt, a.at.seat_is); is_access = refl };
      cell = slot_cell v.slot field.Func a.at.low;
      fits = tt;
    };
    apart = tt;
  }

  pub ready_arg : (k : Kind) → AtRun t d v k → Ready t d (Load (Slot v.slot field.Arg))
  ready_arg k a = record {
    able = record {
      table_is = a.at.table_is;
      sized = a.at.sized;
      can = record { move = LoadArg v.slot work v.acked RUN; may = a.at.seat_is; is_access = refl };
      cell = slot_cell v.slot field.Arg a.at.low;
      fits = tt;
    };
    apart = tt;
  }

  -- the acknowledgement of who has run its function
  pub able_run : (k : Kind) (answer : ℕ) → AtRun t d v k → d.known.part.calling ≢ Idle → EndsWith t d (Slot v.slot field.Ack) answer
  able_run k answer a some = record {
    able = record {
      table_is = a.at.table_is;
      sized = a.at.sized;
      can = record {
        move = Acknowledge v.slot work DISABLE_IRQ;
        may = (
          a.at.seat_is ∙ ap (λ n. In v.slot work n RUN Rests) a.disabled,
          λ two. called_some d.known.number work d.known.part.calling some,
        );
        is_access = refl;
      };
      cell = slot_cell v.slot field.Ack a.at.low;
      fits = tt;
    };
    ends = (refl, subst (λ (m : ℕ). has m d.known.number ≡ true) a.at.loaded.active a.active);
  }

-- where the CPU is after each access

pub turn_looked : (t : TableId) (d e : SeatValue) (v : Visit) (n : ℕ) → AtTurn t d v v.acked Rests → e.table ≡ t
    → e.known ≡ stepped 1 (looked_known n d.known) → AtTurn t e v n Rests
turn_looked t d e v n a table same = turn_on t d e v v v.acked n Rests Rests a table (ap (λ (k : KnownStops). is_drafting k.source) same) refl a.loaded
    (ap (λ (k : KnownStops). k.seat) same ∙ ap (looked_to n) a.seat_is)

pub turn_filled : (t : TableId) (d e : SeatValue) (v : Visit) (n : ℕ) → AtTurn t d v v.acked Fills → e.table ≡ t
    → e.known ≡ known_told d.known act.Store (Slot v.slot field.Ack) None (Some n)
    → (e.known ≡ record (d.known) { seat = In v.slot (work_in d.known.seat) v.acked v.acked Sets }) × AtTurn t e v v.acked Sets
turn_filled t d e v n a table same =
    let next = In v.slot (work_in d.known.seat) v.acked v.acked Sets in
    let stored : Bool → KnownStops = λ b. cond b (drafted_known field.Ack n d.known) (member_stored field.Ack n d.known) in
    let is : e.known ≡ record (d.known) { seat = next } = same ∙ (
    ap (λ b. cond (not b) (stored b) (stepped 1 (stored b))) a.idle ∙
    ap (λ x. record (d.known) { seat = refilled_by x }) a.seat_is) in (
      is,
      turn_on t d e v v v.acked v.acked Fills Sets a table (ap (λ (k : KnownStops). is_drafting k.source) is) refl a.loaded
          (ap (λ (k : KnownStops). k.seat) is),
    )
