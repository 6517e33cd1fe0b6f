-- The steps of a completion: the answer, the count, and done by the last of all.
use Rattle.std.proofs.Common.{◌≡◌, ◌≢◌, ℕ, ◌==◌, Bool, true, false, cond, refl, ap, ◌∙◌, eq-eqb}
use Rattle.atomic_table.specs.Seated.{TableId}
use Rattle.smp_stop_steps.specs.AnswerWords.{IsI32Word}
use Rattle.smp_stop_steps.specs.Threads.Moves.{Give, Count, CountGiven, Close}
use Rattle.smp_multi.specs.Names.{Work, Slot, Store, Free, In, Gives, Closes, Rests, Idle}
use Rattle.smp_multi.specs.Names.field
use Rattle.smp_multi.specs.Completes.{AtEnd, AtGiven, AtClose}
use Rattle.smp_multi.specs.Places.{work_in}
use Rattle.smp_multi.specs.Seat.{SeatValue, Able, EndsWith, Ready}
use Rattle.smp_multi.proofs.Cells.{slot_cell}

module _ (t : TableId) (d : SeatValue) (slot acked : ℕ) where
  pub able_give : (x : ℕ) → AtEnd t d slot acked → d.known.part.calling ≢ Idle → x ≢ 0 → IsI32Word x → Able t d (Store (Slot slot field.Result) x)
  able_give x a calls some fits = record {
    table_is = a.table_is;
    sized = a.sized;
    can = record { move = Give slot (work_in d.known.seat) acked acked x; may = (a.seat_is, a.through, some, a.idle, calls); is_access = refl };
    cell = slot_cell slot field.Result a.low;
    fits = fits;
  }

  pub able_count : (x : ℕ) (w : Work) → AtGiven t d slot acked x w → EndsWith t d (Slot slot field.Todo) 0
  able_count x w a = go (x == 0) a.seat_is
    where
      go : (b : Bool) → d.known.seat ≡ cond b (In slot w acked acked Rests) (Gives slot w acked x) → EndsWith t d (Slot slot field.Todo) 0
      go true is =
          record {
            able = record {
              table_is = a.table_is;
              sized = a.sized;
              can = record { move = Count slot w acked acked; may = (is, a.through, a.low, a.calls); is_access = refl };
              cell = slot_cell slot field.Todo a.low;
              fits = tt;
            };
            ends = refl;
          }
      go false is =
          record {
            able = record {
              table_is = a.table_is;
              sized = a.sized;
              can = record { move = CountGiven slot w acked x; may = (is, a.low); is_access = refl };
              cell = slot_cell slot field.Todo a.low;
              fits = tt;
            };
            ends = refl;
          }

module _ (t : TableId) (d : SeatValue) (slot found : ℕ) (a : AtClose t d slot found) where
  pub ready_close : found ≡ 1 → Ready t d (Store (Slot slot field.Done) 1)
  ready_close one = record {
    able = record {
      table_is = a.table_is;
      sized = a.sized;
      can = record { move = Close slot; may = (a.seat_is ∙ ap (λ b. cond b (Closes slot) Free) (eq-eqb found 1 one), a.idle); is_access = refl };
      cell = slot_cell slot field.Done a.low;
      fits = tt;
    };
    apart = tt;
  }
