-- The steps at the gate.
use Rattle.std.proofs.Common.{◌≡◌, ◌≢◌, ℕ, ◌+◌, true, Option, Some, None, sym, refl, ap, ◌∙◌, arith}
use Rattle.atomic_table.specs.Seated.{TableId}
use Rattle.smp_stop_steps.specs.Threads.Known.{holds_it}
use Rattle.smp_multi.specs.Lives.{StopMoment}
use Rattle.smp_stop_steps.specs.Threads.Moves.{TakeGate, OpenGate}
use Rattle.smp_stop_steps.specs.Shows.{gate_word}
use Rattle.smp_multi.specs.Names.{Gate, Store, Exchange, KnownStops}
use Rattle.smp_multi.specs.Places.{IsSeated}
use Rattle.smp_multi.specs.Seat.{SeatValue, Ready}
use Rattle.smp_multi.proofs.Cells.{gate_cell}

module _ (t : TableId) (d : SeatValue) (number : ℕ) (s : IsSeated t d number) where
  pub ready_gate : (x : ℕ) → x ≡ number + 1 → Ready t d (Exchange Gate 0 x)
  ready_gate x e = record {
    able = record {
      table_is = s.table_is;
      sized = s.sized;
      can = record { move = TakeGate; may = tt; is_access = ap (λ n. Exchange Gate 0 (n + 1)) s.number_is ∙ ap (Exchange Gate 0) (sym e) };
      cell = gate_cell;
      fits = tt;
    };
    apart = tt;
  }

  pub ready_leave : d.known.part.holds ≡ true → Ready t d (Store Gate 0)
  ready_leave holds = record {
    able = record {
      table_is = s.table_is;
      sized = s.sized;
      can = record { move = OpenGate; may = (holds, s.idle); is_access = refl };
      cell = gate_cell;
      fits = tt;
    };
    apart = tt;
  }

-- who holds the gate finds it held
pub gate_held : (v : KnownStops) (n : ℕ) → StopMoment v Gate n → v.part.holds ≡ true → n ≢ 0
gate_held v n m holds z = go m.stops.gate (m.sees.part_is.holds ∙ holds) (sym (m.number_is ∙ m.shown.gate) ∙ z)
  where
    go : (g : Option ℕ) → holds_it g v.number ≡ true → gate_word g ≡ 0 → ⊥
    go None h e = cc
    go (Some c) h e = omega (arith, e)
