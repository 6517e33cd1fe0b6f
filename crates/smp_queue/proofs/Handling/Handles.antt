-- A CPU inside handle: when it may make its next step, and where it is after it.
use Rattle.std.proofs.Common.{arith, ◌≡◌, Some, refl, ap, ◌∙◌, subst}
use Rattle.atomic_table.specs.Seated.{TableId}
use Rattle.smp_words.specs.Access.{word_of}
use Rattle.smp_call_steps.specs.Threads.Known.{known_access, Lives}
use Rattle.smp_call_steps.proofs.Knows.Handling.{lives_aims, lives_in_table}
use Rattle.smp_queue.specs.{Access, KnownCalls, HandleStage, Handle, CallSetting, cells, HasCell, SeatValue, MayAccess, Ready}
use Rattle.smp_queue.specs.{Reaches, InHandle, IsApartFromCalls}
use Rattle.smp_queue.specs.handle
use Rattle.smp_queue.proofs.TheRule.Cells.{has_cell_of}

-- inside handle a CPU takes its own words alone
handle_reaches : (k : CallSetting) (v : KnownCalls) (stage : HandleStage) → Reaches k v (known_access v (Handle stage))
handle_reaches k v handle.Accept = refl
handle_reaches k v handle.Take = refl
handle_reaches k v _ = tt

module _ {t : TableId} {d : SeatValue} {stage : HandleStage} (h : InHandle t d stage) where
  pub in_handle_can : (access : Access) → known_access d.known (Handle stage) ≡ access → MayAccess d.known access
  in_handle_can access is = record { stage = Handle stage; aims = lives_aims h.lives stage h.stage_is; is_access = is }

  pub in_handle_cell : (access : Access) → known_access d.known (Handle stage) ≡ access → HasCell (word_of access)
  in_handle_cell access is = search (has_cell_of, lives_in_table, arith)

  pub in_handle_reaches : (k : CallSetting) (access : Access) → known_access d.known (Handle stage) ≡ access → Reaches k d.known access
  in_handle_reaches k access is = subst (λ (x : Access). Reaches k d.known x) is (handle_reaches k d.known stage)

  -- a step that begins, counts and ends no call
  pub in_handle_ready : {k : CallSetting} (access : Access) → IsApartFromCalls (Handle stage) → known_access d.known (Handle stage) ≡ access
      → Ready t k d access
  in_handle_ready {k} access apart is =
      record {
        table_is = h.table_is;
        sized = h.sized;
        can = record { stage = Handle stage; aims = lives_aims h.lives stage h.stage_is; is_access = is };
        apart = apart;
        reaches = in_handle_reaches k access is;
        cell = in_handle_cell access is;
      }

-- after a step of its CPU
pub in_handle_then : (t : TableId) (d' : SeatValue) (stage : HandleStage) (v : KnownCalls) → t.words ≡ cells → d'.table ≡ t → Lives d'.known → d'.known ≡ v
    → v.stage ≡ Some (Handle stage) → InHandle t d' stage
in_handle_then t d' stage v sized table lives is at = record {
  table_is = table;
  sized = sized;
  stage_is = ap (λ (u : KnownCalls). u.stage) is ∙ at;
  lives = lives;
}
