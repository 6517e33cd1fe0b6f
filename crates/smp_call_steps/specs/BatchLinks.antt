-- The links of a batch, which its CPU reverses in place and from which it then unlinks the SYNC calls.
use Rattle.std.specs.Prelude.{◌≡◌, ℕ, Bool, ◌&&◌, not, Option, Some, List, [], ◌++◌}
use Rattle.std.specs.List.{filter}
use Rattle.smp_call_steps.specs.Order.{order}
use Rattle.smp_call_steps.specs.Calls.{CallState}
use Rattle.smp_call_steps.specs.Stages.{ControlValue}
use Rattle.smp_call_steps.specs.Drains.{link_to}
use Rattle.smp_call_steps.specs.Words.{Leads, Path, last_batch, nexts_in}
use Rattle.smp_call_steps.specs.Batches.{has_record, is_this, down_link, up_link, between_of}
use Rattle.smp_call_steps.specs.Shows.{Shows}
use Rattle.smp_call_steps.specs.Names.{Call, Word, Stage, Handle}
use Rattle.smp_call_steps.specs.Names.handle

-- whether a call is in a chain: it is left to run, and its record is not the one between the chains
abbrev pub is_linked : List Call → Option ℕ → Call → Bool
is_linked left between call = has_record call.id left && not (is_this call.id between)

-- no call has begun while the batch is being reversed
abbrev pub BegunAt : Option Stage → List Call → Type 0
BegunAt (Some (Handle (handle.ReverseLoad newer id))) begun = begun ≡ []
BegunAt (Some (Handle (handle.ReverseStore newer id older))) begun = begun ≡ []
BegunAt _ begun = Unit {0}

-- a link that the CPU has loaded and not yet used is still there
abbrev pub LoadedAt : (ℕ → ℕ) → Option Stage → Type 0
LoadedAt nexts (Some (Handle (handle.ReverseStore newer id older))) = nexts id ≡ link_to older
LoadedAt nexts (Some (Handle (handle.LoadFlags walk id next))) = nexts id ≡ link_to next
LoadedAt nexts (Some (Handle (handle.LoadFunc walk id next))) = nexts id ≡ link_to next
LoadedAt nexts (Some (Handle (handle.LoadInfo walk id next func))) = nexts id ≡ link_to next
LoadedAt nexts (Some (Handle (handle.Unlink walk last call next))) = nexts call.id ≡ link_to next
LoadedAt nexts (Some (Handle (handle.BeginSync walk call next))) = nexts call.id ≡ link_to next
LoadedAt nexts (Some (Handle (handle.AsyncFunc id next))) = nexts id ≡ link_to next
LoadedAt nexts (Some (Handle (handle.AsyncInfo id next func))) = nexts id ≡ link_to next
LoadedAt nexts (Some (Handle (handle.BeginAsync call next))) = nexts call.id ≡ link_to next
LoadedAt nexts _ = Unit {0}

-- The next words of all that is left to run of the batch that a CPU has taken last, wherever the CPU is: until it is
-- reversed a record leads to the one before it in the batch, 0 for the oldest; from then on to the one after it that is
-- left, 0 for the newest; and one between the two chains has the link that the CPU has loaded there.
pub record BatchLinks (nexts : ℕ → ℕ) (batch left : List Call) (stage : Option Stage) : Type 0 where
  pub begun : List Call
  pub older : List Call
  pub newer : List Call
  -- what has begun and what is left are the batch in drain order
  pub in_order : order batch ≡ begun ++ left
  pub begun_at : BegunAt stage begun
  -- what is in a chain, in the order of the queue, is what is not reversed yet and then what is
  pub linked : filter (is_linked left (between_of stage)) batch ≡ older ++ newer
  -- the one leads down to 0, the newest first, and the other up to 0, the oldest first
  pub leads_down : Leads nexts (down_link stage) older 0
  pub leads_up : Path nexts (up_link stage) newer 0
  pub loaded : LoadedAt nexts stage

-- of each CPU
abbrev pub BatchesLinked : CallState → (Word → ℕ) → (ℕ → ControlValue) → Type 0
BatchesLinked a at control = (cpu : ℕ) → BatchLinks (nexts_in at) (last_batch (a.taken cpu)) (a.batch cpu) (control cpu).stage

-- whatever words show calls
abbrev pub KeepBatchLinks : Type 0
KeepBatchLinks = (a : CallState) (at : Word → ℕ) (control : ℕ → ControlValue) → Shows a at control → BatchesLinked a at control
