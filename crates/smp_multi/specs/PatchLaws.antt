-- By how much a patch moves the count of its key, and what it answers.
use Rattle.std.specs.Prelude.{◌≡◌, ◌≢◌, ℕ, ◌+◌, ◌<◌, List, length, slice_index_or}
use Rattle.smp_stop_steps.specs.Labels.{patch_answer}
use Rattle.smp_stop_steps.specs.State.{unmoved}
use Rattle.smp_multi.specs.Names.{Work, Moved}
use Rattle.smp_multi.specs.Turns.{patched_with}

-- the patch answers this, and moves its key so far up and down, and no other key
pub record MovesKey (w : Work) (count : ℕ) (l : List Moved) (up down answer : ℕ) : Type 0 where
  pub answers : patch_answer w count ≡ answer
  pub ups : (slice_index_or (patched_with w count l) w.func unmoved).up ≡ (slice_index_or l w.func unmoved).up + up
  pub downs : (slice_index_or (patched_with w count l) w.func unmoved).down ≡ (slice_index_or l w.func unmoved).down + down
  pub others : (k : ℕ) → k ≢ w.func → slice_index_or (patched_with w count l) k unmoved ≡ slice_index_or l k unmoved

-- by the number of its change, and the count that it finds
pub record MovesByChange (w : Work) (l : List Moved) : Type 0 where
  pub off : (count : ℕ) → w.arg ≡ 0 → MovesKey w count l 0 count 0
  pub on : (count : ℕ) → w.arg ≡ 1 → count ≢ 0 → MovesKey w count l 0 0 0
  pub on_at_0 : w.arg ≡ 1 → MovesKey w 0 l 1 0 0
  pub up : (count : ℕ) → w.arg ≡ 2 → count < 65535 → MovesKey w count l 1 0 0
  pub up_at_the_end : w.arg ≡ 2 → MovesKey w 65535 l 0 0 1
  pub down : (count : ℕ) → w.arg ≡ 3 → count ≢ 0 → MovesKey w count l 0 1 0
  pub down_at_0 : w.arg ≡ 3 → MovesKey w 0 l 0 0 1

abbrev pub PatchesMoveCounts : Type 0
PatchesMoveCounts = (w : Work) (l : List Moved) → w.func < length l → MovesByChange w l
