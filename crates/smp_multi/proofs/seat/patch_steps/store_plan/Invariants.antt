use Rattle.std.proofs.Common.{◌≡◌}
use Rattle.smp_stop_steps.specs.Threads.Known.{stepped}
use Rattle.smp_multi.specs.Lives.{Lives}
use Rattle.smp_multi.specs.Patches.{stored_to}
use Rattle.smp_multi.proofs.seat.patch_steps.store_plan.Given as goal

abbrev pub invariant-loop-place : goal.invariant-loop-place
invariant-loop-place l = record {
  table : l.seat.table ≡ l.fn.words.shared.now.table_id;
  lives : Lives l.seat.known;
  known : l.seat.known ≡ stepped l.place-index (stored_to l.place-index l.fn.seat.known.seat l.fn.seat.known);
}
