use Rattle.std.proofs.Crossing.{frees}
use Rattle.smp_script_tests.proofs.tests.runs.failures.run_in.Goals as goal

-- A block goes back to the memory below, from any thread.
pub run_script-answer-requires-frees-A-Allocator : goal.run_script-answer-requires-frees-A-Allocator
run_script-answer-requires-frees-A-Allocator g c κs le = record { frees = λ memory ty at. frees.frees memory.now.inner ty at }
