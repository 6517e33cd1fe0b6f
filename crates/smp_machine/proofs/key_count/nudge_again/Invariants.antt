use Rattle.std.proofs.Common.{◌≡◌, ℕ, List}
use Rattle.std.specs.List.{AllByRecursion}
use Rattle.smp_multi.specs.Nudges.{StaysOn}
use Rattle.smp_machine.specs.Counts.{tries_all}
use Rattle.smp_machine.proofs.key_count.nudge_again.Given as goal

abbrev pub invariant-loop : goal.invariant-loop
invariant-loop g l = record {
  lost : List ℕ;
  stay : AllByRecursion (StaysOn l.up) lost;
  is : l.me ≡ record (l.fn.me) { stops = tries_all l.k lost l.fn.me.stops };
}
