-- Up to here the texts are the same, and this is the line.
use Rattle.std.proofs.Common.{◌≡◌, take}
use Rattle.smp_replay.specs.Difference.{StartsLine, line_at}
use Rattle.smp_replay.proofs.difference.first_difference.Given as goal

abbrev pub invariant-loop-at : goal.invariant-loop-at
invariant-loop-at l = record {
  same : take l.at l.one ≡ take l.at l.two;
  line : l.line ≡ line_at l.one l.at;
  start : StartsLine l.one l.start l.at;
}
