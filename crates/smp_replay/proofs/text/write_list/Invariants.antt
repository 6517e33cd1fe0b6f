use Rattle.std.proofs.Common.{◌≡◌, ◌++◌, take, string_bytes}
use Rattle.smp_replay.specs.Text.{list_text}
use Rattle.smp_replay.proofs.text.write_list.Given as goal

abbrev pub invariant-loop-number : goal.invariant-loop-number
invariant-loop-number g l = string_bytes l.out ≡ string_bytes l.initial.out ++ list_text (take l.number-index l.numbers)
