use Rattle.std.proofs.Common.{◌∷◌}
use Rattle.std.specs.Fmt.{HasWritten, IsPlainFormatter}
use Rattle.std.specs.List.{flat_map}
use Rattle.smp_mask.specs.CpuList.{item_text}
use Rattle.smp_mask.proofs.display.CpuMaskDisplay.fmt.Given as goal

abbrev pub invariant-loop-item : goal.invariant-loop-item
invariant-loop-item g l =
    IsPlainFormatter l.initial.f → HasWritten g.W.Write.write_str_gives l.initial.f (flat_map (λ i. 44 ∷ item_text i) l.yielded) l.f
