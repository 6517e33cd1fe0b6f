-- A poll.
use Rattle.std.specs.Prelude.{◌≡◌, Bool, true, false, None}
use Rattle.smp_queue.specs.declared.handler.Heard.{Heard}
use Rattle.smp_multi.specs.declared.func.Called.{Called}
use Rattle.smp_multi.specs.declared.turn.Turn.{Turn}
use Rattle.smp_machine.specs.Own.{own_of}
use Rattle.smp_machine.specs.MachineCpu.{MachineValue, MachineCpuValue}
use Rattle.smp_machine.specs.Takes.{TakesWork}
use Rattle.smp_machine.specs.Works.{Works, LooksOnceMore, TurnsStop}

-- a CPU makes a turn, and then takes the front of its queue, where no work is in hand; if one is then, it goes on until that
-- is completed, and takes no other
pub record Polls {H F : Type 0} (hears : H → Heard → H → Type 0) (leads : F → Called → F → Type 0) (m : MachineValue) (old : MachineCpuValue) (h : H) (f : F)
    (new : MachineCpuValue) (h' : H) (f' : F) : Type 0 where
  pub turned : MachineCpuValue
  pub heard : H
  pub called : F
  pub turn : Turn
  pub works : Works hears leads old h f turned heard called (own_of old)
  pub once : old.stops.irq ≡ true → LooksOnceMore old.calls turned.calls
  pub stops : TurnsStop leads old.stops f turned.stops called turn
  pub passes : turned.passes ≡ old.passes
  pub taken : MachineCpuValue
  pub there : Bool
  pub takes : TakesWork m turned taken there
  pub idle : there ≡ false → (new ≡ taken) × (h' ≡ heard) × (f' ≡ called)
  pub finishes : there ≡ true → Works hears leads taken heard called new h' f' (own_of taken) × (new.stops.inside ≡ None) × (new.passes ≡ taken.passes)
