-- The calls and the stops of which a CPU's value may be a part, while threads run.
use Rattle.std.specs.Prelude.{ℕ, List}
use Rattle.smp_call_steps.specs.State.{CallState}
use Rattle.smp_call_steps.specs.Reached.{IsReached}
use Rattle.smp_queue.specs.Names.{CallSetting, Word}
use Rattle.smp_queue.specs.Cpu.{CpuValue as CallCpuValue}
use Rattle.smp_queue.specs.Together.{ArePartsOf as ArePartsOfCalls, IsPartOf as IsPartOfCalls}
use Rattle.smp_multi.specs.Cpu.{CpuValue as StopCpuValue}
use Rattle.smp_multi.specs.Together.{StopsNow, IsPartOf as IsPartOfStops}

-- some calls and words that are reached: steps that the CPUs may make lead to them from nothing called
pub record ReachedCalls : Type 0 where
  pub calls : CallState
  pub at : Word → ℕ
  pub reached : IsReached calls at

-- this value is the CPU's part of some calls that are reached
pub record HasCalls (c : CallCpuValue) : Type 0 where
  pub now : ReachedCalls
  pub part : IsPartOfCalls now.calls c

-- these values are their CPUs' parts of the same calls, which are reached
pub record AllHaveCalls (cs : List CallCpuValue) : Type 0 where
  pub now : ReachedCalls
  pub setting : CallSetting
  pub parts : ArePartsOfCalls now.calls setting cs

-- some words show stops that are reached, of which this value is the CPU's part
pub record HasStops (c : StopCpuValue) : Type 0 where
  pub now : StopsNow c.setting
  pub part : IsPartOfStops now c
