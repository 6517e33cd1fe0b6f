-- The threads of the CPUs of a machine, by what they promise.
use Rattle.std.specs.Prelude.{◌≡◌, ℕ, List}
use Rattle.std.specs.declared.thread.PromisedHandle.{PromisedHandle}
use Rattle.smp_machine.specs.Members.{AreFor}
use Rattle.smp_machine.specs.MachineCpu.{MachineValue}
use Rattle.smp_machine.specs.declared.threads.Task.{Task}

-- the promise of the thread of this CPU
pub record IsTaskOf {C A : Type 0} (m : MachineValue) (crew : C) (number : ℕ) (t : Task C A) : Type 0 where
  pub machine_is : t.machine.now ≡ m
  pub crew_is : t.crew.now ≡ crew
  pub number_is : t.number ≡ number

-- the threads of these CPUs, in this order
abbrev pub AreStarted : {C A T : Type 0} → MachineValue → C → List ℕ → List (PromisedHandle T (Task C A)) → Type 0
AreStarted m crew numbers handles = AreFor (λ n h. IsTaskOf m crew n h.promise) numbers handles
