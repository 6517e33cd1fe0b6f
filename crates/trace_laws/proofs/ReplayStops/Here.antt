-- What is known where a CPU makes a step on the stops: the machine's stops, a state of the model that agrees with them, and the CPU.
use Rattle.trace_laws.proofs.Names.{List, Ok, StateValue, cpu_at, handles_nothing, length, ℕ, ◌<◌, ◌≡◌}
use Rattle.trace_laws.proofs.ReplayNames.{CpuIs, FollowsStops, Past, Setup, StopControlValue, StopShown, StopState, StopsValue, Word, cpus, nothing_left_out}
use Rattle.trace_laws.proofs.ReplayNames.{past_at, setup_of, stop_control_of, stop_number}

-- nothing is left out, and the CPU handles no call
pub record Here : Type 0 where
  pub v : StopsValue
  pub p : StopState
  pub shown : StopShown p v
  pub me : ℕ
  pub below : me < cpus
  pub pasts : List Past
  pub sized : length pasts ≡ 32
  pub s : StateValue
  pub whole : s.setting.without ≡ nothing_left_out
  pub cpus_are : length s.cpus ≡ 512
  pub f : FollowsStops p (stop_number v.table) pasts s
  pub quiet : handles_nothing (cpu_at s me) ≡ Ok tt

-- the CPUs and the labels, the words, where the CPU is in its command, and what it has done before
pub record Parts : Type 0 where
  pub U : Setup
  pub At : Word → ℕ
  pub C : StopControlValue
  pub Old : Past

abbrev pub parts : Here → Parts
parts k = record {
  U = setup_of k.v.online k.v.labels;
  At = stop_number k.v.table;
  C = stop_control_of k.v.controls k.me;
  Old = past_at k.pasts k.me;
}

-- what it has done in the stop that it is in
pub my : (k : Here) → CpuIs k.p k.s (past_at k.pasts k.me) k.me
my k = k.f.cpus_are k.me
