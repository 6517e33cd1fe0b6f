-- What a class means for the call that runs.
use Rattle.std.proofs.Common.{arith, ℕ, Option}
use Rattle.smp_call_steps.specs.{CallState, RunsByClass, DrainValue, ControlValue, Share, share_of, StandsAt, Word, RecPlace}
use Rattle.smp_call_steps.specs.{Stage}
use Rattle.smp_call_steps.specs.Shows.{Shows}

stage_by_class : (places : ℕ → RecPlace) (at : Word → ℕ) (s : Share) (d : DrainValue) (me : ℕ) (stage : Option Stage) → StandsAt places at s d me stage
    → RunsByClass s.running
stage_by_class places at s d me x k = search arith

pub runs_by_class : (a : CallState) (at : Word → ℕ) (control : ℕ → ControlValue) → Shows a at control → (cpu : ℕ) → RunsByClass (a.running cpu)
runs_by_class a at control s cpu = stage_by_class a.place at (share_of a cpu) (control cpu).drain cpu (control cpu).stage (s.stands cpu)
