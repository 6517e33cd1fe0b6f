-- Faults of the reader of scripts, as those of a trace.
use Rattle.std.proofs.Common.{◌≡◌, ℕ, Result, Ok, Err, refl, ap, sym, ◌∙◌}
use Rattle.smp_mask.specs.declared.error.Cause.{Cause}
use Rattle.smp_mask.specs.declared.error.SmpError.{SmpError}
use Rattle.smp_mask.specs.declared.error.SmpError.TheVariants as errors
use Rattle.smp_script.specs.Faults.{Fails, at_line as placed}
use Rattle.trace_judge.specs.declared.early_end.EarlyEnd.{EarlyEnd}
use Rattle.trace_judge.specs.declared.early_end.EarlyEnd.TheVariants as early_end
use Rattle.trace_judge.specs.Head.{early_end_of, Sees}
use Rattle.trace_judge.specs.Judged.{at_line}

-- the same line is at fault
told_at : {X : Type 0} → Result X (ℕ × Cause) → Result X EarlyEnd
told_at (Ok x) = Ok x
told_at (Err fault) = Err (early_end.Fault fault.0 fault.1)

told_same : {X : Type 0} (n : ℕ) (r : Result X Cause) → told_at (placed n r) ≡ at_line n r
unfolding told_at
told_same n (Ok x) = refl
told_same n (Err cause) = refl

pub sees_ok : {X : Type 0} (n : ℕ) (r : Result X Cause) (x : X) → placed n r ≡ Ok x → at_line n r ≡ Ok x
unfolding told_at
sees_ok n r x e = sym (told_same n r) ∙ ap told_at e

pub sees_err : {X : Type 0} (n : ℕ) (r : Result X Cause) (error : SmpError) → Fails error (placed n r) →
    Sees (λ (x : X). x) (Err (early_end_of error)) (at_line n r)
unfolding told_at
sees_err n r (errors.BadScript m cause) e = sym (told_same n r) ∙ ap told_at e
sees_err n r errors.NoMemory e = tt
sees_err n r errors.NoCpu e = absurd e
sees_err n r errors.Busy e = absurd e
sees_err n r errors.NoStopper e = absurd e
sees_err n r errors.BadArgument e = absurd e
sees_err n r errors.Contended e = absurd e
sees_err n r errors.Stale e = absurd e
sees_err n r errors.SlotBusy e = absurd e
sees_err n r errors.IdleStep e = absurd e
sees_err n r (errors.BadMask position) e = absurd e
sees_err n r (errors.StreamFailed side) e = absurd e
sees_err n r (errors.KeyRange edge) e = absurd e
