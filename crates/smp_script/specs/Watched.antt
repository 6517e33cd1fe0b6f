-- What a clause reads of a `Watched`.
use Rattle.std.specs.Prelude.{Result, Ok, Err, ℕ, Bool, true, ◌==◌, ◌&&◌, nat_lt}
use Rattle.smp_script.specs.declared.watched.Watched.{Watched}

-- the reader or the writer itself
abbrev pub inner_of : {T : Type 0} → Watched T → T
inner_of w = w.inner

-- what `failed` answers
abbrev pub failed_of : {T : Type 0} → Watched T → Bool
failed_of w = w.has_failed

-- what `flushed` answers
abbrev pub flushed_of : {T : Type 0} → Watched T → Bool
flushed_of w = w.is_flushed

-- a write of len bytes failed, or took none of one byte or more
abbrev pub took_none : {E : Type 0} → Result ℕ E → ℕ → Bool
took_none (Ok n) len = n == 0 && nat_lt 0 len
took_none (Err e) len = true
