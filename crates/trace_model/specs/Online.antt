-- The CPUs that are online.
use Rattle.std.specs.Prelude.{ℕ, Bool, ◌&&◌, nat_lt, if◌then◌else◌}
use Rattle.smp_mask.specs.Mask.{has}
use Rattle.trace_model.specs.declared.without.Setting.{Setting}

-- a CPU is online: below 32 by the mask, from there on where there is such a CPU, of 512 at most
abbrev pub is_online : Setting → ℕ → Bool
is_online u cpu = if nat_lt cpu 32 then has u.online cpu else (nat_lt cpu u.cpus && nat_lt cpu 512)
