-- What a CPU has read of a key, beside what it has read of that key's sites.
use Rattle.std.specs.Prelude.{◌≡◌, ℕ, ◌<◌, Bool, true, false, length, slice_index_or}
use Rattle.smp_labels.specs.declared.entries.Entry.{Entry}
use Rattle.smp_multi.specs.Cpu.{CpuValue}
use Rattle.smp_multi.specs.Names.{ReadKey, ReadSite}
use Rattle.smp_multi.specs.Reads.{ReadsOneTable}
use Rattle.smp_machine.specs.Keys.{Reads}

-- whether a site jumps, by its key and its branch
abbrev pub is_jump : Bool → Bool → Bool
is_jump true true = false
is_jump true false = true
is_jump false true = true
is_jump false false = false

-- a site that a CPU has read since its interrupts last went on jumps as the key says that it has read since then, in whatever
-- order, and as the branch says with which the site was declared
abbrev pub KindsFollowKeys : Type 0
KindsFollowKeys =
    (c : CpuValue) (k i : ℕ) (on jump : Bool) (e : Entry) → ReadsOneTable c → Reads c (ReadKey k on) → Reads c (ReadSite i jump)
    → i < length c.setting.labels.entries → e ≡ slice_index_or c.setting.labels.entries i e → e.key ≡ k → jump ≡ is_jump on e.branch
