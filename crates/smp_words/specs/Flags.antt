-- The flags word of a record: LOCK is 1, and class SYNC 16 beside it.
use Rattle.std.specs.Prelude.{ℕ, ◌==◌, if◌then◌else◌}
use Rattle.smp_words.specs.declared.call.Class.{Class}
use Rattle.smp_words.specs.declared.call.Class.TheVariants.{Sync, Async}

-- LOCK and the class
abbrev pub flags_of : Class → ℕ
flags_of Sync = 17
flags_of Async = 1

-- the class in a locked record's flags
abbrev pub class_of : ℕ → Class
class_of flags = if flags == 17 then Sync else Async
