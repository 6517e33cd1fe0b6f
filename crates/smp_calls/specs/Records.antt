-- Which of its records a CPU uses for a call.
use Rattle.std.specs.Prelude.{◌≡◌, ◌≢◌, ℕ, ◌+◌, ◌<◌, nat_lt, Bool, if◌then◌else◌}
use Rattle.smp_words.specs.Size.{record_of}
use Rattle.smp_words.specs.declared.call.Call.{Call}
use Rattle.smp_words.specs.declared.call.Class.{Class}
use Rattle.smp_words.specs.declared.call.Class.TheVariants.{Sync, Async}

-- the record for calls to many with this destination
abbrev pub many_record : ℕ → ℕ
many_record to = if nat_lt to 8 then to + 2 else to + 4

-- the two records of the user
abbrev pub user_record : ℕ → ℕ
user_record u = 10 + u

-- a call that is waited for keeps its record until it has run
abbrev pub class_for : Bool → Class
class_for wait = if wait then Sync else Async

-- the record for a call to one CPU
abbrev pub single_record : Bool → ℕ
single_record wait = if wait then 0 else 1

-- the call by this record of this CPU
abbrev pub call_by : ℕ → ℕ → Class → ℕ → ℕ → Call
call_by number k class func info = record { id = record_of number k; class = class; func = func; info = info }

-- the call to each of many CPUs
abbrev pub many_call : ℕ → Class → ℕ → ℕ → ℕ → Call
many_call number class func info to = call_by number (many_record to) class func info

-- no two of a CPU's uses share a record: 0 and 1 are for calls to one CPU, the others for calls to many and for the user
pub record AreApart : Type 0 where
  pub above : (to : ℕ) → 1 < many_record to
  pub within : (to : ℕ) → to < 32 → many_record to < 36
  pub many : (to other : ℕ) → many_record to ≡ many_record other → to ≡ other
  pub users : (to u : ℕ) → u < 2 → many_record to ≢ user_record u
