-- What an audit answers, by the words of a table that no thread shares any more.
use Rattle.std.specs.Prelude.{◌≡◌, ◌≢◌, ℕ, zero, suc, ◌+◌, ◌%◌, ◌^◌, ◌<◌, ◌≤◌, ◌⊎◌, Bool, false, not, ◌==◌, if◌then◌else◌, List, [], length, slice_index_or}
use Rattle.smp_mask.specs.Mask.{has}
use Rattle.smp_words.specs.Size.{cpus, records}
use Rattle.smp_call_steps.specs.Calls.{CallState}
use Rattle.smp_call_steps.specs.Histories.{sent_to, calls_from, marked_from, batches_marked, orders}
use Rattle.smp_call_steps.specs.Threads.Known.{Sees, fresh}
use Rattle.smp_call_steps.specs.Reached.{IsReached}
use Rattle.smp_call_steps.specs.Shows.{Shows}
use Rattle.smp_call_steps.specs.Stages.{ControlValue}
use Rattle.smp_queue.specs.Names.{Word, Head, Hand, Queued, Ran, Flags, KnownCalls, CallSetting, Left, Tally, Audit}
use Rattle.smp_queue.specs.Names.audit
use Rattle.smp_queue.specs.Cells.{number_in}
use Rattle.smp_queue.specs.Rule.{IsQuiet}
use Rattle.smp_queue.specs.Cpu.{TableValue, CpuValue, cpu_in, setting_of}

-- how many numbers below n pass a test
unfoldable pub count_below : (ℕ → Bool) → ℕ → ℕ
count_below test zero = 0
count_below test (suc n) = count_below test n + (if test n then 1 else 0)

-- a CPU whose queue is not empty
abbrev pub has_head : (Word → ℕ) → ℕ → Bool
has_head at cpu = not (at (Head cpu) == 0)

-- a record that is locked
abbrev pub has_lock : (Word → ℕ) → ℕ → Bool
has_lock at id = at (Flags id) % 2 == 1

-- a CPU that handles calls
abbrev pub has_hand : (Word → ℕ) → ℕ → Bool
has_hand at cpu = not (at (Hand cpu) == 0)

-- what is left in these words: the heads that are not nil, the records that are locked, the handling words that are not 0
abbrev pub left_in : (Word → ℕ) → Left
left_in at = record { heads = count_below (has_head at) cpus; locked = count_below (has_lock at) records; handling = count_below (has_hand at) cpus }

-- no head, no lock, no handling word
abbrev pub nothing_left : Left
nothing_left = record { heads = 0; locked = 0; handling = 0 }

-- the number at a row and a column
abbrev pub tally_at : List (List ℕ) → ℕ → ℕ → ℕ
tally_at rows row column = slice_index_or (slice_index_or rows row []) column 0

-- the numbers of these words, one for each CPU
abbrev pub IsRow : (ℕ → ℕ) → List ℕ → Type 0
IsRow number row = (cpu : ℕ) → cpu < cpus → slice_index_or row cpu 0 ≡ number cpu

-- the tally words
pub record IsTally (at : Word → ℕ) (t : Tally) : Type 0 where
  pub queued_are : (source to : ℕ) → source < cpus → to < cpus → tally_at t.queued source to ≡ at (Queued source to)
  pub ran_are : (cpu source : ℕ) → cpu < cpus → source < cpus → tally_at t.ran cpu source ≡ at (Ran cpu source)

-- the answer by these words: Drained exactly where nothing is left
abbrev pub AuditAnswers : (Word → ℕ) → Audit → Type 0
AuditAnswers at (audit.Drained t) = (left_in at ≡ nothing_left) × IsTally at t
AuditAnswers at (audit.Left left) = (left_in at ≡ left) × (left ≢ nothing_left)

-- these words show some calls, reached with them, of the CPUs of a table made with this, of which this is one CPU's part
pub record Closes (k : CallSetting) (v : KnownCalls) (words : List ℕ) : Type 0 where
  pub calls : CallState
  pub reached : IsReached calls (number_in words)
  pub controls : ℕ → ControlValue
  pub shown : Shows calls (number_in words) controls
  pub sees : Sees calls controls v
  pub setting_is : v.setting ≡ k
  pub below : v.number < k.nr
  pub absent : (cpu : ℕ) → k.nr ≤ cpu → Sees calls controls (fresh k cpu)
  pub offline : (cpu : ℕ) → has k.online cpu ≡ false → Sees calls controls (fresh k cpu)
  pub quiet : (cpu : ℕ) → has k.online cpu ≡ false → IsQuiet (number_in words) cpu

-- these words show some calls, reached with them, of the CPUs of this table, of which this value is one CPU's part; CPUs that
-- the table does not have, and those that are not online, have done nothing, and the words of those that are not online show no
-- queue and no interrupt
pub record ClosesWith (t : TableValue) (last : CpuValue) (words : List ℕ) : Type 0 where
  pub calls : CallState
  pub reached : IsReached calls (number_in words)
  pub controls : ℕ → ControlValue
  pub shown : Shows calls (number_in words) controls
  pub view : last ≡ cpu_in t.table (setting_of t) calls last
  pub below : last.number < t.nr
  pub within : t.nr ≤ cpus
  pub absent : (cpu : ℕ) → t.nr ≤ cpu → Sees calls controls (fresh (setting_of t) cpu)
  pub offline : (cpu : ℕ) → has t.online cpu ≡ false → Sees calls controls (fresh (setting_of t) cpu)
  pub quiet : (cpu : ℕ) → has t.online cpu ≡ false → IsQuiet (number_in words) cpu

-- all calls have run: what a source has sent to a CPU is what that has taken, in order, and it has run that in drain order
pub record HaveRun (a : CallState) : Type 0 where
  pub taken : (source cpu : ℕ) → sent_to cpu (a.sent source) ≡ marked_from source (batches_marked (a.taken cpu))
  pub ran : (cpu : ℕ) → a.ran cpu ≡ orders (a.taken cpu)

-- a fact of the tallies, where the answer has them
abbrev pub IfDrained : Audit → (Tally → Type 0) → Type 0
IfDrained (audit.Drained t) P = P t
IfDrained (audit.Left left) P = Unit {0}

-- the answer is that of words as a close gives them, and where it is drained the calls that they show have run
pub record Audited (t : TableValue) (last : CpuValue) (answer : Audit) : Type 0 where
  pub words : List ℕ
  pub closes : ClosesWith t last words
  pub answers : AuditAnswers (number_in words) answer
  pub drained : IfDrained answer (λ t. HaveRun closes.calls)

-- each pair has as many calls queued as run
abbrev pub AreEqual : Tally → Type 0
AreEqual t = (source to : ℕ) → source < cpus → to < cpus → tally_at t.queued source to ≡ tally_at t.ran to source

-- a CPU's rows are its own tallies
abbrev pub HasRowsOf : CpuValue → Tally → Type 0
HasRowsOf c t = (other : ℕ) → other < cpus → (tally_at t.queued c.number other ≡ length (sent_to other c.part.sent) % 2 ^ 64)
    × (tally_at t.ran c.number other ≡ length (calls_from other c.part.ran) % 2 ^ 64)

-- no calls to or from a CPU that the table does not have
abbrev pub HasZerosFrom : ℕ → Tally → Type 0
HasZerosFrom nr t = (cpu other : ℕ) → cpu < cpus → other < cpus → (nr ≤ cpu) ⊎ (nr ≤ other) → (tally_at t.queued cpu other ≡ 0) × (tally_at t.ran cpu other ≡ 0)
