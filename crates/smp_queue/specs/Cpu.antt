-- What contracts see of a table, of a CPU and of the CPUs that were not given out.
use Rattle.std.specs.Prelude.{◌≡◌, ◌≢◌, ℕ, ◌+◌, ◌*◌, ◌<◌, ◌%◌, ◌^◌, Bool, true, false, not, ◌||◌, ◌==◌, nat_lt, Option, None, Result, Ok, Err, List}
use Rattle.std.specs.Prelude.{[], ◌∷◌, ◌++◌, length, slice_index_or, slice_set, IfSome}
use Rattle.atomic_table.specs.Seated.{TableId}
use Rattle.smp_mask.specs.Mask.{has}
use Rattle.smp_mask.specs.declared.error.SmpError.{SmpError}
use Rattle.smp_mask.specs.declared.error.SmpError.TheVariants as error
use Rattle.smp_words.specs.Size.{cpus, records, records_of_one, record_of, owner}
use Rattle.smp_call_steps.specs.Start.{fits_record}
use Rattle.smp_call_steps.specs.Histories.{sent_to, calls_from}
use Rattle.smp_call_steps.specs.Places.{IsCall}
use Rattle.smp_call_steps.specs.Stands.{posted}
use Rattle.smp_call_steps.specs.Calls.{CallState, no_calls}
use Rattle.smp_call_steps.specs.Threads.Parts.{part_of, part_confirmed, part_sent, part_queued}
use Rattle.smp_queue.specs.Names.{Class, KnownCalls, CallPart, Posting, Logged, DirectCall, HeadSeen, CallSetting}
use Rattle.smp_queue.specs.Names.logged
use Rattle.smp_call_steps.specs.Threads.Known.{posting_of}
use Rattle.smp_call_steps.specs.Threads.Heads.{Found, last_found, times_lost, heads_with, heads_won, AreOthers}
use Rattle.smp_queue.specs.Seat.{SeatValue}

-- a table: its name, how many CPUs it has, and those online
pub record TableValue : Type 0 where
  pub table : TableId
  pub nr : ℕ
  pub online : ℕ

-- what it is made with
abbrev pub setting_of : TableValue → CallSetting
setting_of t = record { nr = t.nr; online = t.online }

-- the table of this name that is made with this
abbrev pub table_with : TableId → CallSetting → TableValue
table_with table k = record { table = table; nr = k.nr; online = k.online }

-- a CPU between two calls: its table, what that is made with, its number, its own part of the calls, how many
-- compare-exchanges of heads it has made, what it has found in heads, by which kind of access, the calls that it has
-- queued and the interrupts that it has sent, in order, its direct calls, how many steps it has made outside handle, how many
-- of these and how many takes of its interrupt word it had made when it last queued a call or sent an interrupt, and how many of
-- these steps it had made at each take of its interrupt word
pub record CpuValue : Type 0 where
  pub table : TableId
  pub setting : CallSetting
  pub number : ℕ
  pub part : CallPart
  pub tried : ℕ
  pub heads : List HeadSeen
  pub log : List Logged
  pub direct : List DirectCall
  pub steps : ℕ
  pub sent_at : ℕ
  pub asked_at : ℕ
  pub asked_after : List ℕ

-- what a CPU knows, as contracts see it
abbrev pub cpu_of : SeatValue → CpuValue
cpu_of d = record {
  table = d.table;
  setting = d.known.setting;
  number = d.known.number;
  part = d.known.part;
  tried = d.known.tried;
  heads = d.known.heads;
  log = d.known.log;
  direct = d.known.direct;
  steps = d.known.steps;
  sent_at = d.known.sent_at;
  asked_at = d.known.asked_at;
  asked_after = d.known.asked_after;
}

-- a CPU at this table, with its part of these calls
abbrev pub cpu_in : TableId → CallSetting → CallState → CpuValue → CpuValue
cpu_in table k calls c = record c { table = table; setting = k; part = part_of calls c.number }

-- a CPU of this table that has done nothing: all its records are confirmed, and it has made no step
abbrev pub fresh_cpu : TableValue → ℕ → CpuValue
fresh_cpu t cpu = record {
  table = t.table;
  setting = setting_of t;
  number = cpu;
  part = part_of no_calls cpu;
  tried = 0;
  heads = [];
  log = [];
  direct = [];
  steps = 0;
  sent_at = 0;
  asked_at = 0;
  asked_after = [];
}

-- what a CPU keeps between two calls: it is online and outside a command, and its counts are those of its calls
pub record IsKept (v : KnownCalls) (number : ℕ) (queued ran : List ℕ) : Type 0 where
  pub number_is : v.number ≡ number
  pub below : number < cpus
  pub online : has v.setting.online number ≡ true
  pub outside : v.stage ≡ None
  pub records_sized : length v.part.confirmed ≡ records
  pub queued_sized : length queued ≡ cpus
  pub ran_sized : length ran ≡ cpus
  pub queued_are : (to : ℕ) → to < cpus → slice_index_or queued to 0 ≡ length (sent_to to v.part.sent) % 2 ^ 64
  pub ran_are : (source : ℕ) → source < cpus → slice_index_or ran source 0 ≡ length (calls_from source v.part.ran) % 2 ^ 64

-- whether a CPU has seen the last call by its record k confirmed
abbrev pub confirmed_at : CpuValue → ℕ → Bool
confirmed_at c k = slice_index_or c.part.confirmed (record_of c.number k) false

-- a CPU that has seen the last call by its record k confirmed
abbrev pub confirms : ℕ → CpuValue → CpuValue
confirms k c = record c { part = part_confirmed (record_of c.number k) c.part }

-- a CPU that has made one step, of which nothing else is told
abbrev pub looks : CpuValue → CpuValue
looks c = record c { steps = c.steps + 1 }

-- a CPU that has sent one interrupt, by one step: it owes none
abbrev pub sends : ℕ → CpuValue → CpuValue
sends to c = record c {
  part = part_sent to c.part;
  log = c.log ++ logged.Interrupted to ∷ [];
  steps = c.steps + 1;
  sent_at = c.steps + 1;
  asked_at = length c.part.asked;
}

-- a CPU that has made a direct call, by no step: its entry has what it had counted and logged by then
abbrev pub notes_call : CpuValue → CpuValue
notes_call c = record c { direct = c.direct ++ record { steps = c.steps; asked = length c.part.asked; logged = length c.log } ∷ [] }

-- how many steps a post makes that has found these numbers in a head: eight, and two more for each compare-exchange in vain
abbrev pub steps_of_post : Found → ℕ
steps_of_post found = 8 + 2 * times_lost found

-- a CPU that has found these numbers in a head, so has made its compare-exchanges in vain, and has given its record up
abbrev pub loses : Found → CpuValue → CpuValue
loses found c = record c { tried = c.tried + times_lost found; heads = heads_with c.heads found; steps = c.steps + steps_of_post found }

-- a CPU that has found these numbers in a head, and then has queued a call by its record k, into a queue that was empty
-- or not, by the compare-exchange that expected the last of them
abbrev pub posts : ℕ → ℕ → Class → ℕ → ℕ → Bool → Found → CpuValue → CpuValue
posts k to class func info first found c = record c {
  part = part_queued (record { id = record_of c.number k; class = class; func = func; info = info }) to first c.part;
  tried = (c.tried + times_lost found) + 1;
  heads = heads_won c.heads found;
  log = c.log ++ logged.Queued to ∷ [];
  steps = c.steps + steps_of_post found;
  sent_at = c.steps + steps_of_post found;
  asked_at = length c.part.asked;
}

-- arguments that a post refuses
abbrev pub misused : ℕ → CpuValue → ℕ → ℕ → Class → ℕ → Bool
misused nr c k to class tries = ((not (nat_lt k records_of_one) || tries == 0) || to == c.number) || not (fits_record nr k to class)

-- the answer of a post, and what it leaves of its CPU. E4 comes first, then E2, E1 and E5. Where it queues its call it has
-- loaded the head, lost some compare-exchanges and won one, each at the number that was found last; the queue was empty where
-- that is 0. At E5 it has lost all its tries. At E2 and E1 it has made one step, the load of the record's flags, and at E4 none
abbrev pub PostAnswers : TableValue → CpuValue → CpuValue → ℕ → ℕ → Class → ℕ → ℕ → ℕ → Result Bool SmpError → Type 0
PostAnswers t old new k to class func info tries (Ok first) = (misused t.nr old k to class tries ≡ false) × (has t.online to ≡ true)
    × (found : Found) × AreOthers found × (first ≡ (last_found found == 0)) × (new ≡ posts k to class func info first found old)
PostAnswers t old new k to class func info tries (Err error.BadArgument) = (misused t.nr old k to class tries ≡ true) × (new ≡ old)
PostAnswers t old new k to class func info tries (Err error.Busy) = (misused t.nr old k to class tries ≡ false) × (confirmed_at old k ≢ true)
    × (new ≡ looks old)
PostAnswers t old new k to class func info tries (Err error.NoCpu) = (misused t.nr old k to class tries ≡ false) × (has t.online to ≡ false)
    × (new ≡ looks (confirms k old))
PostAnswers t old new k to class func info tries (Err error.Contended) = (misused t.nr old k to class tries ≡ false) × (has t.online to ≡ true)
    × (found : Found) × AreOthers found × (times_lost found ≡ tries) × (new ≡ confirms k (loses found old))
PostAnswers t old new k to class func info tries (Err _) = ⊥

-- a CPU may queue this call: the record is its own and seen confirmed, and the numbers fit
pub record MayQueue (c : CpuValue) (p : Posting) : Type 0 where
  pub below : c.number < cpus
  pub owned : owner p.id ≡ c.number
  pub is_call : IsCall (posted p)
  pub to_in_range : p.to < cpus
  pub confirmed : slice_index_or c.part.confirmed p.id false ≡ true

-- the same of what comes before the record is written: at Ok its call
abbrev pub BeginAnswers : TableValue → CpuValue → CpuValue → ℕ → ℕ → Class → ℕ → ℕ → ℕ → Result Posting SmpError → Type 0
BeginAnswers t old new k to class func info tries (Ok p) =
    (misused t.nr old k to class tries ≡ false) × (has t.online to ≡ true) × (new ≡ looks (confirms k old)) ×
    (p ≡ posting_of (record_of old.number k) class func info to) × MayQueue new p
BeginAnswers t old new k to class func info tries (Err error.BadArgument) = (misused t.nr old k to class tries ≡ true) × (new ≡ old)
BeginAnswers t old new k to class func info tries (Err error.Busy) = (misused t.nr old k to class tries ≡ false) × (confirmed_at old k ≢ true)
    × (new ≡ looks old)
BeginAnswers t old new k to class func info tries (Err error.NoCpu) = (misused t.nr old k to class tries ≡ false) × (has t.online to ≡ false)
    × (new ≡ looks (confirms k old))
BeginAnswers t old new k to class func info tries (Err _) = ⊥

-- the CPUs of a table that were not given out: for each number, whether it was not
pub record BootValue : Type 0 where
  pub table : TableValue
  pub left : List Bool

-- whether the CPU of a number is left
abbrev pub is_left : BootValue → ℕ → Bool
is_left b cpu = slice_index_or b.left cpu false

-- without the CPU of a number
abbrev pub given : ℕ → BootValue → BootValue
given cpu b = record b { left = slice_set b.left cpu false }

-- each CPU that is online waits fresh, or was given out
pub record AreWaiting (t : TableValue) (online : ℕ) (waiting : List (Option CpuValue)) : Type 0 where
  pub online_is : online ≡ t.online
  pub sized : (cpu : ℕ) → has online cpu ≡ true → cpu < length waiting
  pub fresh_are : (cpu : ℕ) → has online cpu ≡ true → IfSome (slice_index_or waiting cpu None) (λ c. c ≡ fresh_cpu t cpu)

-- all CPUs of this table that are online are left
pub record IsFull (b : BootValue) (t : TableValue) : Type 0 where
  pub table_is : b.table ≡ t
  pub left_are : (cpu : ℕ) → has t.online cpu ≡ true → is_left b cpu ≡ true
