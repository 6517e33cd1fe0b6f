-- A CPU at the table: its table and what it knows, and which accesses it may make.
use Rattle.std.specs.Prelude.{◌≡◌, ℕ, ◌%◌, ◌^◌, ◌<◌, true, Some, None, length}
use Rattle.atomic_table.specs.Seated.{TableId}
use Rattle.smp_mask.specs.Mask.{has}
use Rattle.smp_words.specs.Access.{word_of}
use Rattle.smp_words.specs.Size.{cpus, records, owner}
use Rattle.smp_call_steps.specs.Places.{IsCall}
use Rattle.smp_call_steps.specs.Histories.{sent_to}
use Rattle.smp_call_steps.specs.Stands.{posted}
use Rattle.smp_call_steps.specs.Threads.Known.{MayStep, known_access, posting_of, known_told, Lives, CallMoment}
use Rattle.smp_queue.specs.Names.{Word, Access, Store, KnownCalls, Posting, HandleStage, Stage, Post, Handle, CallSeatView, Maker}
use Rattle.smp_queue.specs.Names.{Head, Intr, Swap, Exchange, CallSetting}
use Rattle.smp_queue.specs.Names.post
use Rattle.smp_queue.specs.Names.act
use Rattle.smp_queue.specs.Names.handle
use Rattle.smp_queue.specs.Cells.{cells, HasCell}

-- the table that a CPU sits at, and what it knows
pub record SeatValue : Type 0 where
  pub table : TableId
  pub known : KnownCalls

-- the seat of a CPU
abbrev pub IsCpuSeat : CallSeatView → Type 0
IsCpuSeat (Maker n k) = ⊥
IsCpuSeat _ = Unit {0}

-- a CPU that knows this may make this access
pub record MayAccess (v : KnownCalls) (access : Access) : Type 0 where
  pub stage : Stage
  pub aims : MayStep v stage
  pub is_access : known_access v stage ≡ access

-- a stage at which no call begins, is counted or ends
abbrev pub IsApartFromCalls : Stage → Type 0
IsApartFromCalls (Handle (handle.BeginSync walk call next)) = ⊥
IsApartFromCalls (Handle (handle.CountSync walk call next)) = ⊥
IsApartFromCalls (Handle (handle.EndSync walk call next)) = ⊥
IsApartFromCalls (Handle (handle.BeginAsync call next)) = ⊥
IsApartFromCalls (Handle (handle.CountAsync call next)) = ⊥
IsApartFromCalls _ = Unit {0}

-- the head that an access changes is that of a CPU that is online in this table, or the own; the same of an interrupt word
abbrev pub Reaches : CallSetting → KnownCalls → Access → Type 0
Reaches k v (Store (Head to) n) = ⊥
Reaches k v (Store (Intr to) n) = has k.online to ≡ true
Reaches k v (Exchange (Head to) old n) = has k.online to ≡ true
Reaches k v (Exchange (Intr to) old n) = ⊥
Reaches k v (Swap (Head cpu) n) = cpu ≡ v.number
Reaches k v (Swap (Intr cpu) n) = cpu ≡ v.number
Reaches k v _ = Unit {0}

-- a CPU may make this access at this table, which begins, counts and ends no call
pub record Ready (table : TableId) (key : CallSetting) (seat : SeatValue) (access : Access) : Type 0 where
  pub table_is : seat.table ≡ table
  pub sized : table.words ≡ cells
  pub can : MayAccess seat.known access
  pub apart : IsApartFromCalls can.stage
  pub reaches : Reaches key seat.known access
  pub cell : HasCell (word_of access)

-- a load of this word that found this number, at a moment of which the CPU knew: what it knows then
pub record Loads (t : TableId) (old new : SeatValue) (word : Word) (number : ℕ) : Type 0 where
  pub table : new.table ≡ t
  pub lives : Lives new.known
  pub known : new.known ≡ known_told old.known act.Load word (Some number) None
  pub moment : CallMoment old.known word number

-- a CPU of this number outside a command
pub record IsOutside (table : TableId) (seat : SeatValue) (number : ℕ) : Type 0 where
  pub table_is : seat.table ≡ table
  pub sized : table.words ≡ cells
  pub number_is : seat.known.number ≡ number
  pub below : number < cpus
  pub stage_is : seat.known.stage ≡ None

-- a CPU inside handle, at this step of it
pub record InHandle (table : TableId) (seat : SeatValue) (stage : HandleStage) : Type 0 where
  pub table_is : seat.table ≡ table
  pub sized : table.words ≡ cells
  pub stage_is : seat.known.stage ≡ Some (Handle stage)
  pub lives : Lives seat.known

-- a step inside handle that stores this number in this word
pub record IsStepOfCall (table : TableId) (seat : SeatValue) (word : Word) (number : ℕ) : Type 0 where
  pub stage : HandleStage
  pub at : InHandle table seat stage
  pub is_access : known_access seat.known (Handle stage) ≡ Store word number

-- a seat at this table, whose CPU owns this record
pub record OwnsRecord (table : TableId) (seat : SeatValue) (id : ℕ) : Type 0 where
  pub table_is : seat.table ≡ table
  pub sized : table.words ≡ cells
  pub me_in_range : seat.known.number < cpus
  pub owned : owner id ≡ seat.known.number
  pub in_range : id < records

-- the call that a post is queueing, not counted yet
abbrev pub uncounted : Posting → Posting
uncounted p = posting_of p.id p.class p.func p.info 0

-- the same, once it is counted
abbrev pub counted : Posting → Posting
counted p = posting_of p.id p.class p.func p.info p.to

-- the record of a call is its CPU's own, and its numbers fit
pub record IsMine (table : TableId) (seat : SeatValue) (p : Posting) : Type 0 where
  pub at : OwnsRecord table seat p.id
  pub is_call : IsCall (posted p)
  pub to_in_range : p.to < cpus

-- a CPU that is about to count a call, and how many it has queued for the same CPU
pub record IsCounting (v : KnownCalls) (p : Posting) (number count : ℕ) : Type 0 where
  pub stage : v.stage ≡ Some (Post (uncounted p) post.Count)
  pub number_is : v.number ≡ number
  pub count_is : count ≡ length (sent_to p.to v.part.sent) % 2 ^ 64

-- how many calls a CPU has queued for a call's destination
pub record IsTallied (v : KnownCalls) (p : Posting) (number count : ℕ) : Type 0 where
  pub number_is : v.number ≡ number
  pub count_is : count ≡ length (sent_to p.to v.part.sent) % 2 ^ 64
