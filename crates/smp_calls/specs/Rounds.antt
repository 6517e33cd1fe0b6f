-- The parts of a call to many: queue each call, send each interrupt, wait for each record.
use Rattle.std.specs.Prelude.{◌≡◌, length, ℕ, ◌+◌, ◌<◌, Bool, true, false, not, ◌&&◌, ◌||◌, if◌then◌else◌, Option, Some, None, List, [], ◌∷◌, ◌++◌}
use Rattle.smp_mask.specs.Mask.{has, members}
use Rattle.smp_words.specs.Size.{cpus, record_of}
use Rattle.smp_words.specs.declared.call.Call.{Call}
use Rattle.smp_queue.specs.Cpu.{CpuValue, confirmed_at, notes_call}
use Rattle.smp_queue.specs.declared.handler.Heard.{Heard}
use Rattle.smp_calls.specs.Families.{Leaves, IsLast, owes_at}
use Rattle.smp_calls.specs.Records.{many_record}
use Rattle.smp_calls.specs.Queued.{Queued, destinations, firsts, sendings, calls_to, interrupts_to, is_first_to, is_used, is_by, is_in}

-- this CPU, where it counts
abbrev pub only_if : Bool → ℕ → List ℕ
only_if counts cpu = if counts then cpu ∷ [] else []

-- calls were queued; where a call was the first in its queue, its CPU is owed an interrupt, and none is sent yet
pub record Queues {H : Type 0} (leads : H → Heard → H → Type 0) (old : CpuValue) (before : H) (new : CpuValue) (after : H) (call : ℕ → Call)
    (queued : List Queued) : Type 0 where
  pub leaves : Leaves leads old before new after (sendings call queued) (calls_to (destinations queued)) (owes_at new)
      (λ k. if is_used call (record_of old.number k) queued then false else confirmed_at old k)
  pub kept : (c : ℕ) → is_first_to c queued ≡ false → owes_at new c ≡ owes_at old c
  pub due : (c : ℕ) → is_first_to c queued ≡ true → c < length old.part.owes → owes_at new c ≡ true
  pub last : IsLast old new (destinations queued)

-- what a CPU counts when it has last sent something, once it has sent these
abbrev pub last_of : List ℕ → ℕ → ℕ → ℕ
last_of [] now before = before
last_of (x ∷ xs) now before = now

-- one interrupt was sent to each of these CPUs, in order, each by one step, and nothing else was done
pub record Sends (old new : CpuValue) (sent : List ℕ) : Type 0 where
  pub others_are : new ≡ record old {
    part = record (old.part) { owes = new.part.owes };
    log = old.log ++ interrupts_to sent;
    steps = old.steps + length sent;
    sent_at = last_of sent (old.steps + length sent) old.sent_at;
    asked_at = last_of sent (length old.part.asked) old.asked_at;
  }
  pub owes_sized : length new.part.owes ≡ length old.part.owes
  pub owes_are : (c : ℕ) → owes_at new c ≡ (owes_at old c && not (is_in c sent))

-- whether this record of a CPU is the one for calls to many with one of these destinations
abbrev pub is_many : ℕ → ℕ → List ℕ → Bool
is_many number k to = is_by (λ x. record_of number (many_record x)) (record_of number k) to

-- the records for calls to these CPUs are confirmed, where they are waited for
abbrev pub WaitsFor : {H : Type 0} → (H → Heard → H → Type 0) → CpuValue → H → CpuValue → H → List ℕ → Bool → Type 0
WaitsFor leads old before new after to wait =
    Leaves leads old before new after [] [] (owes_at old) (λ k. (wait && is_many old.number k to) || confirmed_at old k)

-- of these CPUs the ones in `called` have said yes and the others no
pub record Picks (says : ℕ → Bool → Type 0) (asked : ℕ → Bool) (called : ℕ) : Type 0 where
  pub among : (c : ℕ) → has called c ≡ true → asked c ≡ true
  pub answered : (c : ℕ) → c < cpus → asked c ≡ true → says c (has called c)

-- a call is queued for each of these CPUs that has said yes, the ones in `called`, and an interrupt is to come for the ones in `owed`
pub record QueuesEach {H : Type 0} (leads : H → Heard → H → Type 0) (old : CpuValue) (before : H) (new : CpuValue) (after : H) (says : ℕ → Bool → Type 0)
    (call : ℕ → Call) (others called owed : ℕ) : Type 0 where
  pub queued : List Queued
  pub called_are : destinations queued ≡ members called
  pub owed_are : firsts queued ≡ members owed
  pub queues : Queues leads old before new after call queued
  pub picks : Picks says (has others) called
  pub owed_among : (c : ℕ) → has owed c ≡ true → has others c ≡ true

-- a handler has run this call directly, if any
abbrev pub HearsIf : {H : Type 0} → (H → Heard → H → Type 0) → H → Option Heard → H → Type 0
HearsIf leads before None after = after ≡ before
HearsIf leads before (Some heard) after = leads before heard after

-- a CPU that has noted this direct call, if any
abbrev pub noted_if : Option Heard → CpuValue → CpuValue
noted_if None c = c
noted_if (Some heard) c = notes_call c
