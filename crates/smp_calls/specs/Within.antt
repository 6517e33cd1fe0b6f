-- What a call leaves that waits no longer than some polls.
use Rattle.std.specs.Prelude.{◌≡◌, ◌≢◌, ℕ, ◌+◌, ◌<◌, ◌≤◌, Bool, true, false, not, ◌&&◌, List, [], ◌∷◌, length}
use Rattle.smp_mask.specs.Mask.{has, members}
use Rattle.smp_words.specs.Size.{records_of_one}
use Rattle.smp_words.specs.declared.call.Class.TheVariants.{Sync}
use Rattle.smp_queue.specs.Cpu.{CpuValue, confirmed_at}
use Rattle.smp_queue.specs.declared.handler.Heard.{Heard}
use Rattle.smp_calls.specs.Ended.{HaveEnded}
use Rattle.smp_calls.specs.Families.{Leaves, AreConfirmed, owes_at}
use Rattle.smp_calls.specs.Queued.{Queued, destinations, sendings, calls_and_interrupts, is_first_to}
use Rattle.smp_calls.specs.Records.{many_call, many_record}
use Rattle.smp_calls.specs.Turns.{TakesApart}

-- this record is for calls to many, to none of these CPUs
abbrev pub IsNoneOf : ℕ → (ℕ → Bool) → Type 0
IsNoneOf k called = (c : ℕ) → called c ≡ true → k ≢ many_record c

-- a CPU has waited for the records for calls to these CPUs: those of `answered` were found unlocked, and the last look at one of
-- `silent` has found it locked. It has looked once more for each CPU than it has polled, and for one that is silent it has made
-- all its polls. Where all these records were seen confirmed before, it has made none. Between two polls it has made a look
pub record WaitsWithin {H : Type 0} (leads : H → Heard → H → Type 0) (old : CpuValue) (before : H) (new : CpuValue) (after : H)
    (called answered silent polls : ℕ) : Type 0 where
  pub leaves : Leaves leads old before new after [] [] (owes_at old) (confirmed_at new)
  pub parted : (c : ℕ) → has answered c ≡ (has called c && not (has silent c))
  pub among : (c : ℕ) → has silent c ≡ true → has called c ≡ true
  pub confirmed_are : (c : ℕ) → has called c ≡ true → confirmed_at new (many_record c) ≡ not (has silent c)
  pub others : (k : ℕ) → k < records_of_one → IsNoneOf k (has called) → confirmed_at new k ≡ confirmed_at old k
  pub turns : new.steps + length old.part.asked ≡ old.steps + (length (members called) + length new.part.asked)
  pub apart : TakesApart old new
  pub polled : (c : ℕ) → has silent c ≡ true → length new.part.asked ≡ length old.part.asked + polls
  pub most : length new.part.asked ≤ length old.part.asked + polls
  pub at_once : AreConfirmed old (has called) → length new.part.asked ≡ length old.part.asked

-- since it last sent something, a CPU has polled no more than this, and has looked once for each poll and once for each call
pub record LooksWithin (new : CpuValue) (calls polls : ℕ) : Type 0 where
  pub turns : new.steps + new.asked_at ≡ new.sent_at + (calls + length new.part.asked)
  pub most : length new.part.asked ≤ new.asked_at + polls

-- of these targets a call was queued for those in `called`, as a call to many with wait queues it. Those in `silent` have not
-- answered: the record for calls to such a CPU is not seen confirmed, and all polls were made for it. The other records are as
-- they were, and each other CPU has run the function. Until it last sent something it has made at most this number of polls, and
-- none where the records of all targets were seen confirmed. In all it has made at most twice this number, where no call was
-- queued at most this number, and where there is no target none. Between two polls it has made a step
pub record CallsWithin {H : Type 0} (leads : H → Heard → H → Type 0) (old : CpuValue) (before : H) (new : CpuValue) (after : H) (func info : ℕ)
    (targets : ℕ → Bool) (called silent polls : ℕ) : Type 0 where
  pub queued : List Queued
  pub to : destinations queued ≡ members called
  pub leaves : Leaves leads old before new after (sendings (many_call old.number Sync func info) queued) (calls_and_interrupts queued)
      (λ c. owes_at old c && not (is_first_to c queued)) (confirmed_at new)
  pub among : (c : ℕ) → has called c ≡ true → targets c ≡ true
  pub silent_among : (c : ℕ) → has silent c ≡ true → targets c ≡ true
  pub not_called : (c : ℕ) → targets c ≡ true → has called c ≡ false → has silent c ≡ true
  pub confirmed_are : (c : ℕ) → targets c ≡ true → confirmed_at new (many_record c) ≡ not (has silent c)
  pub others : (k : ℕ) → k < records_of_one → IsNoneOf k targets → confirmed_at new k ≡ confirmed_at old k
  pub apart : TakesApart old new
  pub looked : (c : ℕ) → has called c ≡ true → LooksWithin new (length (members called)) polls
  pub polled : (c : ℕ) → has called c ≡ true → has silent c ≡ true → length new.part.asked ≡ new.asked_at + polls
  pub most : length new.part.asked ≤ length old.part.asked + (polls + polls)
  pub sent_within : (c : ℕ) → has called c ≡ true → new.asked_at ≤ length old.part.asked + polls
  pub sent_at_once : (c : ℕ) → has called c ≡ true → AreConfirmed old targets → new.asked_at ≡ length old.part.asked
  pub none_called : ((c : ℕ) → has called c ≡ false) → length new.part.asked ≤ length old.part.asked + polls
  pub no_target : ((c : ℕ) → targets c ≡ false) → length new.part.asked ≡ length old.part.asked
  pub waited : (c : ℕ) → has called c ≡ false → has silent c ≡ true → length old.part.asked + polls ≤ length new.part.asked
  pub ended : (c : ℕ) → has called c ≡ true → has silent c ≡ false → HaveEnded new (many_call old.number Sync func info) (c ∷ [])
