-- How many steps a family makes, and how often it handles meanwhile.
use Rattle.std.specs.Prelude.{◌≡◌, ◌≢◌, ℕ, zero, suc, ◌+◌, ◌*◌, ◌<◌, ◌≤◌, Bool, if◌then◌else◌, List, [], ◌∷◌, ◌++◌, length}
use Rattle.smp_queue.specs.Cpu.{CpuValue}

-- numbers of steps at which a CPU took its interrupt word, from one number of steps to another: each is more than the one before
abbrev pub AreSpaced : ℕ → ℕ → List ℕ → Type 0
AreSpaced low high [] = low ≤ high
AreSpaced low high (take ∷ takes) = (low < take) × AreSpaced take high takes

-- a CPU has taken its interrupt word, each time after a step that it had made since the time before, and at first after a step
pub record TakesApart (old new : CpuValue) : Type 0 where
  pub takes : List ℕ
  pub takes_are : new.asked_after ≡ old.asked_after ++ takes
  pub apart : AreSpaced old.steps new.steps takes

-- one take after each of this many steps, which are the next after this number of them
abbrev pub after_each : ℕ → ℕ → List ℕ
after_each steps zero = []
after_each steps (suc n) = after_each steps n ++ (steps + suc n) ∷ []

-- this many waits of a CPU have ended: it has looked at a record once for each, and once more for each take of its interrupt word
pub record LooksFor (old new : CpuValue) (waits : ℕ) : Type 0 where
  pub turns : new.steps + length old.part.asked ≡ old.steps + (waits + length new.part.asked)
  pub tried_is : new.tried ≡ old.tried
  pub apart : TakesApart old new

-- steps that a CPU's value counts: a look for each take of its interrupt word, two steps for each compare-exchange of a head, and
-- one for each call and interrupt of its log
abbrev pub counted : CpuValue → ℕ
counted c = length c.part.asked + (2 * c.tried + length c.log)

-- a CPU has made the steps that its value counts, and this many more, and has handled at most once between two of them
pub record MakesMore (old new : CpuValue) (more : ℕ) : Type 0 where
  pub steps_are : new.steps + counted old ≡ (old.steps + counted new) + more
  pub apart : TakesApart old new

-- a family has called this many CPUs through their queues. For each it has made six steps that its value does not count: the look
-- that ended the wait for the record, and five of the post. With wait it has made one more for each, the look that ended the wait
-- for the call. Since its last call or interrupt it has looked once for each take of its interrupt word, and once for each call
-- that it waited for. A direct call makes no step
pub record HasTurns (old new : CpuValue) (calls : ℕ) (wait : Bool) : Type 0 where
  pub all : MakesMore old new (6 * calls + (if wait then calls else 0))
  pub since : calls ≢ 0 → new.steps + new.asked_at ≡ new.sent_at + (length new.part.asked + (if wait then calls else 0))
