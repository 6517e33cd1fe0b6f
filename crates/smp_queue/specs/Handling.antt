-- What handling makes of a CPU and of its handler.
use Rattle.std.specs.Prelude.{◌≡◌, ℕ, ◌%◌, ◌^◌, ◌<◌, Bool, List, [], ◌∷◌, ◌++◌, length, slice_index_or}
use Rattle.std.specs.List.{FoldsTo}
use Rattle.smp_words.specs.Size.{cpus, owner}
use Rattle.smp_call_steps.specs.Order.{order}
use Rattle.smp_queue.specs.Names.{Call, KnownCalls, Nothing, Heard}
use Rattle.smp_call_steps.specs.Histories.{calls_from}
use Rattle.smp_call_steps.specs.Threads.Parts.{part_accepted, part_taken}
use Rattle.smp_queue.specs.Cpu.{CpuValue}

abbrev pub heard : ℕ → ℕ → ℕ → Heard
heard src func info = record { src = src; func = func; info = info }

-- the call as its function hears it
abbrev pub heard_of : Call → Heard
heard_of call = heard (owner call.id) call.func call.info

-- these calls, in order and no others, lead a handler from one value to the other
abbrev pub Grows : {H : Type 0} → (H → Heard → H → Type 0) → H → List Call → H → Type 0
Grows leads before calls after = FoldsTo (λ p call q. leads p (heard_of call) q) before calls after

-- a CPU that has taken its interrupt word, where an interrupt was pending or not
abbrev pub asks : Bool → CpuValue → CpuValue
asks pending c = record c { part = part_accepted pending c.part; asked_after = c.asked_after ++ c.steps ∷ [] }

-- a CPU that has taken this batch and run it in drain order
abbrev pub drains : List Call → CpuValue → CpuValue
drains batch c = record c { part = record (part_taken batch c.part) { batch = []; running = Nothing; ran = c.part.ran ++ order batch } }

-- these are the numbers of the calls that a CPU has run, by their source
pub record AreRan (counts : List ℕ) (v : KnownCalls) : Type 0 where
  pub sized : length counts ≡ cpus
  pub are : (source : ℕ) → source < cpus → slice_index_or counts source 0 ≡ length (calls_from source v.part.ran) % 2 ^ 64
