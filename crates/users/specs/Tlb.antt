-- What a TLB holds, and what a call takes out of it.
use Rattle.std.specs.Prelude.{◌≡◌, ◌≢◌, ℕ, ◌==◌, not, if◌then◌else◌, List, [], ◌∷◌, ◌++◌, filter, All}
use Rattle.std.specs.List.{AllByRecursion}
use Rattle.smp_words.specs.declared.call.Call.{Call}
use Rattle.smp_queue.specs.Cpu.{CpuValue}
use Rattle.smp_queue.specs.Handling.{heard_of}
use Rattle.smp_queue.specs.declared.handler.Heard.{Heard}
use Rattle.smp_machine.specs.declared.crew.Played.{Played}
use Rattle.smp_machine.specs.declared.idle.NoStop.{NoStop}
use Rattle.users.specs.declared.shootdown.tlb.Entry.{Entry}
use Rattle.users.specs.declared.shootdown.tlb.Tlb.{Tlb}

-- the entries that are not of this address space
abbrev pub without : ℕ → List Entry → List Entry
without space entries = filter (λ e. not (e.space == space)) entries

-- no entry is of this address space
abbrev pub IsGone : ℕ → List Entry → Type 0
IsGone space entries = All (λ e. e.space ≢ space) entries

-- what a call leaves: function 1 drops the address space that its info names, any other nothing
abbrev pub left_by : Heard → List Entry → List Entry
left_by call entries = if call.func == 1 then without call.info entries else entries

-- what these calls leave, one after the other
unfoldable pub left_by_all : List Call → List Entry → List Entry
left_by_all [] entries = entries
left_by_all (call ∷ calls) entries = left_by_all calls (left_by (heard_of call) entries)

-- a TLB has lost what the calls flush that its CPU has run meanwhile, then what is of this address space, and nothing else
pub record Loses (space : ℕ) (old new : CpuValue) (before after : List Entry) : Type 0 where
  pub heard : List Call
  pub ran_is : new.part.ran ≡ old.part.ran ++ heard
  pub left : after ≡ without space (left_by_all heard before)

-- no entry is of an address space that one of these calls flushes
abbrev pub AreFlushed : List Call → List Entry → Type 0
AreFlushed calls entries = All (λ call. call.func ≡ 1 → IsGone call.info entries) calls

-- a TLB with these entries has none of an address space of which its CPU has run a flush
abbrev pub IsFlushed : CpuValue → List Entry → Type 0
IsFlushed c entries = AreFlushed c.part.ran entries

-- of these CPUs, each TLB is such a one
abbrev pub TlbsAreFlushed : {A : Type 0} → List (Played Tlb NoStop A) → Type 0
TlbsAreFlushed {A = A} back = AllByRecursion (λ (p : Played Tlb NoStop A). IsFlushed p.cpu.calls p.handler.entries.items) back
