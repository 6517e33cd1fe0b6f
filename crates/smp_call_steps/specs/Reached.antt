-- The states of the calls, and the words, to which steps lead that CPUs may make, where at first nothing was called.
use Rattle.std.specs.Prelude.{◌≡◌, ◌<◌, ◌⊎◌, ℕ, List, [], ◌∷◌}
use Rattle.smp_words.specs.Access.{put_if}
use Rattle.smp_words.specs.Put.{put_word}
use Rattle.smp_words.specs.Size.{cpus, owner}
use Rattle.smp_call_steps.specs.Calls.{CallState, no_calls, tells}
use Rattle.smp_call_steps.specs.ByKind.{queued_in, ran_in}
use Rattle.smp_call_steps.specs.Histories.{Tallied}
use Rattle.smp_call_steps.specs.Places.{Holds, Placed}
use Rattle.smp_call_steps.specs.Premises.{MayMake}
use Rattle.smp_call_steps.specs.Words.{IsEmpty, IsNoticed}
use Rattle.smp_call_steps.specs.Names.{Seen, Word}
use Rattle.smp_call_steps.specs.Names.place

-- all words are 0
abbrev pub no_words : Word → ℕ
no_words word = 0

-- the words after a step that was seen
abbrev pub words_told : (Word → ℕ) → Seen → Word → ℕ
words_told at seen = put_if put_word at seen.word seen.put

-- this step is made by one of the CPUs, which may make it here
abbrev pub IsAllowed : CallState → (Word → ℕ) → Seen → Type 0
IsAllowed a at seen = (seen.cpu < cpus) × MayMake a at seen

-- these steps lead from some calls and words to others, and each of them may be made where those before it lead
abbrev pub Lead : CallState → (Word → ℕ) → List Seen → CallState → (Word → ℕ) → Type 0
Lead a at [] b to = (b ≡ a) × (to ≡ at)
Lead a at (seen ∷ rest) b to = IsAllowed a at seen × Lead (tells a seen) (words_told at seen) rest b to

-- some steps that may be made, of any CPUs in any order, lead from nothing called to these calls and words
pub record IsReached (a : CallState) (at : Word → ℕ) : Type 0 where
  pub steps : List Seen
  pub lead : Lead no_calls no_words steps a at

-- of all calls and words that are reached
abbrev pub OfReached : (CallState → (Word → ℕ) → Type 0) → Type 0
OfReached P = (a : CallState) (at : Word → ℕ) → IsReached a at → P a at

-- no steps lead to these calls, whatever the words are
abbrev pub IsNever : CallState → Type 0
IsNever a = (at : Word → ℕ) → IsReached a at → ⊥

-- the place law of these calls
abbrev pub ArePlaced : CallState → Type 0
ArePlaced a = Placed a.place a.held a.queue a.batch a.running a.confirmed

-- each CPU holds only records of its own, which are at that place
abbrev pub HoldTheirOwn : CallState → Type 0
HoldTheirOwn a = (cpu id : ℕ) → Holds (a.held cpu) id → (owner id ≡ cpu) × (a.place id ≡ place.Held)

-- the tally law of these calls and words
abbrev pub AreTallied : CallState → (Word → ℕ) → Type 0
AreTallied a at = Tallied (queued_in at) (ran_in at) a.sent a.held a.ran a.running

-- the interrupt law of these calls: where a queue is not empty, its CPU is noticed
abbrev pub AreNoticed : CallState → Type 0
AreNoticed a = (cpu : ℕ) → IsEmpty (a.queue cpu) ⊎ IsNoticed a.pending a.accepted a.owes cpu
