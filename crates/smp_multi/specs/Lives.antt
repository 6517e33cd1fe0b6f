-- The stops that the words of a table show, of which a CPU knows its part.
use Rattle.std.specs.Prelude.{◌≡◌, ℕ, ◌<◌, ◌≤◌, true, false}
use Rattle.smp_mask.specs.Mask.{has}
use Rattle.smp_words.specs.Size.{cpus}
use Rattle.smp_stop_steps.specs.AnswerWords.{AreI32Words}
use Rattle.smp_stop_steps.specs.Threads.Known.{Sees, fresh, setup_in}
use Rattle.smp_stop_steps.specs.Reached.{IsReached}
use Rattle.smp_stop_steps.specs.Shows.{StopShows}
use Rattle.smp_stop_steps.specs.State.{StopState}
use Rattle.smp_multi.specs.Names.{KnownStops, StopRole, Free, StopSetting, Source, Shut, Word}

-- each result word has the bits of an i32; a CPU that is not online has done nothing, and its slot is shut; and there is no CPU
-- past the last one
pub record StaysWithin (k : StopSetting) (p : StopState) (at : Word → ℕ) (seat : ℕ → StopRole) (source : ℕ → Source) : Type 0 where
  pub results : AreI32Words at
  pub offline : (cpu : ℕ) → cpu < cpus → has k.online cpu ≡ false → Sees p seat source (fresh k cpu)
  pub beyond : (c : ℕ) → cpus ≤ c → (seat c ≡ Free) × (source c ≡ Shut)

-- some words show some stops that are reached, of which an online CPU that knows v knows its part
pub record Lives (v : KnownStops) : Type 0 where
  pub stops : StopState
  pub at : Word → ℕ
  pub reached : IsReached (setup_in v.setting) stops at
  pub seat : ℕ → StopRole
  pub source : ℕ → Source
  pub shown : StopShows (setup_in v.setting) stops at seat source
  pub sees : Sees stops seat source v
  pub within : StaysWithin v.setting stops at seat source
  pub online : has v.setting.online v.number ≡ true

-- the same, where this number is in the word
pub record StopMoment (v : KnownStops) (word : Word) (number : ℕ) : Type 0 where
  pub stops : StopState
  pub at : Word → ℕ
  pub reached : IsReached (setup_in v.setting) stops at
  pub seat : ℕ → StopRole
  pub source : ℕ → Source
  pub shown : StopShows (setup_in v.setting) stops at seat source
  pub sees : Sees stops seat source v
  pub within : StaysWithin v.setting stops at seat source
  pub online : has v.setting.online v.number ≡ true
  pub number_is : number ≡ at word
