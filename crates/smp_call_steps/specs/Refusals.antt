-- What a command of the call half is refused for, by its numbers.
use Rattle.std.specs.Prelude.{◌≡◌, ◌≢◌, ◌⊎◌, ℕ, ◌<◌, ◌≤◌, ◌+◌, true, Option, None}
use Rattle.smp_mask.specs.Mask.{has}
use Rattle.smp_mask.specs.declared.error.SmpError.{SmpError}
use Rattle.smp_mask.specs.declared.error.SmpError.TheVariants as error
use Rattle.smp_words.specs.Commands.{Refuses}
use Rattle.smp_words.specs.declared.command.Command.{Command}
use Rattle.smp_words.specs.declared.command.Command.TheVariants as command
use Rattle.smp_call_steps.specs.Names.{Class, Sync, Async}
use Rattle.smp_call_steps.specs.Start.{command_refusal}

-- record 0 carries SYNC calls, and 1, 10 and 11 ASYNC calls
abbrev pub CarriesClass : ℕ → Class → Type 0
CarriesClass k class = ((k ≡ 0) × (class ≡ Sync)) ⊎ (((k ≡ 1) ⊎ ((k ≡ 10) ⊎ (k ≡ 11))) × (class ≡ Async))

-- 2 to 9 carry calls to one of the first eight CPUs each, 12 to 35 to one further CPU each that there is
abbrev pub CarriesTo : ℕ → ℕ → ℕ → Type 0
CarriesTo nr k to = ((k ≡ to + 2) × (k < 10)) ⊎ ((k ≡ to + 4) × ((12 ≤ k) × ((k < 36) × (to < nr))))

-- the refusal of a command of the call half; none of one of the stop half
abbrev pub IsCallRefusal : ℕ → ℕ → ℕ → Command → Option SmpError → Type 0
IsCallRefusal nr online cpu (command.Post k to class func info tries) r =
    Refuses ((CarriesClass k class ⊎ CarriesTo nr k to) × ((tries ≢ 0) × (to ≢ cpu))) error.BadArgument r
IsCallRefusal nr online cpu (command.Send to) r = Refuses (has online to ≡ true) error.NoCpu r
IsCallRefusal nr online cpu (command.Done k) r = Refuses ((k < 12) ⊎ ((k < 36) × (k < nr + 4))) error.BadArgument r
IsCallRefusal nr online cpu _ r = r ≡ None

-- each command is refused so
abbrev pub RefusalsAreOfTheNumbers : Type 0
RefusalsAreOfTheNumbers = (nr online cpu : ℕ) (command : Command) → IsCallRefusal nr online cpu command (command_refusal nr online cpu command)
