-- What a script asks for, moment by moment.
use Rattle.std.specs.Prelude.{ℕ, ◌+◌, List, [], ◌∷◌, ◌++◌, replicate}
use Rattle.smp_words.specs.declared.command.Event.TheVariants as event
use Rattle.smp_script.specs.declared.directive.Directive.{Directive}
use Rattle.smp_script.specs.declared.directive.Directive.TheVariants as directive
use Rattle.trace_events.specs.declared.moments.Asked.TheVariants.{Turn, Show}
use Rattle.trace_events.specs.declared.moments.Moment.{Moment}

-- this number of steps of a CPU
abbrev pub steps_at : ℕ → ℕ → ℕ → List Moment
steps_at line cpu count = replicate count (record { line = line; asked = Turn (event.Step cpu) })

-- what a line asks for; a replay has no `do` line
abbrev pub moments_at : ℕ → Directive → List Moment
moments_at line (directive.Start cpu command) = record { line = line; asked = Turn (event.Start cpu command) } ∷ []
moments_at line (directive.Step cpu count) = steps_at line cpu count
moments_at line directive.Show = record { line = line; asked = Show } ∷ []
moments_at line (directive.Do cpu count request) = []

-- and these lines, of which the first has this number
abbrev pub moments_of : ℕ → List Directive → List Moment
moments_of line [] = []
moments_of line (d ∷ ds) = moments_at line d ++ moments_of (line + 1) ds
