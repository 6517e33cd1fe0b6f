-- What a CPU does with what it finds in a head, until its call is queued.
use Rattle.std.specs.Prelude.{◌≡◌, ◌⊎◌, ℕ, ◌+◌, Option, Some, None}
use Rattle.smp_words.specs.Access.{word_of}
use Rattle.smp_call_steps.specs.Calls.{CallState, Holding}
use Rattle.smp_call_steps.specs.Names.{Word, Head, Queued, Next, Access, Store, Exchange, Act}
use Rattle.smp_call_steps.specs.Names.act

-- it links its record to this number
abbrev pub LinksTo : Option Holding → ℕ → Access → Type 0
LinksTo None found next = Unit {0}
LinksTo (Some h) found next = next ≡ Store (Next h.call.id) found

-- it exchanges the head where that is this number still, for its record's link
abbrev pub Exchanges : Option Holding → ℕ → Access → Type 0
Exchanges None link next = Unit {0}
Exchanges (Some h) link next = next ≡ Exchange (Head h.to) link (h.call.id + 1)

-- After this step the CPU's next access is: the link of its record to what it has found in the head, by a load or by an
-- exchange that it has lost, where it may also give up and count its call back; and then the exchange of just that number.
abbrev pub GoesOnWith : CallState → ℕ → Act → Word → Option ℕ → Option ℕ → Access → Type 0
GoesOnWith a me act.Load (Head to) (Some found) put next = LinksTo (a.held me) found next
GoesOnWith a me act.Cas (Head to) (Some found) None next = LinksTo (a.held me) found next ⊎ (word_of next ≡ Queued me to)
GoesOnWith a me act.Store (Next id) found (Some link) next = Exchanges (a.held me) link next
GoesOnWith a me _ _ found put next = Unit {0}
