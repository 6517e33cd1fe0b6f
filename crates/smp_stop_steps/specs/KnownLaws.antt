-- What each step that a CPU may make by what it knows keeps, beside the stops that it tells.
use Rattle.std.specs.Prelude.{◌≡◌, ℕ, ◌+◌, Some, None}
use Rattle.smp_stop_steps.specs.Names.{word_of, at_after, seen_of, Word, Work}
use Rattle.smp_stop_steps.specs.Threads.Moves.{Move, Refill, Raise, Close, MayStep, known_access}
use Rattle.smp_stop_steps.specs.{Threads.Known.KnownStops, Threads.Known.Sees, Threads.Known.setup_in, Threads.KnownAfter.known_entering, Labels.Change}
use Rattle.smp_stop_steps.specs.{Labels.Whole, Patchers.IsNextOfPatch}
use Rattle.smp_stop_steps.specs.{Patchers.label_stored, Premises.MaySee, Promises.KeysStand, Seats.StopRole, Shows.StopShows, Sources.Source, State.StopState}

-- who may make it, that a store to a label is the next of the CPU's patch, and that outside a patch no key is turned
pub record KeepsMoveLaws (p : StopState) (at : Word → ℕ) (v : KnownStops) (m : Move) : Type 0 where
  pub premise :
      let access = known_access v m in
      let seen = seen_of v.number access (at (word_of access)) None in
      MaySee p v.number seen.act seen.word seen.found seen.put
  pub labels : (change : Change) → label_stored (known_access v m) ≡ Some change → IsNextOfPatch p v.number change
  pub stands : p.now.patching ≡ Whole → KeysStand at (at_after at (known_access v m))

abbrev pub KnownMovesKeepLaws : Type 0
KnownMovesKeepLaws = (p : StopState) (at : Word → ℕ) (seat : ℕ → StopRole) (source : ℕ → Source) (v : KnownStops)
    → StopShows (setup_in v.setting) p at seat source →
    Sees p seat source v → (m : Move) → MayStep v m → KeepsMoveLaws p at v m

-- how much a step counts: the three stores that only the last CPU of a stop makes are not counted, since their seats alone say
-- whether they were made; all others count one
abbrev pub weight_of : Move → ℕ
weight_of (Refill s w a l) = 0
weight_of (Raise s w a l) = 0
weight_of (Close s) = 0
weight_of _ = 1

-- each step that a CPU may make is counted once, whatever it finds and whichever work it learns, but for those that are due
abbrev pub KnownStepsCount : Type 0
KnownStepsCount = (v : KnownStops) (m : Move) → MayStep v m → (found : ℕ) (w : Work) →
    let seen = seen_of v.number (known_access v m) found None in
    (known_entering w v seen.act seen.word seen.found seen.put).steps ≡ v.steps + weight_of m
