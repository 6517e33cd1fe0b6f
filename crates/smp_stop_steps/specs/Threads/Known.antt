-- What a CPU knows of the stops: where it is with them, as far as its steps have told, and its own part of their state.
use Rattle.std.specs.Prelude.{◌≡◌, ◌≢◌, ◌⊎◌, ℕ, ◌+◌, ◌<◌, nat_lt, Bool, false, ◌==◌, cond, Option, Some, None, List, [], ◌∷◌, ◌++◌, length, replicate}
use Rattle.std.specs.Prelude.{slice_index_or}
use Rattle.smp_stop_steps.specs.Names.{MOST_KEYS, cpus, put, One, Seen, Work, Word, Slot, Field}
use Rattle.smp_stop_steps.specs.Sources.{Source, Shut, Drafts, Owns, Collects}
use Rattle.smp_stop_steps.specs.State.{Calling, Idle, Calls, Carries, Setup, StopState, Moved, unmoved}
use Rattle.smp_stop_steps.specs.{Callings.with_answer, Seats.StopRole, Seats.Free, Shows.StopShows, Labels.Reading, Tells.tells, Value.setup_of}
pub use Rattle.smp_stop_steps.specs.declared.known.Attempt.{Attempt}
pub use Rattle.smp_stop_steps.specs.declared.known.KnownStops.{KnownStops}
pub use Rattle.smp_stop_steps.specs.declared.known.OwnMove.{OwnMove}
pub use Rattle.smp_stop_steps.specs.declared.known.StopPart.{StopPart}
pub use Rattle.smp_stop_steps.specs.declared.known.StopSetting.{StopSetting}

abbrev pub setup_in : StopSetting → Setup
setup_in k = setup_of k.online k.labels

-- a work whose first k fields are told: the others are put as zero
abbrev pub told_work : ℕ → Work → Work
told_work k w = record {
  kind = cond (nat_lt 0 k) w.kind One;
  mask = cond (nat_lt 1 k) w.mask 0;
  active = cond (nat_lt 2 k) w.active 0;
  func = cond (nat_lt 3 k) w.func 0;
  arg = cond (nat_lt 4 k) w.arg 0;
}

-- a source as far as its steps have told
abbrev pub told_source : Source → Source
told_source Shut = Shut
told_source (Drafts w k) = Drafts (told_work k w) k
told_source (Owns w) = Owns w
told_source (Collects w) = Collects w

-- a source that drafts has stored a field
abbrev pub IsBegun : Source → Type 0
IsBegun (Drafts w k) = k ≢ 0
IsBegun _ = Unit {0}

abbrev pub holds_it : Option ℕ → ℕ → Bool
holds_it None me = false
holds_it (Some c) me = c == me

-- how far a CPU is with its function, as its steps tell it: no step before its completion tells the answer
abbrev pub told_calling : Calling → Calling
told_calling Idle = Idle
told_calling (Calls call) = Calls (record call { answer = 0 })
told_calling (Carries answer) = Carries 0

-- what the state of all stops has of one CPU, as far as it is told
pub record Columns : Type 0 where
  pub holds : Bool
  pub begun : List Work
  pub collected : List ℕ
  pub answers : ℕ → List ℕ
  pub looks : List ℕ
  pub calling : Calling
  pub readings : List Reading
  pub nudged : ℕ → Moved
  pub patched : ℕ → Moved

abbrev pub columns_of : StopState → ℕ → Columns
columns_of p c = record {
  holds = holds_it p.gate c;
  begun = p.begun c;
  collected = p.collected c;
  answers = p.answers c;
  looks = p.looks c;
  calling = told_calling (p.calling c);
  readings = p.now.readings c;
  nudged = p.nudged c;
  patched = p.patched c;
}

-- the list has the first n values of f, and d is what is past its end
pub record AreFirst {A : Type 0} (n : ℕ) (f : ℕ → A) (d : A) (list : List A) : Type 0 where
  pub sized : length list ≡ n
  pub each : (i : ℕ) → i < n → f i ≡ slice_index_or list i d

-- a CPU's part is these columns; the calls of stop functions are told at no step, and are apart
pub record IsPart (c : Columns) (part : StopPart) : Type 0 where
  pub holds : c.holds ≡ part.holds
  pub begun : c.begun ≡ part.begun
  pub collected : c.collected ≡ part.collected
  pub answers : AreFirst cpus c.answers [] part.answers
  pub looks : c.looks ≡ part.looks
  pub calling : c.calling ≡ part.calling
  pub readings : c.readings ≡ part.readings
  pub nudged : AreFirst MOST_KEYS c.nudged unmoved part.nudged
  pub patched : AreFirst MOST_KEYS c.patched unmoved part.patched

-- what a CPU knows is its own part of these stops
pub record Sees (p : StopState) (seat : ℕ → StopRole) (source : ℕ → Source) (v : KnownStops) : Type 0 where
  pub below : v.number < cpus
  pub seat_is : seat v.number ≡ v.seat
  pub source_is : told_source (source v.number) ≡ v.source
  pub is_begun : IsBegun (source v.number)
  pub part_is : IsPart (columns_of p v.number) v.part

-- a CPU that has done nothing
abbrev pub no_part : StopPart
no_part = record {
  holds = false;
  begun = [];
  collected = [];
  answers = replicate cpus [];
  looks = [];
  calls = [];
  calling = Idle;
  readings = [];
  nudged = replicate MOST_KEYS unmoved;
  patched = replicate MOST_KEYS unmoved;
}

abbrev pub fresh : StopSetting → ℕ → KnownStops
fresh k me = record { setting = k; number = me; seat = Free; source = Shut; part = no_part; carried = 0; moves = []; attempts = []; steps = 0 }

-- with this answer, which it carries from now on
abbrev pub carrying : ℕ → KnownStops → KnownStops
carrying x v = record v { carried = x }

-- with one more step of its own
abbrev pub noting : OwnMove → KnownStops → KnownStops
noting m v = record v { moves = v.moves ++ m ∷ [] }

-- with one more attempt to enter the stop of this slot
abbrev pub attempting : ℕ → Bool → KnownStops → KnownStops
attempting slot entered v = record v { attempts = v.attempts ++ record { slot = slot; entered = entered } ∷ [] }

-- with this number of steps more
abbrev pub stepped : ℕ → KnownStops → KnownStops
stepped n v = record v { steps = v.steps + n }

-- the same stops; where the step stores an answer, with that answer of this CPU's function, which no step tells before
abbrev pub AreAlike : ℕ → Seen → StopState → StopState → Type 0
AreAlike me seen p q = (q ≡ p) ⊎ ((s x : ℕ) × (seen.word ≡ Slot s Field.Result) × (seen.put ≡ Some x)
    × (q ≡ record p { calling = put p.calling me (with_answer x (p.calling me)) }))

-- these stops are those that the step tells, of the stops before it
pub record AreTold (u : Setup) (me : ℕ) (p p' : StopState) (seen : Seen) : Type 0 where
  pub before : StopState
  pub alike : AreAlike me seen p before
  pub told : p' ≡ tells u before seen 0

-- the stops go on by a step of this CPU, after which it knows w: each other CPU stays where it was, and what it knows of them
-- stays true
pub record GoesOn (k : StopSetting) (p : StopState) (seat : ℕ → StopRole) (source : ℕ → Source) (me : ℕ) (at : Word → ℕ) (w : KnownStops) : Type 0 where
  pub stops : StopState
  pub seats : ℕ → StopRole
  pub sources : ℕ → Source
  pub shown : StopShows (setup_in k) stops at seats sources
  pub mine : Sees stops seats sources w
  pub number_is : w.number ≡ me
  pub setting_is : w.setting ≡ k
  pub others : (o : KnownStops) → o.number ≢ me → Sees p seat source o → Sees stops seats sources o
  pub still : (c : ℕ) → c ≢ me → (seats c ≡ seat c) × (sources c ≡ source c)

-- the same by this step, which tells just the stops that it goes on to
pub record GoesOnBy (k : StopSetting) (p : StopState) (seat : ℕ → StopRole) (source : ℕ → Source) (me : ℕ) (at : Word → ℕ) (w : KnownStops)
    (seen : Seen) : Type 0 where
  pub goes : GoesOn k p seat source me at w
  pub told : AreTold (setup_in k) me p goes.stops seen
