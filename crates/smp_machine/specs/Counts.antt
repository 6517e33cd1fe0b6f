-- What a change of a key's count by one makes of its CPU.
use Rattle.std.specs.Prelude.{◌≡◌, ◌≢◌, ◌⊎◌, ℕ, ℤ, pos, ◌+◌, ◌*◌, ◌≤◌, Bool, true, false, if◌then◌else◌, Result, Ok, Err, None, List, [], ◌++◌}
use Rattle.std.specs.List.{AllByRecursion}
use Rattle.std.specs.Prelude.{length, map, slice_index_or, slice_set}
use Rattle.smp_labels.specs.Keys.{is_on}
use Rattle.smp_labels.specs.declared.keys.Change.{Change}
use Rattle.smp_labels.specs.declared.keys.Change.TheVariants.{Up, Down}
use Rattle.smp_mask.specs.declared.error.SmpError.{SmpError}
use Rattle.smp_mask.specs.declared.error.SmpError.TheVariants as error
use Rattle.smp_queue.specs.declared.handler.Heard.{Heard}
use Rattle.smp_stop_steps.specs.State.{unmoved}
use Rattle.smp_multi.specs.Names.{Work, ReadKey}
use Rattle.smp_multi.specs.Cpu.{TableValue, CpuValue}
use Rattle.smp_multi.specs.Cpu.{gives_gate}
use Rattle.smp_multi.specs.Names.{OwnMove}
use Rattle.smp_machine.specs.Moves.{patch_after, lost_tries, LooksUpTo, LooksFrom, gave_if}
use Rattle.smp_multi.specs.Nudges.{edge_at, turn_at, end_of, StaysOn, moved_more, nudged, loads_count}
use Rattle.smp_multi.specs.Laws.{FindsCount}
use Rattle.smp_multi.specs.declared.func.Called.{Called}
use Rattle.smp_machine.specs.Keys.{IsPatchOf, MayChange}
use Rattle.smp_machine.specs.Own.{Own, own_of, with_gate, with_moves}
use Rattle.smp_machine.specs.Passes.{LastIsOwn}
use Rattle.smp_machine.specs.MachineCpu.{MachineCpuValue}
use Rattle.smp_machine.specs.Stops.{HasStopped, RefusedStill}
use Rattle.smp_machine.specs.Works.{Works}

-- the change by one, up or down
abbrev pub step_of : Bool → Change
step_of up = if up then Up else Down

-- with the count of key k nudged once
abbrev pub with_nudge : Bool → ℕ → Own → Own
with_nudge up k o = record o { nudged = slice_set o.nudged k (moved_more up (slice_index_or o.nudged k unmoved)) }

-- a CPU that has tried to nudge key k, in vain, at these counts: at a load and an exchange each
abbrev pub tries_all : ℕ → List ℕ → CpuValue → CpuValue
tries_all k lost c = record c {
  part = record (c.part) { readings = c.part.readings ++ map (λ count. ReadKey k (is_on count)) lost };
  moves = c.moves ++ lost_tries k lost;
  steps = c.steps + 2 * length lost;
}

-- nudges tried as long as they were lost, each at a count at which the key stays on, and a last one, whose load has found this
-- count
pub record Loads (k : ℕ) (up : Bool) (count : ℕ) (old loaded : CpuValue) : Type 0 where
  pub lost : List ℕ
  pub stay : AllByRecursion (StaysOn up) lost
  pub finds : FindsCount (tries_all k lost old) k count
  pub is : loaded ≡ loads_count k count (tries_all k lost old)

-- a nudge: its last load has found a count at which the key stays on, and moved it; or one at which it would turn, or that
-- is the end of its range
abbrev pub Nudges : ℕ → Bool → CpuValue → CpuValue → Result Bool SmpError → Type 0
Nudges k up old new (Ok true) = (count : ℕ) × (loaded : CpuValue) × Loads k up count old loaded × StaysOn up count × FindsCount loaded k count
    × (new ≡ nudged up k loaded)
Nudges k up old new (Ok false) = Loads k up (turn_at up) old new
Nudges k up old new (Err (error.KeyRange e)) = (e ≡ end_of up) × Loads k up (edge_at up) old new
Nudges k up old new (Err _) = ⊥

-- what the moves of a change of a count are up to its last look, by the count that this has found and whether the gate was taken
abbrev pub Looking : Type 1
Looking = ℕ → Bool → List OwnMove → Type 0

-- the gate is given up, where it was taken
abbrev pub given_if : Bool → CpuValue → CpuValue
given_if true c = gives_gate c
given_if false c = c

-- it has polled, and nudged the count of a key that is on and stays on, as its last look has found it; the gate is not the CPU's
pub record HasNudged {H F : Type 0} (hears : H → Heard → H → Type 0) (runs : F → Called → F → Type 0) (looking : Looking) (k : ℕ) (up : Bool)
    (old : MachineCpuValue) (h : H) (f : F) (new : MachineCpuValue) (h' : H) (f' : F) : Type 0 where
  pub count : ℕ
  pub stays : StaysOn up count
  pub gate : Bool
  pub moves : List OwnMove
  pub looks : looking count gate moves
  pub before : CpuValue
  pub finds : FindsCount before k count
  pub is : new.stops ≡ given_if gate (nudged up k (loads_count k count before))
  pub works : Works hears runs old h f new h' f' (with_nudge up k (with_moves (moves ++ gave_if gate) (with_gate false (own_of old))))
  pub outside : new.stops.inside ≡ None

-- its last look has found the count at the end of its range, and it has done nothing but poll; the gate is not the CPU's
pub record HasFoundEdge {H F : Type 0} (hears : H → Heard → H → Type 0) (runs : F → Called → F → Type 0) (looking : Looking) (k : ℕ) (up : Bool)
    (old : MachineCpuValue) (h : H) (f : F) (new : MachineCpuValue) (h' : H) (f' : F) : Type 0 where
  pub gate : Bool
  pub moves : List OwnMove
  pub looks : looking (edge_at up) gate moves
  pub before : CpuValue
  pub finds : FindsCount before k (edge_at up)
  pub is : new.stops ≡ given_if gate (loads_count k (edge_at up) before)
  pub works : Works hears runs old h f new h' f' (with_moves (moves ++ gave_if gate) (with_gate false (own_of old)))
  pub outside : new.stops.inside ≡ None

-- after these moves it has made a patch by one, with this answer, and has taken no work after its own
pub record PatchesByOne {H F : Type 0} (hears : H → Heard → H → Type 0) (runs : F → Called → F → Type 0) (t : TableValue) (k : ℕ) (up : Bool)
    (first : List OwnMove) (old : MachineCpuValue) (h : H) (f : F) (new : MachineCpuValue) (h' : H) (f' : F) (answer : ℤ) : Type 0 where
  pub work : Work
  pub patch : IsPatchOf t k (step_of up) work
  pub stopped : HasStopped hears runs (patch_after first) work old h f new h' f' answer
  pub last : LastIsOwn old.passes new.passes

-- the same on a CPU that holds the gate, by its answer: E13 where the patch has not answered 0
abbrev pub Patches : {H F : Type 0} → (H → Heard → H → Type 0) → (F → Called → F → Type 0) → TableValue → ℕ → Bool → MachineCpuValue → H → F
    → MachineCpuValue → H → F → Result Bool SmpError → Type 0
Patches hears runs t k up old h f new h' f' (Ok true) = PatchesByOne hears runs t k up [] old h f new h' f' (pos 0)
Patches hears runs t k up old h f new h' f' (Ok false) = ⊥
Patches hears runs t k up old h f new h' f' (Err (error.KeyRange e)) = (e ≡ end_of up)
    × ((answer : ℤ) × (answer ≢ pos 0) × PatchesByOne hears runs t k up [] old h f new h' f' answer)
Patches hears runs t k up old h f new h' f' (Err _) = ⊥

-- its last look, while it held the gate, has found the key about to turn, and it has made a patch by one then
pub record HasPatched {H F : Type 0} (hears : H → Heard → H → Type 0) (runs : F → Called → F → Type 0) (looking : Looking) (t : TableValue) (k : ℕ)
    (up : Bool) (old : MachineCpuValue) (h : H) (f : F) (new : MachineCpuValue) (h' : H) (f' : F) (answer : ℤ) : Type 0 where
  pub moves : List OwnMove
  pub looks : looking (turn_at up) true moves
  pub patches : PatchesByOne hears runs t k up moves old h f new h' f' answer

-- what a change of a count by one leaves, by its answer: true where there was a patch. That of an E13 stays among the stops
-- that the CPU has made
abbrev pub CountsBy : {H F : Type 0} → (H → Heard → H → Type 0) → (F → Called → F → Type 0) → Looking → TableValue → ℕ → Bool → MachineCpuValue → H → F
    → MachineCpuValue → H → F → Result Bool SmpError → Type 0
CountsBy hears runs looking t k up old h f new h' f' (Ok false) = HasNudged hears runs looking k up old h f new h' f'
CountsBy hears runs looking t k up old h f new h' f' (Ok true) = HasPatched hears runs looking t k up old h f new h' f' (pos 0)
CountsBy hears runs looking t k up old h f new h' f' (Err (error.KeyRange e)) = (e ≡ end_of up)
    × (HasFoundEdge hears runs looking k up old h f new h' f'
    ⊎ ((answer : ℤ) × (answer ≢ pos 0) × HasPatched hears runs looking t k up old h f new h' f' answer))
CountsBy hears runs looking t k up old h f new h' f' (Err _) = ⊥

-- the same of a CPU that holds the gate, after these moves
abbrev pub CountsFrom : {H F : Type 0} → (H → Heard → H → Type 0) → (F → Called → F → Type 0) → List OwnMove → TableValue → ℕ → Bool → MachineCpuValue → H
    → F → MachineCpuValue → H → F → Result Bool SmpError → Type 0
CountsFrom hears runs first t k up old h f new h' f' r = CountsBy hears runs (LooksFrom first k up) t k up old h f new h' f' r

-- the same of a CPU that does not
abbrev pub Counts : {H F : Type 0} → (H → Heard → H → Type 0) → (F → Called → F → Type 0) → TableValue → ℕ → Bool → MachineCpuValue → H → F
    → MachineCpuValue → H → F → Result Bool SmpError → Type 0
Counts hears runs t k up old h f new h' f' r = CountsBy hears runs (LooksUpTo k up) t k up old h f new h' f' r

-- what a public call of it leaves: E4 before all else, with nothing changed
abbrev pub CountsOr : {H F : Type 0} → (H → Heard → H → Type 0) → (F → Called → F → Type 0) → TableValue → ℕ → Bool → MachineCpuValue → H → F
    → MachineCpuValue → H → F → Result Bool SmpError → Type 0
CountsOr hears runs t k up old h f new h' f' (Err error.BadArgument) =
    ((old.stops.inside ≢ None) ⊎ (t.setting.labels.keys ≤ k)) × RefusedStill old h f new h' f'
CountsOr hears runs t k up old h f new h' f' r = MayChange t old k × Counts hears runs t k up old h f new h' f' r
