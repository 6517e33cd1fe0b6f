-- By which steps a CPU comes to carry an answer, in numbers of phases.
use Rattle.std.specs.Prelude.{◌≡◌, ◌⊎◌, ℕ, true, List, [], Some}
use Rattle.atomic_table.specs.Table.{Me, Step}
use Rattle.smp_mask.specs.Mask.{has}
use Rattle.smp_stop_steps.specs.Labels.{Change, patch_answer}
use Rattle.smp_multi.specs.Names.{KnownStops, StopSeatView, Word, Work, In, Alters, Rests}
use Rattle.smp_multi.specs.Cells.{cell_of}
use Rattle.smp_multi.specs.Rule.{known}

-- what a kind of step tells of its seat before, the number found, and the seat after
abbrev Telling : Type 1
Telling = Step (Unit {0}) → Me (Unit {0}) StopSeatView → ℕ → Me (Unit {0}) StopSeatView → Type 0

-- a step of this kind leaves the answer that its CPU carries
abbrev pub KeepsAnswers : Telling → Type 0
KeepsAnswers tells = (st : Step (Unit {0})) (m m' : Me (Unit {0}) StopSeatView) (n : ℕ) (w : Word) → cell_of w ≡ Some st.word → tells st m n m'
    → (known m'.0).carried ≡ (known m.0).carried

-- a CPU has acknowledged phase 2 and has looked at phase 3, and is active
abbrev pub IsActiveAtRun : KnownStops → Type 0
IsActiveAtRun v = (s : ℕ) × (w : Work) × (v.seat ≡ In s w 2 3 Rests) × (has w.active v.number ≡ true)

-- it has made all stores of a patch, whose answer this is
abbrev pub HasPatched : KnownStops → ℕ → Type 0
HasPatched v x = (s : ℕ) × (w : Work) × (count : ℕ) × (made : List Change) × (v.seat ≡ Alters s w count made []) × (x ≡ patch_answer w count)

-- after a step of this kind a CPU carries x: the answer of the function that it has called at phase 3, that of its patch, or 0
abbrev pub TakesAnswers : (ℕ → Telling) → Type 0
TakesAnswers tells = (x : ℕ) (st : Step (Unit {0})) (m m' : Me (Unit {0}) StopSeatView) (n : ℕ) (w : Word) → cell_of w ≡ Some st.word → tells x st m n m'
    → ((known m'.0).carried ≡ x) × (IsActiveAtRun (known m.0) ⊎ (HasPatched (known m.0) x ⊎ (x ≡ 0)))
