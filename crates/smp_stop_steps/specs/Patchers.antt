-- The label law outside the stores of patches, and who makes these.
use Rattle.std.specs.Prelude.{◌≡◌, ℕ, Bool, true, false, Option, Some, None, List, ◌∷◌}
use Rattle.smp_labels.specs.Law.{IsLawful}
use Rattle.smp_words.specs.declared.access.Access.TheVariants.{Store}
use Rattle.smp_stop_steps.specs.Names.{has, StopStage, DISABLE_IRQ, RUN, Patch, Work, Word, Key, Site, Access, Place}
use Rattle.smp_stop_steps.specs.{Labels.Change, Labels.Patching, Labels.Patches, Labels.labels_in, Promises.OfEachCpu, Promises.RunsAlone, Seats.StopRole}
use Rattle.smp_stop_steps.specs.{Shows.StopShows, Sources.Source, Stages.stop_access, State.Setup, State.StopState, Stop.Inside}

-- a patch has made its first store and not its last
abbrev pub is_between : Patching → Bool
is_between (Patches c work count (change ∷ made) (next ∷ rest)) = true
is_between _ = false

-- a CPU that patches: the first that is online, active in its patch stop, at RUN, alone
pub record IsPatcher (u : Setup) (p : StopState) (s c : ℕ) (work : Work) : Type 0 where
  pub inside : p.now.inside c ≡ Some s
  pub stands : (p.now.stop s).standing c ≡ Inside DISABLE_IRQ RUN
  pub work_is : (p.now.stop s).work ≡ work
  pub kind : work.kind ≡ Patch
  pub active : has work.active c ≡ true
  pub first : c ≡ u.first
  pub alone : RunsAlone p s c

-- whatever CPUs have their interrupts on, the table is lawful whenever no patch is between its first and its last store
abbrev pub IsLawfulOutside : StopState → (Word → ℕ) → Type 0
IsLawfulOutside p at = is_between p.now.patching ≡ false → IsLawful (labels_in at)

abbrev pub HasPatcher : Setup → StopState → Type 0
HasPatcher u p = (c : ℕ) (work : Work) (count : ℕ) (made rest : List Change) → p.now.patching ≡ Patches c work count made rest → (s : ℕ) × IsPatcher u p s c
    work

abbrev pub TableIsLawful : Type 0
TableIsLawful = (u : Setup) (p : StopState) (at : Word → ℕ) (seat : ℕ → StopRole) (source : ℕ → Source) → StopShows u p at seat source → IsLawfulOutside p at

abbrev pub PatchersRun : Type 0
PatchersRun = (u : Setup) (p : StopState) (at : Word → ℕ) (seat : ℕ → StopRole) (source : ℕ → Source) → StopShows u p at seat source → HasPatcher u p

-- a CPU whose next store is to a key or a site patches, and it is the next store of its patch
pub record IsNextOfPatch (p : StopState) (me : ℕ) (change : Change) : Type 0 where
  pub work : Work
  pub count : ℕ
  pub made : List Change
  pub rest : List Change
  pub patching : p.now.patching ≡ Patches me work count made (change ∷ rest)

-- the store to a key or a site that an access makes
abbrev pub label_stored : Access → Option Change
label_stored (Store (Key k) n) = Some (Place.Key k, n)
label_stored (Store (Site i) n) = Some (Place.Site i, n)
label_stored _ = None

abbrev pub LabelStoresPatch : Type 0
LabelStoresPatch = OfEachCpu (λ u p at c me.
    (stage : StopStage) → c.stage ≡ Some stage → (change : Change) → label_stored (stop_access u.cpus me c.changes stage) ≡ Some change →
    IsNextOfPatch p me change)
