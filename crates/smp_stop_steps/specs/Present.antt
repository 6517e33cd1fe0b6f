-- What holds between what is now, the words, and where each CPU is.
use Rattle.std.specs.{Prelude.◌≡◌, Prelude.ℕ, Prelude.◌≤◌, Prelude.true, Prelude.Some, List.AllByRecursion}
use Rattle.smp_labels.specs.Plans.{AreEntriesOf}
use Rattle.smp_stop_steps.specs.Labels.{Patching, Whole, Patches, LabelsShow, labels_in, Agrees, StandsSet}
use Rattle.smp_stop_steps.specs.{Names.Patch, Names.Word, Names.Slot, Names.RUN, Stop.acked, Stop.is_inside, Slots.SlotShows, State.Setup, State.Present}
use Rattle.smp_stop_steps.specs.{Seats.StopRole, Seats.Alters, Seats.RoleStands, Seats.irq_of, Sources.IsPatchWork}

-- who patches is the first online CPU, inside the function of a patch
abbrev pub RunnerShows : ℕ → Patching → (ℕ → StopRole) → Type 0
RunnerShows first Whole seat = Unit {0}
RunnerShows first (Patches c w count made rest) seat = (c ≡ first) × ((s : ℕ) × (seat c ≡ Alters s w count made rest))

pub record PresentShows (u : Setup) (n : Present) (at : Word → ℕ) (seat : ℕ → StopRole) : Type 0 where
  -- each slot shows its stop
  pub slots : (s : ℕ) → SlotShows u.cpus (n.stop s) (λ f. at (Slot s f))
  -- each CPU is where its seat says, and in one stop
  pub stands : (c : ℕ) → RoleStands n c (seat c)
  pub homes : (s c : ℕ) → is_inside ((n.stop s).standing c) ≡ true → n.inside c ≡ Some s
  pub irq : (c : ℕ) → n.irq c ≡ irq_of (seat c)
  -- patches
  pub works : (s : ℕ) → (n.stop s).is_open ≡ true → (n.stop s).work.kind ≡ Patch → IsPatchWork u.online u.first u.keys (n.stop s).work
  pub runner : RunnerShows u.first n.patching seat
  -- the label law
  pub entries : AreEntriesOf u.entries (labels_in at)
  pub labels : LabelsShow n.patching (labels_in at)
  pub read : (c : ℕ) → u.online c ≡ true → n.irq c ≡ true → AllByRecursion (Agrees (labels_in at)) (n.readings c)

-- from the runner's acknowledgement of RUN until the source has left its own patch, the key is as it was set
abbrev pub OwnsKey : ℕ → Present → (ℕ → ℕ) → ℕ → Type 0
OwnsKey first n key s =
    (n.stop s).is_open ≡ true → (n.stop s).work.kind ≡ Patch → is_inside ((n.stop s).standing s) ≡ true → RUN ≤ acked ((n.stop s).standing first) →
    StandsSet (n.stop s).work (key (n.stop s).work.func)
