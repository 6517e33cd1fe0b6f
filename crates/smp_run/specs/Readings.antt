-- What a CPU reads of the labels at the end of a run.
use Rattle.std.specs.List.{AllByRecursion}
use Rattle.std.specs.Prelude.{◌≡◌, ℕ, ◌+◌, ◌<◌, Bool, List, [], ◌∷◌, ◌++◌, length, slice_index_or}
use Rattle.smp_labels.specs.Kinds.{kind_of}
use Rattle.smp_labels.specs.Labels.{Labels}
use Rattle.smp_labels.specs.declared.entries.Entry.{Entry}
use Rattle.smp_labels.specs.declared.kinds.SiteKind.{SiteKind}
use Rattle.smp_machine.specs.MachineCpu.{MachineValue, MachineCpuValue}
use Rattle.smp_multi.specs.Cpu.{CpuValue}
use Rattle.smp_multi.specs.Names.{OwnMove, Reading, ReadKey, ReadSite}
use Rattle.smp_multi.specs.Reads.{ReadsOneTable, jumps}
use Rattle.smp_stop_steps.specs.declared.known.OwnMove.TheVariants.{Found}
use Rattle.smp_run.specs.Seats.{IsSeated}
use Rattle.smp_run.specs.Text.{numbered}

-- of a CPU's own moves, a look at a key
abbrev pub IsLook : OwnMove → Type 0
IsLook (Found key count) = Unit {0}
IsLook _ = ⊥

-- a CPU that has read these, by these moves and at a load each
abbrev pub reads_by : List OwnMove → List Reading → CpuValue → CpuValue
reads_by looks readings c = record c {
  part = record (c.part) { readings = c.part.readings ++ readings };
  moves = c.moves ++ looks;
  steps = c.steps + length readings;
}

-- one reading more, which one lawful table says with those before it
pub record ReadsMore (m : MachineValue) (reading : Reading) (old new : MachineCpuValue) : Type 0 where
  pub seated : IsSeated m new
  pub calls_are : new.calls ≡ old.calls
  pub looks : List OwnMove
  pub are_looks : AllByRecursion IsLook looks
  pub stops_are : new.stops ≡ reads_by looks (reading ∷ []) old.stops
  pub one_table : ReadsOneTable new.stops

abbrev pub key_reading : ℕ → Bool → List Reading
key_reading k on = ReadKey k on ∷ []

abbrev pub site_reading : ℕ → SiteKind → List Reading
site_reading i kind = ReadSite i (jumps kind) ∷ []

-- it has read this since, and done nothing else
pub record HasRead (m : MachineValue) (old new : MachineCpuValue) (readings : List Reading) : Type 0 where
  pub seated : IsSeated m new
  pub calls_are : new.calls ≡ old.calls
  pub looks : List OwnMove
  pub are_looks : AllByRecursion IsLook looks
  pub stops_are : new.stops ≡ reads_by looks readings old.stops

-- these keys, and these sites, each from number 0 on
abbrev pub keys_read : List Bool → List Reading
keys_read keys = numbered key_reading 0 keys

abbrev pub sites_read : List SiteKind → List Reading
sites_read sites = numbered site_reading 0 sites

-- the kind of each site is that of its key's state and its branch
pub record HaveKinds (labels : Labels) (keys : List Bool) (sites : List SiteKind) : Type 0 where
  pub keys_sized : length keys ≡ labels.keys
  pub sites_sized : length sites ≡ length labels.entries
  pub kinds : (i : ℕ) (e : Entry) (s : SiteKind) (b : Bool) → i < length labels.entries
      → slice_index_or sites i s ≡ kind_of (slice_index_or keys (slice_index_or labels.entries i e).key b) (slice_index_or labels.entries i e).branch
