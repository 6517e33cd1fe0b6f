-- What a CPU reads of the labels, with its interrupts on, and what a reading leaves of its value.
use Rattle.std.specs.List.{AllByRecursion}
use Rattle.std.specs.Prelude.{◌≡◌, ℕ, ◌<◌, Bool, true, false, map, length, Result, Ok, Err, [], ◌∷◌, ◌++◌}
use Rattle.atomic_table.specs.Seated.{TableId}
use Rattle.smp_labels.specs.Entries.{entry_word}
use Rattle.smp_labels.specs.Law.{Table, IsLawful}
use Rattle.smp_labels.specs.Plans.{AreEntriesOf}
use Rattle.smp_labels.specs.declared.kinds.SiteKind.{SiteKind}
use Rattle.smp_labels.specs.declared.kinds.SiteKind.TheVariants.{Nop, Jmp}
use Rattle.smp_mask.specs.Mask.{has}
use Rattle.smp_mask.specs.declared.error.SmpError.{SmpError}
use Rattle.smp_mask.specs.declared.error.SmpError.TheVariants as error
use Rattle.smp_labels.specs.Keys.{is_on}
use Rattle.smp_stop_steps.specs.Threads.Known.{stepped}
use Rattle.smp_stop_steps.specs.Threads.KnownAfter.{key_read_known}
use Rattle.smp_stop_steps.specs.Labels.{Agrees}
use Rattle.smp_stop_steps.specs.Seats.{irq_of}
use Rattle.smp_multi.specs.Names.{KnownStops, Reading, ReadKey, ReadSite}
use Rattle.smp_multi.specs.Names.own
use Rattle.smp_multi.specs.Cells.{cells}
use Rattle.smp_multi.specs.Cpu.{CpuValue, makes, moves_on}
use Rattle.smp_multi.specs.Laws.{FindsCount}
use Rattle.smp_multi.specs.Seat.{SeatValue}

-- an online CPU with its interrupts on
pub record MayRead (table : TableId) (seat : SeatValue) : Type 0 where
  pub table_is : seat.table ≡ table
  pub sized : table.words ≡ cells
  pub online : has seat.known.setting.online seat.known.number ≡ true
  pub irq : irq_of seat.known.seat ≡ true

-- a CPU that has read this, at one load
abbrev pub reads : Reading → CpuValue → CpuValue
reads r c = makes 1 (record c { part = record (c.part) { readings = c.part.readings ++ r ∷ [] } })

-- a CPU that has loaded this count of a key, which is a reading, and one of its own steps
abbrev pub loads_known : ℕ → ℕ → KnownStops → KnownStops
loads_known k count v = stepped 1 (key_read_known k count v)

abbrev pub loads_count : ℕ → ℕ → CpuValue → CpuValue
loads_count k count c = moves_on (own.Found k count) (reads (ReadKey k (is_on count)) c)

-- whether a site of this kind jumps
abbrev pub jumps : SiteKind → Bool
jumps Nop = false
jumps Jmp = true

-- the table has such a key, or such a site, and the CPU has its interrupts on
abbrev pub HasKey : CpuValue → ℕ → Type 0
HasKey c k = (k < c.setting.labels.keys) × (c.irq ≡ true)

abbrev pub HasSite : CpuValue → ℕ → Type 0
HasSite c i = (i < length c.setting.labels.entries) × (c.irq ≡ true)

-- one lawful table, with the entries that the stop table was made with, says all that the CPU has read since its
-- interrupts last went on
pub record ReadsOneTable (c : CpuValue) : Type 0 where
  pub labels : Table
  pub lawful : IsLawful labels
  pub entries : AreEntriesOf (map entry_word c.setting.labels.entries) labels
  pub agrees : AllByRecursion (Agrees labels) c.part.readings

-- read_key: its one load has found a count by which the key is on or off
abbrev pub KeyAnswers : ℕ → CpuValue → CpuValue → Result Bool SmpError → Type 0
KeyAnswers k old new (Ok on) = HasKey old k × ((count : ℕ) × FindsCount old k count × (on ≡ is_on count) × (new ≡ loads_count k count old)) × ReadsOneTable new
KeyAnswers k old new (Err error.BadArgument) = (¬ (HasKey old k)) × (new ≡ old)
KeyAnswers k old new (Err _) = ⊥

-- read_site
abbrev pub SiteAnswers : ℕ → CpuValue → CpuValue → Result SiteKind SmpError → Type 0
SiteAnswers i old new (Ok kind) = HasSite old i × (new ≡ reads (ReadSite i (jumps kind)) old) × ReadsOneTable new
SiteAnswers i old new (Err error.BadArgument) = (¬ (HasSite old i)) × (new ≡ old)
SiteAnswers i old new (Err _) = ⊥
