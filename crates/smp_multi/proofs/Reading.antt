-- The readings of keys and sites, by a CPU with its interrupts on.
use Rattle.std.specs.List.{AllByRecursion}
use Rattle.std.proofs.Common.{◌≡◌, ℕ, ◌<◌, Bool, true, Ok, length, sym, subst, refl, ap, ◌∙◌}
use Rattle.atomic_table.specs.Seated.{TableId}
use Rattle.smp_labels.specs.Keys.{IsKeyWord, is_on}
use Rattle.smp_labels.specs.declared.kinds.SiteKind.{SiteKind}
use Rattle.smp_labels.specs.declared.words.TheConstants.{MOST_KEYS, MOST_SITES}
use Rattle.smp_mask.specs.Mask.{has}
use Rattle.smp_stop_steps.specs.Threads.Known.{setup_in, stepped}
use Rattle.smp_multi.specs.Lives.{Lives, StopMoment}
use Rattle.smp_stop_steps.specs.Threads.KnownAfter.{reads_more}
use Rattle.smp_stop_steps.specs.Labels.{Agrees, labels_in}
use Rattle.smp_stop_steps.specs.Threads.Moves.{ReadKey as LoadKey, ReadSite as LoadSite}
use Rattle.smp_stop_steps.specs.Seats.{irq_of}
use Rattle.smp_stop_steps.proofs.State.Patched.{lawful_when_on}
use Rattle.smp_multi.specs.Names.{Key, Site, Load, KnownStops, Reading, ReadSite}
use Rattle.smp_multi.specs.Cpu.{cpu_of}
use Rattle.smp_multi.specs.Reads.{MayRead, ReadsOneTable, KeyAnswers, SiteAnswers, jumps, loads_known, reads}
use Rattle.smp_multi.specs.Seat.{SeatValue, Ready}
use Rattle.smp_multi.proofs.Cells.{key_cell, site_cell}
use Rattle.smp_multi.proofs.Showing.{HasNotGiven, finds_count}

module _ (t : TableId) (d : SeatValue) (m : MayRead t d) where
  pub ready_key : (k : ℕ) → k < MOST_KEYS → Ready t d (Load (Key k))
  ready_key k low = record {
    able = record {
      table_is = m.table_is;
      sized = m.sized;
      can = record { move = LoadKey k; may = m.irq; is_access = refl };
      cell = key_cell k low;
      fits = tt;
    };
    apart = tt;
  }

  pub ready_site : (i : ℕ) → i < MOST_SITES → Ready t d (Load (Site i))
  ready_site i low = record {
    able = record {
      table_is = m.table_is;
      sized = m.sized;
      can = record { move = LoadSite i; may = m.irq; is_access = refl };
      cell = site_cell i low;
      fits = tt;
    };
    apart = tt;
  }

-- the key of a CPU that may read has a count
pub count_found : (v : KnownStops) (k n : ℕ) → has v.setting.online v.number ≡ true → irq_of v.seat ≡ true → k < MOST_KEYS → StopMoment v (Key k) n
    → IsKeyWord n
count_found v k n online on low m =
    let irq = m.shown.present.irq v.number ∙ (ap irq_of m.sees.seat_is ∙ on) in
    subst IsKeyWord (sym m.number_is) ((lawful_when_on (setup_in v.setting) m.stops.now m.at m.seat m.shown.present v.number online irq).keys k low)

-- whoever has interrupts on has read what one lawful table says
pub reads_table : (d : SeatValue) → Lives d.known → has d.known.setting.online d.known.number ≡ true → irq_of d.known.seat ≡ true
    → ReadsOneTable (cpu_of d)
reads_table d l online on =
    let me = d.known.number in
    let irq = l.shown.present.irq me ∙ (ap irq_of l.sees.seat_is ∙ on) in
    record {
      labels = labels_in l.at;
      lawful = lawful_when_on (setup_in d.known.setting) l.stops.now l.at l.seat l.shown.present me online irq;
      entries = l.shown.present.entries;
      agrees = subst (AllByRecursion (Agrees (labels_in l.at))) l.sees.part_is.readings (l.shown.present.read me online irq);
    }

-- a CPU that has read
module _ (d e : SeatValue) (r : Reading) (table : e.table ≡ d.table) (same : e.known ≡ stepped 1 (reads_more r d.known)) (lives : Lives e.known)
    (online : has d.known.setting.online d.known.number ≡ true) (on : irq_of d.known.seat ≡ true) where
  pub read_view : cpu_of e ≡ reads r (cpu_of d)
  read_view = λ i. cpu_of (record { table = table i; known = same i })

  pub read_table : ReadsOneTable (cpu_of e)
  read_table = reads_table e lives (ap (λ (v : KnownStops). has v.setting.online v.number) same ∙ online) (ap (λ (v : KnownStops). irq_of v.seat) same ∙ on)

pub key_answers : (d e : SeatValue) (k count : ℕ) (b : Bool) → e.table ≡ d.table → StopMoment d.known (Key k) count → b ≡ is_on count
    → e.known ≡ loads_known k count d.known → Lives e.known
    → has d.known.setting.online d.known.number ≡ true → irq_of d.known.seat ≡ true → k < d.known.setting.labels.keys → HasNotGiven d.known.seat
    → KeyAnswers k (cpu_of d) (cpu_of e) (Ok b)
key_answers d e k count b table m found same lives online on low free = (
  (low, on),
  (count, finds_count d k count free m, found, λ i. cpu_of (record { table = table i; known = same i })),
  reads_table e lives (ap (λ (v : KnownStops). has v.setting.online v.number) same ∙ online) (ap (λ (v : KnownStops). irq_of v.seat) same ∙ on),
)

pub site_answers : (d e : SeatValue) (i : ℕ) (kind : SiteKind) → e.table ≡ d.table → e.known ≡ stepped 1 (reads_more (ReadSite i (jumps kind)) d.known)
    → Lives e.known
    → has d.known.setting.online d.known.number ≡ true → irq_of d.known.seat ≡ true → i < length d.known.setting.labels.entries
    → SiteAnswers i (cpu_of d) (cpu_of e) (Ok kind)
site_answers d e i kind table same lives online on low =
    let r = ReadSite i (jumps kind) in ((low, on), read_view d e r table same lives online on, read_table d e r table same lives online on)
