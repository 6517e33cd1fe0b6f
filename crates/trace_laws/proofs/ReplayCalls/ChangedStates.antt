-- A state of the model of events with one CPU or one record set, and the calls of the machine with which it agrees.
use Rattle.trace_laws.proofs.Names.{CpuState, Free, StateValue, arith, cases_eq, cpu_at, fresh_cpu, get_or-set_other, get_or-set_same, length, length-set}
use Rattle.trace_laws.proofs.Names.{place_at, refl, with_cpu, with_place, ℕ, ◌<◌, ◌≡◌, ◌≢◌}
use Rattle.trace_laws.proofs.ReplayNames.{CallState, Follows, Place, calls_in, calls_of, cpus, nothing_left_out, place_of, records}

pub cpu_here : (s : StateValue) (cpu : ℕ) (c : CpuState) → length s.cpus ≡ 512 → cpu < cpus → cpu_at (with_cpu cpu s c) cpu ≡ c
cpu_here s cpu c l b = get_or-set_same s.cpus cpu c fresh_cpu (omega arith)

pub cpu_else : (s : StateValue) (cpu : ℕ) (c : CpuState) (j : ℕ) → j ≢ cpu → cpu_at (with_cpu cpu s c) j ≡ cpu_at s j
cpu_else s cpu c j ne = get_or-set_other s.cpus cpu j c fresh_cpu ne

pub place_here : (s : StateValue) (id : ℕ) (p : Place) → length s.places ≡ 65536 → id < records → place_at (with_place id p s) id ≡ p
place_here s id p l b = get_or-set_same s.places id p Free (omega arith)

pub place_else : (s : StateValue) (id : ℕ) (p : Place) (j : ℕ) → j ≢ id → place_at (with_place id p s) j ≡ place_at s j
place_else s id p j ne = get_or-set_other s.places id j p Free ne

-- A state that agrees with the calls of the machine, but for those of one CPU.
pub record FollowsBut (online me : ℕ) (a : CallState) (s : StateValue) : Type 0 where
  pub whole : s.setting.without ≡ nothing_left_out
  pub online_is : s.setting.online ≡ online
  pub cpus_are : length s.cpus ≡ 512
  pub places_are : length s.places ≡ 65536
  pub calls : (cpu : ℕ) → cpu ≢ me → calls_in (cpu_at s cpu) ≡ calls_of a cpu
  pub places : (id : ℕ) → id < records → place_at s id ≡ place_of (a.place id)

pub follows_but : (online me : ℕ) (a : CallState) (s : StateValue) → Follows online a s → FollowsBut online me a s
follows_but online me a s h1 = search arith

module _ (online : ℕ) (a b : CallState) (s : StateValue) where
  -- the machine has gone on, and its calls are the same
  pub follows_same : ((j : ℕ) → calls_of b j ≡ calls_of a j) → ((id : ℕ) → id < records → place_of (b.place id) ≡ place_of (a.place id))
      → Follows online a s → Follows online b s
  follows_same h1 h2 h3 = search arith

  -- a CPU is set
  pub but_set : (me : ℕ) (c : CpuState) → FollowsBut online me a s → FollowsBut online me a (with_cpu me s c)
  but_set me c h1 = search (length-set, cpu_else, arith)

  pub follows_set : (me : ℕ) (c : CpuState) → me < cpus → FollowsBut online me a s → calls_in c ≡ calls_of b me
      → ((j : ℕ) → j ≢ me → calls_of b j ≡ calls_of a j) → ((id : ℕ) → id < records → place_of (b.place id) ≡ place_of (a.place id))
      → Follows online b (with_cpu me s c)
  follows_set me c h1 h2 h3 h4 h5 = search (length-set, cases_eq, cpu_here, cpu_else, arith)

-- a record is set
module _ (online : ℕ) (a b : CallState) (s : StateValue) (id : ℕ) (p : Place) (below : id < records) (here : place_of (b.place id) ≡ p)
    (others : (j : ℕ) → j ≢ id → b.place j ≡ a.place j) where
  pub follows_placed : ((j : ℕ) → calls_of b j ≡ calls_of a j) → Follows online a s → Follows online b (with_place id p s)
  follows_placed h1 h2 = search (length-set, cases_eq, place_here, place_else, arith)

  pub but_placed : (me : ℕ) → ((j : ℕ) → j ≢ me → calls_of b j ≡ calls_of a j) → FollowsBut online me a s → FollowsBut online me b (with_place id p s)
  but_placed me h1 h2 = search (length-set, cases_eq, place_here, place_else, arith)

-- Events of calls leave all else as it was.
pub record LeavesStops (s t : StateValue) : Type 0 where
  pub setting : t.setting ≡ s.setting
  pub gate : t.gate ≡ s.gate
  pub stops : t.stops ≡ s.stops
  pub words : t.words ≡ s.words
  pub irq : (cpu : ℕ) → (cpu_at t cpu).irq ≡ (cpu_at s cpu).irq
  pub inside : (cpu : ℕ) → (cpu_at t cpu).inside ≡ (cpu_at s cpu).inside

pub leaves_all : (s : StateValue) → LeavesStops s s
leaves_all s = record { setting = refl; gate = refl; stops = refl; words = refl; irq = λ cpu. refl; inside = λ cpu. refl }

pub leaves_then : (s t u : StateValue) → LeavesStops s t → LeavesStops t u → LeavesStops s u
leaves_then s t u h1 h2 = search arith

pub leaves_cpu : (s : StateValue) (me : ℕ) (c : CpuState) → length s.cpus ≡ 512 → me < cpus → c.irq ≡ (cpu_at s me).irq → c.inside ≡ (cpu_at s me).inside
    → LeavesStops s (with_cpu me s c)
leaves_cpu s me c h1 h2 h3 h4 = search (cases_eq, cpu_here, cpu_else, arith)

pub leaves_place : (s : StateValue) (id : ℕ) (p : Place) → LeavesStops s (with_place id p s)
leaves_place s id p = record { setting = refl; gate = refl; stops = refl; words = refl; irq = λ cpu. refl; inside = λ cpu. refl }
