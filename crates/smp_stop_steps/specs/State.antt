-- The state of all stops: what is now, and the lists of the past.
use Rattle.std.specs.Prelude.{◌≡◌, ◌≢◌, ℕ, ◌<◌, ◌≤◌, Bool, true, Option, None, List, [], length, slice_index}
use Rattle.smp_stop_steps.specs.{Names.MOST_KEYS, Names.Work, Standings.Stop, Standings.no_stop, Labels.Patching, Labels.Whole, Labels.Reading}
pub use Rattle.smp_stop_steps.specs.declared.known.StopCall.{StopCall}
pub use Rattle.smp_stop_steps.specs.declared.known.Calling.{Calling}
pub use Rattle.smp_stop_steps.specs.declared.known.Calling.TheVariants.{Idle, Calls, Carries}
pub use Rattle.smp_stop_steps.specs.declared.known.Moved.{Moved}

-- what a table is made with: how many CPUs there are, which are online, the first of them, how many
-- keys there are, and the entry words of the sites
pub record Setup : Type 0 where
  pub cpus : ℕ
  pub online : ℕ → Bool
  pub first : ℕ
  pub keys : ℕ
  pub entries : List ℕ

-- the first online CPU is online, those online are CPUs, of which there are no more than bits of a word; there is
-- room for the keys; and each site has an entry
pub record IsSetup (u : Setup) : Type 0 where
  pub first : u.online u.first ≡ true
  pub below : (c : ℕ) → u.online c ≡ true → c < u.cpus
  pub few : u.cpus ≤ 64
  pub few_keys : u.keys ≤ MOST_KEYS
  pub named : (i : ℕ) → i < length u.entries → slice_index u.entries i ≢ 0

-- what is now
pub record Present : Type 0 where
  -- the stop of each source
  pub stop : ℕ → Stop
  -- of each CPU, as all that follows: the source whose stop it is in
  pub inside : ℕ → Option ℕ
  -- whether its interrupts are on
  pub irq : ℕ → Bool
  -- what it has read since they last went on
  pub readings : ℕ → List Reading
  -- who patches the labels
  pub patching : Patching

pub record StopState : Type 0 where
  pub now : Present
  -- who holds the gate
  pub gate : Option ℕ
  -- the works that each source has begun, and the results that it has collected
  pub begun : ℕ → List Work
  pub collected : ℕ → List ℕ
  -- what each CPU has answered to each source
  pub answers : ℕ → ℕ → List ℕ
  -- the phases that each CPU has looked at, and the stop functions that it has called
  pub looks : ℕ → List ℕ
  pub calls : ℕ → List StopCall
  -- how far each is with the function of the stop that it is in
  pub calling : ℕ → Calling
  -- by how much it has moved each key's count itself, outside any stop, and as the runner of patches
  pub nudged : ℕ → ℕ → Moved
  pub patched : ℕ → ℕ → Moved

-- at first
abbrev pub no_present : Present
no_present = record { stop = λ _. no_stop; inside = λ _. None; irq = λ _. true; readings = λ _. []; patching = Whole }

abbrev pub unmoved : Moved
unmoved = record { up = 0; down = 0 }

abbrev pub no_stops : StopState
no_stops = record {
  now = no_present;
  gate = None;
  begun = λ _. [];
  collected = λ _. [];
  answers = λ _ _. [];
  looks = λ _. [];
  calls = λ _. [];
  calling = λ _. Idle;
  nudged = λ _ _. unmoved;
  patched = λ _ _. unmoved;
}
