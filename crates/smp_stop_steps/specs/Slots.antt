-- What the words of one slot show of its stop.
use Rattle.std.specs.Prelude.{◌≡◌, ◌≢◌, ◌⊎◌, ℕ, ◌+◌, ◌<◌, ◌≤◌, true, ◌&&◌, cond}
use Rattle.smp_words.specs.{Put.same_field, Kinds.kind_word}
use Rattle.smp_stop_steps.specs.Names.{has, Field, Kind, One, Multi, Patch, Work, EXIT, OVER}
use Rattle.smp_stop_steps.specs.Stop.{Standing, Outside, Called, Inside, Answering, Completed, Raising, Nobody, Refills, Raises, Ending, Running, Last, Ended}
use Rattle.smp_stop_steps.specs.Stop.{Stop, is_of, is_called, first_phase}
use Rattle.smp_stop_steps.specs.Counts.{count_behind, count_unfinished, weight, mask_weight}

-- the words of a slot, with one changed
abbrev pub put_field : (Field → ℕ) → Field → ℕ → Field → ℕ
put_field word g n f = cond (same_field f g true) n (word f)

-- the words of the work are its numbers
pub record IsWritten (word : Field → ℕ) (work : Work) : Type 0 where
  pub kind : word Field.Kind ≡ kind_word work.kind
  pub mask : word Field.Mask ≡ work.mask
  pub active : word Field.Active ≡ work.active
  pub func : word Field.Func ≡ work.func
  pub arg : word Field.Arg ≡ work.arg

-- a CPU of the mask has acknowledged the phase or the one before it
abbrev pub IsLevel : ℕ → ℕ → Type 0
IsLevel p a = (a ≡ p) ⊎ (a + 1 ≡ p)

-- it has seen what it was to see: the last phase, or it is of a stop of kind One
abbrev pub IsDone : ℕ → ℕ → Type 0
IsDone p a = (a ≡ EXIT) ⊎ (p ≡ 0)

-- a CPU is of the machine, its phases are near the stop's, and it leaves at EXIT
abbrev pub Keeps : ℕ → ℕ → ℕ → Standing → Type 0
Keeps cpus p c Outside = Unit {0}
Keeps cpus p c Called = (c < cpus) × IsLevel p 0
Keeps cpus p c (Inside a l) = (c < cpus) × IsLevel p a × ((l ≡ a) ⊎ ((l ≡ a + 1) × (p ≡ l))) × (l ≤ EXIT) × (a ≤ EXIT)
Keeps cpus p c (Answering a v) = (c < cpus) × IsLevel p a × IsDone p a × (a ≤ EXIT)
Keeps cpus p c (Completed a v) = (c < cpus) × IsLevel p a × IsDone p a × (a ≤ EXIT)

-- the count of acknowledgements, by who sets the next phase
abbrev pub AckShows : ℕ → ℕ → (ℕ → Standing) → Raising → ℕ → Type 0
AckShows cpus p standing Nobody ack = ack ≡ count_behind cpus p standing
AckShows cpus p standing (Refills r) ack = (ack ≡ 0) × (count_behind cpus p standing ≡ 0) × (standing r ≡ Inside p p)
AckShows cpus p standing (Raises r) ack = (ack ≡ weight cpus standing) × (count_behind cpus p standing ≡ 0) × (standing r ≡ Inside p p)

-- done is 1 once the last of all that have completed has stored it
abbrev pub DoneShows : ℕ → (ℕ → Standing) → Ending → ℕ → Type 0
DoneShows cpus standing Running done = (done ≡ 0) × (count_unfinished cpus standing ≢ 0)
DoneShows cpus standing (Last c) done = (done ≡ 0) × (count_unfinished cpus standing ≡ 0)
DoneShows cpus standing Ended done = (done ≡ 1) × (count_unfinished cpus standing ≡ 0)

-- this answer is known of the CPU
abbrev pub HasGiven : Standing → ℕ → Type 0
HasGiven (Answering a v) w = v ≡ w
HasGiven (Completed a v) w = v ≡ w
HasGiven _ w = ⊥

-- 0 where all answers known are 0, else one of those that are not
abbrev pub ResultShows : (ℕ → Standing) → ℕ → Type 0
ResultShows standing result = ((result ≡ 0) × ((c w : ℕ) → HasGiven (standing c) w → w ≡ 0)) ⊎ ((result ≢ 0) × ((c : ℕ) × HasGiven (standing c) result))

-- a stop of kind One has phase 0, the others have not
abbrev pub IsPhaseOf : Kind → ℕ → Type 0
IsPhaseOf One p = p ≡ 0
IsPhaseOf Multi p = p ≢ 0
IsPhaseOf Patch p = p ≢ 0

-- the words of an open stop
pub record OpenShows (cpus : ℕ) (stop : Stop) (word : Field → ℕ) : Type 0 where
  pub written : IsWritten word stop.work
  pub state : word Field.State ≡ stop.phase
  pub bound : stop.phase ≤ OVER
  pub kinds : IsPhaseOf stop.work.kind stop.phase
  pub ack : stop.phase ≢ 0 → AckShows cpus stop.phase stop.standing stop.raising (word Field.Ack)
  pub calm : stop.phase ≡ 0 → stop.raising ≡ Nobody
  pub todo : word Field.Todo ≡ count_unfinished cpus stop.standing
  pub done : DoneShows cpus stop.standing stop.ending (word Field.Done)
  pub result : ResultShows stop.standing (word Field.Result)

-- the words of a slot: its roll has those that have not entered, and where no stop is open all are outside
pub record SlotShows (cpus : ℕ) (stop : Stop) (word : Field → ℕ) : Type 0 where
  pub members : (c : ℕ) → is_of (stop.standing c) ≡ (stop.is_open && has stop.work.mask c)
  pub roll : (c : ℕ) → has (word Field.Roll) c ≡ is_called (stop.standing c)
  pub keeps : (c : ℕ) → Keeps cpus stop.phase c (stop.standing c)
  pub shows : stop.is_open ≡ true → OpenShows cpus stop word

-- what begin stores in a field
abbrev pub begun_value : ℕ → Work → Field → ℕ
begun_value cpus work Field.Kind = kind_word work.kind
begun_value cpus work Field.Mask = work.mask
begun_value cpus work Field.Active = work.active
begun_value cpus work Field.Func = work.func
begun_value cpus work Field.Arg = work.arg
begun_value cpus work Field.Result = 0
begun_value cpus work Field.Todo = mask_weight cpus work.mask
begun_value cpus work Field.Done = 0
begun_value cpus work Field.Ack = mask_weight cpus work.mask
begun_value cpus work Field.State = first_phase work.kind
begun_value cpus work Field.Roll = work.mask

-- the place of a field among the stores of begin
abbrev pub order : Field → ℕ
order Field.Kind = 0
order Field.Mask = 1
order Field.Active = 2
order Field.Func = 3
order Field.Arg = 4
order Field.Result = 5
order Field.Todo = 6
order Field.Done = 7
order Field.Ack = 8
order Field.State = 9
order Field.Roll = 10

-- begin has stored its first k fields
abbrev pub IsStored : ℕ → (Field → ℕ) → Work → ℕ → Type 0
IsStored cpus word work k = (f : Field) → order f < k → word f ≡ begun_value cpus work f
