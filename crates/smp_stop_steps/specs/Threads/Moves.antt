-- The kinds of step, by what a CPU knows: which it may make, and its access.
use Rattle.std.specs.Prelude.{◌≡◌, ◌≢◌, ◌⊎◌, ℕ, ◌+◌, ◌<◌, true, false, None, List, [], ◌∷◌, ◌++◌}
use Rattle.smp_words.specs.declared.access.Access.TheVariants.{Load, Store, Exchange, Sub, And}
use Rattle.smp_stop_steps.specs.Names.{has, MOST_KEYS, word_of, at_after, seen_of, cpus, Access, Field, One, Patch, Work, Word, Gate, Slot, Key, Entry, Site}
use Rattle.smp_stop_steps.specs.Names.{DISABLE_IRQ, RUN, EXIT}
use Rattle.smp_stop_steps.specs.Threads.Known.{KnownStops, StopSetting, Sees, GoesOnBy, fresh, setup_in, told_work}
use Rattle.smp_stop_steps.specs.Seats.{StopRole, Free, In, Gives, Alters, Closes, Rests, Fills, Sets, irq_of}
use Rattle.smp_stop_steps.specs.{Counts.mask_weight, Threads.KnownAfter.is_drafting, Threads.KnownAfter.known_entering, Threads.KnownAfter.no_work}
use Rattle.smp_stop_steps.specs.{Callings.HasCalled, Labels.Change}
use Rattle.smp_stop_steps.specs.{Shows.StopShows, Sits.IsNudge, Slots.begun_value, Slots.order, Sources.Source, Sources.Shut, Sources.Drafts, Sources.Owns}
use Rattle.smp_stop_steps.specs.{Sources.Collects, Sources.IsWork, Stages.all_but, Stages.store_of, State.Idle, State.StopState, State.no_stops, Tells.plan_at}

pub data Move : Type 0 where
  TakeGate : Move
  OpenGate : Move
  -- the first store of begin, one of the others, and the roll
  Draft : (work : Work) → Move
  DraftMore : (work : Work) → (f : Field) → Move
  Open : (work : Work) → Move
  Enter : (slot : ℕ) → Move
  Look : (slot : ℕ) → (work : Work) → (acked looked : ℕ) → Move
  Acknowledge : (slot : ℕ) → (work : Work) → (acked : ℕ) → Move
  AcknowledgePatch : (slot : ℕ) → (work : Work) → (count : ℕ) → (made : List Change) → Move
  Refill : (slot : ℕ) → (work : Work) → (acked looked : ℕ) → Move
  Raise : (slot : ℕ) → (work : Work) → (acked looked : ℕ) → Move
  -- store an answer that is not 0, and count down, with no answer stored or after that
  Give : (slot : ℕ) → (work : Work) → (acked looked answer : ℕ) → Move
  Count : (slot : ℕ) → (work : Work) → (acked looked : ℕ) → Move
  CountGiven : (slot : ℕ) → (work : Work) → (acked answer : ℕ) → Move
  Close : (slot : ℕ) → Move
  LookDone : (work : Work) → Move
  Collect : (work : Work) → Move
  ReadKey : (key : ℕ) → Move
  ReadSite : (site : ℕ) → Move
  Nudge : (key found new : ℕ) → Move
  BeginPatch : (slot : ℕ) → (work : Work) → Move
  Alter : (slot : ℕ) → (work : Work) → (count : ℕ) → (made : List Change) → (change : Change) → (rest : List Change) → Move
  -- the load of the argument, by who is in the stop
  LoadArg : (slot : ℕ) → (work : Work) → (acked looked : ℕ) → Move
  -- loads that tell nothing: by who is in the stop, and by who makes its patch
  LoadField : (slot : ℕ) → (work : Work) → (acked looked : ℕ) → (f : Field) → Move
  LoadEntry : (slot : ℕ) → (work : Work) → (count : ℕ) → (made rest : List Change) → (site : ℕ) → Move

-- a load of this field tells nothing
abbrev pub IsPlain : Field → Type 0
IsPlain Field.Kind = Unit {0}
IsPlain Field.Mask = Unit {0}
IsPlain Field.Active = Unit {0}
IsPlain Field.Func = Unit {0}
IsPlain _ = ⊥

-- it is through all phases, or in a stop of kind One
abbrev pub IsThrough : Work → ℕ → Type 0
IsThrough w a = (a ≡ EXIT) ⊎ (w.kind ≡ One)

-- a CPU that knows this may make this step
abbrev pub MayStep : KnownStops → Move → Type 0
MayStep v TakeGate = Unit {0}
MayStep v OpenGate = (v.part.holds ≡ true) × (is_drafting v.source ≡ false)
MayStep v (Draft w) = (v.source ≡ Shut) × (v.part.holds ≡ true) × IsWork (setup_in v.setting) w
MayStep v (DraftMore w f) = (v.source ≡ Drafts (told_work (order f) w) (order f)) × IsWork (setup_in v.setting) w × (order f ≢ 0) × (order f < order Field.Roll)
MayStep v (Open w) = (v.source ≡ Drafts (told_work (order Field.Roll) w) (order Field.Roll)) × IsWork (setup_in v.setting) w
MayStep v (Enter s) = v.seat ≡ Free
MayStep v (Look s w a l) = (v.seat ≡ In s w a l Rests) × (a ≢ EXIT)
MayStep v (Acknowledge s w a) = (v.seat ≡ In s w a (a + 1) Rests) × (a ≡ DISABLE_IRQ → HasCalled v.number w v.part.calling)
MayStep v (AcknowledgePatch s w count made) = v.seat ≡ Alters s w count made []
MayStep v (Refill s w a l) = (v.seat ≡ In s w a l Fills) × (is_drafting v.source ≡ false)
MayStep v (Raise s w a l) = (v.seat ≡ In s w a l Sets) × (is_drafting v.source ≡ false)
MayStep v (Give s w a l x) = (v.seat ≡ In s w a l Rests) × IsThrough w a × (x ≢ 0) × (is_drafting v.source ≡ false) × (v.part.calling ≢ Idle)
MayStep v (Count s w a l) = (v.seat ≡ In s w a l Rests) × IsThrough w a × (s < cpus) × (w.kind ≡ One → v.part.calling ≢ Idle)
MayStep v (CountGiven s w a x) = (v.seat ≡ Gives s w a x) × (s < cpus)
MayStep v (Close s) = (v.seat ≡ Closes s) × (is_drafting v.source ≡ false)
MayStep v (LookDone w) = v.source ≡ Owns w
MayStep v (Collect w) = v.source ≡ Collects w
MayStep v (ReadKey k) = irq_of v.seat ≡ true
MayStep v (ReadSite i) = irq_of v.seat ≡ true
MayStep v (Nudge k found new) = (irq_of v.seat ≡ true) × (has v.setting.online v.number ≡ true) × (k < MOST_KEYS) × IsNudge found new
MayStep v (BeginPatch s w) = (v.seat ≡ In s w DISABLE_IRQ RUN Rests) × (w.kind ≡ Patch) × (has w.active v.number ≡ true)
MayStep v (Alter s w count made change rest) = (v.seat ≡ Alters s w count made (change ∷ rest)) × (plan_at (setup_in v.setting) w count ≡ made ++ change ∷ rest)
    × (w.func < MOST_KEYS)
MayStep v (LoadArg s w a l) = v.seat ≡ In s w a l Rests
MayStep v (LoadField s w a l f) = IsPlain f × (v.seat ≡ In s w a l Rests)
MayStep v (LoadEntry s w count made rest i) = v.seat ≡ Alters s w count made rest

-- its access
abbrev pub known_access : KnownStops → Move → Access
known_access v TakeGate = Exchange Gate 0 (v.number + 1)
known_access v OpenGate = Store Gate 0
known_access v (Draft w) = Store (Slot v.number Field.Kind) (begun_value cpus w Field.Kind)
known_access v (DraftMore w f) = Store (Slot v.number f) (begun_value cpus w f)
known_access v (Open w) = Store (Slot v.number Field.Roll) w.mask
known_access v (Enter s) = And (Slot s Field.Roll) (all_but v.number)
known_access v (Look s w a l) = Load (Slot s Field.State)
known_access v (Acknowledge s w a) = Sub (Slot s Field.Ack)
known_access v (AcknowledgePatch s w count made) = Sub (Slot s Field.Ack)
known_access v (Refill s w a l) = Store (Slot s Field.Ack) (mask_weight cpus w.mask)
known_access v (Raise s w a l) = Store (Slot s Field.State) (a + 1)
known_access v (Give s w a l x) = Store (Slot s Field.Result) x
known_access v (Count s w a l) = Sub (Slot s Field.Todo)
known_access v (CountGiven s w a x) = Sub (Slot s Field.Todo)
known_access v (Close s) = Store (Slot s Field.Done) 1
known_access v (LookDone w) = Load (Slot v.number Field.Done)
known_access v (Collect w) = Load (Slot v.number Field.Result)
known_access v (ReadKey k) = Load (Key k)
known_access v (ReadSite i) = Load (Site i)
known_access v (Nudge k found new) = Exchange (Key k) found new
known_access v (BeginPatch s w) = Load (Key w.func)
known_access v (Alter s w count made change rest) = store_of change
known_access v (LoadArg s w a l) = Load (Slot s Field.Arg)
known_access v (LoadField s w a l f) = Load (Slot s f)
known_access v (LoadEntry s w count made rest i) = Load (Entry i)

-- the work of a stop that is entered at this word
abbrev pub entering : StopState → Word → Work
entering p (Slot s f) = (p.now.stop s).work
entering p _ = no_work

-- a CPU that knows this may make this access
pub record Can (v : KnownStops) (access : Access) : Type 0 where
  pub move : Move
  pub may : MayStep v move
  pub is_access : known_access v move ≡ access

-- at first, and after each step that a CPU may make by what it knows, each CPU knows its part of stops that the words show
abbrev pub NothingIsKnown : Type 0
NothingIsKnown = (k : StopSetting) (me : ℕ) → me < cpus → Sees no_stops (λ _. Free) (λ _. Shut) (fresh k me)

abbrev pub MovesAreKnown : Type 0
MovesAreKnown = (p : StopState) (at : Word → ℕ) (seat : ℕ → StopRole) (source : ℕ → Source) (v : KnownStops) → StopShows (setup_in v.setting) p at seat source →
    Sees p seat source v →
    (m : Move) → MayStep v m →
    let access = known_access v m in
    let seen = seen_of v.number access (at (word_of access)) None in
    GoesOnBy v.setting p seat source v.number (at_after at access) (known_entering (entering p (word_of access)) v seen.act seen.word seen.found seen.put)
    seen
