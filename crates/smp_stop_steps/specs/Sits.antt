-- Which seat and which source a CPU's stage means.
use Rattle.std.specs.Prelude.{◌≡◌, ◌≢◌, ◌⊎◌, ℕ, ◌+◌, ◌<◌, ◌≤◌, Bool, true, false, Option, Some, None, List, [], ◌++◌, length, take}
use Rattle.smp_stop_steps.specs.Names.{has, is_on, change_of, IsKeyWord, patch_of, MOST_SITES, CompletionStage, RoundStage, StopStage, OpenGate}
use Rattle.smp_stop_steps.specs.Names.{Begin, Enter, EnterKind, EnterMask, EnterActive, Advance, Complete, Close, LoadDone, LoadResult, NudgeKey, ExchangeKey}
use Rattle.smp_stop_steps.specs.Names.{Visit, One, Multi, Patch, Work, DISABLE_IRQ, RUN, EXIT}
use Rattle.smp_stop_steps.specs.Seats.{StopRole, Free, In, Gives, Alters, Closes, Duty, Rests, Fills, Sets, irq_of}
use Rattle.smp_stop_steps.specs.Sources.{Source, Shut, Drafts, Owns, Collects}
use Rattle.smp_stop_steps.specs.{Labels.Change, Labels.count_set, Labels.patch_answer, Tells.plan_at, Slots.order, State.Setup, Stages.StopControlValue}
use Rattle.smp_stop_steps.specs.{declared.stage.StopStage.TheVariants.ReadKey, declared.stage.StopStage.TheVariants.ReadSite}

-- what a visit has loaded of its work
pub record IsLoaded (v : Visit) (work : Work) : Type 0 where
  pub kind : v.kind ≡ work.kind
  pub mask : v.mask ≡ work.mask
  pub active : v.active ≡ work.active

-- the CPU is in the stop of its visit, at these phases
abbrev pub SitsIn : Visit → ℕ → Duty → StopRole → Type 0
SitsIn v looked t x = (work : Work) × IsLoaded v work × (x ≡ In v.slot work v.acked looked t)

-- between two turns
abbrev pub SitsAtRest : Option Visit → StopRole → Type 0
SitsAtRest None x = x ≡ Free
SitsAtRest (Some v) x = SitsIn v v.acked Rests x

-- it has looked at RUN and is to call a function
abbrev pub SitsAtRun : ℕ → Visit → Work → StopRole → Type 0
SitsAtRun me v work x = IsLoaded v work × (v.acked ≡ DISABLE_IRQ) × (has v.active me ≡ true) × (x ≡ In v.slot work DISABLE_IRQ RUN Rests)

-- it makes a patch of a key that it found at this count
abbrev pub SitsAtPatch : Setup → Visit → Work → ℕ → List Change → StopRole → Type 0
SitsAtPatch u v work count made x = IsLoaded v work × (v.acked ≡ DISABLE_IRQ) × (x ≡ Alters v.slot work count made (plan_at u work count))

-- with this many entries loaded
abbrev pub changes_of : Setup → Work → ℕ → ℕ → List Change
changes_of u work word site = patch_of work.func word (take site u.entries)

-- a number that may be exchanged for a key's: one more or one less, with which the key is on or off as before
pub record IsNudge (found new : ℕ) : Type 0 where
  pub one : (new ≡ found + 1) ⊎ (found ≡ new + 1)
  pub same : is_on new ≡ is_on found
  pub word : IsKeyWord new

-- it loads the entries of such a patch, which turns the key on or off
pub record SitsAtEntry (u : Setup) (v : Visit) (work : Work) (key word : ℕ) (x : StopRole) : Type 0 where
  pub count : ℕ
  pub patch : SitsAtPatch u v work count [] x
  pub key_is : key ≡ work.func
  pub word_is : word ≡ count_set work count
  pub sites : plan_at u work count ≡ patch_of work.func word u.entries

-- it acknowledges: RUN with the function of its Multi stop called where it is active, else with none
abbrev pub RunsIf : ℕ → Visit → Bool → Type 0
RunsIf me v true = (v.acked ≡ DISABLE_IRQ) × (v.kind ≡ Multi) × (has v.active me ≡ true)
RunsIf me v false = v.acked ≡ DISABLE_IRQ → has v.active me ≡ false

-- it has acknowledged, and is to set the next phase: with RUN it has run where it is active
pub record HasRunIf (me : ℕ) (v : Visit) (ran : Bool) : Type 0 where
  pub at_run : ran ≡ true → v.acked ≡ RUN
  pub active : v.acked ≡ RUN → has v.active me ≡ ran

abbrev pub SitsInRound : Setup → ℕ → List Change → Visit → RoundStage → StopRole → Type 0
SitsInRound u me changes v (RoundStage.Look answer) x = (v.kind ≢ One) × (v.acked ≢ EXIT) × SitsIn v v.acked Rests x
SitsInRound u me changes v (RoundStage.LoadFunc answer) x = (v.kind ≢ One) × ((work : Work) × SitsAtRun me v work x)
SitsInRound u me changes v (RoundStage.LoadArg answer func) x = (v.kind ≢ One) × ((work : Work) × SitsAtRun me v work x × (func ≡ work.func))
SitsInRound u me changes v (RoundStage.LoadKey key change) x =
    (v.kind ≡ Patch) × ((work : Work) × SitsAtRun me v work x × (key ≡ work.func) × (change ≡ change_of work.arg))
SitsInRound u me changes v (RoundStage.LoadEntry key word site) x =
    (work : Work) × SitsAtEntry u v work key word x × (site ≤ length u.entries) × (site < MOST_SITES) × (changes ≡ changes_of u work word site)
SitsInRound u me changes v (RoundStage.StoreChange made) x =
    (work : Work) × (count : ℕ) × IsLoaded v work × (v.acked ≡ DISABLE_IRQ) × (made < length changes) × (changes ≡ plan_at u work count) ×
    ((before after : List Change) × (changes ≡ before ++ after) × (length before ≡ made) × (x ≡ Alters v.slot work count before after))
SitsInRound u me changes v (RoundStage.Acknowledge answer ran) x = (work : Work) × IsLoaded v work × (v.acked ≤ RUN) ×
    (((x ≡ In v.slot work v.acked (v.acked + 1) Rests) × RunsIf me v ran) ⊎
    ((v.acked ≡ DISABLE_IRQ) × (ran ≡ true) × ((count : ℕ) × (answer ≡ patch_answer work count) × (x ≡ Alters v.slot work count (plan_at u work count) []))))
SitsInRound u me changes v (RoundStage.Refill ran) x = (work : Work) × IsLoaded v work × (x ≡ In v.slot work v.acked v.acked Fills) × HasRunIf me v ran
SitsInRound u me changes v (RoundStage.Raise ran) x = (work : Work) × IsLoaded v work × (x ≡ In v.slot work v.acked v.acked Sets) × HasRunIf me v ran

-- it is through all phases, or in a stop of kind One
abbrev pub IsThroughAll : Visit → Type 0
IsThroughAll v = (v.acked ≡ EXIT) ⊎ (v.kind ≡ One)

abbrev pub SitsInCompletion : Visit → CompletionStage → StopRole → Type 0
SitsInCompletion v CompletionStage.CountDown x =
    (work : Work) × (((v.answer ≡ 0) × IsLoaded v work × IsThroughAll v × (x ≡ In v.slot work v.acked v.acked Rests)) ⊎
    (x ≡ Gives v.slot work v.acked v.answer))
SitsInCompletion v CompletionStage.StoreAnswer x = (v.answer ≢ 0) × IsThroughAll v × SitsIn v v.acked Rests x
SitsInCompletion v (CompletionStage.LoadFunc answer) x = (v.kind ≡ One) × SitsIn v v.acked Rests x
SitsInCompletion v (CompletionStage.LoadArg answer func) x =
    (v.kind ≡ One) × ((work : Work) × IsLoaded v work × (x ≡ In v.slot work v.acked v.acked Rests) × (func ≡ work.func))

-- its seat at this stage
abbrev pub SitsAt : Setup → ℕ → StopControlValue → Option StopStage → StopRole → Type 0
SitsAt u me c (Some (Enter slot)) x = (c.visit ≡ None) × (x ≡ Free) × (slot < u.cpus)
SitsAt u me c (Some (EnterKind slot)) x = (work : Work) × (x ≡ In slot work 0 0 Rests)
SitsAt u me c (Some (EnterMask slot kind)) x = (work : Work) × (x ≡ In slot work 0 0 Rests) × (kind ≡ work.kind)
SitsAt u me c (Some (EnterActive slot kind mask)) x = (work : Work) × (x ≡ In slot work 0 0 Rests) × (kind ≡ work.kind) × (mask ≡ work.mask)
SitsAt u me c (Some (Advance v stage)) x = (c.visit ≡ Some v) × SitsInRound u me c.changes v stage x
SitsAt u me c (Some (Complete v stage)) x = (c.visit ≡ Some v) × SitsInCompletion v stage x
SitsAt u me c (Some (Close slot)) x = (c.visit ≡ None) × (x ≡ Closes slot)
SitsAt u me c (Some (ReadKey k)) x = (c.interrupts ≡ true) × (k < u.keys) × SitsAtRest c.visit x
SitsAt u me c (Some (ReadSite i)) x = (c.interrupts ≡ true) × (i < length u.entries) × SitsAtRest c.visit x
SitsAt u me c (Some (NudgeKey k up)) x = (c.interrupts ≡ true) × (u.online me ≡ true) × (k < u.keys) × SitsAtRest c.visit x
SitsAt u me c (Some (ExchangeKey k expected new)) x = (c.interrupts ≡ true) × (u.online me ≡ true) × (k < u.keys) × IsNudge expected new × SitsAtRest c.visit x
SitsAt u me c _ x = SitsAtRest c.visit x

-- a source whose stop is open or not
abbrev pub OwnsIf : Bool → Source → Type 0
OwnsIf true y = (work : Work) × (y ≡ Owns work)
OwnsIf false y = y ≡ Shut

-- its source at this stage
abbrev pub SourceSits : Bool → Option StopStage → Source → Type 0
SourceSits is_open (Some (Begin work f)) y = (is_open ≡ false) × (y ≡ Drafts work (order f))
SourceSits is_open (Some LoadDone) y = (is_open ≡ true) × ((work : Work) × (y ≡ Owns work))
SourceSits is_open (Some LoadResult) y = (is_open ≡ true) × ((work : Work) × (y ≡ Collects work))
SourceSits is_open _ y = OwnsIf is_open y

-- who gives up the gate holds it; gate is the number in its word
abbrev pub HoldsGate : ℕ → ℕ → Option StopStage → Type 0
HoldsGate me gate (Some OpenGate) = gate ≡ me + 1
HoldsGate me gate _ = Unit {0}

pub record ControlFits (u : Setup) (me gate : ℕ) (c : StopControlValue) (x : StopRole) (y : Source) : Type 0 where
  pub below : me < u.cpus
  pub irq : c.interrupts ≡ irq_of x
  pub seat : SitsAt u me c c.stage x
  pub source : SourceSits c.is_open c.stage y
  pub gate_held : HoldsGate me gate c.stage
