-- Who may make which step of the stop half: what holds of the stops before it.
use Rattle.std.specs.Prelude.{◌≡◌, ◌≢◌, ◌⊎◌, ℕ, ◌+◌, Bool, true, false, Option, Some, None}
use Rattle.smp_stop_steps.specs.Names.{has, Field, Act, Word, Gate, Slot, Key, Entry, Site, DISABLE_IRQ, RUN}
use Rattle.smp_stop_steps.specs.Stop.{Stop, Inside, Called, Refills, Raises, Last, acked}
use Rattle.smp_stop_steps.specs.{Callings.HasCompleted, Laws.IsThrough, State.StopState}

abbrev pub AllAcknowledged : Stop → Type 0
AllAcknowledged stop = (c : ℕ) → has stop.work.mask c ≡ true → acked (stop.standing c) ≡ stop.phase

abbrev pub AllCompleted : Stop → Type 0
AllCompleted stop = (c : ℕ) → has stop.work.mask c ≡ true → HasCompleted (stop.standing c)

-- it has looked at the phase, which is new to it
abbrev pub IsToAcknowledge : Stop → ℕ → Type 0
IsToAcknowledge stop me = (a : ℕ) × (stop.standing me ≡ Inside a (a + 1)) × (stop.phase ≡ a + 1)

-- a store to the slot of an open stop: refill and raise, an answer, and done
abbrev pub MayStore : StopState → ℕ → ℕ → Field → ℕ → Type 0
MayStore p me s Field.Ack n = (p.now.stop s).raising ≡ Refills me
MayStore p me s Field.State n = ((p.now.stop s).raising ≡ Raises me) × (n ≡ (p.now.stop s).phase + 1) × AllAcknowledged (p.now.stop s)
MayStore p me s Field.Result n = (p.now.inside me ≡ Some s) × IsThrough (p.now.stop s) me (acked ((p.now.stop s).standing me))
MayStore p me s Field.Done n = (n ≡ 1) × ((p.now.stop s).ending ≡ Last me)
MayStore p me s _ n = ⊥

-- any other store of a slot is one of begin, by its source, which holds the gate while its stop is not open
abbrev pub MayStoreIf : Bool → StopState → ℕ → ℕ → Field → ℕ → Type 0
MayStoreIf true p me s f n = MayStore p me s f n
MayStoreIf false p me s f n = (s ≡ me) × (p.gate ≡ Some me)

-- a load of a slot: of done and of the result by the source of an open stop, of all else by a CPU in it
abbrev pub MayLoad : StopState → ℕ → ℕ → Field → Type 0
MayLoad p me s Field.Done = (s ≡ me) × ((p.now.stop s).is_open ≡ true)
MayLoad p me s Field.Result = (s ≡ me) × ((p.now.stop s).is_open ≡ true) × AllCompleted (p.now.stop s)
MayLoad p me s f = p.now.inside me ≡ Some s

-- it has looked at RUN in a stop, and not acknowledged it
abbrev pub IsAtRun : StopState → ℕ → Type 0
IsAtRun p me = (s : ℕ) × (p.now.inside me ≡ Some s) × ((p.now.stop s).standing me ≡ Inside DISABLE_IRQ RUN)

-- a load of a key or a site: with interrupts on, or in the function of a patch
abbrev pub MayRead : StopState → ℕ → Type 0
MayRead p me = (p.now.irq me ≡ true) ⊎ IsAtRun p me

-- what holds before a step that is seen so; there is no other step
abbrev pub MaySee : StopState → ℕ → Act → Word → Option ℕ → Option ℕ → Type 0
MaySee p me Act.Cas Gate found (Some n) = p.gate ≡ None
MaySee p me Act.Cas Gate found None = p.gate ≢ None
MaySee p me Act.Store Gate found put = p.gate ≡ Some me
MaySee p me Act.Store (Slot s f) found (Some n) = MayStoreIf (p.now.stop s).is_open p me s f n
MaySee p me Act.And (Slot s Field.Roll) (Some found) put = has found me ≡ true → (p.now.inside me ≡ None) × ((p.now.stop s).standing me ≡ Called)
MaySee p me Act.Load (Slot s f) found put = MayLoad p me s f
MaySee p me Act.Sub (Slot s Field.Ack) found put = (p.now.inside me ≡ Some s) × IsToAcknowledge (p.now.stop s) me
MaySee p me Act.Sub (Slot s Field.Todo) found put = (p.now.inside me ≡ Some s) × IsThrough (p.now.stop s) me (acked ((p.now.stop s).standing me))
MaySee p me Act.Load (Key k) found put = MayRead p me
MaySee p me Act.Load (Site i) found put = MayRead p me
MaySee p me Act.Load (Entry i) found put = IsAtRun p me
MaySee p me Act.Store (Key k) found put = IsAtRun p me
MaySee p me Act.Store (Site i) found put = IsAtRun p me
MaySee p me Act.Cas (Key k) found put = p.now.irq me ≡ true
MaySee p me _ w found put = ⊥
