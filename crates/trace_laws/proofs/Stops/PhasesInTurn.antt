-- CPUs acknowledge and raise phases in turn, turn interrupts off at DISABLE_IRQ, and turn them on once they have acknowledged EXIT.
use Rattle.trace_laws.proofs.Names.{Bool, Err, Event, Kind, List, None, Ok, One, Option, Seen, Setting, Some, StateValue, Task, acked_by, acks_disabled, ap}
use Rattle.trace_laws.proofs.Names.{arith, at_phase, cases_lt, cpu_at, false, handles_nothing, has, if◌then◌else◌, in_round, inl, inr, inside_goes, is_some}
use Rattle.trace_laws.proofs.Names.{may_off, off_by, on_by, refl, seen, stop_at, stop_goes, sym, through, true, with_irq, work, ℕ, ◌+◌, ◌-◌, ◌<◌, ◌>>=◌, ◌∙◌}
use Rattle.trace_laws.proofs.Names.{◌≡◌, ◌≢◌, ◌≤◌}
use Rattle.trace_model.specs.declared.event.StopEvent.TheVariants as stops
use Rattle.trace_model.specs.declared.reason.Reason.TheVariants as reason
use Rattle.trace_laws.proofs.Calls.MadeSteps.{both_made, failed, low_event, passed}
use Rattle.trace_laws.proofs.Stops.CpusInStops.{Rounds, is_round}
use Rattle.trace_laws.proofs.Stops.StopEvents.{acts_at, in_round_is, through_is}
use Rattle.trace_laws.proofs.Stops.ToldPhases.{TraceTold, ack_is, here_is, raise_is, told_before}
use Rattle.smp_words.specs.declared.phase.TheConstants.{DISABLE_IRQ}
use Rattle.trace_laws.specs.Phases.{AcksAreInTurn, MayAck, MayRaise, MaySwitch, OffsAreAtPrepare, OnsAreAtExit, RaisesAreInTurn}

no_round : (kind : Kind) → is_round kind ≡ true → kind ≢ One
no_round kind round one = search arith

-- each CPU of the mask has acknowledged the phase before that which the stop is at
reached : (views : ℕ → Seen) (works : ℕ → Option Task) (s : StateValue) (number member phase : ℕ) → Rounds views works s → number < 64
    → is_round (stop_at s number).task.kind ≡ true → (stop_at s number).phase ≡ phase → member < 32 → has (stop_at s number).task.mask member ≡ true
    → phase ≤ acked_by (stop_at s number) member + 1
reached views works s number member phase r low round at below in_mask = elim (cases_lt phase 2) [
  | inl early ↦ omega arith
  | inr late ↦ (let a = (r.at number low member below).all round in_mask (omega arith) in omega arith)
]

-- interrupts are off, where switches are told
disabled_so : (switches : Bool) (cpu : ℕ) (s : StateValue) → acks_disabled switches cpu s ≡ Ok tt → switches ≡ false → (cpu_at s cpu).irq ≡ false
disabled_so switches cpu s e told = search arith

-- an event that acknowledges a phase finds what the events tell
may_ack_it : (u : Setting) (es : List (ℕ × Event)) (cpu phase : ℕ) (s t : StateValue) → TraceTold u es s → stop_goes cpu (stops.Ack phase) s ≡ Ok t
    → MayAck u es cpu phase
unfolding stop_goes inside_goes
may_ack_it u es cpu phase s t h e =
    let low = low_event cpu _ t e in
    let a = ack_is (λ c. seen c es) (λ n. work n es) s t cpu phase h.rounds low.1 in
    let number = a.number in
    let stop = stop_at s number in
    let i = here_is u es s number cpu h a.here.low low.0 a.here.inside in
    let up = λ (member : ℕ) (below : member < 32) (m : has stop.task.mask member ≡ true).
    reached (λ c. seen c es) (λ n. work n es) s number member phase h.rounds a.here.low a.here.round a.at below m in
    record {
      number = number;
      task = stop.task;
      inside = i.inside;
      opened = i.opened;
      round = no_round stop.task.kind a.here.round;
      next = let x = up cpu low.0 i.member in let y = i.acks cpu low.0 in let z = a.more in omega arith;
      all = λ member below m. let x = up member below m in let y = i.acks member below in omega arith;
      raised = λ told. (h.told.each number a.here.low).phase_is (ap (λ x. x.without.raises) h.setting_is ∙ told) a.here.round ∙ a.at;
      disabled = λ two told.
          let off = disabled_so s.setting.without.switches cpu s (a.disabled two) (ap (λ x. x.without.switches) h.setting_is ∙ told) in
          sym (i.irq told) ∙ off;
      ran = λ three kind active. sym i.ran ∙ a.ran three kind active;
    }

pub acks_are_in_turn : AcksAreInTurn
acks_are_in_turn u words es t cpu phase run =
    let b = told_before u words es t cpu (stops.Ack phase) run in may_ack_it u es cpu phase b.0 t b.1.0 b.1.1

-- raises are told where one is to raise
are_told : (left_out : Bool) (raiser : Option ℕ) (cpu : ℕ) → (left_out ≡ true → raiser ≡ None) → raiser ≡ Some cpu → left_out ≡ false
are_told left_out raiser cpu nobody is = search arith

-- and so does one that raises a phase
may_raise_it : (u : Setting) (es : List (ℕ × Event)) (cpu phase : ℕ) (s t : StateValue) → TraceTold u es s → stop_goes cpu (stops.Raise phase) s ≡ Ok t
    → MayRaise es cpu phase
unfolding stop_goes inside_goes
may_raise_it u es cpu phase s t h e =
    let low = low_event cpu _ t e in
    let a = raise_is s t cpu phase low.1 in
    let number = a.number in
    let stop = stop_at s number in
    let i = here_is u es s number cpu h a.here.low low.0 a.here.inside in
    let told = h.told.each number a.here.low in
    let mine = told.raiser_is cpu a.raiser in
    let w = h.rounds.at number a.here.low cpu low.0 in
    let some : is_some stop.raiser ≡ true = rw a.raiser refl in
    let at : stop.phase ≡ phase - 1 = a.at in
    record {
      number = number;
      task = stop.task;
      inside = i.inside;
      opened = i.opened;
      round = no_round stop.task.kind a.here.round;
      next = let x = i.acks cpu low.0 in omega (arith, mine.acked, mine.some);
      all = λ member below m. let x = i.acks member below in let y = (h.rounds.at number a.here.low member below).last some m in omega arith;
      once = let x = told.phase_is (are_told s.setting.without.raises stop.raiser cpu w.nobody a.raiser) a.here.round in omega (arith, mine.some);
      last = mine.last;
    }

pub raises_are_in_turn : RaisesAreInTurn
raises_are_in_turn u words es t cpu phase run =
    let b = told_before u words es t cpu (stops.Raise phase) run in may_raise_it u es cpu phase b.0 t b.1.0 b.1.1

-- an event that turns interrupts off finds DISABLE_IRQ
off_it : (u : Setting) (es : List (ℕ × Event)) (cpu : ℕ) (s t : StateValue) → TraceTold u es s → stop_goes cpu stops.Off s ≡ Ok t
    → MaySwitch es cpu (λ phase. phase ≡ 1)
unfolding stop_goes inside_goes off_by
off_it u es cpu s t h e =
    let low = low_event cpu _ t e in
    let m = both_made (in_round cpu s) (λ number. may_off cpu number s >>= λ x. Ok (with_irq cpu false s)) t low.1 in
    let number = m.0 in
    let stop = stop_at s number in
    let here = in_round_is s cpu number m.1.0 in
    let n = both_made (may_off cpu number s) (λ x. Ok (with_irq cpu false s)) t m.1.1 in
    let p = passed (cpu_at s cpu).irq (at_phase stop cpu DISABLE_IRQ >>= λ x. handles_nothing (cpu_at s cpu)) reason.InterruptsOff n.0 n.1.0 in
    let k = both_made (at_phase stop cpu DISABLE_IRQ) (λ x. handles_nothing (cpu_at s cpu)) n.0 p.1 in
    let a = acts_at stop cpu DISABLE_IRQ k.0 k.1.0 in
    let i = here_is u es s number cpu h here.low low.0 here.inside in
    let up = reached (λ c. seen c es) (λ n. work n es) s number cpu DISABLE_IRQ h.rounds here.low here.round a.1 low.0 i.member in
    record {
      number = number;
      task = stop.task;
      inside = i.inside;
      opened = i.opened;
      round = no_round stop.task.kind here.round;
      at = let x = i.acks cpu low.0 in omega (arith, a.0);
    }

pub offs_are_at_prepare : OffsAreAtPrepare
offs_are_at_prepare u words es t cpu run = let b = told_before u words es t cpu stops.Off run in off_it u es cpu b.0 t b.1.0 b.1.1

-- and one that turns them on finds EXIT acknowledged
on_it : (u : Setting) (es : List (ℕ × Event)) (cpu : ℕ) (s t : StateValue) → TraceTold u es s → stop_goes cpu stops.On s ≡ Ok t
    → MaySwitch es cpu (λ phase. 4 ≤ phase)
unfolding stop_goes inside_goes on_by
on_it u es cpu s t h e =
    let low = low_event cpu _ t e in
    let next = λ (number : ℕ). through (stop_at s number) cpu >>= λ x. Ok (with_irq cpu true s) in
    let m = both_made (in_round cpu s) (λ number. if (cpu_at s cpu).irq then Err reason.InterruptsOn else next number) t low.1 in
    let number = m.0 in
    let stop = stop_at s number in
    let here = in_round_is s cpu number m.1.0 in
    let p = failed (cpu_at s cpu).irq (next number) reason.InterruptsOn t m.1.1 in
    let n = both_made (through stop cpu) (λ x. Ok (with_irq cpu true s)) t p.1 in
    let past = through_is stop cpu n.0 n.1.0 in
    let i = here_is u es s number cpu h here.low low.0 here.inside in
    record {
      number = number;
      task = stop.task;
      inside = i.inside;
      opened = i.opened;
      round = no_round stop.task.kind here.round;
      at = let x = i.acks cpu low.0 in omega arith;
    }

pub ons_are_at_exit : OnsAreAtExit
ons_are_at_exit u words es t cpu run = let b = told_before u words es t cpu stops.On run in on_it u es cpu b.0 t b.1.0 b.1.1
