-- Each refusal of a command of the stop half is that of the state of the stops.
use Rattle.std.proofs.Common.{◌≡◌, ◌≢◌, ℕ, ◌+◌, ◌<◌, Bool, true, false, ◌&&◌, nat_lt, lt-ltb, sym, subst, ap, ◌∙◌, arith, Option, Some, None, eq-eqb}
use Rattle.std.proofs.Common.{ne_eqb}
use Rattle.std.proofs.{lemmas.Bool.ltb-true, lemmas.List.length-map}
use Rattle.smp_stop_steps.specs.{SmpError, cpus, Command, Kind, One, Work, Gate, Members.BeginRefuses, IsRefusal, MayAdvance, MayEnter, MayFinish, MayRun}
use Rattle.smp_words.specs.Commands.{Refuses}
use Rattle.smp_stop_steps.specs.{RefusesByState, RoleStands, gate_word, OwnsIf, SitsAt, SitsAtRest, SourceSits, StopControlValue, begin_refusal, has_slot}
use Rattle.smp_stop_steps.specs.{is_free, may_advance, may_finish, may_run, refusal_on, terms_of, unless, Setup, StopState, Inside, stop_number, is_one}
use Rattle.smp_stop_steps.specs.{StopsValue, StopShown, setup_of, stop_control_of, StopStage, Visit, declared.start.Terms.Terms}
use Rattle.smp_stop_steps.proofs.TheMachine.Fits.{both, is_one_kind, is_same, ne_false, not_one, not_true, of_both}
use Rattle.smp_stop_steps.proofs.TheMachine.Members.{refuses_members}
use Rattle.smp_stop_steps.proofs.{State.Gates.gate_mine, State.Phases.is_open_inside, State.Phases.keeps_inside, Steps.Completions.one_phase}
use Rattle.smp_stop_steps.specs.error

-- a test that says when a command may start
refuses : (b : Bool) (e : SmpError) (may : Type 0) → (b ≡ true → may) → (b ≡ false → may → ⊥) → Refuses may e (unless b e)
refuses b e may is otherwise = search arith

false_true : (b : Bool) → b ≡ false → b ≡ true → ⊥
false_true b f t = cc

-- the same of a test and a fact that are equal
refuses_flag : (b x : Bool) (e : SmpError) → b ≡ x → Refuses (x ≡ true) e (unless b e)
refuses_flag b x e same = refuses b e (x ≡ true) (λ t. sym same ∙ t) (λ f t. false_true b f (same ∙ t))

one_false : (k : Kind) → k ≢ One → is_one k ≡ false
one_false k ne = search arith

-- between two commands a CPU is in the stop of its visit, at the phase that it has acknowledged
record IsAt (p : StopState) (me : ℕ) (w : Visit) : Type 0 where
  inside : p.now.inside me ≡ Some w.slot
  stands : (p.now.stop w.slot).standing me ≡ Inside w.acked w.acked
  kind : (p.now.stop w.slot).work.kind ≡ w.kind

module _ (v : StopsValue) (p : StopState) (shown : StopShown p v) (me : ℕ) (low : me < cpus) (idle : (stop_control_of v.controls me).stage ≡ None) where
  abbrev u : Setup
  u = setup_of v.online v.labels

  abbrev t : Terms
  t = terms_of v me

  abbrev c : StopControlValue
  c = stop_control_of v.controls me

  irq : c.interrupts ≡ p.now.irq me
  irq = (shown.sits me low).irq ∙ sym (shown.shows.present.irq me)

  own_is : (b : Bool) → OwnsIf b (shown.source me) → (p.now.stop me).is_open ≡ b
  own_is b y = search (v.table, shown.shows.sources, arith)

  open_is : c.is_open ≡ (p.now.stop me).is_open
  open_is = sym (own_is c.is_open (subst (λ (x : Option StopStage). SourceSits c.is_open x (shown.source me)) idle (shown.sits me low).source))

  holds : t.holds_gate ≡ true → p.gate ≡ Some me
  holds e = gate_mine me p.gate (sym shown.shows.gate ∙ is_same (stop_number v.table Gate) (me + 1) e)

  held : p.gate ≡ Some me → t.holds_gate ≡ true
  held e = eq-eqb (stop_number v.table Gate) (me + 1) (shown.shows.gate ∙ ap gate_word e)

  rests : SitsAtRest c.visit (shown.seat me)
  rests = subst (λ (x : Option StopStage). SitsAt u me c x (shown.seat me)) idle (shown.sits me low).seat

  visits : (w : Visit) → c.visit ≡ Some w → IsAt p me w
  visits w e = search (shown.seat, rests, w.acked, shown.shows.present.stands, arith)

  outside : c.visit ≡ None → p.now.inside me ≡ None
  outside e = subst (RoleStands p.now me) (subst (λ o. SitsAtRest o (shown.seat me)) e rests) (shown.shows.present.stands me)

  not_both : c.visit ≡ None → (s : ℕ) → p.now.inside me ≡ Some s → ⊥
  not_both e s is = let bad : None ≡ Some s = sym (outside e) ∙ is in cc

  -- nobody acknowledges a phase in a stop of kind One
  none_acked : (w : Visit) → IsAt p me w → w.kind ≡ One → w.acked ≡ 0
  none_acked w h1 one = search (shown.shows.present.slots, v.table, is_open_inside, w.acked, one_phase, keeps_inside, arith)

  enters : (slot : ℕ) (o : Option Visit) → c.visit ≡ o → Refuses (MayEnter v.nr p me slot) error.Stale (unless (is_free o && has_slot v.nr slot) error.Stale)
  enters slot o e = search (refuses, both, nat_lt, outside, ltb-true, false_true, of_both, lt-ltb, visits, arith)

  -- what is so in the stop that the CPU is in is so in that of its visit
  same_slot : (w : Visit) → IsAt p me w → (s : ℕ) → p.now.inside me ≡ Some s → s ≡ w.slot
  same_slot w at s is = cc

  advances : (o : Option Visit) → c.visit ≡ o → Refuses (MayAdvance p me) error.BadArgument (unless (may_advance o) error.BadArgument)
  advances o e = search (not_both, visits, refuses, both, not_one, not_true, ne_false, same_slot, false_true, of_both, one_false, ne_eqb, arith)

  runs : (o : Option Visit) → c.visit ≡ o → Refuses (MayRun p me) error.BadArgument (unless (may_run o) error.BadArgument)
  runs o e = search (not_both, visits, refuses, is_one_kind, false_true, same_slot, arith)

  finishes : (o : Option Visit) → c.visit ≡ o → Refuses (MayFinish p me) error.BadArgument (unless (may_finish o) error.BadArgument)
  finishes o e = search (not_both, visits, refuses, none_acked, is_same, false_true, eq-eqb, same_slot, arith)

  begins : (work : Work) (b : Bool) → b ≡ (p.now.stop me).is_open
      → BeginRefuses (p.gate ≡ Some me) u.online u.keys work (p.now.stop me).is_open (begin_refusal t work b)
  begins work b is = subst (λ (x : Bool). BeginRefuses (p.gate ≡ Some me) u.online u.keys work x (begin_refusal t work b)) is
      (refuses_members t work shown.shows.setup.below u.first shown.shows.setup.first (p.gate ≡ Some me) holds held b)

  reads : (n limit : ℕ) → Refuses ((p.now.irq me ≡ true) × (n < limit)) error.BadArgument (unless (c.interrupts && nat_lt n limit) error.BadArgument)
  reads n limit = search (refuses, nat_lt, both, c.interrupts, irq, ltb-true, false_true, of_both, lt-ltb, arith)

  pub is_refusal : (x : Command) → IsRefusal u v.nr p me x (refusal_on t c x)
  is_refusal x =
      search (refuses_flag, irq, refuses, holds, false_true, held, open_is, begins, enters, advances, runs, finishes, reads, nat_lt, length-map, arith)

pub refuses_by_state : (v : StopsValue) (p : StopState) → StopShown p v → RefusesByState v p
refuses_by_state v p shown cpu low idle x = is_refusal v p shown cpu low idle x
