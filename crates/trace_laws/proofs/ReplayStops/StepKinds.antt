-- Each kind of step on the stops is accepted.
use Rattle.trace_laws.proofs.Names.{arith, Bool, Event, List, None, Option, Some, StateValue, [], ap, cases_eq, cpu_at, false, goes, has, has_run, inl, inr}
use Rattle.trace_laws.proofs.Names.{pos, refl, slice_set, stop_at, stop_goes, subst, sym, true, ℕ, ◌<◌, ◌∙◌, ◌∷◌, ◌≡◌, ◌≢◌}
use Rattle.trace_laws.proofs.ReplayNames.{AnswerIs, Calling, CpuIs, Free, Idle, Inside, InsideIs, IsCalling, Key, MadeIs, MemberIs, Past, Patch}
use Rattle.trace_laws.proofs.ReplayNames.{PhaseIs, Site, Standing, Stop, StopIs, StopState, ToldStop, Word, cpus, has_called, past_at, put, put_same, raiser_of}
use Rattle.trace_model.specs.declared.event.Event.TheVariants as event
use Rattle.trace_model.specs.declared.event.StopEvent.TheVariants as stops
use Rattle.trace_laws.proofs.ReplayStops.StepEvents.{OneStop, ReachesStops, gate_step, quiet_step, same_step}
use Rattle.trace_laws.proofs.{ReplayStops.Here.Here, ReplayStops.Here.parts, ReplayStops.StopEvents.gives_gate}
use Rattle.trace_laws.proofs.{ReplayStops.StopEvents.takes_gate}
use Rattle.smp_words.specs.declared.phase.TheConstants.{RUN}

-- a CPU that is in a stop has called a function only as its seat says
pub idle_free : (cpu : ℕ) (f : Calling) → IsCalling cpu Free f → f ≡ Idle
idle_free cpu Idle k = refl
idle_free cpu _ k = absurd k

module _ (known : Here) (at' : Word → ℕ) (keys : (key : ℕ) → at' (Key key) ≡ (parts known).At (Key key))
    (sites : (site : ℕ) → at' (Site site) ≡ (parts known).At (Site site)) where
  open known use {p, me, below, pasts, sized, s, whole, cpus_are, f}
  open parts known use {At as at}

  pub mine : CpuIs p s (past_at pasts me) me
  mine = f.cpus_are me

  abbrev pub Leads : StopState → Past → List (ℕ × Event) → Type 0
  Leads q past es = ReachesStops q at' (slice_set pasts me past) s es

  pub gate_taken : p.gate ≡ None → Leads (record p { gate = Some me }) (past_at pasts me) ((me, event.Stop stops.Gate) ∷ [])
  unfolding stop_goes
  gate_taken e = gate_step p (record p { gate = Some me }) at at' pasts s me (past_at pasts me) below sized cpus_are f keys sites (Some me)
      (event.Stop stops.Gate) refl
      (takes_gate s me whole (f.gate ∙ e)) mine

  pub gate_given : p.gate ≡ Some me → Leads (record p { gate = None }) (past_at pasts me) ((me, event.Stop stops.Ungate) ∷ [])
  unfolding stop_goes
  gate_given e = gate_step p (record p { gate = None }) at at' pasts s me (past_at pasts me) below sized cpus_are f keys sites None
      (event.Stop stops.Ungate) refl
      (gives_gate s me whole (f.gate ∙ e)) mine

  -- What a step of this CPU makes of the stops: of one stop, and of where the CPU is.
  pub record Goes (q : StopState) (slot : ℕ) (x : Stop) (inside : Option ℕ) (irq : Bool) (calling : Calling) : Type 0 where
    pub stop_is : (j : ℕ) → q.now.stop j ≡ put p.now.stop slot x j
    pub inside_is : q.now.inside me ≡ inside
    pub irq_is : q.now.irq me ≡ irq
    pub calling_is : q.calling me ≡ calling
    pub inside_else : (cpu : ℕ) → cpu ≢ me → q.now.inside cpu ≡ p.now.inside cpu
    pub irq_else : (cpu : ℕ) → cpu ≢ me → q.now.irq cpu ≡ p.now.irq cpu
    pub calling_else : (cpu : ℕ) → cpu ≢ me → q.calling cpu ≡ p.calling cpu
    pub standing_else : (cpu : ℕ) → cpu ≢ me → x.standing cpu ≡ (p.now.stop slot).standing cpu
    pub gate_is : q.gate ≡ p.gate
    pub work_is : x.work ≡ (p.now.stop slot).work
    pub patching_is : q.now.patching ≡ p.now.patching

  pub one_stop : (q : StopState) (slot : ℕ) (x : Stop) (inside : Option ℕ) (irq : Bool) (calling : Calling) (y : ToldStop) → Goes q slot x inside irq calling
      → ((cpu : ℕ) → cpu ≢ me → has_run y cpu ≡ has_run (stop_at s slot) cpu) → y.patch ≡ (stop_at s slot).patch → OneStop p q me slot x (stop_at s slot) y
  one_stop q slot x inside irq calling y h1 h2 h3 = search arith

  -- the stop of the slot after it
  stop_now : (q : StopState) (slot : ℕ) (x : Stop) → ((j : ℕ) → q.now.stop j ≡ put p.now.stop slot x j) → q.now.stop slot ≡ x
  stop_now q slot x is = is slot ∙ put_same p.now.stop slot x

  -- a CPU in this stop
  pub in_slot : (q : StopState) (t : StateValue) (past : Past) (slot : ℕ) (x : Stop) (irq : Bool) (calling : Calling)
      → Goes q slot x (Some slot) irq calling → slot < cpus
      → (cpu_at t me).inside ≡ Some slot → (cpu_at t me).irq ≡ irq → has_run (stop_at t slot) me ≡ has_called (p.now.stop slot).work.kind calling
      → ((p.now.stop slot).work.kind ≡ Patch → has (p.now.stop slot).work.active me ≡ true → MadeIs t.words p.now.patching calling (stop_at t slot).patch)
      → PhaseIs (x.standing me) past.phase
      → AnswerIs (x.standing me) past.answer → (past.phase ≡ RUN → irq ≡ false) → CpuIs q t past me
  in_slot q t past slot x irq calling g l inside_told irq_told ran patch phase answer reads = record {
    inside = inside_told ∙ sym g.inside_is;
    irq = irq_told ∙ sym g.irq_is;
    stop = λ other e.
        let same : slot ≡ other = some_same (sym g.inside_is ∙ e) in
        subst (λ (n : ℕ). InsideIs q t past me n) same (record {
          below = l;
          ran = rw (g.calling_is, work_now) ran;
          patch = rw (g.calling_is, work_now, g.patching_is) patch;
          phase = subst (λ (z : Stop). PhaseIs (z.standing me) past.phase) (sym (stop_now q slot x g.stop_is)) phase;
          answer = subst (λ (z : Stop). AnswerIs (z.standing me) past.answer) (sym (stop_now q slot x g.stop_is)) answer;
        });
    answer = λ e. absurd (none_some slot (sym e ∙ g.inside_is));
    reads = λ e. g.irq_is ∙ reads e;
  }
    where
      work_now : (q.now.stop slot).work ≡ (p.now.stop slot).work
      work_now = ap (λ (z : Stop). z.work) (stop_now q slot x g.stop_is) ∙ g.work_is

      some_same : {a b : ℕ} → Some a ≡ Some b → a ≡ b
      some_same e = cc

      none_some : (n : ℕ) → None ≡ Some n → ⊥
      none_some n e = absurd cc

  -- a CPU in no stop
  pub in_none : (q : StopState) (t : StateValue) (past : Past) (slot : ℕ) (x : Stop) (irq : Bool) (calling : Calling) → Goes q slot x None irq calling
      → (cpu_at t me).inside ≡ None → (cpu_at t me).irq ≡ irq → past.answer ≡ pos 0 → (past.phase ≡ RUN → irq ≡ false) → CpuIs q t past me
  in_none q t past slot x irq calling h1 h2 h3 h4 h5 = search arith

  -- a CPU of which nothing is changed but what it keeps, and that not of its stop
  pub mine_past : (past : Past) → past.phase ≡ (past_at pasts me).phase → past.answer ≡ (past_at pasts me).answer → CpuIs p s past me
  mine_past past h1 h2 = search (mine, arith)

  -- a step that tells and changes nothing of the stops
  pub nothing_told : (past : Past) → past.phase ≡ (past_at pasts me).phase → past.answer ≡ (past_at pasts me).answer → Leads p past []
  nothing_told past phase answer = quiet_step p p at at' pasts s me past below sized cpus_are f keys sites refl (λ j. refl) (λ c ne. refl)
      (λ c ne. refl) (λ c ne. refl) (inl refl)
      (mine_past past phase answer)

  -- the members of a stop after a step of this CPU
  pub members_set : (x y : Stop) (e g : ToldStop) → ((cpu : ℕ) → cpu < cpus → MemberIs (x.standing cpu) e cpu) → ((cpu : ℕ) → cpu ≢ me
      → y.standing cpu ≡ x.standing cpu)
      → ((cpu : ℕ) → cpu ≢ me → MemberIs (x.standing cpu) e cpu → MemberIs (x.standing cpu) g cpu) → MemberIs (y.standing me) g me
      → (cpu : ℕ) → cpu < cpus → MemberIs (y.standing cpu) g cpu
  members_set x y e g was same goes here cpu l = elim (cases_eq cpu me) [
    | inl is ↦ subst (λ (n : ℕ). MemberIs (y.standing n) g n) (sym is) here
    | inr ne ↦ subst (λ (z : Standing). MemberIs z g cpu) (sym (same cpu ne)) (goes cpu ne (was cpu l))
  ]

  -- a stop of which nothing is told
  pub told_still : (x y : Stop) (e : ToldStop) → StopIs x e → y.is_open ≡ x.is_open → y.work ≡ x.work → y.phase ≡ x.phase
      → raiser_of y.raising ≡ raiser_of x.raising
      → ((cpu : ℕ) → cpu ≢ me → y.standing cpu ≡ x.standing cpu) → (x.is_open ≡ true → MemberIs (x.standing me) e me → MemberIs (y.standing me) e me)
      → StopIs y e
  told_still x y e k is_open work phase raiser others here = record {
    sized = k.sized;
    is_open = k.is_open ∙ sym is_open;
    shows = λ o.
        let was = k.shows (sym is_open ∙ o) in
        record {
          task = was.task ∙ rw work refl;
          phase = was.phase ∙ sym phase;
          raiser = was.raiser ∙ sym raiser;
          members = members_set x y e e was.members others (λ cpu ne m. m) (here (sym is_open ∙ o) (was.members me below));
          patch = rw work was.patch;
        };
  }

  -- a step that tells nothing, on one stop
  pub silent : (q : StopState) (past : Past) (slot : ℕ) (x : Stop) (inside : Option ℕ) (irq : Bool) (calling : Calling) → Goes q slot x inside irq calling
      → (slot < cpus → StopIs x (stop_at s slot)) → CpuIs q s past me → Leads q past []
  silent q past slot x inside irq calling g here my = same_step p q at at' pasts s me past below sized cpus_are f keys sites slot x
      (one_stop q slot x inside irq calling (stop_at s slot) g (λ c ne. refl) refl) here my

  -- the count is refilled
  pub refilled_step : (q : StopState) (past : Past) (slot : ℕ) (x : Stop) (a : ℕ) → p.now.inside me ≡ Some slot → (p.now.stop slot).standing me ≡ Inside a a
      → Goes q slot x (Some slot) (p.now.irq me) (p.calling me) → x.standing me ≡ Inside a a → x.is_open ≡ (p.now.stop slot).is_open
      → x.work ≡ (p.now.stop slot).work
      → x.phase ≡ (p.now.stop slot).phase → raiser_of x.raising ≡ raiser_of (p.now.stop slot).raising
      → past.phase ≡ (past_at pasts me).phase → past.answer ≡ (past_at pasts me).answer → Leads q past []
  refilled_step q past slot x a inside was g now is_open work phase raiser past_phase past_answer =
      let i = mine.stop slot inside in
      silent q past slot x (Some slot) (p.now.irq me) (p.calling me) g
      (λ _. told_still (p.now.stop slot) x (stop_at s slot) (f.stops slot i.below) is_open work phase raiser g.standing_else
      (λ o m. subst (λ (z : Standing). MemberIs z (stop_at s slot) me) (was ∙ sym now) m))
      (in_slot q s past slot x (p.now.irq me) (p.calling me) g i.below (mine.inside ∙ inside) mine.irq i.ran i.patch
      (rw (now, past_phase) (rw was at i.phase)) (rw (now, past_answer) (rw was at i.answer)) (λ e. mine.reads (sym past_phase ∙ e)))
