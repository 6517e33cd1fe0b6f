-- A CPU acknowledges a phase, or raises it: what holds of patches still does.
use Rattle.trace_laws.proofs.Names.{APatch, Bool, Err, None, Ok, Option, Patch, Reason, Result, Seen, Some, StateValue, Stop, Task, ack_by}
use Rattle.trace_laws.proofs.Names.{acked, acked_by, acknowledged, acks_at_run, and_parts, ap, arith, at_last, cases_Bool, eq-eqb, eqb-true}
use Rattle.trace_laws.proofs.Names.{get_or-set_other, get_or-set_same, has, if◌then◌else◌, in_round, inl, inr, is_some, key_number, late, may_ack, min}
use Rattle.trace_laws.proofs.Names.{next_store, not, on_stop, patch_for, patch_left, patch_or, raise_by, raised, raised_by, refl, set-set}
use Rattle.trace_laws.proofs.Names.{slice_index_or, slice_set, stop_at, switched, switched_on, sym, true, with_acked, with_irq, with_stop, ℕ, ◌&&◌, ◌+◌, ◌-◌}
use Rattle.trace_laws.proofs.Names.{◌<◌, ◌==◌, ◌>>=◌, ◌^◌, ◌∙◌, ◌≡◌, ◌≢◌, ◌⊎◌}
use Rattle.trace_model.specs.declared.reason.Reason.TheVariants as reason
use Rattle.trace_model.specs.Labels.{front_of}
use Rattle.trace_laws.proofs.Labels.Patches.{Labelled, Live, StopGoes, labelled_same, stop_labelled}
use Rattle.trace_laws.proofs.Labels.StoredWords.{AllOk, Partial, front_none, over_ok, some_is}
use Rattle.trace_laws.proofs.Stops.StopEvents.{actor_below, acts_at, in_round_is, ne_truth, stop_same}
use Rattle.trace_laws.proofs.{Calls.MadeSteps.both_made, Calls.MadeSteps.passed, Labels.PatchEvents.labelled_end, Stops.CpusInStops.Rounds}
use Rattle.trace_laws.proofs.{Stops.CpusInStops.stop_changed, Stops.Phases.late_none, Stops.Phases.raised_is}
use Rattle.smp_words.specs.declared.phase.TheConstants.{DISABLE_IRQ, RUN, OVER}

-- A patch is over: its CPU may acknowledge RUN.
pub record IsOver (s : StateValue) (number actor phase : ℕ) : Type 0 where
  pub at : phase ≡ RUN
  pub kind_is : (stop_at s number).task.kind ≡ APatch
  pub active : has (stop_at s number).task.active actor ≡ true
  pub none : next_store number s ≡ None

-- What a CPU that may acknowledge has shown of a patch.
pub record MayAck (s t : StateValue) (number actor phase : ℕ) : Type 0 where
  pub patch : Option Patch
  pub is : t ≡ with_stop number s (record (stop_at s number) { patch = patch })
  pub how : (patch ≡ (stop_at s number).patch) × (phase ≡ RUN → (stop_at s number).task.kind ≡ APatch → has (stop_at s number).task.active actor ≡ true → ⊥)
      ⊎ (patch ≡ Some (patch_left number s)) × IsOver s number actor phase

may_here : (s t : StateValue) (number actor phase : ℕ) → s ≡ t → (phase ≡ RUN → (stop_at s number).task.kind ≡ APatch →
    has (stop_at s number).task.active actor ≡ true → ⊥)
    → MayAck s t number actor phase
may_here s t number actor phase same idle = record { patch = (stop_at s number).patch; is = sym same ∙ (sym (stop_same number s)); how = inl (refl, idle) }

may_tests : (two runs : Bool) (s t : StateValue) (number actor phase : ℕ) (test : Result (Unit {0}) Reason) → (phase == DISABLE_IRQ) ≡ two
    → ((phase == RUN) && has (stop_at s number).task.active actor) ≡ runs
    → (if two then (test >>= λ v. Ok s) else (if runs then acks_at_run actor number s else Ok s)) ≡ Ok t → MayAck s t number actor phase
may_tests two runs s t number actor phase test h1 h2 h3 = search (both_made, may_here, eqb-true, and_parts, passed, eq-eqb, ne_truth, arith)

pub may_is : (s t : StateValue) (number actor phase : ℕ) → may_ack actor number phase s ≡ Ok t
    → MayAck s t number actor phase × ((acked_by (stop_at s number) actor < phase) × ((stop_at s number).phase ≡ phase))
may_is s t number actor phase h1 = search (both_made, may_tests, acts_at, arith)

-- A stop with the same patch, but for its phase.
pub record SameBut (stop to : Stop) : Type 0 where
  pub is_open : to.is_open ≡ stop.is_open
  pub task : to.task ≡ stop.task
  pub patch : to.patch ≡ stop.patch
  pub acked : to.acked ≡ stop.acked

-- what is to follow of a stop once a CPU has acknowledged, the last or not
last_open : (who : Option ℕ) (actor : ℕ) (raises : Bool) (stop : Stop) → SameBut stop (at_last who actor raises stop)
last_open who actor raises stop = search arith

last_phase : (who : Option ℕ) (actor : ℕ) (raises : Bool) (stop : Stop) → ((at_last who actor raises stop).phase ≡ stop.phase)
    ⊎ ((who ≡ None) × ((at_last who actor raises stop).phase ≡ min (stop.phase + 1) (2 ^ 32 - 1)))
last_phase who actor raises stop = search arith

-- A CPU acknowledges a phase: what becomes of the patch of its stop.
pub record Acks (s : StateValue) (number actor phase : ℕ) (patch : Option Patch) : Type 0 where
  pub low : number < 64
  pub below : actor < 32
  pub at : (stop_at s number).phase ≡ phase
  pub more : acked_by (stop_at s number) actor < phase
  pub how : (patch ≡ (stop_at s number).patch) × (phase ≡ RUN → (stop_at s number).task.kind ≡ APatch → has (stop_at s number).task.active actor ≡ true → ⊥)
      ⊎ (patch ≡ Some (patch_left number s)) × IsOver s number actor phase

abbrev ack_to : ℕ → ℕ → Bool → Option Patch → Stop → Stop
ack_to actor phase raises patch stop =
    let mid = with_acked actor phase (record stop { patch = patch }) in at_last (late mid phase) actor raises mid

acked_other : (stop : Stop) (actor phase cpu : ℕ) → cpu ≢ actor → slice_index_or (slice_set stop.acked actor phase) cpu 0 ≡ acked_by stop cpu
acked_other stop actor phase cpu ne = get_or-set_other stop.acked actor cpu phase 0 ne

-- the CPU that has acknowledged RUN is not the one that patches
not_early : (seen : ℕ → Seen) (work : ℕ → Option Task) (s : StateValue) (number actor phase : ℕ) (raises : Bool) (patch : Option Patch) (q : Patch) →
    Rounds seen work s
    → Acks s number actor phase patch → phase ≡ RUN → has (stop_at s number).task.active actor ≡ true →
    Live (ack_to actor phase raises patch (stop_at s number)) q → ⊥
not_early seen work s number actor phase raises patch q h1 h2 h3 h4 h5 = search (last_open, get_or-set_same, arith)

live_after : (s : StateValue) (number actor phase : ℕ) (raises : Bool) (patch : Option Patch) (q : Patch) → Labelled s → Acks s number actor phase patch
    → patch ≡ (stop_at s number).patch → (has (stop_at s number).task.active actor ≡ true → ⊥) → Live (stop_at s number) q
    → Live (ack_to actor phase raises patch (stop_at s number)) q
live_after s number actor phase raises patch q l a same idle live =
    let stop = stop_at s number in
    let mid = with_acked actor phase (record stop { patch = patch }) in
    let who = late mid phase in
    let b = last_open who actor raises mid in
    let task : (at_last who actor raises mid).task ≡ stop.task = b.task in
    let acked : (at_last who actor raises mid).acked ≡ slice_set stop.acked actor phase = b.acked in
    let all = (l.patches number a.low).all live.is_open live.kind_is in
    let ne : all.cpu ≢ actor = λ e. idle (let x = all.active in rw e at x) in
    let early = live.early all.cpu all.below all.active in
    let kept = acked_other stop actor phase all.cpu ne in
    record {
      is_open = b.is_open ∙ live.is_open;
      kind_is = ap (λ x. x.kind) task ∙ live.kind_is;
      at = elim (last_phase who actor raises mid) [
        | inl x ↦ x ∙ live.at
        | inr x ↦ absurd (let h = late_none mid phase all.cpu x.0 all.below all.member in let z = live.at in let y = a.at in omega arith)
      ];
      known = b.patch ∙ same ∙ live.known;
      turns = live.turns;
      early = search (stop.task.active, task, live.early, who, mid, stop, acked, acked_other, arith);
    }

ack_rests : (seen : ℕ → Seen) (work : ℕ → Option Task) (s : StateValue) (number actor phase : ℕ) (raises : Bool) (patch : Option Patch) →
    Rounds seen work s → Labelled s
    → Acks s number actor phase patch → ((p : Patch) → Live (stop_at s number) p → ⊥) → (q : Patch) →
    Live (ack_to actor phase raises patch (stop_at s number)) q → ⊥
ack_rests seen work s number actor phase raises patch h1 h2 h3 h4 q h5 = search (last_open, last_phase, cases_Bool, not_early, acked_other, ne_truth, arith)

ack_next : (seen : ℕ → Seen) (work : ℕ → Option Task) (s : StateValue) (number actor phase : ℕ) (raises : Bool) (patch : Option Patch) → Rounds seen work s →
    Labelled s
    → Acks s number actor phase patch → (p : Patch) → Live (stop_at s number) p → Partial s.words (stop_at s number).task.func p
    → let to = ack_to actor phase raises patch (stop_at s number) in
    (Live to p × (to.task.func ≡ (stop_at s number).task.func)) ⊎ (AllOk s.words × ((q : Patch) → Live to q → ⊥))
ack_next seen work s number actor phase raises patch r l a p live part =
    let stop = stop_at s number in
    let mid = with_acked actor phase (record stop { patch = patch }) in
    let b = last_open (late mid phase) actor raises mid in
    let three : phase ≡ RUN = sym a.at ∙ live.at in
    elim a.how [
      | inl h ↦ (let idle = h.1 three live.kind_is in inl (live_after s number actor phase raises patch p l a h.0 idle live, ap (λ x. x.func) b.task))
      | inr h ↦
          (let known : stop.patch ≡ Some p = live.known in
          let left : patch_left number s ≡ p = ap (λ x. patch_or x (patch_for s.words (key_number stop.task.func) stop.task.arg)) known in
          let over : front_of s.words stop.task.func p ≡ None = ap (λ x. front_of s.words stop.task.func x) (sym left) ∙ h.1.none in
          inr (over_ok s.words stop.task.func p live.turns over part, (λ q m. not_early seen work s number actor phase raises patch q r a three h.1.active m)))
    ]

ack_goes : (seen : ℕ → Seen) (work : ℕ → Option Task) (s : StateValue) (number actor phase : ℕ) (raises : Bool) (patch : Option Patch) → Rounds seen work s →
    Labelled s
    → Acks s number actor phase patch → StopGoes s number (ack_to actor phase raises patch (stop_at s number))
ack_goes seen work s number actor phase raises patch r l a = record {
  patch = search (last_open, some_is, front_none, last_phase, arith);
  rests = λ none q live. ack_rests seen work s number actor phase raises patch r l a none q live;
  goes = λ p live part. ack_next seen work s number actor phase raises patch r l a p live part;
}

-- interrupts are of no patch
irq_labelled : (s : StateValue) (cpu : ℕ) (on : Bool) → Labelled s → Labelled (with_irq cpu on s)
irq_labelled s cpu on l = labelled_same s (with_irq cpu on s) refl refl refl l

if_labelled : (test : Bool) (x y : StateValue) → Labelled x → Labelled y → Labelled (if test then x else y)
if_labelled test x y p q = search arith

switched_labelled : (s : StateValue) (cpu number phase : ℕ) → Labelled s → Labelled (switched cpu number phase s)
switched_labelled s cpu number phase h1 = search (if_labelled, irq_labelled, arith)

ack_from : (seen : ℕ → Seen) (work : ℕ → Option Task) (s m : StateValue) (number actor phase : ℕ) → Rounds seen work s → Labelled s → number < 64 → actor < 32
    → (k : MayAck s m number actor phase) → acked_by (stop_at s number) actor < phase → (stop_at s number).phase ≡ phase → Labelled (acked actor number phase m)
unfolding acknowledged
ack_from seen work s m number actor phase r l low below k more at =
    let stop = stop_at s number in
    let known = record stop { patch = k.patch } in
    let raises = not m.setting.without.raises in
    let to = ack_to actor phase raises k.patch stop in
    let is : m ≡ with_stop number s known = k.is in
    let st : stop_at m number ≡ known = ap (λ x. stop_at x number) is ∙ stop_changed number s known (rw r.stops_are low) in
    let a : Acks s number actor phase k.patch = record { low = low; below = below; at = at; more = more; how = k.how } in
    let u = with_stop number m (acknowledged actor phase raises (stop_at m number)) in
    let stops : u.stops ≡ slice_set s.stops number to =
    ap (λ x. slice_set m.stops number (acknowledged actor phase raises x)) st ∙ ap (λ x. slice_set x.stops number to) is ∙ set-set s.stops number known to in
    let words : u.words ≡ s.words = ap (λ x. x.words) is in
    let setting : u.setting ≡ s.setting = ap (λ x. x.setting) is in
    switched_labelled u actor number phase (labelled_same (with_stop number s to) u words stops setting
    (stop_labelled seen work s number to r l (ack_goes seen work s number actor phase raises k.patch r l a) low))

pub ack_labelled : (seen : ℕ → Seen) (work : ℕ → Option Task) (s t : StateValue) (actor phase : ℕ) → Rounds seen work s → Labelled s →
    ack_by actor phase s ≡ Ok t → Labelled t
unfolding ack_by
ack_labelled seen work s t actor phase r l e =
    let m = both_made (in_round actor s) (λ number. may_ack actor number phase s >>= λ x. Ok (acked actor number phase x)) t e in
    let i = in_round_is s actor m.0 m.1.0 in
    let n = both_made (may_ack actor m.0 phase s) (λ x. Ok (acked actor m.0 phase x)) t m.1.1 in
    let k = may_is s n.0 m.0 actor phase n.1.0 in
    labelled_end (acked actor m.0 phase n.0) t (cc)
    (ack_from seen work s n.0 m.0 actor phase r l i.low (actor_below s actor m.0 r.cpus_are r.away i.inside) k.0 k.1.0 k.1.1)

-- a phase is raised
raise_goes : (seen : ℕ → Seen) (work : ℕ → Option Task) (s : StateValue) (number phase : ℕ) → Rounds seen work s → Labelled s → number < 64
    → is_some (stop_at s number).raiser ≡ true → (stop_at s number).phase ≡ phase - 1 →
    StopGoes s number (record (stop_at s number) { phase = phase; raiser = None })
raise_goes seen work s number phase h1 h2 h3 h4 h5 = search arith

pub raise_labelled : (seen : ℕ → Seen) (work : ℕ → Option Task) (s t : StateValue) (actor phase : ℕ) → Rounds seen work s → Labelled s →
    raise_by actor phase s ≡ Ok t → Labelled t
unfolding raise_by raised
raise_labelled seen work s t actor phase r l e =
    let made = λ (number : ℕ). let stop = stop_at s number in
    let x : Result Stop Reason = if stop.phase == phase - 1 then raised_by stop.raiser actor phase stop else Err (reason.PhaseIs stop.phase) in x in
    let m = both_made (in_round actor s) (λ number. on_stop number s (made number) >>= λ x. Ok (switched_on actor phase x)) t e in
    let number = m.0 in
    let stop = stop_at s number in
    let i = in_round_is s actor number m.1.0 in
    let n = both_made (on_stop number s (made number)) (λ x. Ok (switched_on actor phase x)) t m.1.1 in
    let k = both_made (made number) (λ x. Ok (with_stop number s x)) n.0 n.1.0 in
    let p = passed (stop.phase == phase - 1) (raised_by stop.raiser actor phase stop) (reason.PhaseIs stop.phase) k.0 k.1.0 in
    let o = raised_is stop.raiser actor phase stop k.0 p.1 in
    let to = record stop { phase = phase; raiser = None } in
    let u = with_stop number s to in
    let end : u ≡ n.0 = ap (λ x. with_stop number s x) o.1 ∙ cc in
    let same : switched_on actor phase u ≡ t = ap (λ x. switched_on actor phase x) end ∙ cc in
    let after = stop_labelled seen work s number to r l (raise_goes seen work s number phase r l i.low o.0 (eqb-true stop.phase (phase - 1) p.0)) i.low in
    labelled_end (switched_on actor phase u) t same
    (if_labelled (u.setting.without.switches && (phase == OVER)) (with_irq actor true u) u (irq_labelled u actor true after) after)
