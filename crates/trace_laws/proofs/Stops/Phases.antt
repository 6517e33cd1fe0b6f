-- A CPU acknowledges a phase, raises it, or stores: what holds of CPUs in stops still does.
use Rattle.trace_laws.proofs.Stops.Ends.{first_none}
use Rattle.std.proofs.lemmas.List.{set-get_or}
use Rattle.trace_laws.proofs.Names.{fresh_cpu}
use Rattle.trace_laws.proofs.Names.{APatch, Bool, Err, Kind, None, Ok, Option, Patch, Place, Reason, Result, Seen, Setting, Some, StateValue, Stop}
use Rattle.trace_laws.proofs.Names.{Task, ack_by, acked, acked_by, acknowledged, acks_as, acks_at_run, acks_disabled, ap, arith, at_last, at_phase, cases_eq}
use Rattle.trace_laws.proofs.Names.{cpu_at, eq-eqb, eqb-false, eqb-true, false, get_or-set_other, get_or-set_same, handles_nothing, has, has_run, if◌then◌else◌}
use Rattle.trace_laws.proofs.Names.{in_patch, in_round, inl, inr, is_cpu, is_some, is_store, late, length-set, ltb-false, made_store, may_ack, min}
use Rattle.trace_laws.proofs.Names.{nat_lt, next_store, not, on_stop, patch_by, patch_left, patch_over, popped, raise_by, raised, raised_by, refl, stop_at}
use Rattle.trace_laws.proofs.Names.{stop_of, subst, switched_at, switched_on, sym, to_be, true, with_acked, with_interrupts, with_irq, with_patch, with_stop}
use Rattle.trace_laws.proofs.Names.{with_word, ℕ, ◌&&◌, ◌+◌, ◌-◌, ◌<◌, ◌==◌, ◌>>=◌, ◌^◌, ◌∙◌, ◌≡◌, ◌≤◌}
use Rattle.trace_model.specs.declared.reason.Reason.TheVariants as reason
use Rattle.trace_model.specs.Stops.{if_patch}
use Rattle.trace_laws.proofs.Stops.CpusInStops.{Change, Member, RoundAt, Rounds, StopAt, StopChange, changed, changed_to, member_of, put_seen, stop_changed}
use Rattle.trace_laws.proofs.Stops.CpusInStops.{stop_only}
use Rattle.trace_laws.proofs.Stops.StopEvents.{InRound, actor_below, acts_at, away_same, in_round_is, irq_change, irq_changed, ne_truth, rounds_end}
use Rattle.trace_laws.proofs.Stops.StopEvents.{rounds_seen, stop_of_is, view_same}
use Rattle.trace_laws.proofs.{Calls.MadeSteps.both_made, Calls.MadeSteps.passed}
use Rattle.smp_words.specs.declared.phase.TheConstants.{DISABLE_IRQ, RUN, EXIT, OVER}

abbrev pub acked_seen : ℕ → Seen → Seen
acked_seen phase v = record v { acked = phase }

patch_rounds : (seen : ℕ → Seen) (work : ℕ → Option Task) (s : StateValue) (number : ℕ) (patch : Patch) → Rounds seen work s → number < 64 →
    Rounds seen work (with_patch number patch s)
patch_rounds seen work s number patch r low =
    stop_only seen work work s number (record (stop_at s number) { patch = Some patch }) r (search arith) (λ other ne. refl)

words_rounds : (seen : ℕ → Seen) (work : ℕ → Option Task) (s : StateValue) (place : Place) (word : ℕ) → Rounds seen work s →
    Rounds seen work (with_word place word s)
words_rounds seen work s place word r = record { cpus_are = r.cpus_are; stops_are = r.stops_are; at = r.at; cpu = r.cpu; away = r.away; stop = r.stop }

-- A CPU may acknowledge a phase: the state in which it does, where at most a patch is known.
pub record AckFrom (seen : ℕ → Seen) (work : ℕ → Option Task) (s t : StateValue) (number : ℕ) : Type 0 where
  pub rounds : Rounds seen work t
  pub setting_is : t.setting ≡ s.setting
  pub cpus_are : t.cpus ≡ s.cpus
  pub views : (cpu : ℕ) → member_of cpu (stop_at t number) ≡ member_of cpu (stop_at s number)

from_here : (seen : ℕ → Seen) (work : ℕ → Option Task) (s t : StateValue) (number : ℕ) → s ≡ t → Rounds seen work s → AckFrom seen work s t number
from_here seen work s t number same r = subst (λ (x : StateValue). AckFrom seen work s x number) same
    (record { rounds = r; setting_is = refl; cpus_are = refl; views = λ cpu. refl })

from_patch : (seen : ℕ → Seen) (work : ℕ → Option Task) (next : Option (Place × ℕ)) (number : ℕ) (patch : Patch) (s t : StateValue) → Rounds seen work s →
    number < 64
    → patch_over next number patch s ≡ Ok t → AckFrom seen work s t number
from_patch seen work (Some next) number patch s t r low e = absurd cc
from_patch seen work None number patch s t r low e =
    let same : with_patch number patch s ≡ t = cc in
    subst (λ (x : StateValue). AckFrom seen work s x number) same (record {
      rounds = patch_rounds seen work s number patch r low;
      setting_is = refl;
      cpus_are = refl;
      views = λ cpu. search (stop_changed, member_of, arith);
    })

from_kind : (seen : ℕ → Seen) (work : ℕ → Option Task) (kind : Kind) (cpu number : ℕ) (s t : StateValue) → Rounds seen work s → number < 64
    → acks_as kind cpu number s ≡ Ok t → AckFrom seen work s t number
from_kind seen work APatch cpu number s t r low e = from_patch seen work (next_store number s) number (patch_left number s) s t r low e
from_kind seen work _ cpu number s t r low e =
    let p = passed (has_run (stop_at s number) cpu) (Ok s) reason.FunctionHasNotRun t e in from_here seen work s t number (cc) r

-- what a CPU that may acknowledge has shown: at DISABLE_IRQ, that its interrupts are off, or that it handles nothing
pub from_tests : (seen : ℕ → Seen) (work : ℕ → Option Task) (two runs : Bool) (cpu number : ℕ) (s t : StateValue) → Rounds seen work s → number < 64
    → (if two then (acks_disabled s.setting.without.switches cpu s >>= λ v. Ok s) else (if runs then acks_at_run cpu number s else Ok s)) ≡ Ok t
    → AckFrom seen work s t number × (two ≡ true → acks_disabled s.setting.without.switches cpu s ≡ Ok tt)
from_tests seen work true runs cpu number s t r low e =
    let m = both_made (acks_disabled s.setting.without.switches cpu s) (λ v. Ok s) t e in (from_here seen work s t number (cc) r, (λ x. m.1.0))
from_tests seen work false true cpu number s t r low e = (from_kind seen work (stop_at s number).task.kind cpu number s t r low e, (λ x. absurd cc))
from_tests seen work false false cpu number s t r low e = (from_here seen work s t number (cc) r, (λ x. absurd cc))

-- A CPU has acknowledged a phase, and it is the last to do so or not.
abbrev acked_member : ℕ → Member → Member
acked_member phase w = record w { acked = phase }

here_acked : (left_out : Bool) (number cpu phase : ℕ) (v : Seen) (w : Member) (inside : Option ℕ) (irq irq' : Bool) → inside ≡ Some number →
    w.phase ≡ phase → w.acked < phase
    → (DISABLE_IRQ ≤ phase → phase < EXIT → irq' ≡ false) → RoundAt left_out number cpu v w inside irq
    → RoundAt left_out number cpu (acked_seen phase v) (acked_member phase w) inside irq'
here_acked left_out number cpu phase v w inside irq irq' h1 h2 h3 h4 h5 = search (ne_truth, arith)

-- the last raises the phase, or is to
abbrev raiser_member : ℕ → Member → Member
raiser_member cpu w = record w { raiser = Some cpu }

abbrev grown_member : Member → Member
grown_member w = record w { phase = min (w.phase + 1) (2 ^ 32 - 1) }

grown_low : (phase acked : ℕ) → min (phase + 1) (2 ^ 32 - 1) ≤ RUN → (phase ≤ RUN → acked ≤ phase) → acked ≤ min (phase + 1) (2 ^ 32 - 1)
grown_low phase acked h f = let low : phase ≤ RUN = omega arith in let g = f low in omega arith

no_raiser : (raiser : Option ℕ) → raiser ≡ None → is_some raiser ≡ true → ⊥
no_raiser raiser e f = search arith

with_grown : (number cpu : ℕ) (v : Seen) (w : Member) (inside : Option ℕ) (irq : Bool) → (has w.task.mask cpu ≡ true → w.phase ≤ w.acked)
    → RoundAt true number cpu v w inside irq → RoundAt true number cpu v (grown_member w) inside irq
with_grown number cpu v w inside irq h1 h2 = search (grown_low, no_raiser, arith)

-- what a stop has of a CPU, once one has acknowledged
abbrev last_member : Option ℕ → ℕ → Bool → Member → Member
last_member (Some other) actor left_out w = w
last_member None actor false w = raiser_member actor w
last_member None actor true w = grown_member w

last_round : (who : Option ℕ) (left_out : Bool) (number cpu actor : ℕ) (v : Seen) (w : Member) (inside : Option ℕ) (irq : Bool)
    → (who ≡ None → has w.task.mask cpu ≡ true → w.phase ≤ w.acked) → RoundAt left_out number cpu v w inside irq
    → RoundAt left_out number cpu v (last_member who actor left_out w) inside irq
last_round who left_out number cpu actor v w inside irq all r = search (with_grown, arith)

pub late_none : (stop : Stop) (phase cpu : ℕ) → late stop phase ≡ None → cpu < 32 → has stop.task.mask cpu ≡ true → phase ≤ acked_by stop cpu
late_none stop phase cpu none below m =
    let f = first_none (λ c. has stop.task.mask c && nat_lt (acked_by stop c) phase) 0 32 none cpu (omega arith) (omega arith) in
    let g : (true && nat_lt (acked_by stop cpu) phase) ≡ false = rw m at f in ltb-false (acked_by stop cpu) phase g

-- A CPU acknowledges a phase, and its interrupts are so after it: what is changed.
ack_change : (seen : ℕ → Seen) (work : ℕ → Option Task) (s : StateValue) (number actor phase : ℕ) (irq : Bool) → Rounds seen work s → number < 64
    → (cpu_at s actor).inside ≡ Some number → (stop_at s number).phase ≡ phase → acked_by (stop_at s number) actor < phase
    → (DISABLE_IRQ ≤ phase → phase < EXIT → irq ≡ false) → (irq ≡ false → handles_nothing (cpu_at s actor) ≡ Ok tt)
    → (s.setting.without.switches ≡ false → irq ≡ (cpu_at s actor).irq)
    → Change seen work s number actor (acked_seen phase) (acknowledged actor phase (not s.setting.without.raises) (stop_at s number)) (with_interrupts irq
    (cpu_at s actor))
unfolding acknowledged
ack_change seen work s number actor phase irq r low is at more off quiet told =
    let stop = stop_at s number in
    let left_out = s.setting.without.raises in
    let below = actor_below s actor number r.cpus_are r.away is in
    let st = r.stop number low in
    let q = r.cpu actor below in
    let mid = with_acked actor phase stop in
    let who = late mid phase in
    let now : acked_by mid actor ≡ phase = get_or-set_same stop.acked actor phase 0 (rw st.acked_are below) in
    let view : acked_member phase (member_of actor stop) ≡ member_of actor mid = rw now refl in
    let long : StopAt (work number) mid = record {
      entered_are = st.entered_are;
      acked_are = length-set stop.acked actor phase ∙ st.acked_are;
      ran_are = st.ran_are;
      answers_are = st.answers_are;
      work_is = st.work_is;
    } in
    record {
      low = below;
      stop_is = search arith;
      cpu_is = record { quiet = quiet; below = q.below; inside_is = q.inside_is; irq_is = λ t. told t ∙ q.irq_is t };
      others = λ cpu cpu_low ne.
          let kept : acked_by mid cpu ≡ acked_by stop cpu = get_or-set_other stop.acked actor cpu phase 0 ne in
          let same : member_of cpu stop ≡ member_of cpu mid = rw kept refl in
          let old = view_same left_out number cpu (seen cpu) (member_of cpu stop) (member_of cpu mid) (cpu_at s cpu).inside (cpu_at s cpu).irq same
          (r.at number low cpu cpu_low) in
          view_same left_out number cpu (seen cpu) (last_member who actor left_out (member_of cpu mid)) (member_of cpu (at_last who actor (not left_out) mid))
          (cpu_at s cpu).inside (cpu_at s cpu).irq
          (sym (search arith))
          (last_round who left_out number cpu actor (seen cpu) (member_of cpu mid) (cpu_at s cpu).inside (cpu_at s cpu).irq
          (λ none m. rw at (late_none mid phase cpu none cpu_low m)) old);
      elsewhere = λ other other_low ne.
          away_same left_out number other actor (seen actor) (acked_seen phase (seen actor)) (member_of actor (stop_at s other)) (cpu_at s actor).inside
          (cpu_at s actor).irq irq is ne
          (r.at other other_low actor below);
      here =
          let acked = here_acked left_out number actor phase (seen actor) (member_of actor stop) (cpu_at s actor).inside
          (cpu_at s actor).irq irq is at more off (r.at number low actor below) in
          let old = view_same left_out number actor (acked_seen phase (seen actor)) (acked_member phase (member_of actor stop)) (member_of actor mid)
          (cpu_at s actor).inside irq view acked in
          view_same left_out number actor (acked_seen phase (seen actor)) (last_member who actor left_out (member_of actor mid)) (member_of actor
          (at_last who actor (not left_out) mid)) (cpu_at s actor).inside irq
          (sym (search arith))
          (last_round who left_out number actor actor (acked_seen phase (seen actor)) (member_of actor mid) (cpu_at s actor).inside irq
          (λ none m. rw at (late_none mid phase actor none below m)) old);
    }

ack_done : (seen : ℕ → Seen) (work : ℕ → Option Task) (s t : StateValue) (number actor phase : ℕ) (irq : Bool) → Rounds seen work s → number < 64
    → (cpu_at s actor).inside ≡ Some number → (stop_at s number).phase ≡ phase → acked_by (stop_at s number) actor < phase
    → (DISABLE_IRQ ≤ phase → phase < EXIT → irq ≡ false) → (irq ≡ false → handles_nothing (cpu_at s actor) ≡ Ok tt)
    → (s.setting.without.switches ≡ false → irq ≡ (cpu_at s actor).irq)
    → changed_to number actor s (acknowledged actor phase (not s.setting.without.raises) (stop_at s number)) (with_interrupts irq (cpu_at s actor)) ≡ t
    → Rounds (put_seen actor (acked_seen phase) seen) work t
ack_done seen work s t number actor phase irq r low is at more off quiet told same =
    let stop = acknowledged actor phase (not s.setting.without.raises) (stop_at s number) in
    let c = with_interrupts irq (cpu_at s actor) in
    rounds_end (put_seen actor (acked_seen phase) seen) work (changed_to number actor s stop c) t same
    (changed seen work s number actor (acked_seen phase) stop c r (ack_change seen work s number actor phase irq r low is at more off quiet told))

-- the interrupts of a CPU that acknowledges RUN or EXIT are off
off_before : (seen : ℕ → Seen) (work : ℕ → Option Task) (s : StateValue) (number actor phase : ℕ) → Rounds seen work s → InRound s actor number
    → (stop_at s number).phase ≡ phase → acked_by (stop_at s number) actor < phase → RUN ≤ phase → phase ≤ EXIT → (cpu_at s actor).irq ≡ false
off_before seen work s number actor phase h1 h2 h3 h4 h5 h6 = search (actor_below, arith)

disabled_is : (left_out : Bool) (cpu : ℕ) (s : StateValue) → acks_disabled left_out cpu s ≡ Ok tt
    → (left_out ≡ false → (cpu_at s cpu).irq ≡ false) × (left_out ≡ true → handles_nothing (cpu_at s cpu) ≡ Ok tt)
disabled_is left_out cpu s e = search arith

disabled_by : (left_out : Bool) (s m : StateValue) (cpu : ℕ) → m.cpus ≡ s.cpus → acks_disabled left_out cpu s ≡ Ok tt → acks_disabled left_out cpu m ≡ Ok tt
disabled_by true s m cpu cpus e = rw cpus e
disabled_by false s m cpu cpus e = rw cpus e

-- interrupts stay as they are
ack_same : (seen : ℕ → Seen) (work : ℕ → Option Task) (s t : StateValue) (number actor phase : ℕ) → Rounds seen work s → InRound s actor number
    → (stop_at s number).phase ≡ phase → acked_by (stop_at s number) actor < phase → (phase ≡ DISABLE_IRQ → (cpu_at s actor).irq ≡ false)
    → with_stop number s (acknowledged actor phase (not s.setting.without.raises) (stop_at s number)) ≡ t →
    Rounds (put_seen actor (acked_seen phase) seen) work t
ack_same seen work s t number actor phase r i at more two same =
    let m = with_stop number s (acknowledged actor phase (not s.setting.without.raises) (stop_at s number)) in
    ack_done seen work s t number actor phase (cpu_at s actor).irq r i.low i.inside at more
    (λ le lt. elim (cases_eq phase DISABLE_IRQ) [ inl e ↦ two e | inr ne ↦ off_before seen work s number actor phase r i at more (omega arith) (omega arith) ])
    (r.cpu actor (actor_below s actor number r.cpus_are r.away i.inside)).quiet (λ told. refl) ((ap (λ cpus. record m { cpus = cpus }) (set-get_or m.cpus actor
    fresh_cpu)) ∙ same)

ack_switched : (seen : ℕ → Seen) (work : ℕ → Option Task) (s t : StateValue) (number actor phase : ℕ) (two four : Bool) → Rounds seen work s →
    InRound s actor number
    → (stop_at s number).phase ≡ phase → acked_by (stop_at s number) actor < phase → s.setting.without.switches ≡ true → (phase == DISABLE_IRQ) ≡ two →
    (phase == EXIT) ≡ four
    → (two ≡ true → handles_nothing (cpu_at s actor) ≡ Ok tt)
    → let m = with_stop number s (acknowledged actor phase (not s.setting.without.raises) (stop_at s number)) in
    (if two then with_irq actor false m else (if four then with_irq actor (not (is_cpu (stop_at m number).raiser actor)) m else m)) ≡ t
    → Rounds (put_seen actor (acked_seen phase) seen) work t
ack_switched seen work s t number actor phase true four r i at more out is_two is_four idle same =
    ack_done seen work s t number actor phase false r i.low i.inside at more (λ le lt. refl) (λ e. idle refl) (λ told. absurd
    (ne_truth s.setting.without.switches out told)) same
ack_switched seen work s t number actor phase false true r i at more out is_two is_four idle same =
    let m = with_stop number s (acknowledged actor phase (not s.setting.without.raises) (stop_at s number)) in
    let e : phase ≡ EXIT = eqb-true phase EXIT is_four in
    let off = off_before seen work s number actor phase r i at more (omega arith) (omega arith) in
    ack_done seen work s t number actor phase (not (is_cpu (stop_at m number).raiser actor)) r i.low i.inside at more (λ le lt. absurd (omega arith))
    (λ x. (r.cpu actor (actor_below s actor number r.cpus_are r.away i.inside)).quiet off) (λ told. absurd (ne_truth s.setting.without.switches out told)) same
ack_switched seen work s t number actor phase false false r i at more out is_two is_four idle same =
    ack_same seen work s t number actor phase r i at more (λ e. absurd (eqb-false phase DISABLE_IRQ is_two e)) same

ack_by_switches : (seen : ℕ → Seen) (work : ℕ → Option Task) (s t : StateValue) (number actor phase : ℕ) (left_out : Bool) → Rounds seen work s →
    InRound s actor number
    → (stop_at s number).phase ≡ phase → acked_by (stop_at s number) actor < phase → s.setting.without.switches ≡ left_out
    → ((phase == DISABLE_IRQ) ≡ true → acks_disabled left_out actor s ≡ Ok tt)
    → let m = with_stop number s (acknowledged actor phase (not s.setting.without.raises) (stop_at s number)) in
    (if left_out then switched_at actor number phase m else m) ≡ t → Rounds (put_seen actor (acked_seen phase) seen) work t
ack_by_switches seen work s t number actor phase true r i at more out shows same =
    ack_switched seen work s t number actor phase (phase == DISABLE_IRQ) (phase == EXIT) r i at more out refl refl
    (λ e. (disabled_is true actor s (shows e)).1 refl) same
ack_by_switches seen work s t number actor phase false r i at more out shows same =
    ack_same seen work s t number actor phase r i at more (λ e. (disabled_is false actor s (shows (eq-eqb phase DISABLE_IRQ e))).0 refl) same

-- a CPU shows that in each state that has its interrupts and its calls
disabled_in : (s m : StateValue) (cpu : ℕ) → m.cpus ≡ s.cpus → m.setting ≡ s.setting → acks_disabled s.setting.without.switches cpu s ≡ Ok tt
    → acks_disabled m.setting.without.switches cpu m ≡ Ok tt
disabled_in s m cpu cpus set e =
    subst (λ (u : Setting). acks_disabled u.without.switches cpu m ≡ Ok tt) (sym set) (disabled_by s.setting.without.switches s m cpu cpus e)

-- at the state where a patch is known
ack_from : (seen : ℕ → Seen) (work : ℕ → Option Task) (s m t : StateValue) (number actor phase : ℕ) → InRound s actor number → AckFrom seen work s m number
    → (stop_at s number).phase ≡ phase → acked_by (stop_at s number) actor < phase
    → ((phase == DISABLE_IRQ) ≡ true → acks_disabled s.setting.without.switches actor s ≡ Ok tt) → acked actor number phase m ≡ t →
    Rounds (put_seen actor (acked_seen phase) seen) work t
ack_from seen work s m t number actor phase i f at more shows same =
    let cpus : m.cpus ≡ s.cpus = f.cpus_are in
    let set : m.setting ≡ s.setting = f.setting_is in
    let view = f.views actor in
    let now : (stop_at m number).phase ≡ phase = ap (λ w. w.phase) view ∙ at in
    let late_is : acked_by (stop_at m number) actor ≡ acked_by (stop_at s number) actor = ap (λ w. w.acked) view in
    let kind : (stop_at m number).task ≡ (stop_at s number).task = ap (λ w. w.task) view in
    let j : InRound m actor number = record { inside = rw cpus i.inside; low = i.low; round = rw kind i.round } in
    ack_by_switches seen work m t number actor phase m.setting.without.switches f.rounds j now (rw late_is more) refl
    (λ e. disabled_in s m actor cpus set (shows e)) same

pub ack_rounds : (seen : ℕ → Seen) (work : ℕ → Option Task) (s t : StateValue) (actor phase : ℕ) → Rounds seen work s → ack_by actor phase s ≡ Ok t
    → Rounds (put_seen actor (acked_seen phase) seen) work t
unfolding ack_by
ack_rounds seen work s t actor phase r e =
    let m = both_made (in_round actor s) (λ number. may_ack actor number phase s >>= λ x. Ok (acked actor number phase x)) t e in
    let number = m.0 in
    let i = in_round_is s actor number m.1.0 in
    let n = both_made (may_ack actor number phase s) (λ x. Ok (acked actor number phase x)) t m.1.1 in
    let runs = (phase == RUN) && has (stop_at s number).task.active actor in
    let tests : Result StateValue Reason =
    if phase == DISABLE_IRQ then (acks_disabled s.setting.without.switches actor s >>= λ v. Ok s) else (if runs then acks_at_run actor number s else Ok s) in
    let k = both_made (at_phase (stop_at s number) actor phase) (λ u. tests) n.0 n.1.0 in
    let a = acts_at (stop_at s number) actor phase k.0 k.1.0 in
    let f = from_tests seen work (phase == DISABLE_IRQ) runs actor number s n.0 r i.low k.1.1 in
    ack_from seen work s n.0 t number actor phase i f.0 a.1 a.0 f.1 (cc)

-- a CPU raises a phase
raise_round : (left_out : Bool) (number cpu phase : ℕ) (v : Seen) (w : Member) (inside : Option ℕ) (irq : Bool) → is_some w.raiser ≡ true → w.phase ≡ phase - 1
    → RoundAt left_out number cpu v w inside irq → RoundAt left_out number cpu v (record w { phase = phase; raiser = None }) inside irq
raise_round left_out number cpu phase v w inside irq h1 h2 h3 = search arith

pub raised_is : (raiser : Option ℕ) (cpu phase : ℕ) (stop to : Stop) → raised_by raiser cpu phase stop ≡ Ok to
    → (is_some raiser ≡ true) × (record stop { phase = phase; raiser = None } ≡ to)
raised_is raiser cpu phase stop to e = search (passed, arith)

raise_change : (seen : ℕ → Seen) (work : ℕ → Option Task) (s : StateValue) (number phase : ℕ) → Rounds seen work s → number < 64
    → is_some (stop_at s number).raiser ≡ true → (stop_at s number).phase ≡ phase - 1
    → StopChange seen (work number) s number (record (stop_at s number) { phase = phase; raiser = None })
raise_change seen work s number phase r low raiser at =
    let stop = stop_at s number in
    let st = r.stop number low in
    record {
      stop_is = record { entered_are = st.entered_are; acked_are = st.acked_are; ran_are = st.ran_are; answers_are = st.answers_are; work_is = st.work_is };
      each = λ cpu below. raise_round s.setting.without.raises number cpu phase (seen cpu) (member_of cpu stop) (cpu_at s cpu).inside
          (cpu_at s cpu).irq raiser at (r.at number low cpu below);
    }

put_same : (actor : ℕ) (seen : ℕ → Seen) (cpu : ℕ) → seen cpu ≡ put_seen actor (λ v. v) seen cpu
put_same actor seen cpu = search arith

switched_rounds : (seen : ℕ → Seen) (work : ℕ → Option Task) (s t : StateValue) (number actor phase : ℕ) (left_out five : Bool) → Rounds seen work s →
    number < 64
    → (cpu_at s actor).inside ≡ Some number → s.setting.without.switches ≡ left_out → (phase == OVER) ≡ five → phase ≤ acked_by (stop_at s number) actor + 1
    → (if left_out && five then with_irq actor true s else s) ≡ t → Rounds seen work t
switched_rounds seen work s t number actor phase true true r low is out five at same =
    let e : phase ≡ OVER = eqb-true phase OVER five in
    rounds_end seen work (with_irq actor true s) t same
    (rounds_seen (put_seen actor (λ v. v) seen) seen work (with_irq actor true s) (λ cpu below. put_same actor seen cpu)
    (irq_changed seen work s number actor (λ v. v) true r
    (irq_change seen work s number actor (λ v. v) true r low is refl (λ told. absurd (ne_truth s.setting.without.switches out told)) refl refl
    (λ x. absurd cc) (inr (omega arith)))))
switched_rounds seen work s t number actor phase true false r low is out five at same = rounds_end seen work s t same r
switched_rounds seen work s t number actor phase false five r low is out is_five at same = rounds_end seen work s t same r

pub raise_rounds : (seen : ℕ → Seen) (work : ℕ → Option Task) (s t : StateValue) (actor phase : ℕ) → Rounds seen work s → raise_by actor phase s ≡ Ok t →
    Rounds seen work t
unfolding raise_by raised
raise_rounds seen work s t actor phase r e =
    let made = λ (number : ℕ). let stop = stop_at s number in
    let x : Result Stop Reason = if stop.phase == phase - 1 then raised_by stop.raiser actor phase stop else Err (reason.PhaseIs stop.phase) in x in
    let m = both_made (in_round actor s) (λ number. on_stop number s (made number) >>= λ x. Ok (switched_on actor phase x)) t e in
    let number = m.0 in
    let stop = stop_at s number in
    let i = in_round_is s actor number m.1.0 in
    let n = both_made (on_stop number s (made number)) (λ x. Ok (switched_on actor phase x)) t m.1.1 in
    let k = both_made (made number) (λ x. Ok (with_stop number s x)) n.0 n.1.0 in
    let p = passed (stop.phase == phase - 1) (raised_by stop.raiser actor phase stop) (reason.PhaseIs stop.phase) k.0 k.1.0 in
    let at = eqb-true stop.phase (phase - 1) p.0 in
    let o = raised_is stop.raiser actor phase stop k.0 p.1 in
    let to = record stop { phase = phase; raiser = None } in
    let u = with_stop number s to in
    let end : u ≡ n.0 = ap (λ x. with_stop number s x) o.1 ∙ cc in
    let same : switched_on actor phase u ≡ t = ap (λ x. switched_on actor phase x) end ∙ cc in
    let old = r.at number i.low actor (actor_below s actor number r.cpus_are r.away i.inside) in
    let past = old.last o.0 (old.in_stop i.inside).member in
    let new : stop_at u number ≡ to = stop_changed number s to (rw r.stops_are i.low) in
    let acked_same : acked_by (stop_at u number) actor ≡ acked_by stop actor = ap (λ x. acked_by x actor) new in
    let reached : phase ≤ acked_by stop actor + 1 = omega arith in
    switched_rounds seen work u t number actor phase s.setting.without.switches (phase == OVER)
    (stop_only seen work work s number to r (raise_change seen work s number phase r i.low o.0 at) (λ other ne. refl)) i.low i.inside refl refl
    (rw acked_same reached) same

-- A patch stores: the CPU is active in it, at RUN.
pub record StoresIn (s : StateValue) (cpu : ℕ) : Type 0 where
  pub number : ℕ
  pub low : number < 64
  pub inside : (cpu_at s cpu).inside ≡ Some number
  pub kind_is : (stop_at s number).task.kind ≡ APatch
  pub active : has (stop_at s number).task.active cpu ≡ true
  pub early : acked_by (stop_at s number) cpu < RUN
  pub at : (stop_at s number).phase ≡ RUN

pub in_patch_is : (s : StateValue) (cpu number : ℕ) → in_patch cpu s ≡ Ok number → (i : StoresIn s cpu) × (i.number ≡ number)
in_patch_is s cpu number e =
    let after = λ (x : ℕ). let y : Result ℕ Reason = if has (stop_at s x).task.active cpu then (at_phase (stop_at s x) cpu RUN >>= λ u. Ok x) else Err
    (reason.NotActive cpu) in y in
    let m = both_made (stop_of cpu s) (λ x. if_patch (stop_at s x).task.kind x >>= λ patch. after x) number e in
    let o = stop_of_is s cpu m.0 m.1.0 in
    let stop = stop_at s m.0 in
    let n = both_made (if_patch stop.task.kind m.0) (λ patch. after m.0) number m.1.1 in
    let p = passed (has stop.task.active cpu) (at_phase stop cpu RUN >>= λ u. Ok m.0) (reason.NotActive cpu) number n.1.1 in
    let k = both_made (at_phase stop cpu RUN) (λ u. Ok m.0) number p.1 in
    let a = acts_at stop cpu RUN k.0 k.1.0 in
    (record { number = m.0; low = o.1; inside = o.0; kind_is = search arith; active = p.0; early = a.0; at = a.1 }, cc)

store_rounds : (seen : ℕ → Seen) (work : ℕ → Option Task) (next : Option (Place × ℕ)) (number : ℕ) (patch : Patch) (place : Place) (word : ℕ) (s t : StateValue)
    → Rounds seen work s → number < 64 → made_store next number patch place word s ≡ Ok t → Rounds seen work t
store_rounds seen work None number patch place word s t r low e = absurd cc
store_rounds seen work (Some next) number patch place word s t r low e =
    let m = with_word place word s in
    let p = passed (is_store next place word) (Ok (with_patch number (popped patch place) m)) (to_be next) t e in
    rounds_end seen work (with_patch number (popped patch place) m) t (cc) (patch_rounds seen work m number (popped patch place)
    (words_rounds seen work s place word r) low)

pub patch_by_rounds : (seen : ℕ → Seen) (work : ℕ → Option Task) (s t : StateValue) (actor : ℕ) (place : Place) (word : ℕ) → Rounds seen work s
    → patch_by actor place word s ≡ Ok t → Rounds seen work t
unfolding patch_by
patch_by_rounds seen work s t actor place word r e =
    let m = both_made (in_patch actor s) (λ number. made_store (next_store number s) number (patch_left number s) place word s) t e in
    let i = in_patch_is s actor m.0 m.1.0 in
    store_rounds seen work (next_store m.0 s) m.0 (patch_left m.0 s) place word s t r (rw i.1 at i.0.low) m.1.1
