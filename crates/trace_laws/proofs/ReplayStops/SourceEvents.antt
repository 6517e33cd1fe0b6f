-- A source begins and opens its stop, and collects the result; a CPU reads a key or a site.
use Rattle.trace_laws.proofs.Names.{Bool, Event, Kind, List, Multi, None, Ok, One, Option, Setting, Some, Task, [], and_left, and_right, answer_of, ap, arith}
use Rattle.trace_laws.proofs.Names.{cond, eq-eqb, false, false≢true, get_or-replicate, gives, goes, has, has_run, inl, inr, int_eq, is_none, is_on, is_work}
use Rattle.trace_laws.proofs.Names.{label_goes, length, length-append, length-replicate, length-set, lt-ltb, members_below, ne_eqb, offline_in}
use Rattle.trace_laws.proofs.Names.{pos, refl, slice_set, stop_at, stop_goes, subst, suc, sym, true, true≢false, unfinished, with_stop, xor, zero, ℕ, ℤ, ◌&&◌}
use Rattle.trace_laws.proofs.Names.{◌<◌, ◌^◌, ◌∙◌, ◌∷◌, ◌≡◌, ◌≢◌}
use Rattle.trace_laws.proofs.ReplayNames.{Answering, Called, Calling, Completed, CpuIs, Inside, Key, MemberIs, OpenIs, Outside, Past, Patch, Site, Standing}
use Rattle.trace_laws.proofs.ReplayNames.{Stop, StopIs, StopState, ToldStop, Word, Work, as_i32, cpus, first_phase, given_by, is_inside, is_of, mask_weight}
use Rattle.trace_laws.proofs.ReplayNames.{opening, past_at, put, put_all, put_other, sum_below, told_work}
use Rattle.smp_stop_steps.proofs.State.Raises.{in_machine}
use Rattle.smp_stop_steps.specs.{Callings.HasCompleted, Counts.bit, Slots.HasGiven, Slots.ResultShows, Stop.opened}
use Rattle.trace_model.specs.declared.event.Event.TheVariants as event
use Rattle.trace_model.specs.declared.event.LabelEvent.TheVariants as labels
use Rattle.trace_model.specs.declared.event.StopEvent.TheVariants as stops
use Rattle.trace_model.specs.{Stop.first_phase as told_first, Stop.is_answer, Stop.is_same}
use Rattle.trace_laws.proofs.ReplayStops.ChangedStates.{IsAlike, cpu_alike, follows_step, patch_alike, still_no_more, stop_else, stops_set}
use Rattle.trace_laws.proofs.{ReplayPatches.OnePatcher.inside_by, ReplayPatches.OnePatcher.open_inside, ReplayStops.ComparedAnswers.as_i32-zero}
use Rattle.trace_laws.proofs.{ReplayStops.ComparedAnswers.differs, ReplayStops.ComparedAnswers.same_int, ReplayStops.Here.Here, ReplayStops.Here.my}
use Rattle.trace_laws.proofs.{ReplayStops.Here.parts, ReplayStops.LastToAcknowledge.first_none, ReplayStops.LastToAcknowledge.first_some}
use Rattle.trace_laws.proofs.{ReplayStops.StepEvents.ReachesStops, ReplayStops.StepKinds.Goes, ReplayStops.StopEvents.collects_result}
use Rattle.trace_laws.proofs.{ReplayStops.StopEvents.opens_stop}

-- a CPU of a stop that opens
member_new : (task : Task) (c : ℕ) (b : Bool) → c < cpus → has task.mask c ≡ b → MemberIs (cond b Called Outside) (opening task) c
member_new task c true l e = record {
  called = rw (e, get_or-replicate 32 c false false (omega arith)) refl;
  acked_is = get_or-replicate 32 c 0 0 (omega arith);
  answer = get_or-replicate 32 c None None (omega arith);
  fresh = λ is. get_or-replicate 32 c false false (omega arith);
  unmade = λ is active. refl;
}
member_new task c false l e = record {
  called = rw e refl;
  acked_is = get_or-replicate 32 c 0 0 (omega arith);
  answer = get_or-replicate 32 c None None (omega arith);
  fresh = λ is. get_or-replicate 32 c false false (omega arith);
  unmade = λ is active. refl;
}

phase_new : (k : Kind) → told_first k ≡ first_phase k
phase_new k = search arith

-- the weight of a mask is the number of its members
length-if : (b : Bool) (k : ℕ) → length (cond b (k ∷ []) []) ≡ bit b
length-if b k = search arith

members_weight : (mask k : ℕ) → length (members_below mask k) ≡ mask_weight k mask
unfolding members_below sum_below
members_weight mask zero = refl
members_weight mask (suc k) =
    omega (arith, (length-if (has mask k) k), (members_weight mask k), (length-append (members_below mask k) (cond (has mask k) (k ∷ []) [])))

-- there is such a work, of CPUs that are online
pub works : (u : Setting) (w : Work) (k : Kind) → w.kind ≡ k → mask_weight cpus w.mask ≢ 0 → (k ≡ One → mask_weight cpus w.mask ≡ 1)
    → (k ≡ Patch → is_work u (told_work w) ≡ true) → is_work u (told_work w) ≡ true
works u w One e some one patch =
    rw e (eq-eqb (length (members_below w.mask cpus)) 1 ((members_weight w.mask cpus) ∙ (one refl)))
works u w Multi e some one patch =
    rw e (lt-ltb 0 (length (members_below w.mask cpus)) (positive (length (members_below w.mask cpus)) (λ z. some (sym (members_weight w.mask cpus) ∙ z))))
  where
    positive : (n : ℕ) → n ≢ 0 → 0 < n
    positive n z = omega arith
works u w Patch e some one patch = patch refl

pub onlines : (u : Setting) (mask : ℕ) → ((c : ℕ) → has mask c ≡ true → has u.online c ≡ true) → offline_in u mask ≡ None
onlines u mask h1 = search (first_none, and_left, and_right, arith)

module _ (known : Here) (at' : Word → ℕ) (keys : (key : ℕ) → at' (Key key) ≡ (parts known).At (Key key))
    (sites : (site : ℕ) → at' (Site site) ≡ (parts known).At (Site site)) where
  open known use {p, me, below, pasts, sized, s, whole, cpus_are, f, shown.{seat, source, shows as h}}
  open parts known use {U as u, At as at}

  abbrev Is : StopState → ℕ → Stop → Option ℕ → Bool → Calling → Type 0
  Is q slot x inside irq calling = Goes known at' keys sites q slot x inside irq calling

  abbrev Leads : StopState → Past → List (ℕ × Event) → Type 0
  Leads q past es = ReachesStops q at' (slice_set pasts me past) s es

  -- an open stop, as it is told
  shown : (slot : ℕ) → slot < cpus → (p.now.stop slot).is_open ≡ true → OpenIs (p.now.stop slot) (stop_at s slot)
  shown slot l o = (f.stops slot l).shows o

  -- a CPU that is in a stop is inside it
  pub inside_is : (slot c : ℕ) → p.now.inside c ≡ Some slot → is_inside ((p.now.stop slot).standing c) ≡ true
  inside_is slot c e = inside_by p slot c (seat c) (h.present.stands c) e

  -- a stop of which no CPU is inside goes on, and all that is told of it
  module _ (q : StopState) (past : Past) (slot : ℕ) (x : Stop) (y : ToldStop) (below_slot : slot < cpus) (empty : (c : ℕ) → p.now.inside c ≡ Some slot → ⊥)
      (stop_is : (j : ℕ) → q.now.stop j ≡ put p.now.stop slot x j) (inside : (c : ℕ) → q.now.inside c ≡ p.now.inside c) (irq : (c : ℕ)
      → q.now.irq c ≡ p.now.irq c)
      (calling : (c : ℕ) → q.calling c ≡ p.calling c) (gate : q.gate ≡ p.gate) (patching : q.now.patching ≡ p.now.patching) (here : StopIs x y)
      (my : CpuIs p s past me) where
    alike : (c : ℕ) → IsAlike p q s (with_stop slot s y) c
    alike c = record {
      inside = inside c;
      irq = irq c;
      calling = calling c;
      standing = λ j e. ap (λ (z : Stop). z.standing c) (stop_is j ∙ put_other p.now.stop slot x j (λ same. empty c (e ∙ ap Some same)));
      inside_told = refl;
      irq_told = refl;
      ran = λ j e l. ap (λ (z : ToldStop). has_run z c) (stop_else s slot y j (λ same. empty c (e ∙ ap Some same)));
      work = work_as c;
      patch = λ j e l. patch_alike p q s (with_stop slot s y) c j (work_as c j e) patching (calling c) refl
          (ap (λ (z : ToldStop). z.patch) (stop_else s slot y j (λ same. empty c (e ∙ ap Some same))));
    }
      where
        work_as : (c j : ℕ) → p.now.inside c ≡ Some j → (q.now.stop j).work ≡ (p.now.stop j).work
        work_as c j e = ap (λ (z : Stop). z.work) (stop_is j ∙ put_other p.now.stop slot x j (λ same. empty c (e ∙ ap Some same)))

    pub empty_step : (e : Event) → goes me e s ≡ Ok (with_stop slot s y) → Leads q past ((me, e) ∷ [])
    empty_step e made = record {
      t = with_stop slot s y;
      runs = (with_stop slot s y, (made, refl));
      follows = follows_step p q at at' pasts s (with_stop slot s y) me past f (record {
        below = below;
        pasts_are = sized;
        stops_are = length-set s.stops slot y ∙ f.stops_are;
        gate = f.gate ∙ sym gate;
        stops = stops_set p q s slot x y f.stops_are below_slot f.stops stop_is here;
        no_more = still_no_more s slot y below_slot f.no_more;
        mine = cpu_alike p q s (with_stop slot s y) me past (alike me) my;
        others = λ c ne. alike c;
        words = refl;
        keys = keys;
        sites = sites;
      });
      leaves = record { setting = refl; places = refl; entries = refl; cpus_are = refl; calls = λ cpu. refl };
    }

  -- a source drafts its stop, of which nothing is told yet
  pub drafts_step : (q : StopState) (past : Past) (x : Stop) → (p.now.stop me).is_open ≡ false → x.is_open ≡ false
      → ((j : ℕ) → q.now.stop j ≡ put p.now.stop me x j) → ((c : ℕ) → x.standing c ≡ (p.now.stop me).standing c) → ((c : ℕ) → q.now.inside c ≡ p.now.inside c)
      → ((c : ℕ) → q.now.irq c ≡ p.now.irq c) → ((c : ℕ) → q.calling c ≡ p.calling c) → q.gate ≡ p.gate → q.now.patching ≡ p.now.patching → CpuIs p s past me
      → Leads q past []
  drafts_step q past x shut x_shut stop_is standing inside irq calling gate patching my =
      let same = λ (c j : ℕ). ap (λ (z : Stop). z.standing c) (stop_is j)
      ∙ put_all (λ k (z : Stop). z.standing c ≡ (p.now.stop k).standing c) p.now.stop me x (standing c) (λ k other. refl) j in
      let alike : (c : ℕ) → IsAlike p q s s c =
      λ c. record {
        inside = inside c;
        irq = irq c;
        calling = calling c;
        standing = λ j e. same c j;
        inside_told = refl;
        irq_told = refl;
        ran = λ j e l. refl;
        work = works_as c;
        patch = λ j e l. patch_alike p q s s c j (works_as c j e) patching (calling c) refl refl;
      } in
      record {
        t = s;
        runs = refl;
        follows = follows_step p q at at' pasts s s me past f (record {
          below = below;
          pasts_are = sized;
          stops_are = f.stops_are;
          gate = f.gate ∙ sym gate;
          stops = λ j l. subst (λ (z : Stop). StopIs z (stop_at s j)) (sym (stop_is j)) (put_all (λ k (z : Stop). k < cpus
              → StopIs z (stop_at s k)) p.now.stop me x
              (λ m. let k = f.stops me m in record {
                sized = k.sized;
                is_open = k.is_open ∙ (shut ∙ sym x_shut);
                shows = λ o. absurd (false≢true
                    (sym x_shut ∙ o));
              })
              (λ k ne m. f.stops k m) j l);
          no_more = f.no_more;
          mine = cpu_alike p q s s me past (alike me) my;
          others = λ c ne. alike c;
          words = refl;
          keys = keys;
          sites = sites;
        });
        leaves = record { setting = refl; places = refl; entries = refl; cpus_are = refl; calls = λ cpu. refl };
      }
    where
      works_as : (c j : ℕ) → p.now.inside c ≡ Some j → (q.now.stop j).work ≡ (p.now.stop j).work
      works_as c j e =
          let other : j ≢ me = λ same. absurd (false≢true (sym shut ∙ (ap (λ (n : ℕ). (p.now.stop n).is_open) (sym same)
          ∙ open_inside u p at seat source h j c e))) in
          ap (λ (z : Stop). z.work) (stop_is j ∙ put_other p.now.stop me x j other)

  -- an event that only looks
  pub reads_step : (q : StopState) (e : Event) → goes me e s ≡ Ok s → ((j : ℕ) → q.now.stop j ≡ p.now.stop j) → ((c : ℕ) → q.now.inside c ≡ p.now.inside c)
      → ((c : ℕ) → q.now.irq c ≡ p.now.irq c) → ((c : ℕ) → q.calling c ≡ p.calling c) → q.gate ≡ p.gate → q.now.patching ≡ p.now.patching
      → Leads q (past_at pasts me) ((me, e) ∷ [])
  reads_step q e made stop inside irq calling gate patching =
      let alike : (c : ℕ) → IsAlike p q s s c =
      search (patch_alike, arith) in
      record {
        t = s;
        runs = (s, (made, refl));
        follows = follows_step p q at at' pasts s s me (past_at pasts me) f (record {
          below = below;
          pasts_are = sized;
          stops_are = f.stops_are;
          gate = f.gate ∙ sym gate;
          stops = λ j l. subst (λ (z : Stop). StopIs z (stop_at s j)) (sym (stop j)) (f.stops j l);
          no_more = f.no_more;
          mine = cpu_alike p q s s me (past_at pasts me) (alike me) (my known);
          others = λ c ne. alike c;
          words = refl;
          keys = keys;
          sites = sites;
        });
        leaves = record { setting = refl; places = refl; entries = refl; cpus_are = refl; calls = λ cpu. refl };
      }

  xor_same : (b : Bool) → xor b b ≡ false
  xor_same b = search arith

  pub key_read : (key : ℕ) → p.now.irq me ≡ true → goes me (event.Label (labels.Key key (is_on (at (Key key))))) s ≡ Ok s
  unfolding label_goes
  key_read key on = rw (lt-ltb me 32 (omega (arith, below)), (my known).irq ∙ on, f.keys key, xor_same (is_on (at (Key key)))) refl

  pub site_read : (site : ℕ) → p.now.irq me ≡ true → goes me (event.Label (labels.Site site (is_on (at (Site site))))) s ≡ Ok s
  unfolding label_goes
  site_read site on = search (lt-ltb, my, ne_eqb, xor_same, arith)

  -- a source opens its stop
  module _ (q : StopState) (w : Work) (work : (p.now.stop me).work ≡ w) (shut : (p.now.stop me).is_open ≡ false) where
    told_opened : StopIs (opened (p.now.stop me) (p.now.stop me).work) (opening (told_work w))
    told_opened = record {
      sized = search (length-replicate, arith);
      is_open = refl;
      shows = λ o. record {
        task = ap told_work (sym work);
        phase = phase_new w.kind ∙ ap (λ (z : Work). first_phase z.kind) (sym work);
        raiser = refl;
        members = λ c l. rw work (member_new (told_work w) c (has w.mask c) l refl);
        patch = λ kind. refl;
      };
    }

    nobody : (c : ℕ) → p.now.inside c ≡ Some me → ⊥
    nobody c e =
        let k = inside_is me c e in
        let m = (h.present.slots me).members c in
        none ((p.now.stop me).standing c) k (m ∙ rw shut refl)
      where
        none : (x : Standing) → is_inside x ≡ true → is_of x ≡ false → ⊥
        none Outside k m = absurd (false≢true k)
        none _ k m = absurd (true≢false m)

    pub opens_told : (task : Task) → task ≡ told_work w → is_work s.setting (told_work w) ≡ true → offline_in s.setting w.mask ≡ None → p.gate ≡ Some me
        → ((j : ℕ) → q.now.stop j ≡ put p.now.stop me (opened (p.now.stop me) (p.now.stop me).work) j) → ((c : ℕ) → q.now.inside c ≡ p.now.inside c)
        → ((c : ℕ) → q.now.irq c ≡ p.now.irq c) → ((c : ℕ) → q.calling c ≡ p.calling c) → q.gate ≡ p.gate → q.now.patching ≡ p.now.patching
        → Leads q (past_at pasts me) ((me, event.Stop (stops.Open me task)) ∷ [])
    unfolding stop_goes
    opens_told task is works online gate stop_is inside irq calling gate_is patching =
        rw is (empty_step q (past_at pasts me) me (opened (p.now.stop me) (p.now.stop me).work) (opening
        (told_work w)) below nobody stop_is inside irq calling gate_is patching told_opened
        (my known) (event.Stop (stops.Open me (told_work w)))
        (opens_stop s me whole (told_work w) (omega (arith, below)) ((f.stops me below).is_open ∙ shut) (f.gate ∙ gate) works online))

  -- a source collects the result
  module _ (q : StopState) (x : Stop) (open_now : (p.now.stop me).is_open ≡ true) (x_shut : x.is_open ≡ false)
      (all : (c : ℕ) → has (p.now.stop me).work.mask c ≡ true → HasCompleted ((p.now.stop me).standing c)) where
    was_open : OpenIs (p.now.stop me) (stop_at s me)
    was_open = shown me below open_now

    over : (c : ℕ) → p.now.inside c ≡ Some me → ⊥
    over c e =
        let k = inside_is me c e in
        let m = (h.present.slots me).members c in
        none ((p.now.stop me).standing c) k (λ of. all c (sym (rw open_now at m) ∙ of))
      where
        none : (z : Standing) → is_inside z ≡ true → (is_of z ≡ true → HasCompleted z) → ⊥
        none (Inside a l) k m = absurd (m refl)
        none (Answering a v) k m = absurd (m refl)
        none _ k m = absurd (false≢true k)

    pub collects_told : (answer : ℤ) → unfinished (stop_at s me) ≡ None → gives (stop_at s me) answer ≡ true
        → ((j : ℕ) → q.now.stop j ≡ put p.now.stop me x j) → ((c : ℕ) → q.now.inside c ≡ p.now.inside c)
        → ((c : ℕ) → q.now.irq c ≡ p.now.irq c) → ((c : ℕ) → q.calling c ≡ p.calling c) → q.gate ≡ p.gate → q.now.patching ≡ p.now.patching
        → Leads q (past_at pasts me) ((me, event.Stop (stops.Collect me answer)) ∷ [])
    unfolding stop_goes
    collects_told answer done given stop_is inside irq calling gate_is patching =
        let k = f.stops me below in
        let told : StopIs x (record (stop_at s me) { is_open = false }) = search (
          k.sized.entered,
          k.sized.acked,
          k.sized.ran,
          k.sized.answers,
          false≢true,
          arith,
        ) in
        empty_step q (past_at pasts me) me x (record (stop_at s me) { is_open = false }) below over stop_is inside irq calling gate_is patching told
        (my known) (event.Stop (stops.Collect me answer)) (collects_result s me whole answer (omega (arith, below)) (k.is_open ∙ open_now) done given)

    -- all have completed
    pub all_done : unfinished (stop_at s me) ≡ None
    all_done = first_none (λ c. has (stop_at s me).task.mask c && is_none (answer_of (stop_at s me) c)) 0 32
        (λ c l m. by_mask c (omega (arith, m)) (has (stop_at s me).task.mask c) refl)
      where
        given_some : (z : Standing) → HasCompleted z → is_none (given_by z) ≡ false
        given_some (Completed a v) k = refl
        given_some _ k = absurd k

        by_mask : (c : ℕ) → c < cpus → (b : Bool) → has (stop_at s me).task.mask c ≡ b → (has (stop_at s me).task.mask c && is_none (answer_of
            (stop_at s me) c)) ≡ false
        by_mask c l false e = and_left (has (stop_at s me).task.mask c) _ e
        by_mask c l true e =
            let of : has (p.now.stop me).work.mask c ≡ true = sym (ap (λ (z : Task). has z.mask c) was_open.task) ∙ e in
            and_right (has (stop_at s me).task.mask c) _ (ap is_none (was_open.members c l).answer ∙ given_some ((p.now.stop me).standing c) (all c of))

    -- the answers give this result: 0 where all are 0, and else one of those that are not
    pub result_gives : u.cpus ≡ cpus → (result : ℕ) → result < 2 ^ 32 → ResultShows (p.now.stop me).standing result
        → gives (stop_at s me) (as_i32 result) ≡ true
    result_gives u_is result l (inl k) =
        let zero_told : as_i32 result ≡ pos 0 = ap as_i32 k.0 in
        rw (zero_told) (ap is_none (first_none (λ c. has (stop_at s me).task.mask c && is_same (is_answer (answer_of (stop_at s me) c) (pos 0)) false) 0 32
        (λ c x m. by_mask c (omega (arith, m)) (has (stop_at s me).task.mask c) refl)))
      where
        zero_of : (z : Standing) → HasCompleted z → ((w : ℕ) → HasGiven z w → w ≡ 0) → is_same (is_answer (given_by z) (pos 0)) false ≡ false
        zero_of (Completed a v) k zeros = rw (zeros v refl) refl
        zero_of _ k zeros = absurd k

        by_mask : (c : ℕ) → c < cpus → (b : Bool) → has (stop_at s me).task.mask c ≡ b
            → (has (stop_at s me).task.mask c && is_same (is_answer (answer_of (stop_at s me) c) (pos 0)) false) ≡ false
        by_mask c x false e = and_left (has (stop_at s me).task.mask c) _ e
        by_mask c x true e =
            let of : has (p.now.stop me).work.mask c ≡ true = sym (ap (λ (z : Task). has z.mask c) was_open.task) ∙ e in
            and_right (has (stop_at s me).task.mask c) _ (ap (λ (o : Option ℤ). is_same (is_answer o (pos 0)) false) (was_open.members c x).answer
            ∙ zero_of ((p.now.stop me).standing c) (all c of) (λ w g. k.1 c w g))
    result_gives u_is result l (inr k) =
        let c = k.1.0 in
        let of_it : is_of ((p.now.stop me).standing c) ≡ true = given_of ((p.now.stop me).standing c) k.1.1 in
        let member : has (p.now.stop me).work.mask c ≡ true = sym (rw open_now at ((h.present.slots me).members c)) ∙ of_it in
        let small : c < cpus = subst (λ (n : ℕ). c < n) u_is (in_machine u.cpus (p.now.stop me).phase c ((p.now.stop me).standing c) of_it
        ((h.present.slots me).keeps c)) in
        let answers : answer_of (stop_at s me) c ≡ Some (as_i32 result) = (was_open.members c small).answer
        ∙ completed_of ((p.now.stop me).standing c) (all c member) k.1.1 in
        let mask : has (stop_at s me).task.mask c ≡ true = ap (λ (z : Task). has z.mask c) was_open.task ∙ member in
        let not_zero : int_eq (as_i32 result) (pos 0) ≡ false = differs (as_i32 result) (pos 0) (λ e. k.0 (as_i32-zero result l e)) in
        let found = first_some (λ j. has (stop_at s me).task.mask j && is_same (is_answer (answer_of (stop_at s me) j) (as_i32 result)) true) 0 32 c
        (omega arith) (omega (arith, small))
        (rw (mask, answers, same_int (as_i32 result)) refl) in
        rw (not_zero, found.is) refl
      where
        given_of : (z : Standing) → HasGiven z result → is_of z ≡ true
        given_of z g = search arith

        completed_of : (z : Standing) → HasCompleted z → HasGiven z result → given_by z ≡ Some (as_i32 result)
        completed_of z d g = search arith
