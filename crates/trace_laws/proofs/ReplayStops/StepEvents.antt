-- The events of a step on the stops, and the state to which they lead.
use Rattle.trace_laws.proofs.Names.{arith, CpuState, Event, List, Ok, Option, Some, StateValue, [], acked_by, answer_of, ap, cases_eq, cpu_at, false}
use Rattle.trace_laws.proofs.Names.{goes, has, has_run, inl, inr, is_called, length, length-set, refl, slice_set, stop_at, subst, sym, true, with_cpu}
use Rattle.trace_laws.proofs.Names.{with_stop, ℕ, ◌<◌, ◌∙◌, ◌∷◌, ◌≡◌, ◌≢◌, ◌⊎◌}
use Rattle.trace_laws.proofs.ReplayNames.{Called, CpuIs, FollowsStops, Key, MemberIs, Past, PatchIs, RunsTo, Site, Standing, Stop, StopIs, StopState, ToldStop}
use Rattle.trace_laws.proofs.ReplayNames.{Word, calls_in, cpus, put, put_all, put_if, put_word, same_word}
use Rattle.trace_laws.proofs.ReplayStops.ChangedStates.{IsAlike, IsAlone, LeavesCalls, cpu_alike, follows_step, patch_alike, patch_else, still_no_more}
use Rattle.trace_laws.proofs.ReplayStops.ChangedStates.{stop_else, stop_here, stops_set}
use Rattle.trace_laws.proofs.{ReplayCalls.ChangedStates.cpu_else, ReplayCalls.ChangedStates.cpu_here}

-- These events lead to a state that agrees with the stops, and leave the calls as they were.
pub record ReachesStops (q : StopState) (at' : Word → ℕ) (pasts' : List Past) (s : StateValue) (es : List (ℕ × Event)) : Type 0 where
  pub t : StateValue
  pub runs : RunsTo s es t
  pub follows : FollowsStops q at' pasts' t
  pub leaves : LeavesCalls s t

-- words that a step leaves as they are
pub word_kept : (at : Word → ℕ) (w u : Word) (put : Option ℕ) → same_word u w ≡ false → put_if put_word at w put u ≡ at u
word_kept at w u put e = search arith

-- a member of a stop, where what is told of it is as before
pub member_as : (x : Standing) (e f : ToldStop) (cpu : ℕ) → is_called f cpu ≡ is_called e cpu → acked_by f cpu ≡ acked_by e cpu
    → answer_of f cpu ≡ answer_of e cpu
    → has_run f cpu ≡ has_run e cpu → (x ≡ Called → has f.task.active cpu ≡ true → (has e.task.active cpu ≡ true) × (f.patch ≡ e.patch)) → MemberIs x e cpu
    → MemberIs x f cpu
member_as x e f cpu h1 h2 h3 h4 h5 h6 = search arith

-- What a step of one CPU on one stop changes.
pub record OneStop (p q : StopState) (me source : ℕ) (x : Stop) (e f : ToldStop) : Type 0 where
  pub stop_is : (j : ℕ) → q.now.stop j ≡ put p.now.stop source x j
  pub inside : (cpu : ℕ) → cpu ≢ me → q.now.inside cpu ≡ p.now.inside cpu
  pub irq : (cpu : ℕ) → cpu ≢ me → q.now.irq cpu ≡ p.now.irq cpu
  pub calling : (cpu : ℕ) → cpu ≢ me → q.calling cpu ≡ p.calling cpu
  pub standing : (cpu : ℕ) → cpu ≢ me → x.standing cpu ≡ (p.now.stop source).standing cpu
  pub ran : (cpu : ℕ) → cpu ≢ me → has_run f cpu ≡ has_run e cpu
  pub gate : q.gate ≡ p.gate
  pub work : x.work ≡ (p.now.stop source).work
  pub patch : ((q.now.patching ≡ p.now.patching) × (f.patch ≡ e.patch)) ⊎ IsAlone p me

module _ (p q : StopState) (at at' : Word → ℕ) (pasts : List Past) (s : StateValue) (me : ℕ) (past : Past) (below : me < cpus) (sized : length pasts ≡ 32)
    (cpus_are : length s.cpus ≡ 512) (f : FollowsStops p at pasts s)
    (keys : (key : ℕ) → at' (Key key) ≡ at (Key key)) (sites : (site : ℕ) → at' (Site site) ≡ at (Site site)) where
  -- no stop and no CPU is told to be another
  pub quiet_step : q.gate ≡ p.gate → ((j : ℕ) → q.now.stop j ≡ p.now.stop j) → ((cpu : ℕ) → cpu ≢ me → q.now.inside cpu ≡ p.now.inside cpu)
      → ((cpu : ℕ) → cpu ≢ me → q.now.irq cpu ≡ p.now.irq cpu) → ((cpu : ℕ) → cpu ≢ me → q.calling cpu ≡ p.calling cpu)
      → (q.now.patching ≡ p.now.patching) ⊎ IsAlone p me → CpuIs q s past me → ReachesStops q at' (slice_set pasts me past) s []
  quiet_step gate stops inside irq calling patching mine = record {
    t = s;
    runs = refl;
    follows = follows_step p q at at' pasts s s me past f (record {
      below = below;
      pasts_are = sized;
      stops_are = f.stops_are;
      gate = f.gate ∙ sym gate;
      stops = λ j l. subst (λ (x : Stop). StopIs x (stop_at s j)) (sym (stops j)) (f.stops j l);
      no_more = f.no_more;
      mine = mine;
      others = λ cpu ne. record {
        inside = inside cpu ne;
        irq = irq cpu ne;
        calling = calling cpu ne;
        standing = λ j inside. ap (λ (x : Stop). x.standing cpu) (stops j);
        inside_told = refl;
        irq_told = refl;
        ran = λ j inside l. refl;
        work = λ j inside. ap (λ (x : Stop). x.work) (stops j);
        patch = λ j is l. elim patching [
          | inl same ↦ patch_alike p q s s cpu j (ap (λ (x : Stop). x.work) (stops j)) same (calling cpu ne) refl refl
          | inr alone ↦ λ k. patch_else p q s s me cpu j alone ne is (ap (λ (x : Stop). x.work) (stops j))
        ];
      };
      words = refl;
      keys = keys;
      sites = sites;
    });
    leaves = record { setting = refl; places = refl; entries = refl; cpus_are = refl; calls = λ cpu. refl };
  }

  -- the gate is taken, or given up
  pub gate_step : (gate : Option ℕ) (e : Event) → q ≡ record p { gate = gate } → goes me e s ≡ Ok (record s { gate = gate }) → CpuIs p s past me
      → ReachesStops q at' (slice_set pasts me past) s ((me, e) ∷ [])
  gate_step gate e is made mine =
      let t = record s { gate = gate } in
      rw is (record {
        t = t;
        runs = (t, (made, refl));
        follows = follows_step p (record p { gate = gate }) at at' pasts s t me past f (record {
          below = below;
          pasts_are = sized;
          stops_are = f.stops_are;
          gate = refl;
          stops = f.stops;
          no_more = f.no_more;
          mine = cpu_alike p (record p { gate = gate }) s t me past (alike t) mine;
          others = λ cpu ne. record {
            inside = refl;
            irq = refl;
            calling = refl;
            standing = λ j inside. refl;
            inside_told = refl;
            irq_told = refl;
            ran = λ j inside l. refl;
            work = λ j inside. refl;
            patch = λ j inside l k. k;
          };
          words = refl;
          keys = keys;
          sites = sites;
        });
        leaves = record { setting = refl; places = refl; entries = refl; cpus_are = refl; calls = λ cpu. refl };
      })
    where
      alike : (t : StateValue) → IsAlike p (record p { gate = gate }) s (record s { gate = gate }) me
      alike t = record {
        inside = refl;
        irq = refl;
        calling = refl;
        standing = λ j inside. refl;
        inside_told = refl;
        irq_told = refl;
        ran = λ j inside l. refl;
        work = λ j inside. refl;
        patch = λ j inside l k. k;
      }

  -- the stop of a source goes on, and what is told of it is the same
  module _ (source : ℕ) (x : Stop) (k : OneStop p q me source x (stop_at s source) (stop_at s source)) (here : source < cpus
      → StopIs x (stop_at s source)) where
    patch_still : (t : StateValue) → t.stops ≡ s.stops → t.words ≡ s.words → (cpu : ℕ) → cpu ≢ me → (j : ℕ) → p.now.inside cpu ≡ Some j → PatchIs p s cpu j
        → PatchIs q t cpu j
    patch_still t stops words cpu ne j is i = search (patch_alike, put_all, patch_else, arith)

    stops_still : (j : ℕ) → j < cpus → StopIs (q.now.stop j) (stop_at s j)
    stops_still j l =
        rw (k.stop_is j) (put_all (λ i (z : Stop). i < cpus → StopIs z (stop_at s i)) p.now.stop source x here (λ i ne. f.stops i) j l)

    pub same_step : CpuIs q s past me → ReachesStops q at' (slice_set pasts me past) s []
    same_step mine = record {
      t = s;
      runs = refl;
      follows = follows_step p q at at' pasts s s me past f (record {
        below = below;
        pasts_are = sized;
        stops_are = f.stops_are;
        gate = f.gate ∙ sym k.gate;
        stops = stops_still;
        no_more = f.no_more;
        mine = mine;
        others = λ cpu ne. record {
          inside = k.inside cpu ne;
          irq = k.irq cpu ne;
          calling = k.calling cpu ne;
          standing = λ j inside. search (put_all, arith);
          inside_told = refl;
          irq_told = refl;
          ran = λ j inside l. refl;
          work = λ j inside. search (put_all, arith);
          patch = λ j inside l i. patch_still s refl refl cpu ne j inside i;
        };
        words = refl;
        keys = keys;
        sites = sites;
      });
      leaves = record { setting = refl; places = refl; entries = refl; cpus_are = refl; calls = λ cpu. refl };
    }

    -- but for the CPU's interrupts
    pub cpu_step : (c : CpuState) (es : List (ℕ × Event)) → RunsTo s es (with_cpu me s c) → calls_in c ≡ calls_in (cpu_at s me)
        → CpuIs q (with_cpu me s c) past me
        → ReachesStops q at' (slice_set pasts me past) s es
    cpu_step c es runs calls mine = record {
      t = with_cpu me s c;
      runs = runs;
      follows = follows_step p q at at' pasts s (with_cpu me s c) me past f (record {
        below = below;
        pasts_are = sized;
        stops_are = f.stops_are;
        gate = f.gate ∙ sym k.gate;
        stops = stops_still;
        no_more = f.no_more;
        mine = mine;
        others = λ cpu ne. record {
          inside = k.inside cpu ne;
          irq = k.irq cpu ne;
          calling = k.calling cpu ne;
          standing = λ j inside. search (put_all, arith);
          inside_told = ap (λ (z : CpuState). z.inside) (cpu_else s me c cpu ne);
          irq_told = ap (λ (z : CpuState). z.irq) (cpu_else s me c cpu ne);
          ran = λ j inside l. refl;
          work = λ j inside. search (put_all, arith);
          patch = λ j inside l i. patch_still (with_cpu me s c) refl refl cpu ne j inside i;
        };
        words = refl;
        keys = keys;
        sites = sites;
      });
      leaves = search (length-set, cases_eq, cpu_here, cpu_else, arith);
    }

  -- the stop of a source goes on, and the CPU's part
  module _ (source : ℕ) (x : Stop) (y : ToldStop) (c : CpuState) (m : source < cpus) (k : OneStop p q me source x (stop_at s source) y)
      (here : StopIs x y) where
    standing_else : (cpu : ℕ) → cpu ≢ me → (j : ℕ) → (q.now.stop j).standing cpu ≡ (p.now.stop j).standing cpu
    standing_else cpu ne j = search (put_all, arith)

    work_else : (j : ℕ) → (q.now.stop j).work ≡ (p.now.stop j).work
    work_else j = search (put_all, arith)

    patch_set : (t : StateValue) → t.stops ≡ (with_stop source s y).stops → t.words ≡ s.words → (cpu : ℕ) → cpu ≢ me → (j : ℕ) → p.now.inside cpu ≡ Some j
        → PatchIs p s cpu j → PatchIs q t cpu j
    patch_set t stops words cpu ne j is i = elim k.patch [
      | inl same ↦ patch_alike p q s t cpu j (work_else j) same.0 (k.calling cpu ne) words (rw stops (told_else same.1)) i
      | inr alone ↦ patch_else p q s t me cpu j alone ne is (work_else j)
    ]
      where
        told_else : y.patch ≡ (stop_at s source).patch → (stop_at (with_stop source s y) j).patch ≡ (stop_at s j).patch
        told_else same = elim (cases_eq j source) [
          | inl e ↦ rw (e, stop_here s source y f.stops_are m) same
          | inr other ↦ ap (λ (z : ToldStop). z.patch) (stop_else s source y j other)
        ]

    abbrev pub after_set : StateValue
    after_set = with_cpu me (with_stop source s y) c

    -- the CPU is told as it was, but for its interrupts and the stop that it is in
    pub set_step : (es : List (ℕ × Event)) → RunsTo s es (with_cpu me (with_stop source s y) c) → calls_in c ≡ calls_in (cpu_at s me)
        → CpuIs q (with_cpu me (with_stop source s y) c) past me → ReachesStops q at' (slice_set pasts me past) s es
    set_step es runs calls mine = record {
      t = after_set;
      runs = runs;
      follows = follows_step p q at at' pasts s after_set me past f (record {
        below = below;
        pasts_are = sized;
        stops_are = length-set s.stops source y ∙ f.stops_are;
        gate = f.gate ∙ sym k.gate;
        stops = stops_set p q s source x y f.stops_are m f.stops k.stop_is here;
        no_more = still_no_more s source y m f.no_more;
        mine = mine;
        others = λ cpu ne. record {
          inside = k.inside cpu ne;
          irq = k.irq cpu ne;
          calling = k.calling cpu ne;
          standing = λ j inside. standing_else cpu ne j;
          inside_told = ap (λ (z : CpuState). z.inside) (cpu_else (with_stop source s y) me c cpu ne);
          irq_told = ap (λ (z : CpuState). z.irq) (cpu_else (with_stop source s y) me c cpu ne);
          ran = λ j inside l. search (cases_eq, stop_here, stop_else, arith);
          work = λ j inside. work_else j;
          patch = λ j inside l i. patch_set after_set refl refl cpu ne j inside i;
        };
        words = refl;
        keys = keys;
        sites = sites;
      });
      leaves = search (length-set, cases_eq, cpu_here, cpu_else, arith);
    }

    -- no CPU is told to be another
    pub stop_step : (es : List (ℕ × Event)) → RunsTo s es (with_stop source s y) → CpuIs q (with_stop source s y) past me
        → ReachesStops q at' (slice_set pasts me past) s es
    stop_step es runs mine = record {
      t = with_stop source s y;
      runs = runs;
      follows = follows_step p q at at' pasts s (with_stop source s y) me past f (record {
        below = below;
        pasts_are = sized;
        stops_are = length-set s.stops source y ∙ f.stops_are;
        gate = f.gate ∙ sym k.gate;
        stops = stops_set p q s source x y f.stops_are m f.stops k.stop_is here;
        no_more = still_no_more s source y m f.no_more;
        mine = mine;
        others = λ cpu ne. record {
          inside = k.inside cpu ne;
          irq = k.irq cpu ne;
          calling = k.calling cpu ne;
          standing = λ j inside. standing_else cpu ne j;
          inside_told = refl;
          irq_told = refl;
          ran = λ j inside l. search (cases_eq, stop_here, stop_else, arith);
          work = λ j inside. work_else j;
          patch = λ j inside l i. patch_set (with_stop source s y) refl refl cpu ne j inside i;
        };
        words = refl;
        keys = keys;
        sites = sites;
      });
      leaves = record { setting = refl; places = refl; entries = refl; cpus_are = refl; calls = λ cpu. refl };
    }
