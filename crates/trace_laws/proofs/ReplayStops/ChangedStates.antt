-- A state of the model with one stop or one CPU's part of the stops changed, and the stops of the machine with which it agrees.
use Rattle.trace_laws.proofs.Names.{List, Some, StateValue, ap, arith, cases_eq, closed, cpu_at, false, get_or-set_other, get_or-set_same, has, has_run, inl}
use Rattle.trace_laws.proofs.Names.{inr, length, slice_set, stop_at, sym, true, with_stop, ℕ, ◌<◌, ◌∙◌, ◌≡◌, ◌≢◌, ◌≤◌}
use Rattle.trace_laws.proofs.ReplayNames.{CpuIs, FollowsStops, InsideIs, Key, Past, Patch, PatchIs, Site, Stop, StopIs, StopState, ToldStop, Word}
use Rattle.trace_laws.proofs.ReplayNames.{calls_in, cpus, past_at, put, put_other, put_same}
use Rattle.trace_laws.proofs.{ReplayCalls.KeptPasts.past_else, ReplayCalls.KeptPasts.past_here}

pub stop_here : (s : StateValue) (source : ℕ) (x : ToldStop) → length s.stops ≡ 64 → source < cpus → stop_at (with_stop source s x) source ≡ x
stop_here s source x l b = get_or-set_same s.stops source x (closed 0) (omega arith)

pub stop_else : (s : StateValue) (source : ℕ) (x : ToldStop) (j : ℕ) → j ≢ source → stop_at (with_stop source s x) j ≡ stop_at s j
stop_else s source x j ne = get_or-set_other s.stops source j x (closed 0) ne

-- Events of stops leave the calls as they were.
pub record LeavesCalls (s t : StateValue) : Type 0 where
  pub setting : t.setting ≡ s.setting
  pub places : t.places ≡ s.places
  pub entries : t.words.entries ≡ s.words.entries
  pub cpus_are : length t.cpus ≡ length s.cpus
  pub calls : (cpu : ℕ) → calls_in (cpu_at t cpu) ≡ calls_in (cpu_at s cpu)

-- Another CPU's part of the stops is as it was.
pub record IsAlike (p q : StopState) (s t : StateValue) (cpu : ℕ) : Type 0 where
  pub inside : q.now.inside cpu ≡ p.now.inside cpu
  pub irq : q.now.irq cpu ≡ p.now.irq cpu
  pub calling : q.calling cpu ≡ p.calling cpu
  pub standing : (source : ℕ) → p.now.inside cpu ≡ Some source → (q.now.stop source).standing cpu ≡ (p.now.stop source).standing cpu
  pub inside_told : (cpu_at t cpu).inside ≡ (cpu_at s cpu).inside
  pub irq_told : (cpu_at t cpu).irq ≡ (cpu_at s cpu).irq
  pub ran : (source : ℕ) → p.now.inside cpu ≡ Some source → source < cpus → has_run (stop_at t source) cpu ≡ has_run (stop_at s source) cpu
  pub work : (source : ℕ) → p.now.inside cpu ≡ Some source → (q.now.stop source).work ≡ (p.now.stop source).work
  pub patch : (source : ℕ) → p.now.inside cpu ≡ Some source → source < cpus → PatchIs p s cpu source → PatchIs q t cpu source

-- no other CPU makes a patch of a stop that it is in
abbrev pub IsAlone : StopState → ℕ → Type 0
IsAlone p me = (cpu source : ℕ) → cpu ≢ me → p.now.inside cpu ≡ Some source → (p.now.stop source).work.kind ≡ Patch
    → has (p.now.stop source).work.active cpu ≡ true → ⊥

-- a patch of which nothing is told, or another CPU's
pub patch_alike : (p q : StopState) (s t : StateValue) (cpu source : ℕ) → (q.now.stop source).work ≡ (p.now.stop source).work
    → q.now.patching ≡ p.now.patching → q.calling cpu ≡ p.calling cpu → t.words ≡ s.words → (stop_at t source).patch ≡ (stop_at s source).patch
    → PatchIs p s cpu source → PatchIs q t cpu source
patch_alike p q s t cpu source work patching calling words told k = rw (work, patching, calling, words, told) k

pub patch_else : (p q : StopState) (s t : StateValue) (me cpu source : ℕ) → IsAlone p me → cpu ≢ me → p.now.inside cpu ≡ Some source
    → (q.now.stop source).work ≡ (p.now.stop source).work → PatchIs q t cpu source
patch_else p q s t me cpu source alone ne inside work kind active = search arith

inside_alike : (p q : StopState) (s t : StateValue) (cpu : ℕ) (past : Past) → IsAlike p q s t cpu → (source : ℕ) → p.now.inside cpu ≡ Some source
    → InsideIs p s past cpu source → InsideIs q t past cpu source
inside_alike p q s t cpu past h1 source h2 h3 = search arith

pub cpu_alike : (p q : StopState) (s t : StateValue) (cpu : ℕ) (past : Past) → IsAlike p q s t cpu → CpuIs p s past cpu → CpuIs q t past cpu
cpu_alike p q s t cpu past k c = record {
  inside = k.inside_told ∙ (c.inside ∙ sym k.inside);
  irq = k.irq_told ∙ (c.irq ∙ sym k.irq);
  stop = λ source e. inside_alike p q s t cpu past k source (sym k.inside ∙ e) (c.stop source (sym k.inside ∙ e));
  answer = λ e. c.answer (sym k.inside ∙ e);
  reads = λ e. k.irq ∙ c.reads e;
}

module _ (p q : StopState) (at at' : Word → ℕ) (pasts : List Past) (s t : StateValue) (me : ℕ) (past : Past) (f : FollowsStops p at pasts s) where
  -- A step of one CPU: the others' parts are as they were, and the stops are as the machine's.
  pub record Steps : Type 0 where
    pub below : me < cpus
    pub pasts_are : length pasts ≡ 32
    pub stops_are : length t.stops ≡ 64
    pub gate : t.gate ≡ q.gate
    pub stops : (source : ℕ) → source < cpus → StopIs (q.now.stop source) (stop_at t source)
    pub no_more : (number : ℕ) → cpus ≤ number → (stop_at t number).is_open ≡ false
    pub mine : CpuIs q t past me
    pub others : (cpu : ℕ) → cpu ≢ me → IsAlike p q s t cpu
    pub words : t.words ≡ s.words
    pub keys : (key : ℕ) → at' (Key key) ≡ at (Key key)
    pub sites : (site : ℕ) → at' (Site site) ≡ at (Site site)

  pub follows_step : Steps → FollowsStops q at' (slice_set pasts me past) t
  follows_step k = record {
    stops_are = k.stops_are;
    keys_are = rw k.words f.keys_are;
    sites_are = rw k.words f.sites_are;
    gate = k.gate;
    stops = k.stops;
    no_more = k.no_more;
    cpus_are = λ cpu. elim (cases_eq cpu me) [
      | inl e ↦ rw (e, past_here pasts me past k.pasts_are k.below) k.mine
      | inr ne ↦ rw (past_else pasts me past cpu ne) (cpu_alike p q s t cpu (past_at pasts cpu) (k.others cpu ne) (f.cpus_are cpu))
    ];
    keys = λ key. rw (k.words, k.keys key) (f.keys key);
    sites = λ site. rw (k.words, k.sites site) (f.sites site);
  }

-- a stop of a source is set, and no other is open
pub still_no_more : (s : StateValue) (source : ℕ) (x : ToldStop) → source < cpus → ((number : ℕ) → cpus ≤ number → (stop_at s number).is_open ≡ false)
    → (number : ℕ) → cpus ≤ number → (stop_at (with_stop source s x) number).is_open ≡ false
still_no_more s source x below shut number past = ap (λ (z : ToldStop). z.is_open) (stop_else s source x number (omega (arith, below, past))) ∙ shut number past

-- one stop is set
pub stops_set : (p q : StopState) (s : StateValue) (source : ℕ) (x : Stop) (y : ToldStop) → length s.stops ≡ 64 → source < cpus
    → ((j : ℕ) → j < cpus → StopIs (p.now.stop j) (stop_at s j)) → ((j : ℕ) → q.now.stop j ≡ put p.now.stop source x j) → StopIs x y
    → (j : ℕ) → j < cpus → StopIs (q.now.stop j) (stop_at (with_stop source s y) j)
stops_set p q s source x y h1 h2 h3 h4 h5 j h6 = search (cases_eq, stop_here, put_same, stop_else, put_other, arith)
