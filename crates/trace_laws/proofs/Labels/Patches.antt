-- What holds of patches, and of keys and sites.
use Rattle.trace_laws.proofs.Names.{APatch, Kind, None, Option, Patch, Seen, Setting, Some, StateValue, Stop, Task, [], acked_by, arith, cases_eq, cpu_at}
use Rattle.trace_laws.proofs.Names.{false, has, if◌then◌else◌, inl, inr, length, length-append, members_below, refl, slice_index_or, stop_at, suc, sym, true}
use Rattle.trace_laws.proofs.Names.{with_stop, zero, ℕ, ◌+◌, ◌<◌, ◌∷◌, ◌≡◌, ◌≢◌, ◌≤◌, ◌⊎◌}
use Rattle.trace_laws.proofs.Stops.CpusInStops.{Rounds, is_round, stop_changed, stop_kept}
use Rattle.trace_laws.proofs.{Labels.StoredWords.AllOk, Labels.StoredWords.Partial, Labels.StoredWords.some_is, Stops.AtRun.entered_is}
use Rattle.smp_words.specs.declared.phase.TheConstants.{DISABLE_IRQ, RUN}

-- A patch has stored, and has more to store: it is at RUN, and its CPU has not acknowledged that.
pub record Live (stop : Stop) (p : Patch) : Type 0 where
  pub is_open : stop.is_open ≡ true
  pub kind_is : stop.task.kind ≡ APatch
  pub at : stop.phase ≡ RUN
  pub known : stop.patch ≡ Some p
  pub turns : p.turns ≡ true
  pub early : (cpu : ℕ) → cpu < 32 → has stop.task.active cpu ≡ true → acked_by stop cpu < RUN

-- A patch is of all CPUs online, and one of them is active.
pub record IsOfAll (u : Setting) (task : Task) : Type 0 where
  pub mask_is : task.mask ≡ u.online
  pub cpu : ℕ
  pub below : cpu < 32
  pub active : has task.active cpu ≡ true
  pub member : has task.mask cpu ≡ true
  pub one : (other : ℕ) → other < 32 → has task.active other ≡ true → other ≡ cpu
  pub key : task.func < u.keys

-- What holds of the patch of a stop.
pub record PatchAt (u : Setting) (stop : Stop) : Type 0 where
  pub known : (p : Patch) → stop.patch ≡ Some p → p.counts ≡ false
  pub early : stop.phase < RUN → stop.patch ≡ None
  pub all : stop.is_open ≡ true → stop.task.kind ≡ APatch → IsOfAll u stop.task

-- Each site has its kind, and no patch has more to store.
pub record AtRest (s : StateValue) : Type 0 where
  pub ok : AllOk s.words
  pub none : (number : ℕ) → number < 64 → (p : Patch) → Live (stop_at s number) p → ⊥

-- Or one patch has.
pub record AtPatch (s : StateValue) : Type 0 where
  pub number : ℕ
  pub low : number < 64
  pub p : Patch
  pub live : Live (stop_at s number) p
  pub partial : Partial s.words (stop_at s number).task.func p

-- What holds of patches, keys and sites.
pub record Labelled (s : StateValue) : Type 0 where
  pub keys_are : length s.words.keys ≡ 4
  pub sites_are : length s.words.sites ≡ 16
  pub keys : s.setting.keys ≤ 4
  pub patches : (number : ℕ) → number < 64 → PatchAt s.setting (stop_at s number)
  pub either : AtRest s ⊎ AtPatch s

member_here : (m x k : ℕ) → has m x ≡ true → x ≡ k → length (members_below m x) + 1 ≤ length (members_below m (suc k))
unfolding members_below
member_here m x k is same =
    let h : has m k ≡ true = rw (← same) is in
    let l = length-append (members_below m k) (k ∷ []) in
    rw (h, same) (omega (arith, l))

-- a set with one member has no other
pub members_more : (m x k : ℕ) → has m x ≡ true → x < k → length (members_below m x) + 1 ≤ length (members_below m k)
unfolding members_below
members_more m x zero is low = absurd (omega arith)
members_more m x (suc k) is low = elim (cases_eq x k) [
  | inl same ↦ member_here m x k is same
  | inr ne ↦ (let h = members_more m x k is (omega arith) in let l = length-append (members_below m k) (if has m k then k ∷ [] else []) in omega arith)
]

-- at RUN of a patch, each CPU of its mask is in its stop, with its interrupts off
pub held_in : (seen : ℕ → Seen) (work : ℕ → Option Task) (s : StateValue) (number cpu : ℕ) → Rounds seen work s → number < 64 →
    (stop_at s number).is_open ≡ true
    → is_round (stop_at s number).task.kind ≡ true → (stop_at s number).phase ≡ RUN → cpu < 32 → has (stop_at s number).task.mask cpu ≡ true
    → ((cpu_at s cpu).inside ≡ Some number) × ((cpu_at s cpu).irq ≡ false)
held_in seen work s number cpu r low opened_is round at below in_mask =
    let stop = stop_at s number in
    let w = r.at number low cpu below in
    let all = w.all round in_mask (omega arith) in
    let up = w.up_to round (omega arith) in
    let two : DISABLE_IRQ ≤ acked_by stop cpu = omega arith in
    let entered = entered_is (slice_index_or stop.entered cpu false) (acked_by stop cpu) (λ e. (w.out e).acked) two in
    let is = w.is_in opened_is entered (w.answered round (omega arith)) in
    (is, w.disabled is round two (omega arith))

pub patch_round : (kind : Kind) → kind ≡ APatch → is_round kind ≡ true
patch_round kind e = rw e refl

-- two patches are not at RUN at once
pub one_live : (seen : ℕ → Seen) (work : ℕ → Option Task) (s : StateValue) (number other : ℕ) (p q : Patch) → Rounds seen work s
    → ((x : ℕ) → x < 64 → PatchAt s.setting (stop_at s x)) → number < 64 → other < 64 → Live (stop_at s number) p → Live (stop_at s other) q → number ≡ other
one_live seen work s number other p q h1 h2 h3 h4 h5 h6 = search (held_in, patch_round, some_is, arith)

-- What an event makes of a stop has to show, for all to hold after it.
pub record StopGoes (s : StateValue) (number : ℕ) (to : Stop) : Type 0 where
  pub patch : PatchAt s.setting to
  pub rests : ((p : Patch) → Live (stop_at s number) p → ⊥) → (p : Patch) → Live to p → ⊥
  pub goes : (p : Patch) → Live (stop_at s number) p → Partial s.words (stop_at s number).task.func p
      → (Live to p × (to.task.func ≡ (stop_at s number).task.func)) ⊎ (AllOk s.words × ((q : Patch) → Live to q → ⊥))

patches_go : (s : StateValue) (number : ℕ) (to : Stop) → length s.stops ≡ 64 → Labelled s → PatchAt s.setting to → (other : ℕ) → other < 64 →
    other ≡ number ⊎ other ≢ number
    → PatchAt s.setting (stop_at (with_stop number s to) other)
patches_go s number to h1 h2 h3 other h4 h5 = search (stop_changed, stop_kept, arith)

rest_goes : (s : StateValue) (number : ℕ) (to : Stop) → length s.stops ≡ 64 → AllOk s.words
    → ((other : ℕ) → other < 64 → other ≢ number → (p : Patch) → Live (stop_at s other) p → ⊥) → ((p : Patch) → Live to p → ⊥) → AtRest (with_stop number s to)
rest_goes s number to h1 h2 h3 h4 = search (cases_eq, stop_changed, stop_kept, arith)

patch_goes : (seen : ℕ → Seen) (work : ℕ → Option Task) (s : StateValue) (number : ℕ) (to : Stop) → Rounds seen work s → Labelled s → StopGoes s number to →
    (a : AtPatch s)
    → a.number ≡ number ⊎ a.number ≢ number → AtRest (with_stop number s to) ⊎ AtPatch (with_stop number s to)
patch_goes seen work s number to r l g a (inl same) =
    let low : number < 64 = rw (← same) a.low in
    let live : Live (stop_at s number) a.p = rw (← same) a.live in
    let partial : Partial s.words (stop_at s number).task.func a.p = rw (← same) a.partial in
    let st : stop_at (with_stop number s to) number ≡ to = stop_changed number s to (rw r.stops_are low) in
    elim (g.goes a.p live partial) [
      | inl h ↦ (let f : to.task.func ≡ (stop_at s number).task.func = h.1 in
          inr (record { number = number; low = low; p = a.p; live = rw st h.0; partial = rw (st, f) partial }))
      | inr h ↦ inl (rest_goes s number to r.stops_are h.0
          (λ other other_low ne p m. ne (one_live seen work s other number p a.p r l.patches other_low low m live)) h.1)
    ]
patch_goes seen work s number to r l g a (inr ne) =
    let st : stop_at (with_stop number s to) a.number ≡ stop_at s a.number = stop_kept a.number number s to ne in
    inr (record { number = a.number; low = a.low; p = a.p; live = rw st a.live; partial = rw st a.partial })

-- all holds after it
pub stop_labelled : (seen : ℕ → Seen) (work : ℕ → Option Task) (s : StateValue) (number : ℕ) (to : Stop) → Rounds seen work s → Labelled s →
    StopGoes s number to
    → number < 64 → Labelled (with_stop number s to)
stop_labelled seen work s number to r l g low = record {
  keys_are = l.keys_are;
  sites_are = l.sites_are;
  keys = l.keys;
  patches = λ other other_low. patches_go s number to r.stops_are l g.patch other other_low (cases_eq other number);
  either = elim l.either [
    | inl rest ↦ inl (rest_goes s number to r.stops_are rest.ok (λ other other_low ne p. rest.none other other_low p) (g.rests (rest.none number low)))
    | inr a ↦ patch_goes seen work s number to r l g a (cases_eq a.number number)
  ];
}

-- what is changed is of no patch
pub labelled_same : (s t : StateValue) → t.words ≡ s.words → t.stops ≡ s.stops → t.setting ≡ s.setting → Labelled s → Labelled t
labelled_same s t h1 h2 h3 h4 = search arith

-- A stop with the same patch.
pub record SamePatch (stop to : Stop) : Type 0 where
  pub is_open : to.is_open ≡ stop.is_open
  pub task : to.task ≡ stop.task
  pub phase : to.phase ≡ stop.phase
  pub patch : to.patch ≡ stop.patch
  pub acked : to.acked ≡ stop.acked

live_same : (stop to : Stop) (p : Patch) → SamePatch stop to → Live stop p → Live to p
live_same stop to p h1 h2 = search arith

same_back : (stop to : Stop) → SamePatch stop to → SamePatch to stop
same_back stop to same = record { is_open = sym same.is_open; task = sym same.task; phase = sym same.phase; patch = sym same.patch; acked = sym same.acked }

pub same_goes : (s : StateValue) (number : ℕ) (to : Stop) → PatchAt s.setting (stop_at s number) → SamePatch (stop_at s number) to → StopGoes s number to
same_goes s number to h1 h2 = search (live_same, same_back, arith)
