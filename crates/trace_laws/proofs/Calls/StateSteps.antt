-- What a step shows of the calls of one CPU of the state.
use Rattle.trace_laws.proofs.Names.{Batch, Bool, Call, CpuState, Free, IsPermutation, IsPermutation-append_left, IsPermutation-append_right}
use Rattle.trace_laws.proofs.Names.{IsPermutation-trans, List, Ok, Queue, Shows, StateValue, [], ap, append-nil, arith, cases_eq, count_by, cpu_at, false}
use Rattle.trace_laws.proofs.Names.{freed, freed_by, freed_from, fresh_cpu, get_or-set_other, get_or-set_same, held, if◌then◌else◌, inl, inr, is_from, length}
use Rattle.trace_laws.proofs.Names.{length-set, nat_lt, not, place_at, refl, running, slip_in, slipped, slipped_from_batch, slipped_from_queue, subst, sym}
use Rattle.trace_laws.proofs.Names.{true, waiting, with_cpu, ℕ, ◌++◌, ◌+◌, ◌<◌, ◌∙◌, ◌≡◌, ◌≢◌}
use Rattle.trace_model.specs.{State.slipped_at, declared.call.Place.Place}
use Rattle.trace_laws.proofs.Calls.CpuSteps.{SameCalls, shows_same, shows_slipped_from_batch, shows_slipped_from_queue}

-- no call is queued, none begins, and none ends
abbrev pub Quiet : Bool → CpuState → CpuState → Type 0
Quiet told a b = Shows told [] false [] [] [] a b

rests_queue : (told : Bool) (notes : List ℕ) (a b : CpuState) → Shows told [] false [] [] notes a b → told ≡ true → b.queue ≡ a.queue
rests_queue told notes a b q t = q.queue_is t ∙ append-nil a.queue

rests_waiting : (told : Bool) (notes : List ℕ) (a b : CpuState) → Shows told [] false [] [] notes a b → told ≡ true → waiting a ≡ waiting b
rests_waiting told notes a b q t = sym (append-nil (waiting a)) ∙ q.in_order t

rests_running : (told : Bool) (notes : List ℕ) (a b : CpuState) → Shows told [] false [] [] notes a b → running a ≡ running b
rests_running told notes a b q = sym (append-nil (running a)) ∙ q.one_at_a_time

rests_held : (told : Bool) (notes : List ℕ) (a b : CpuState) → Shows told [] false [] [] notes a b → IsPermutation (held a) (held b)
rests_held told notes a b q = rw append-nil at q.each_once

-- a quiet step comes first
pub quiet_first : (told : Bool) (queued : List Call) (takes : Bool) (began over : List Call) (notes : List ℕ) (a b c : CpuState) → Quiet told a b
    → Shows told queued takes began over notes b c → Shows told queued takes began over notes a c
quiet_first told queued takes began over notes a b c q s = record {
  one_at_a_time = rw (rests_running told [] a b q) s.one_at_a_time;
  each_once = IsPermutation-trans (held a ++ queued) (held b ++ queued) (began ++ held c) (IsPermutation-append_left queued (held a) (held b)
      (rests_held told [] a b q)) s.each_once;
  in_order = λ t. let w = rests_waiting told [] a b q t in let e = rests_queue told [] a b q t in rw (w, ← e) (s.in_order t);
  queue_is = λ t. let e = rests_queue told [] a b q t in rw (← e) (s.queue_is t);
  long = s.long ∙ q.long;
  tally = λ source n below was. s.tally source n (rw q.long below) (let z : n + 0 ≡ n = omega arith in rw z at (q.tally source n below was));
  long_queued = s.long_queued ∙ q.long_queued;
  noted = λ to n below was. s.noted to n (rw q.long_queued below) (let z : n + 0 ≡ n = omega arith in rw z at (q.noted to n below was));
}

-- a quiet step comes last, or one that counts calls that are queued for others
pub quiet_last : (told : Bool) (queued : List Call) (takes : Bool) (began over : List Call) (notes : List ℕ) (a b c : CpuState) →
    Shows told queued takes began over [] a b
    → Shows told [] false [] [] notes b c → Shows told queued takes began over notes a c
quiet_last told queued takes began over notes a b c s q = record {
  one_at_a_time = s.one_at_a_time ∙ ap (λ xs. over ++ xs) (rests_running told notes b c q);
  each_once = IsPermutation-trans (held a ++ queued) (began ++ held b) (began ++ held c) s.each_once (IsPermutation-append_right began (held b) (held c)
      (rests_held told notes b c q));
  in_order = λ t. s.in_order t ∙ ap (λ xs. began ++ xs) (rests_waiting told notes b c q t);
  queue_is = λ t. rests_queue told notes b c q t ∙ s.queue_is t;
  long = q.long ∙ s.long;
  tally = λ source n below was.
      let m = n + count_by (is_from source) over in
      let z : m + 0 ≡ m = omega arith in rw z at (q.tally source m (rw s.long below) (s.tally source n below was));
  long_queued = q.long_queued ∙ s.long_queued;
  noted = λ to n below was. q.noted to n (rw s.long_queued below) (let z : n + 0 ≡ n = omega arith in rw z at (s.noted to n below was));
}

-- A step of the state shows this of the calls of one CPU.
pub record Goes (told : Bool) (cpu : ℕ) (queued : List Call) (takes : Bool) (began over : List Call) (notes : List ℕ) (s t : StateValue) : Type 0 where
  pub setting_is : t.setting ≡ s.setting
  pub cpus_are : length t.cpus ≡ length s.cpus
  pub shows : Shows told queued takes began over notes (cpu_at s cpu) (cpu_at t cpu)

abbrev pub GoesQuietly : Bool → ℕ → StateValue → StateValue → Type 0
GoesQuietly told cpu s t = Goes told cpu [] false [] [] [] s t

pub same_calls : (a : CpuState) → SameCalls a a
same_calls a = record { queue = refl; batch = refl; current = refl; ran = refl; queued = refl }

-- the CPUs are as before
pub goes_same : (told : Bool) (cpu : ℕ) (s t : StateValue) → t.setting ≡ s.setting → t.cpus ≡ s.cpus → GoesQuietly told cpu s t
goes_same told cpu s t setting cpus = record {
  setting_is = setting;
  cpus_are = ap length cpus;
  shows = rw cpus (shows_same told (cpu_at s cpu) (cpu_at s cpu) (same_calls (cpu_at s cpu)));
}

-- a CPU is changed
pub cpu_changed : (cpu : ℕ) (s : StateValue) (c : CpuState) → cpu < length s.cpus → cpu_at (with_cpu cpu s c) cpu ≡ c
cpu_changed cpu s c below = get_or-set_same s.cpus cpu c fresh_cpu below

pub cpu_kept : (cpu other : ℕ) (s : StateValue) (c : CpuState) → cpu ≢ other → cpu_at (with_cpu other s c) cpu ≡ cpu_at s cpu
cpu_kept cpu other s c ne = get_or-set_other s.cpus other cpu c fresh_cpu ne

pub goes_here : (told : Bool) (cpu : ℕ) (queued : List Call) (takes : Bool) (began over : List Call) (notes : List ℕ) (s : StateValue) (c : CpuState) →
    cpu < length s.cpus
    → Shows told queued takes began over notes (cpu_at s cpu) c → Goes told cpu queued takes began over notes s (with_cpu cpu s c)
goes_here told cpu queued takes began over notes s c h1 h2 = search (length-set, cpu_changed, arith)

pub goes_elsewhere : (told : Bool) (cpu other : ℕ) (s : StateValue) (c : CpuState) → cpu ≢ other → GoesQuietly told cpu s (with_cpu other s c)
goes_elsewhere told cpu other s c h1 = search (length-set, cpu_kept, shows_same, same_calls, arith)

-- a CPU is changed quietly, this one or another
pub goes_quiet : (told : Bool) (cpu other : ℕ) (s : StateValue) (c : CpuState) → cpu < length s.cpus → Quiet told (cpu_at s other) c
    → GoesQuietly told cpu s (with_cpu other s c)
goes_quiet told cpu other s c below q = elim (cases_eq cpu other) [
  | inl e ↦ subst (λ (o : ℕ). Quiet told (cpu_at s o) c → GoesQuietly told cpu s (with_cpu o s c)) e (goes_here told cpu [] false [] [] [] s c below) q
  | inr ne ↦ goes_elsewhere told cpu other s c ne
]

-- a quiet step of the state comes first, or last
pub goes_first : (told : Bool) (cpu : ℕ) (queued : List Call) (takes : Bool) (began over : List Call) (notes : List ℕ) (s m t : StateValue) →
    GoesQuietly told cpu s m
    → Goes told cpu queued takes began over notes m t → Goes told cpu queued takes began over notes s t
goes_first told cpu queued takes began over notes s m t h1 h2 = search (quiet_first, arith)

pub goes_last : (told : Bool) (cpu : ℕ) (queued : List Call) (takes : Bool) (began over : List Call) (notes : List ℕ) (s m t : StateValue) →
    Goes told cpu queued takes began over [] s m
    → Goes told cpu [] false [] [] notes m t → Goes told cpu queued takes began over notes s t
goes_last told cpu queued takes began over notes s m t h1 h2 = search (quiet_last, arith)

-- an unlock that is left out is quiet
slip_in_goes : (told : Bool) (cpu other : ℕ) (s : StateValue) (slip : Bool × CpuState) → cpu < length s.cpus → Quiet told (cpu_at s other) slip.1
    → GoesQuietly told cpu s (slip_in other s slip).1
slip_in_goes told cpu other s (slipped, c) below q = goes_quiet told cpu other s c below q

either_goes : (told : Bool) (cpu : ℕ) (s : StateValue) (test : Bool) (x : Bool × StateValue) → GoesQuietly told cpu s x.1
    → let z : Bool × StateValue = if test then x else (false, s) in GoesQuietly told cpu s z.1
either_goes told cpu s true x g = g
either_goes told cpu s false x g = goes_same told cpu s s refl refl

slipped_at_goes : (order : Bool) (cpu id : ℕ) (place : Place) (s : StateValue) → cpu < length s.cpus →
    GoesQuietly (not order) cpu s (slipped_at order id place s).1
slipped_at_goes true cpu id (Queue x) s below =
    either_goes false cpu s (nat_lt x 512) (slip_in x s (slipped_from_queue id (cpu_at s x)))
    (slip_in_goes false cpu x s (slipped_from_queue id (cpu_at s x)) below (shows_slipped_from_queue id (cpu_at s x)))
slipped_at_goes false cpu id (Batch x) s below =
    either_goes true cpu s (nat_lt x 512) (slip_in x s (slipped_from_batch id (cpu_at s x)))
    (slip_in_goes true cpu x s (slipped_from_batch id (cpu_at s x)) below (shows_slipped_from_batch true id (cpu_at s x)))
slipped_at_goes true cpu id _ s below = goes_same false cpu s s refl refl
slipped_at_goes false cpu id _ s below = goes_same true cpu s s refl refl

slipped_goes : (order : Bool) (cpu id : ℕ) (place : Place) (s : StateValue) → s.setting.without.order ≡ order → cpu < length s.cpus
    → GoesQuietly (not order) cpu s (slipped id place s).1
slipped_goes order cpu id place s e below =
    either_goes (not order) cpu s s.setting.without.unlocks (slipped_at s.setting.without.order id place s)
    (subst (λ (o : Bool). GoesQuietly (not o) cpu s (slipped_at s.setting.without.order id place s).1) e
    (slipped_at_goes s.setting.without.order cpu id place s below))

freed_by_goes : (told : Bool) (cpu id : ℕ) (place : Place) (s t : StateValue) (slip : Bool × StateValue) → GoesQuietly told cpu s slip.1 →
    freed_by id place slip ≡ Ok t
    → GoesQuietly told cpu s t
freed_by_goes told cpu id place s t slip h1 h2 = search (goes_last, goes_same, arith)

freed_from_goes : (order : Bool) (cpu id : ℕ) (place : Place) (s t : StateValue) → s.setting.without.order ≡ order → cpu < length s.cpus →
    freed_from id place s ≡ Ok t
    → GoesQuietly (not order) cpu s t
freed_from_goes order cpu id Free s t o below e = let same : s ≡ t = cc in subst (λ (x : StateValue). GoesQuietly (not order) cpu s x) same (goes_same
    (not order) cpu s s refl refl)
freed_from_goes order cpu id place s t o below e =
    freed_by_goes (not order) cpu id place s t (slipped id place s) (slipped_goes order cpu id place s o below) e

-- so is seeing a record free
pub freed_goes : (order : Bool) (cpu id : ℕ) (s t : StateValue) → s.setting.without.order ≡ order → cpu < length s.cpus → freed id s ≡ Ok t →
    GoesQuietly (not order) cpu s t
freed_goes order cpu id s t o below e = freed_from_goes order cpu id (place_at s id) s t o below e
