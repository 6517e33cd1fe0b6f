-- The loops over many CPUs: what holds with some of them left.
use Rattle.std.proofs.Common.{arith, ◌≡◌, ℕ, ◌<◌, ◌==◌, ◌&&◌, ◌*◌, not, Bool, true, false, List, [], ◌∷◌, ◌++◌, length, sym, ap, ◌∙◌, subst}
use Rattle.std.proofs.lemmas.Bool.{cases_eq, cases_Bool, ne_eqb, eq-eqb}
use Rattle.std.proofs.lemmas.List.{append-nil}
use Rattle.smp_mask.specs.Mask.{has, members}
use Rattle.smp_mask.specs.declared.mask.TheConstants.{NR_CPUS}
use Rattle.smp_words.specs.declared.call.Call.{Call}
use Rattle.smp_queue.specs.Cpu.{CpuValue}
use Rattle.smp_queue.specs.declared.handler.Heard.{Heard}
use Rattle.smp_calls.specs.Queued.{Queued, destinations, firsts}
use Rattle.smp_calls.specs.Rounds.{only_if, Queues, QueuesEach}
use Rattle.smp_calls.specs.Turns.{MakesMore}
use Rattle.smp_calls.proofs.Counted.{makes_none, makes_more}
use Rattle.smp_calls.proofs.One.{and_true, and_false}
use Rattle.smp_calls.proofs.Round.{destinations-append, firsts-append, queues_none, queues_then}
use Rattle.smp_calls.proofs.Lists.{next_gone, none_left, goes_on}

-- of `others`, all of whom were asked but those left: see `QueuesEach`; those left are in `called` and `owed`
pub record Asking {H : Type 0} (leads : H → Heard → H → Type 0) (old : CpuValue) (before : H) (new : CpuValue) (after : H) (says : ℕ → Bool → Type 0)
    (call : ℕ → Call) (others left called owed : ℕ) : Type 0 where
  pub queued : List Queued
  pub called_are : destinations queued ++ members left ≡ members called
  pub owed_are : firsts queued ++ members left ≡ members owed
  pub queues : Queues leads old before new after call queued
  pub turns : MakesMore old new (6 * length (destinations queued))
  pub among : (c : ℕ) → has called c ≡ true → has others c ≡ true
  pub owed_among : (c : ℕ) → has owed c ≡ true → has others c ≡ true
  pub waiting : (c : ℕ) → c < NR_CPUS → has left c ≡ true → has called c ≡ true
  pub answered : (c : ℕ) → c < NR_CPUS → has others c ≡ true → has left c ≡ false → says c (has called c)

pub both_true : (a b : Bool) → (a && b) ≡ true → (a ≡ true) × (b ≡ true)
both_true a b e = search (cases_Bool, arith)

pub not_true : (b : Bool) → not b ≡ true → b ≡ false
not_true b e = search (cases_Bool, arith)

-- what is in a mask that was kept, or taken out of, was in it before
pub kept_among : (keep : Bool) (m n cpu c : ℕ) → (keep ≡ true → n ≡ m) → (keep ≡ false → (x : ℕ) → has n x ≡ (has m x && not (x == cpu))) → has n c ≡ true
    → has m c ≡ true
kept_among keep m n cpu c kept out h = search (cases_Bool, both_true, arith)

-- another one stays as it was
pub kept_else : (keep : Bool) (m n cpu c : ℕ) → (keep ≡ true → n ≡ m) → (keep ≡ false → (x : ℕ) → has n x ≡ (has m x && not (x == cpu))) → (c == cpu) ≡ false
    → has n c ≡ has m c
kept_else keep m n cpu c kept out h = search (cases_Bool, and_true, arith)

-- this one stays where it is to be kept
pub kept_here : (keep : Bool) (m n cpu : ℕ) → (keep ≡ true → n ≡ m) → (keep ≡ false → (x : ℕ) → has n x ≡ (has m x && not (x == cpu))) → has m cpu ≡ true
    → has n cpu ≡ keep
kept_here keep m n cpu kept out h = search (cases_Bool, eq-eqb, and_false, arith)

module _ {H : Type 0} (leads : H → Heard → H → Type 0) where
  pub asking_start : (c : CpuValue) (h : H) (says : ℕ → Bool → Type 0) (call : ℕ → Call) (others : ℕ)
      → Asking leads c h c h says call others others others others
  asking_start c h says call others =
      let queues = queues_none leads c h call in
      let turns : MakesMore c c (6 * 0) = makes_none c in
      search (queues, turns, arith)

  pub asking_more : {old mid new : CpuValue} {before m after : H} {says : ℕ → Bool → Type 0} (call : ℕ → Call)
      (others left next cpu called owed called' owed' : ℕ) (asked first : Bool) →
      Asking leads old before mid m says call others left called owed →
      members left ≡ cpu ∷ members next → cpu < NR_CPUS → has left cpu ≡ true →
      (queued : List Queued) × (destinations queued ≡ only_if asked cpu) × (firsts queued ≡ only_if first cpu) × Queues leads mid m new after call queued →
      MakesMore mid new (6 * length (only_if asked cpu)) → says cpu asked →
      (asked ≡ true → called' ≡ called) → (asked ≡ false → (c : ℕ) → has called' c ≡ (has called c && not (c == cpu))) →
      (first ≡ true → owed' ≡ owed) → (first ≡ false → (c : ℕ) → has owed' c ≡ (has owed c && not (c == cpu))) →
      Asking leads old before new after says call others next called' owed'
  asking_more {old} {mid} {new} {before} {m} {after}
      {says} call others left next cpu called owed called' owed' asked first a step below here q more said kept out owed_kept owed_out = record {
        queued = a.queued ++ q.0;
        called_are = ap (λ (xs : List ℕ). xs ++ members next) (destinations-append a.queued q.0 ∙ ap (λ (ys : List ℕ). destinations a.queued ++ ys) q.1)
            ∙ goes_on asked (destinations a.queued) left next cpu called called' a.called_are step kept out;
        owed_are = ap (λ (xs : List ℕ). xs ++ members next) (firsts-append a.queued q.0 ∙ ap (λ (ys : List ℕ). firsts a.queued ++ ys) q.2)
            ∙ goes_on first (firsts a.queued) left next cpu owed owed' a.owed_are step owed_kept owed_out;
        queues = queues_then leads call a.queued q.0 a.queues q.3;
        turns = makes_more old mid new a.queued q.0 (only_if asked cpu) q.1 a.turns more;
        among = λ c h. a.among c (kept_among asked called called' cpu c kept out h);
        owed_among = λ c h. a.owed_among c (kept_among first owed owed' cpu c owed_kept owed_out h);
        waiting = search (both_true, next_gone, kept_else, not_true, arith);
        answered = search (cases_eq, kept_here, ne_eqb, and_true, next_gone, kept_else, arith);
      }

  pub asking_end : {old new : CpuValue} {before after : H} {says : ℕ → Bool → Type 0} (call : ℕ → Call) (others left called owed : ℕ)
      → Asking leads old before new after says call others left called owed → members left ≡ []
      → QueuesEach leads old before new after says call others called owed
  asking_end call others left called owed a none = search (append-nil, none_left, arith)

  pub asking_turns : {old new : CpuValue} {before after : H} {says : ℕ → Bool → Type 0} (call : ℕ → Call) (others left called owed : ℕ)
      → Asking leads old before new after says call others left called owed → members left ≡ []
      → MakesMore old new (6 * length (members called))
  asking_turns {old} {new} call others left called owed a none =
      let are : destinations a.queued ≡ members called =
      sym (append-nil (destinations a.queued)) ∙ (ap (λ (xs : List ℕ). destinations a.queued ++ xs) (sym none) ∙ a.called_are) in
      subst (λ (xs : List ℕ). MakesMore old new (6 * length xs)) are a.turns
