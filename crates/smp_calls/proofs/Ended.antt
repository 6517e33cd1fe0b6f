-- Calls that were waited for have ended.
use Rattle.std.proofs.Common.{◌≡◌, ℕ, zero, suc, ◌<◌, ◌≤◌, ◌||◌, Bool, true, false, cond, Option, Some, None, List, [], ◌∷◌, ◌++◌, get_or, sym, subst}
use Rattle.std.proofs.Common.{ap, ◌∙◌, arith}
use Rattle.std.proofs.lemmas.List.{append-nil}
use Rattle.std.proofs.lemmas.Bool.{cases_Bool, eq-eqb}
use Rattle.std.specs.List.{AllByRecursion}
use Rattle.smp_words.specs.Size.{cpus, records_of_one, record_of}
use Rattle.smp_words.specs.declared.call.Call.{Call}
use Rattle.smp_words.specs.declared.call.Class.TheVariants.{Sync}
use Rattle.smp_call_steps.specs.HaveRun.{HasCall, HasRunAt}
use Rattle.smp_call_steps.specs.declared.known.Sending.{Sending}
use Rattle.smp_call_steps.proofs.Basics.Alls.{every, every_both, every_append, every_right}
use Rattle.smp_mask.specs.Mask.{has, members, members_below}
use Rattle.smp_queue.specs.Cpu.{CpuValue, confirmed_at}
use Rattle.smp_queue.specs.Laws.{CallsAreShown}
use Rattle.smp_queue.specs.declared.handler.Heard.{Heard}
use Rattle.smp_calls.specs.Ended.{HaveEnded}
use Rattle.smp_calls.specs.Families.{CallsWith, CallsOne, CallsMany}
use Rattle.smp_calls.specs.Queued.{Queued, destinations, sendings, is_by, is_used}
use Rattle.smp_calls.specs.Records.{call_by, single_record, many_call, many_record}
use Rattle.smp_calls.proofs.Lawful.{small_many}

or_yes : (b : Bool) → (b || true) ≡ true
or_yes b = search (cases_Bool, arith)

-- each of the CPUs has one of the records
all_by : (of : ℕ → ℕ) (xs : List ℕ) → AllByRecursion (λ x. is_by of (of x) xs ≡ true) xs
all_by of [] = tt
all_by of (x ∷ xs) = search (eq-eqb, every, or_yes, all_by of xs, arith)

-- what holds of what was sent holds of each destination and its call
pub all_sent : (P : ℕ → Call → Type 0) (call : ℕ → Call) (queued : List Queued) → AllByRecursion (λ s. P s.to s.call) (sendings call queued)
    → AllByRecursion (λ x. P x (call x)) (destinations queued)
all_sent P call [] h = tt
all_sent P call (q ∷ qs) h = (h.0, all_sent P call qs h.1)

-- a CPU has sent these calls and then seen the records that it used confirmed
pub record HasWaited (old new : CpuValue) (call : ℕ → Call) (queued : List Queued) : Type 0 where
  pub number_is : new.number ≡ old.number
  pub sent_is : new.part.sent ≡ old.part.sent ++ sendings call queued
  pub confirmed_are : (k : ℕ) → k < records_of_one → is_used call (record_of old.number k) queued ≡ true → confirmed_at new k ≡ true

waited_by : {H : Type 0} (leads : H → Heard → H → Type 0) (old : CpuValue) (before : H) (new : CpuValue) (after : H) (call : ℕ → Call) (queued : List Queued)
    (here : Option Heard) → CallsWith leads old before new after call queued here true → HasWaited old new call queued
waited_by leads old before new after call queued None made = search arith
waited_by leads old before new after call queued (Some heard) made = search (append-nil, arith)

module _ (old new : CpuValue) (k : ℕ → ℕ) (func info : ℕ) where
  abbrev call : ℕ → Call
  call to = call_by old.number (k to) Sync func info

  module _ (queued : List Queued) (made : HasWaited old new call queued) (l : CallsAreShown new) where
    -- a record that was used is confirmed
    is_confirmed : (x : ℕ) → k x < records_of_one → is_by (λ to. (call to).id) (call x).id (destinations queued) ≡ true
        → get_or new.part.confirmed (call x).id false ≡ true
    is_confirmed x small used = ap (λ n. get_or new.part.confirmed (record_of n (k x)) false) (sym made.number_is) ∙ made.confirmed_are (k x) small used

    abbrev Ran : ℕ → Call → Type 0
    Ran x c = get_or new.part.confirmed c.id false ≡ true → HasRunAt l.calls x c c.class

    all_ran : AllByRecursion (λ x. Ran x (call x)) (destinations queued)
    all_ran =
        all_sent Ran call queued (every_right (λ s. Ran s.to s.call) old.part.sent (sendings call queued)
        (subst (λ (xs : List Sending). AllByRecursion (λ s. Ran s.to s.call) xs) made.sent_is l.have_run))

    pub all_ended : AllByRecursion (λ x. k x < records_of_one) (destinations queued)
        → AllByRecursion (λ x. HasCall (call x) (l.calls.ran x)) (destinations queued)
    all_ended small = every_both (λ x. Ran x (call x)) (λ x. get_or new.part.confirmed (call x).id false ≡ true) (λ x. HasCall (call x) (l.calls.ran x))
        (λ x h e. h e) (destinations queued) all_ran
        (every_both (λ x. k x < records_of_one) (λ x. is_by (λ to. (call to).id) (call x).id (destinations queued) ≡ true)
        (λ x. get_or new.part.confirmed (call x).id false ≡ true) is_confirmed (destinations queued) small
        (all_by (λ to. (call to).id) (destinations queued)))

-- the members of a mask are CPUs
some_below : (b : Bool) (k n : ℕ) → k < n → AllByRecursion (λ x. x < n) (cond b (k ∷ []) [])
some_below true k n l = (l, tt)
some_below false k n l = tt

below_all : (mask k n : ℕ) → k ≤ n → AllByRecursion (λ x. x < n) (members_below mask k)
unfolding members_below
below_all mask zero n l = tt
below_all mask (suc k) n l = every_append (λ x. x < n) (members_below mask k) (cond (has mask k) (k ∷ []) []) (below_all mask k n (omega arith))
    (some_below (has mask k) k n (omega arith))

-- calls to many that were waited for have ended
pub many_ended : {H : Type 0} (leads : H → Heard → H → Type 0) (old : CpuValue) (before : H) (new : CpuValue) (after : H) (mask func info : ℕ)
    (here : Option Heard) →
    CallsMany leads old before new after (members mask) Sync func info here true → CallsAreShown new
    → HaveEnded new (many_call old.number Sync func info) (members mask)
many_ended leads old before new after mask func info here made l = record {
  is_shown = l;
  ended = subst (λ (to : List ℕ). AllByRecursion (λ x. HasCall (many_call old.number Sync func info x) (l.calls.ran x)) to) made.1
      (all_ended old new many_record func info made.0
      (waited_by leads old before new after (many_call old.number Sync func info) made.0 here made.2) l
      (subst (λ (to : List ℕ). AllByRecursion (λ x. many_record x < records_of_one) to) (sym made.1)
      (every (λ x. x < cpus) (λ x. many_record x < records_of_one) small_many (members mask) (below_all mask cpus cpus (omega arith)))));
}

-- a call to one CPU that was waited for has ended
pub one_ended : {H : Type 0} (leads : H → Heard → H → Type 0) (old : CpuValue) (before : H) (new : CpuValue) (after : H) (dst func info : ℕ) →
    CallsOne leads old before new after dst func info true → CallsAreShown new
    → HaveEnded new (λ _. call_by old.number (single_record true) Sync func info) (dst ∷ [])
one_ended leads old before new after dst func info made l = record {
  is_shown = l;
  ended = subst (λ (to : List ℕ). AllByRecursion (λ x. HasCall (call_by old.number (single_record true) Sync func info) (l.calls.ran x)) to) made.1
      (all_ended old new (λ _. single_record true) func info made.0
      (waited_by leads old before new after (λ _. call_by old.number (single_record true) Sync func info) made.0 None made.2) l
      (subst (λ (to : List ℕ). AllByRecursion (λ x. single_record true < records_of_one) to) (sym made.1) (omega arith, tt)));
}
