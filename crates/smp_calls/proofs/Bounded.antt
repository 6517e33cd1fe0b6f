-- A call to many that waits no longer than some polls, out of its parts.
use Rattle.std.proofs.Common.{arith, ◌≡◌, ℕ, zero, suc, ◌<◌, ◌≤◌, ◌&&◌, ◌||◌, not, Bool, true, false, cond, None, List, [], ◌∷◌, ◌++◌, length}
use Rattle.std.proofs.Common.{get_or, length-append, refl, sym, ap, ◌∙◌, subst, inl, inr}
use Rattle.std.proofs.lemmas.Bool.{cases_eq, cases_Bool}
use Rattle.std.specs.List.{AllByRecursion}
use Rattle.smp_mask.specs.Mask.{has, members, members_below}
use Rattle.smp_mask.specs.declared.mask.TheConstants.{NR_CPUS}
use Rattle.smp_words.specs.Size.{records_of_one, record_of}
use Rattle.smp_words.proofs.Sizes.{one_local}
use Rattle.smp_words.specs.declared.call.Call.{Call}
use Rattle.smp_words.specs.declared.call.Class.TheVariants.{Sync}
use Rattle.smp_call_steps.specs.HaveRun.{HasRunAt}
use Rattle.smp_call_steps.specs.declared.known.Logged.{Logged}
use Rattle.smp_call_steps.specs.declared.known.Sending.{Sending}
use Rattle.smp_call_steps.proofs.Basics.Alls.{every_left, every_right}
use Rattle.smp_queue.specs.Cpu.{CpuValue, confirmed_at}
use Rattle.smp_queue.specs.Laws.{CallsAreShown}
use Rattle.smp_queue.specs.declared.handler.Heard.{Heard}
use Rattle.smp_calls.specs.Ended.{HaveEnded}
use Rattle.smp_calls.specs.Families.{Leaves, Calls, CallsMany, IsLast, AreConfirmed, HandlesNone, owes_at}
use Rattle.smp_calls.specs.Queued.{Queued, destinations, sendings, is_by, is_first_to, is_used}
use Rattle.smp_calls.specs.Records.{many_call, many_record}
use Rattle.smp_calls.specs.Turns.{TakesApart}
use Rattle.smp_calls.specs.Within.{IsNoneOf, WaitsWithin, CallsWithin}
use Rattle.smp_calls.proofs.AtOnce.{last_none}
use Rattle.smp_calls.proofs.Counted.{last_of_some}
use Rattle.smp_calls.proofs.Ended.{all_sent}
use Rattle.smp_calls.proofs.Lawful.{small_many, are_apart}
use Rattle.smp_calls.proofs.Lists.{none_left}
use Rattle.smp_calls.proofs.Loops.{both_true, not_true}
use Rattle.smp_calls.proofs.Polling.{differ}
use Rattle.smp_calls.proofs.Round.{is_by-append}
use Rattle.smp_calls.proofs.Takes.{takes_then}
use Rattle.smp_calls.proofs.Steps.{leaves_as, leaves_then, leaves_last}

-- no member has this record
none_by : (of : ℕ → ℕ) (id m n : ℕ) → ((c : ℕ) → has m c ≡ true → id ≡ of c → ⊥) → is_by of id (members_below m n) ≡ false
unfolding members_below
none_by of id m zero none = refl
none_by of id m (suc n) none = search (is_by-append, last_none, none_by of id m n none, arith)

-- what holds of all members holds of each
at_member : (P : ℕ → Type 0) (m c n : ℕ) → c < n → has m c ≡ true → AllByRecursion P (members_below m n) → P c
unfolding members_below
at_member P m c zero l h all = absurd (omega arith)
at_member P m c (suc n) l h all = elim (cases_eq n c) [
  | inl e ↦
      let here : has m n ≡ true = subst (λ (x : ℕ). has m x ≡ true) (sym e) h in
      let last = every_right P (members_below m n) (cond (has m n) (n ∷ []) []) all in
      let one : AllByRecursion P (n ∷ []) = subst (λ b. AllByRecursion P (cond b (n ∷ []) [])) here last in
      subst P e one.0
  | inr other ↦ at_member P m c n (omega arith) h (every_left P (members_below m n) (cond (has m n) (n ∷ []) []) all)
]

-- the records that are confirmed once calls were queued
cond_false : (b x : Bool) → x ≡ false → cond b false x ≡ false
cond_false b x e = search (cases_Bool, arith)

and_all : (a b : Bool) → (a && not b) ≡ false → a ≡ true → b ≡ true
and_all a b e h = search (cases_Bool, arith)

-- a CPU has a call's answer that it has sent by a record which it sees confirmed
answered : (old new : CpuValue) (func info : ℕ) (queued : List Queued) (mask c : ℕ) → new.number ≡ old.number
    → new.part.sent ≡ old.part.sent ++ sendings (many_call old.number Sync func info) queued → destinations queued ≡ members mask
    → c < NR_CPUS → has mask c ≡ true → confirmed_at new (many_record c) ≡ true → CallsAreShown new
    → HaveEnded new (many_call old.number Sync func info) (c ∷ [])
answered old new func info queued mask c number_is sent_is to below h confirmed l =
    let call = many_call old.number Sync func info in
    let Ran = λ (x : ℕ) (made : Call). get_or new.part.confirmed made.id false ≡ true → HasRunAt l.calls x made made.class in
    let all : AllByRecursion (λ x. Ran x (call x)) (destinations queued) =
    all_sent Ran call queued (every_right (λ (s : Sending). Ran s.to s.call) old.part.sent (sendings call queued)
    (subst (λ (xs : List Sending). AllByRecursion (λ s. Ran s.to s.call) xs) sent_is l.have_run)) in
    let one : Ran c (call c) =
    at_member (λ x. Ran x (call x)) mask c NR_CPUS below h (subst (λ (xs : List ℕ). AllByRecursion (λ x. Ran x (call x)) xs) to all) in
    record {
      is_shown = l;
      ended = (one (ap (λ n. get_or new.part.confirmed (record_of n (many_record c)) false) (sym number_is) ∙ confirmed), tt);
    }

module _ {H : Type 0} (leads : H → Heard → H → Type 0) where
  -- a CPU's takes of its interrupt word are not undone
  asked_more : {old new : CpuValue} {before after : H} {s : List Sending} {x : List Logged} {o d : ℕ → Bool} → Leaves leads old before new after s x o d
      → length old.part.asked ≤ length new.part.asked
  asked_more {old} {new} l = search (length-append, arith)

  -- the same queueing, by the number that the CPU had before
  by_number : {mid new : CpuValue} {m after : H} (n func info : ℕ) (queued : List Queued) → mid.number ≡ n
      → Calls leads mid m new after (many_call mid.number Sync func info) queued false →
      Calls leads mid m new after (many_call n Sync func info) queued false
  by_number {mid} {new} {m} {after} n func info queued e c =
      subst (λ (x : ℕ). Calls leads mid m new after (many_call x Sync func info) queued false) e c

  pub calls_within : (old first mid new : CpuValue) (before h m after : H) (func info others free busy rest late silent polls : ℕ) (targets : ℕ → Bool) →
      ((c : ℕ) → has others c ≡ targets c) → ((c : ℕ) → has others c ≡ true → c < NR_CPUS) →
      WaitsWithin leads old before first h others free busy polls →
      CallsMany leads first h mid m (members free) Sync func info None false → TakesApart first mid → IsLast first mid (members free) →
      (AreConfirmed first (has free) → HandlesNone first mid × (m ≡ h)) →
      WaitsWithin leads mid m new after free rest late polls →
      ((c : ℕ) → has silent c ≡ (has busy c || has late c)) → CallsAreShown new →
      CallsWithin leads old before new after func info targets free silent polls
  calls_within old first mid new before h m after func info others free busy rest late silent polls targets are low a q takes last quick_calls b either shown =
      let queued = q.0 in
      let made = by_number old.number func info queued a.leaves.number_is q.2 in
      let call = many_call old.number Sync func info in
      let is_target : (c : ℕ) → targets c ≡ true → has others c ≡ true = λ c t. are c ∙ t in
      let free_other : (c : ℕ) → has free c ≡ true → has others c ≡ true =
      λ c f. (both_true (has others c) (not (has busy c)) (sym (a.parted c) ∙ f)).0 in
      let free_idle : (c : ℕ) → has free c ≡ true → has busy c ≡ false =
      λ c f. not_true (has busy c) (both_true (has others c) (not (has busy c)) (sym (a.parted c) ∙ f)).1 in
      let not_idle : (c : ℕ) → has busy c ≡ true → has free c ≡ true → ⊥ = λ c y f. differ (has busy c) y (free_idle c f) in
      let whole =
      leaves_as leads (λ c. owes_at old c && not (is_first_to c queued)) (confirmed_at new)
      (leaves_then leads a.leaves (leaves_last leads (leaves_then leads made b.leaves)))
      (λ c. made.owes_are c ∙ ap (λ x. x && not (is_first_to c queued)) (a.leaves.owes_are c)) (λ k s. refl) in
      let not_used : (k : ℕ) → k < records_of_one → IsNoneOf k (has free) → confirmed_at mid k ≡ confirmed_at first k =
      λ k s none. made.confirmed_are k s ∙ ap (λ u. cond u false (confirmed_at first k))
      (ap (λ (xs : List ℕ). is_by (λ to. (call to).id) (record_of first.number k) xs) q.1 ∙
      none_by (λ to. (call to).id) (record_of first.number k) free NR_CPUS (λ c f e. none c f
      (one_local old.number k (many_record c) s (small_many c (low c (free_other c f))) (ap (λ (n : ℕ). record_of n k) (sym a.leaves.number_is) ∙ e)))) in
      let some : (c : ℕ) → has free c ≡ true → members free ≡ [] → ⊥ =
      λ c f none. differ (has free c) f (none_left free c none (low c (free_other c f))) in
      let done : (c : ℕ) → has free c ≡ true → (mid.steps ≡ mid.sent_at) × (length mid.part.asked ≡ mid.asked_at) =
      λ c f. last_of_some first mid (members free) (some c f) last in
      let still = b.leaves.still refl in
      let turns = b.turns in
      let most = b.most in
      let first_most = a.most in
      let confirmed : AreConfirmed first (has free) = λ c f. a.confirmed_are c (free_other c f) ∙ ap not (free_idle c f) in
      let same : length mid.part.asked ≡ length first.part.asked = ap (λ (bs : List Bool). length bs) (quick_calls confirmed).0.asked_is in
      record {
        queued = queued;
        to = q.1;
        leaves = whole;
        among = λ c f. sym (are c) ∙ free_other c f;
        silent_among = search (cases_Bool, a.among, b.among, free_other, arith);
        not_called = λ c t out. either c ∙ ap (λ x. x || has late c) (and_all (has others c) (has busy c) (sym (a.parted c) ∙ out) (is_target c t));
        confirmed_are = λ c t.
            let small = small_many c (low c (is_target c t)) in
            elim (cases_Bool (has busy c)) [
              | inl y ↦
                  let before : confirmed_at first (many_record c) ≡ false = a.confirmed_are c (is_target c t) ∙ ap not y in
                  let queued_then = made.confirmed_are (many_record c) small
                  ∙ cond_false (is_used call (record_of first.number (many_record c)) queued) (confirmed_at first (many_record c)) before in
                  b.others (many_record c) small (λ d f e. not_idle c y (subst (λ (x : ℕ). has free x ≡ true) (sym (are_apart.many c d e)) f))
                  ∙ (queued_then ∙ sym (ap not (either c ∙ ap (λ x. x || has late c) y)))
              | inr n ↦ b.confirmed_are c (a.parted c ∙ (ap (λ x. x && not (has busy c)) (is_target c t) ∙ ap not n))
                  ∙ sym (ap not (either c ∙ ap (λ x. x || has late c) n))
            ];
        others = λ k s none.
            let none_free : IsNoneOf k (has free) = λ c f. none c (sym (are c) ∙ free_other c f) in
            b.others k s none_free ∙ (not_used k s none_free ∙ a.others k s (λ c o. none c (sym (are c) ∙ o)));
        apart = takes_then old mid new (takes_then old first mid a.apart takes) b.apart;
        looked = λ c f. let d = done c f in record {
          turns = omega (arith, d.0, d.1, still.0, still.1);
          most = omega (arith, d.0, d.1, still.0, still.1);
        };
        polled = λ c f s.
            let p = b.polled c (sym (either c ∙ ap (λ x. x || has late c) (free_idle c f)) ∙ s) in
            omega (arith, (done c f).1, still.1);
        most = omega arith;
        sent_within = λ c f. omega (arith, (done c f).1, still.1);
        sent_at_once = λ c f all. omega (arith, (done c f).1, still.1, a.at_once (λ x o. all x (sym (are x) ∙ o)));
        none_called = λ out. omega (arith, b.at_once (λ x f. absurd (differ (has free x) f (out x))));
        no_target = λ out. omega (
          arith,
          a.at_once (λ x o. absurd (differ (targets x) (sym (are x) ∙ o) (out x))),
          b.at_once (λ x f. absurd (differ (targets x) (sym (are x) ∙ free_other x f) (out x))),
        );
        waited = λ c out s. elim (cases_Bool (has busy c)) [
          | inl y ↦ omega (arith, a.polled c y, asked_more made, asked_more b.leaves)
          | inr n ↦ absurd (differ (has free c) (b.among c (sym (either c ∙ ap (λ x. x || has late c) n) ∙ s)) out)
        ];
        ended = λ c f s.
            let quick : has late c ≡ false = sym (either c ∙ ap (λ x. x || has late c) (free_idle c f)) ∙ s in
            answered old new func info queued free c whole.number_is whole.sent_is q.1 (low c (free_other c f)) f (b.confirmed_are c f ∙ ap not quick) shown;
      }
