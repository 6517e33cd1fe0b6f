-- What traces show of calls.
use Rattle.trace_laws.proofs.Names.{Async, Bool, Call, CallsShown, Class, CpuState, Event, IsPermutation-map, IsTrace, LabelWords, List, Setting}
use Rattle.trace_laws.proofs.Names.{StateValue, Sync, [], ap, append-nil, append_assoc, arith, begin_of, cond, count_by, cpu_at, false, filter-append}
use Rattle.trace_laws.proofs.Names.{fresh_cpu, held, id_of, is_class, is_from, is_to, length, length-replicate, map, map-append, notes}
use Rattle.trace_laws.proofs.Names.{notes_now, of_class, opening, order, queue_from, queue_next, queued, queued_now, ran_at, refl, running, sym}
use Rattle.trace_laws.proofs.Names.{taken_from, taken_now, takes_now, true, waiting, ℕ, ◌%◌, ◌++◌, ◌+◌, ◌<◌, ◌^◌, ◌∙◌, ◌∷◌, ◌≡◌}
use Rattle.std.proofs.Common.{filter}
use Rattle.smp_words.proofs.Zeros.{get_or-same}
use Rattle.trace_laws.proofs.{Calls.ShownByRuns.calls_shown, Calls.ShownByRuns.count_append}
use Rattle.trace_laws.specs.Traces.{BeginInOrder, BeginOnce, CountsAre, EndOnce, record_of}
use Rattle.trace_laws.specs.CallHistory.{queued_at}

-- before the first event, a CPU has done nothing
pub fresh_at : (u : Setting) (words : LabelWords) (cpu : ℕ) → cpu_at (opening u words) cpu ≡ fresh_cpu
unfolding opening
fresh_at u words cpu = get_or-same fresh_cpu 512 cpu

pub cpus_at_first : (u : Setting) (words : LabelWords) → length (opening u words).cpus ≡ 512
unfolding opening
cpus_at_first u words = length-replicate 512 fresh_cpu

order_at_first : (u : Setting) (words : LabelWords) → (opening u words).setting ≡ u
unfolding opening
order_at_first u words = refl

shown_at : (u : Setting) (words : LabelWords) (es : List (ℕ × Event)) (t : StateValue) (cpu : ℕ) → IsTrace u words es t → cpu < 512
    → CallsShown cpu es (opening u words) t
shown_at u words es t cpu run below = search (calls_shown, cpus_at_first, arith)

-- what was held, taken, run and counted before the first event
record IsFresh (c : CpuState) : Type 0 where
  runs : running c ≡ []
  waits : waiting c ≡ []
  holds : held c ≡ []
  queue : c.queue ≡ []
  ran_long : length c.ran ≡ 512
  queued_long : length c.queued ≡ 512
  ran : (source : ℕ) → ran_at c source ≡ 0
  queued : (to : ℕ) → queued_at c to ≡ 0

is_fresh : (c : CpuState) → c ≡ fresh_cpu → IsFresh c
is_fresh c e = record {
  runs = ap (λ x. running x) e;
  waits = ap (λ x. waiting x) e;
  holds = ap (λ x. held x) e;
  queue = ap (λ x. x.queue) e;
  ran_long = ap (λ x. length x.ran) e ∙ length-replicate {A = ℕ} 512 0;
  queued_long = ap (λ x. length x.queued) e ∙ length-replicate {A = ℕ} 512 0;
  ran = λ source. ap (λ x. ran_at x source) e ∙ get_or-same 0 512 source;
  queued = λ to. ap (λ x. queued_at x to) e ∙ get_or-same 0 512 to;
}

fresh_is : (u : Setting) (words : LabelWords) (cpu : ℕ) → IsFresh (cpu_at (opening u words) cpu)
fresh_is u words cpu = is_fresh (cpu_at (opening u words) cpu) (fresh_at u words cpu)

pub begin_once : (u : Setting) (words : LabelWords) (es : List (ℕ × Event)) (t : StateValue) → IsTrace u words es t → (cpu : ℕ) → cpu < 512 →
    BeginOnce u es t cpu
begin_once u words es t run cpu below =
    let c = shown_at u words es t cpu run below in
    let a = cpu_at (opening u words) cpu in
    let h : held a ≡ [] = (fresh_is u words cpu).holds in
    rw (
      ← (ap (λ xs. map begin_of (xs ++ queued cpu es)) h),
      ← (map-append begin_of c.began (held (cpu_at t cpu)) ∙ ap (λ xs. xs ++ map begin_of (held (cpu_at
          t cpu))) c.begins_are),
    ) (IsPermutation-map begin_of (held a ++ queued cpu es) (c.began ++ held (cpu_at t cpu)) c.each_once)

pub records_of : (calls : List Call) → map record_of (map begin_of calls) ≡ map id_of calls
records_of [] = refl
records_of (x ∷ xs) = ap (λ ys. x.id ∷ ys) (records_of xs)

pub end_once : (u : Setting) (words : LabelWords) (es : List (ℕ × Event)) (t : StateValue) → IsTrace u words es t → (cpu : ℕ) → cpu < 512 → EndOnce u es t cpu
end_once u words es t run cpu below =
    let c = shown_at u words es t cpu run below in
    let b = cpu_at t cpu in
    ap (λ xs. map record_of xs) (sym c.begins_are) ∙ records_of c.began
    ∙ ap (λ xs. map id_of (xs ++ c.began)) (sym (fresh_is u words cpu).runs) ∙ ap (λ xs. map id_of xs) c.one_at_a_time
    ∙ map-append id_of c.over (running b) ∙ ap (λ xs. xs ++ map id_of (running b)) c.ends_are

-- what passes a test passes it again
filter_again_by : (p : Call → Bool) (x : Call) (ys : List Call) (test : Bool) → p x ≡ test → filter p ys ≡ ys →
    filter p (cond test (x ∷ ys) ys) ≡ cond test (x ∷ ys) ys
filter_again_by p x ys test e same = search arith

filter_again : (p : Call → Bool) (xs : List Call) → filter p (filter p xs) ≡ filter p xs
filter_again p [] = refl
filter_again p (x ∷ xs) = filter_again_by p x (filter p xs) (p x) refl (filter_again p xs)

-- what passes one test passes no other
filter_other_by : (p q : Call → Bool) (x : Call) (ys : List Call) (test : Bool) → (test ≡ true → q x ≡ false) → filter q ys ≡ [] →
    filter q (cond test (x ∷ ys) ys) ≡ []
filter_other_by p q x ys test other none = search arith

filter_other : (p q : Call → Bool) → ((x : Call) → p x ≡ true → q x ≡ false) → (xs : List Call) → filter q (filter p xs) ≡ []
filter_other p q other [] = refl
filter_other p q other (x ∷ xs) = filter_other_by p q x (filter p xs) (p x) (other x) (filter_other p q other xs)

sync_only : (class : Class) → is_class Sync class ≡ true → is_class Async class ≡ false
sync_only class e = search arith

async_only : (class : Class) → is_class Async class ≡ true → is_class Sync class ≡ false
async_only class e = search arith

-- the calls of a class keep their order where a queue is taken
class_order : (class : Class) (queue : List Call) → of_class class (order queue) ≡ of_class class queue
class_order Sync queue =
    let p = λ (x : Call). is_class Sync x.class in
    let q = λ (x : Call). is_class Async x.class in
    filter-append p (filter p queue) (filter q queue)
    ∙ rw (filter_again p queue, filter_other q p (λ x. async_only x.class) queue) (append-nil (filter p queue))
class_order Async queue =
    let p = λ (x : Call). is_class Sync x.class in
    let q = λ (x : Call). is_class Async x.class in
    filter-append q (filter p queue) (filter q queue)
    ∙ rw (filter_again q queue, filter_other p q (λ x. sync_only x.class) queue) refl

classes_next : (class : Class) (takes : Bool) (queue more : List Call) → (takes ≡ true → more ≡ [])
    → of_class class (taken_now takes queue) ++ of_class class (queue_next takes queue more) ≡ of_class class queue ++ of_class class more
classes_next class true queue more none = rw (class_order class queue) (ap (λ xs. of_class class queue ++ of_class class xs) (sym (none refl)))
classes_next class false queue more none = filter-append (λ call. is_class class call.class) queue more

-- an event that takes a queue queues no call
takes_none : (cpu : ℕ) (e : ℕ × Event) → takes_now cpu e ≡ true → queued_now cpu e ≡ []
takes_none cpu e h1 = search arith

classes_from : (class : Class) (cpu : ℕ) (queue : List Call) (es : List (ℕ × Event))
    → of_class class (taken_from cpu queue es) ++ of_class class (queue_from cpu queue es) ≡ of_class class queue ++ of_class class (queued cpu es)
unfolding taken_from queue_from queued
classes_from class cpu queue [] = sym (append-nil (of_class class queue))
classes_from class cpu queue (e ∷ es) =
    let is = λ (call : Call). is_class class call.class in
    let takes = takes_now cpu e in
    let more = queued_now cpu e in
    let next = queue_next takes queue more in
    let p = of_class class (taken_now takes queue) in
    let q = of_class class (taken_from cpu next es) in
    let r = of_class class (queue_from cpu next es) in
    rw (filter-append is (taken_now takes queue) (taken_from cpu next es), filter-append is more (queued cpu es), append_assoc p q r)
    (ap (λ xs. p ++ xs) (classes_from class cpu next es) ∙ sym (append_assoc p (of_class class next) (of_class class (queued cpu es)))
    ∙ ap (λ xs. xs ++ of_class class (queued cpu es)) (classes_next class takes queue more (takes_none cpu e))
    ∙ append_assoc (of_class class queue) (of_class class more) (of_class class (queued cpu es)))

pub begin_in_order : (u : Setting) (words : LabelWords) (es : List (ℕ × Event)) (t : StateValue) → IsTrace u words es t → (cpu : ℕ) → cpu < 512 →
    BeginInOrder u es t cpu
begin_in_order u words es t run cpu below =
    let c = shown_at u words es t cpu run below in
    let f = fresh_is u words cpu in
    let a = cpu_at (opening u words) cpu in
    let b = cpu_at t cpu in
    let o : (opening u words).setting.without.order ≡ u.without.order = ap (λ v. v.without.order) (order_at_first u words) in
    record {
      begun = search (f.waits, a, f.queue, c.in_order, o, c.began, b, c.begins_are, map-append, arith);
      queue = λ told. c.queue_is (o ∙ told) ∙ ap (λ xs. queue_from cpu xs es) f.queue;
      classes = λ class. classes_from class cpu [] es;
    }

notes_are : (source to : ℕ) (es : List (ℕ × Event)) → count_by (is_to to) (notes source es) ≡ count_by (is_from source) (queued to es)
unfolding notes queued
notes_are source to [] = refl
notes_are source to (e ∷ es) =
    count_append (is_to to) (notes_now source e) (notes source es)
    ∙ ap (λ k. k + count_by (is_to to) (notes source es)) (search arith)
    ∙ ap (λ k. count_by (is_from source) (queued_now to e) + k) (notes_are source to es)
    ∙ sym (count_append (is_from source) (queued_now to e) (queued to es))

zero_and : (n : ℕ) → (0 + n) % 2 ^ 64 ≡ n % 2 ^ 64
zero_and n = search arith

pub counts_are : (u : Setting) (words : LabelWords) (es : List (ℕ × Event)) (t : StateValue) → IsTrace u words es t → (cpu : ℕ) → cpu < 512 →
    CountsAre u es t cpu
counts_are u words es t run cpu below =
    let c = shown_at u words es t cpu run below in
    let f = fresh_is u words cpu in
    let b = cpu_at t cpu in
    let began_is : c.began ≡ c.over ++ running b = ap (λ xs. xs ++ c.began) (sym f.runs) ∙ c.one_at_a_time in
    record {
      over = c.over;
      ends_are = c.ends_are;
      whole = rw (← (ap (λ xs. xs ++ queued cpu es) f.holds), ← (ap (λ xs. xs ++ held b) began_is)) c.each_once;
      queued_are = λ source low.
          let g = fresh_is u words source in
          (shown_at u words es t source run low).noted cpu 0 (rw g.queued_long below) (g.queued cpu) ∙ zero_and (count_by (is_to cpu) (notes source es)) ∙
          ap (λ k. k % 2 ^ 64) (notes_are source cpu es);
      ran_are = λ source low. c.tally source 0 (rw f.ran_long low) (f.ran source) ∙ zero_and (count_by (is_from source) c.over);
    }
