-- How a step of a CPU moves a record.
use Rattle.trace_laws.proofs.Names.{Async, Batch, Bool, Call, Class, CpuState, Current, Free, IsPermutation, List, None, Ok, Option, Progress, Queue}
use Rattle.trace_laws.proofs.Names.{Reason, Run, Some, Sync, Unlocked, [], and_parts, ap, arith, at_call, begun, begun_any, begun_front, begun_loose}
use Rattle.trace_laws.proofs.Names.{call_at, cond, count_by, ended, ended_at, eqb-true, false, if◌then◌else◌, in_batch}
use Rattle.trace_laws.proofs.Names.{in_queue, in_run, inr, is_async, is_of, is_record, is_some, is_sync, not, one_if}
use Rattle.trace_laws.proofs.Names.{place_in, pushed, refl, remove, rest_of, runs_locked, slipped_any, slipped_at, slipped_from_batch}
use Rattle.trace_laws.proofs.Names.{slipped_from_queue, subst, sum_by-IsPermutation, true, unlocked, ℕ, ◌&&◌}
use Rattle.trace_laws.proofs.Names.{◌+◌, ◌==◌, ◌∙◌, ◌∷◌, ◌≡◌, ◌⊎◌}
use Rattle.trace_model.specs.{declared.call.Place.Place, declared.call.Progress.TheVariants.Runs}
use Rattle.trace_laws.proofs.{Calls.CpuSteps.SameCalls, Calls.CpuSteps.front_is, Calls.CpuSteps.picked, Calls.MadeSteps.both_made, Calls.MadeSteps.failed}
use Rattle.trace_laws.proofs.{Calls.MadeSteps.passed, Calls.ShownByRuns.count_append}

-- where a CPU has a record
pub data Kind : Type 0 where
  Nowhere : Kind
  InQueue : Kind
  InBatch : Kind
  Running : Kind

abbrev pub place_of : Kind → ℕ → Place
place_of Nowhere cpu = Free
place_of InQueue cpu = Queue cpu
place_of InBatch cpu = Batch cpu
place_of Running cpu = Run cpu

abbrev pub at_queue : Kind → Bool
at_queue InQueue = true
at_queue _ = false

abbrev pub at_batch : Kind → Bool
at_batch InBatch = true
at_batch _ = false

abbrev pub at_run : Kind → Bool
at_run Running = true
at_run _ = false

-- the class of a call that is unlocked before it begins
abbrev pub class_at : Progress → Class → Class
class_at Unlocked class = class
class_at _ class = Async

abbrev pub class_with : Option Current → Class
class_with None = Async
class_with (Some x) = class_at x.progress x.call.class

abbrev pub IsUnlockedAsync : CpuState → Type 0
IsUnlockedAsync c = class_with c.current ≡ Async

-- A record goes from one place of a CPU to another.
pub record Shift (id : ℕ) (from to : Kind) (a b : CpuState) : Type 0 where
  pub queue : (r : ℕ) → in_queue r b + one_if (at_queue from && (id == r)) ≡ in_queue r a + one_if (at_queue to && (id == r))
  pub batch : (r : ℕ) → in_batch r b + one_if (at_batch from && (id == r)) ≡ in_batch r a + one_if (at_batch to && (id == r))
  pub run : (r : ℕ) → in_run r b + one_if (at_run from && (id == r)) ≡ in_run r a + one_if (at_run to && (id == r))
  pub async : IsUnlockedAsync b

-- a count with one item before it
pub count_cons : (p : Call → Bool) (x : Call) (xs : List Call) → count_by p (x ∷ xs) ≡ cond (p x) 1 0 + count_by p xs
count_cons p x xs = count_append p (x ∷ []) xs ∙ ap (λ k. k + count_by p xs) (zero_and (cond (p x) 1 0)) where
  zero_and : (n : ℕ) → 0 + n ≡ n
  zero_and n = omega arith

count_one : (p : Call → Bool) (x : Call) → count_by p (x ∷ []) ≡ cond (p x) 1 0
count_one p x = search (count_cons, arith)

-- no record moves where the calls are as before
pub stays : (id : ℕ) (a b : CpuState) → SameCalls a b → IsUnlockedAsync a → Shift id Nowhere Nowhere a b
stays id a b h1 h2 = search arith

pub shift_pushed : (call : Call) (a : CpuState) → IsUnlockedAsync a → Shift call.id Nowhere InQueue a (pushed call a)
shift_pushed call a h1 = search (count_by, count_append, count_one, arith)

-- the front of a batch leaves it
left_count : (batch : List Call) (front : Call) (r : ℕ) → batch ≡ front ∷ rest_of batch
    → count_by (is_record r) (rest_of batch) + cond (front.id == r) 1 0 ≡ count_by (is_record r) batch + 0
left_count batch front r is =
    let e : count_by (is_record r) (front ∷ rest_of batch) ≡ cond (front.id == r) 1 0 + count_by (is_record r) (rest_of batch) = count_cons
    (is_record r) front (rest_of batch) in
    let f : count_by (is_record r) batch ≡ count_by (is_record r) (front ∷ rest_of batch) = ap (λ xs. count_by (is_record r) xs) is in
    omega arith

-- where the record of a call is that runs
abbrev pub run_kind : Class → Kind
run_kind Sync = Running
run_kind Async = Nowhere

not_queue : (class : Class) → at_queue (run_kind class) ≡ false
not_queue class = search arith

not_batch : (class : Class) → at_batch (run_kind class) ≡ false
not_batch class = search arith

-- A record leaves a batch, or a call that a CPU runs.
pub record Leaves (id : ℕ) (a b : CpuState) : Type 0 where
  pub from : Kind
  pub is_from : from ≡ InBatch ⊎ from ≡ Running
  pub shift : Shift id from Nowhere a b

pub leaves_unlocked : (r : ℕ) (here : Bool) (elsewhere : Reason) (a b : CpuState) → unlocked r here elsewhere a ≡ Ok b → Leaves r a b
leaves_unlocked r here elsewhere a b e = search (passed, count_by, count_one, eqb-true, both_made, front_is, failed, left_count, arith)

-- A call begins: the one that is unlocked, or one of the batch or the queue.
pub record Enters (id : ℕ) (a b : CpuState) : Type 0 where
  pub from : Kind
  pub class : Class
  pub is_from : from ≡ InBatch ⊎ from ≡ InQueue
  pub shift : Shift id from (run_kind class) a b
  pub runs : runs_locked b ≡ is_sync class

pub record Begins (id : ℕ) (a b : CpuState) : Type 0 where
  pub unless : Bool
  pub unless_is : is_some a.current ≡ unless
  pub how : (unless ≡ true → Shift id Nowhere Nowhere a b) × (unless ≡ false → Enters id a b)

enters_as : (call : Call) (other : ℕ) (from : Kind) (a b c : CpuState) → from ≡ InBatch ⊎ from ≡ InQueue → call.id ≡ other → b ≡ c →
    b.current ≡ at_call Runs call
    → Shift call.id from (run_kind call.class) a b → Enters other a c
enters_as call other from a b c h1 h2 h3 h4 h5 = search arith

enters_front : (unlocks : Bool) (id func info : ℕ) (front : Call) (a b : CpuState) → a.current ≡ None → a.batch ≡ front ∷ rest_of a.batch → front.id ≡ id
    → begun_front (record { id = id; func = func; info = info }) unlocks a front ≡ Ok b → Enters id a b
enters_front unlocks id func info front a b h1 h2 h3 h4 = search (both_made, failed, enters_as, not_queue, not_batch, left_count, count_one, arith)

pub begins_begun : (id func info : ℕ) (here : Bool) (elsewhere : Reason) (unlocks : Bool) (a b : CpuState) → IsUnlockedAsync a
    → begun (record { id = id; func = func; info = info }) here elsewhere unlocks a ≡ Ok b → Begins id a b
begins_begun id func info here elsewhere unlocks a b async e = search (passed, both_made, front_is, enters_front, arith)

-- a call leaves a queue
queue_count : (queue rest : List Call) (call : Call) (r : ℕ) → IsPermutation queue (call ∷ rest)
    → count_by (is_record r) rest + cond (call.id == r) 1 0 ≡ count_by (is_record r) queue + 0
queue_count queue rest call r moves =
    let e : count_by (is_record r) (call ∷ rest) ≡ count_by (is_record r) queue = sum_by-IsPermutation (λ x. cond (is_record r x) 1 0) queue
    (call ∷ rest) moves in
    let f : count_by (is_record r) (call ∷ rest) ≡ cond (call.id == r) 1 0 + count_by (is_record r) rest = count_cons (is_record r) call rest in
    omega arith

enters_any : (id func info : ℕ) (elsewhere : Reason) (a b : CpuState) (at : Option ℕ) (found : Option Call) → a.current ≡ None → place_in id a.queue ≡ at
    → call_at a.queue at ≡ found → begun_any (record { id = id; func = func; info = info }) a at found elsewhere ≡ Ok b → Enters id a b
enters_any id func info elsewhere a b (Some n) (Some call) none place is e =
    let c = record a { queue = remove a.queue n; current = at_call Runs call } in
    let m = both_made (is_of (record { id = id; func = func; info = info }) call) (λ u. Ok c) b e in
    let p = picked id a.queue (Some n) place n refl call is in
    enters_as call id InQueue a c b (inr refl) p.0 (cc) refl (record {
      queue = λ r. rw (not_queue call.class) (queue_count a.queue (remove a.queue n) call r p.1);
      batch = λ r. rw (not_batch call.class) refl;
      run = λ r. rw none (search (count_one, arith));
      async = refl;
    })
enters_any id func info elsewhere a b _ _ none place is e = absurd cc

pub begins_loose : (id func info : ℕ) (elsewhere : Reason) (a b : CpuState) → IsUnlockedAsync a →
    begun_loose (record { id = id; func = func; info = info }) elsewhere a ≡ Ok b → Begins id a b
begins_loose id func info elsewhere a b async e = search (passed, both_made, enters_any, arith)

-- A call ends: its record is unlocked with it, or does not move.
pub record Ends (unlocks : Bool) (id : ℕ) (a b : CpuState) : Type 0 where
  pub frees : Bool
  pub frees_is : (runs_locked a && not unlocks) ≡ frees
  pub how : (frees ≡ true → Shift id Running Nowhere a b) × (frees ≡ false → Shift id Nowhere Nowhere a b)

ends_at : (unlocks : Bool) (progress : Progress) (call : Call) (r : ℕ) (a b : CpuState) → a.current ≡ at_call progress call →
    ended_at progress call r unlocks a ≡ Ok b
    → Ends unlocks r a b
ends_at unlocks progress call r a b h1 h2 = search (passed, eqb-true, count_by, count_one, arith)

pub ends_ended : (unlocks : Bool) (r : ℕ) (a b : CpuState) → ended r unlocks a ≡ Ok b → Ends unlocks r a b
ends_ended unlocks r a b e = search (ends_at, arith)

abbrev picked_or : Bool → CpuState → CpuState → Bool × CpuState
picked_or test x a = if test then (true, x) else (false, a)

pub slips_from_batch : (r : ℕ) (a b : CpuState) → slipped_from_batch r a ≡ (true, b) → Shift r InBatch Nowhere a b
slips_from_batch r a b e = search (and_parts, eqb-true, left_count, arith)

slips_any : (r : ℕ) (a b : CpuState) (at : Option ℕ) (found : Option Call) → a.current ≡ None → place_in r a.queue ≡ at → call_at a.queue at ≡ found
    → slipped_any a at found ≡ (true, b) → Shift r InQueue Nowhere a b
slips_any r a b (Some n) (Some call) none place is e = by_test (is_async call.class) refl e where
  by_test : (test : Bool) → is_async call.class ≡ test
      → picked_or test (record a { queue = remove a.queue n; current = at_call Unlocked call }) a ≡ (true, b) → Shift r InQueue Nowhere a b
  by_test true t f =
      let c = record a { queue = remove a.queue n; current = at_call Unlocked call } in
      let p = picked r a.queue (Some n) place n refl call is in
      let same : c ≡ b = ap (λ (y : Bool × CpuState). y.1) f in
      subst (λ (y : CpuState). Shift r InQueue Nowhere a y) same (subst (λ (i : ℕ). Shift i InQueue Nowhere a c) p.0 (record {
        queue = λ k. queue_count a.queue (remove a.queue n) call k p.1;
        batch = λ k. refl;
        run = λ k. rw none refl;
        async = search arith;
      }))
  by_test false t f = absurd (let g : false ≡ true = ap (λ (y : Bool × CpuState). y.0) f in cc)
slips_any r a b _ _ none place is e = absurd (let g : false ≡ true = ap (λ (y : Bool × CpuState). y.0) e in cc)

slips_at : (current : Option Current) (irq : Bool) (r : ℕ) (a b : CpuState) → a.current ≡ current → slipped_at current irq r a ≡ (true, b) →
    Shift r InQueue Nowhere a b
slips_at None true r a b is e = slips_any r a b (place_in r a.queue) (call_at a.queue (place_in r a.queue)) is refl refl e
slips_at None false r a b is e = absurd (let g : false ≡ true = ap (λ (y : Bool × CpuState). y.0) e in cc)
slips_at (Some x) irq r a b is e = absurd (let g : false ≡ true = ap (λ (y : Bool × CpuState). y.0) e in cc)

pub slips_from_queue : (r : ℕ) (a b : CpuState) → slipped_from_queue r a ≡ (true, b) → Shift r InQueue Nowhere a b
slips_from_queue r a b e = slips_at a.current a.irq r a b refl e
