-- What each step of a CPU shows of its calls.
use Rattle.trace_laws.proofs.Names.{Async, Bool, Call, Class, CpuState, Current, Ended, Err, IsPermutation, IsPermutation-append_right, IsPermutation-refl}
use Rattle.trace_laws.proofs.Names.{IsPermutation-trans, List, None, Ok, Option, Progress, Reason, Shows, Some, Sync, Unlocked, [], after_end, and_parts, ap}
use Rattle.trace_laws.proofs.Names.{append-nil, append_assoc, arith, at_call, begin_of, begun, begun_any, begun_at, begun_front, begun_loose}
use Rattle.trace_laws.proofs.Names.{call_at, cond, count_by, counted, ended, ended_at, eqb-false, eqb-true, false, front_of, get_or}
use Rattle.trace_laws.proofs.Names.{get_or-set_other, get_or-set_same, if◌then◌else◌, is_async, is_class, is_from, is_of, is_sync, left_batch, length}
use Rattle.trace_laws.proofs.Names.{length-set, not, not_over, noted, order, over_with, place_in, pushed, ran_at, refl, remove, rest_of, running}
use Rattle.trace_laws.proofs.Names.{slice_index_or, slipped_any, slipped_at, slipped_from_batch, slipped_from_queue, slipped_front, subst, sym, taken, true}
use Rattle.trace_laws.proofs.Names.{unlocked, unlocked_front, unlocked_running, unlocked_with, waiting, ℕ, ◌%◌, ◌&&◌, ◌*◌, ◌++◌, ◌+◌, ◌/◌, ◌<◌, ◌==◌, ◌^◌, ◌∙◌}
use Rattle.trace_laws.proofs.Names.{◌∷◌, ◌≡◌}
use Rattle.std.proofs.lemmas.List.Sorted.{IsPermutation-filter_both, IsPermutation-middle, IsPermutation-remove}
use Rattle.std.proofs.{Math.Nat.add-mul-mod_self_right, Math.Nat.mod-add-div', lemmas.List.Quantifiers.position-Some, lemmas.Option.get_or_from_slice_get}
use Rattle.trace_model.specs.declared.reason.Reason.TheVariants as reason
use Rattle.trace_model.specs.declared.call.Progress.TheVariants.{Runs}
use Rattle.trace_laws.proofs.{Calls.MadeSteps.both_made, Calls.MadeSteps.failed, Calls.MadeSteps.passed}
use Rattle.trace_laws.specs.CallHistory.{running_at, running_with, unlocked_at, unlocked_with as held_unlocked}

-- the calls of a CPU are as before
pub record SameCalls (a b : CpuState) : Type 0 where
  pub queue : b.queue ≡ a.queue
  pub batch : b.batch ≡ a.batch
  pub current : b.current ≡ a.current
  pub ran : b.ran ≡ a.ran
  pub queued : b.queued ≡ a.queued

-- how a CPU counts the calls that end
pub record Ticks (over : List Call) (a b : CpuState) : Type 0 where
  pub long : length b.ran ≡ length a.ran
  pub tally : (source n : ℕ) → source < length a.ran → ran_at a source ≡ n % 2 ^ 64 → ran_at b source ≡ (n + count_by (is_from source) over) % 2 ^ 64
  pub queued : b.queued ≡ a.queued

ticks_none_at : (ran : List ℕ) (source n : ℕ) → slice_index_or ran source 0 ≡ n % 2 ^ 64 → slice_index_or ran source 0 ≡ (n + 0) % 2 ^ 64
ticks_none_at ran source n e = let z : n + 0 ≡ n = omega arith in rw z e

pub ticks_none : (a b : CpuState) → b.ran ≡ a.ran → b.queued ≡ a.queued → Ticks [] a b
ticks_none a b h1 h2 = search (ticks_none_at, arith)

-- a list that is another is that one in some order
same_order : {X : Type 0} (xs ys : List X) → xs ≡ ys → IsPermutation xs ys
same_order xs ys e = subst (λ zs. IsPermutation xs zs) e (IsPermutation-refl xs)

-- what is held goes on, where the queue is not taken
held_untaken : (waits queue queued began waits' queue' : List Call) → waits ≡ began ++ waits' → queue' ≡ queue ++ queued
    → IsPermutation ((waits ++ queue) ++ queued) (began ++ (waits' ++ queue'))
held_untaken waits queue queued began waits' queue' e f = search (same_order, append_assoc, arith)

pub shows_untaken : (told : Bool) (queued began over : List Call) (a b : CpuState) → running a ++ began ≡ over ++ running b → waiting a ≡ began ++ waiting b
    → b.queue ≡ a.queue ++ queued → Ticks over a b → Shows told queued false began over [] a b
shows_untaken told queued began over a b h1 h2 h3 h4 = search (held_untaken, append-nil, ticks_none_at, arith)

-- nothing is shown where the calls are as before
pub shows_same : (told : Bool) (a b : CpuState) → SameCalls a b → Shows told [] false [] [] [] a b
shows_same told a b same = search (shows_untaken, append-nil, ticks_none, arith)

-- nor where a call joins the queue, but that call
pub shows_pushed : (told : Bool) (call : Call) (a b : CpuState) → SameCalls (pushed call a) b → Shows told (call ∷ []) false [] [] [] a b
shows_pushed told call a b same = shows_untaken told (call ∷ []) [] [] a b
    (rw same.current (append-nil (running a))) (rw (same.current, same.batch) refl) same.queue (ticks_none a b same.ran same.queued)

-- a call that was taken is over
pub over_is : (current : Option Current) (batch : List Call) → over_with current batch ≡ Ok tt → (current ≡ None) × (batch ≡ [])
over_is current batch e = search arith

other_class : (call : Call) → is_class Async call.class ≡ not (is_class Sync call.class)
other_class call = search arith

-- a batch has the calls of the queue
pub order_moves : (queue : List Call) → IsPermutation queue (order queue)
order_moves queue = IsPermutation-filter_both (λ call. is_class Sync call.class) (λ call. is_class Async call.class) other_class queue

-- the queue is taken where no call of the last batch is left
pub shows_taken : (told : Bool) (a : CpuState) → not_over a ≡ Ok tt → Shows told [] true [] [] [] a (taken a)
shows_taken told a h1 = search (over_is, append-nil, order_moves, ticks_none_at, arith)

-- the front of a batch
pub front_is : (r : ℕ) (here : Bool) (elsewhere : Reason) (batch : List Call) (front : Call) → front_of r here elsewhere batch ≡ Ok front
    → (front.id ≡ r) × (batch ≡ front ∷ rest_of batch)
front_is r here elsewhere batch front h1 = search (passed, eqb-true, arith)

-- nothing is shown where a record is unlocked
shows_unlocked_running : (told : Bool) (progress : Progress) (class : Class) (call : Call) (r : ℕ) (elsewhere : Reason) (a b : CpuState)
    → a.current ≡ at_call progress call → unlocked_running progress class r elsewhere a ≡ Ok b → Shows told [] false [] [] [] a b
shows_unlocked_running told Ended class call r elsewhere a b is e =
    let same : record a { current = None } ≡ b = cc in subst (λ (c : CpuState). Shows told [] false [] [] [] a c) same (search (
      shows_untaken,
      append-nil,
      ticks_none,
      arith,
    ))
shows_unlocked_running told Runs Sync call r elsewhere a b is e = absurd cc
shows_unlocked_running told _ _ call r elsewhere a b is e = absurd cc

shows_unlocked_with : (told : Bool) (current : Option Current) (r : ℕ) (here : Bool) (elsewhere : Reason) (a b : CpuState)
    → a.current ≡ current → unlocked_with current r here elsewhere a ≡ Ok b → Shows told [] false [] [] [] a b
shows_unlocked_with told (Some x) r here elsewhere a b is e =
    let p = passed (x.call.id == r) (unlocked_running x.progress x.call.class r elsewhere a) (reason.NotOver x.call.id) b e in
    shows_unlocked_running told x.progress x.call.class x.call r elsewhere a b is p.1
shows_unlocked_with told None r here elsewhere a b is e =
    let m = both_made (front_of r here elsewhere a.batch) (unlocked_front r a) b e in
    let p = failed (is_sync m.0.class) (Ok (left_batch Unlocked m.0 a)) (reason.NotBegun r) b m.1.1 in
    let same : left_batch Unlocked m.0 a ≡ b = cc in
    subst (λ (c : CpuState). Shows told [] false [] [] [] a c) same (search (shows_untaken, append-nil, ticks_none, arith))

pub shows_unlocked : (told : Bool) (r : ℕ) (here : Bool) (elsewhere : Reason) (a b : CpuState) → unlocked r here elsewhere a ≡ Ok b →
    Shows told [] false [] [] [] a b
shows_unlocked told r here elsewhere a b e = shows_unlocked_with told a.current r here elsewhere a b refl e

-- A call begins on a CPU, with the record, function and argument that are seen.
pub record BeginShown (told : Bool) (id func info : ℕ) (a b : CpuState) : Type 0 where
  pub call : Call
  pub begin_is : begin_of call ≡ record { id = id; func = func; info = info }
  pub shows : Shows told [] false (call ∷ []) [] [] a b

begin_shown : (told : Bool) (id func info : ℕ) (call : Call) (a b c : CpuState) (u : Unit {0}) → call.id ≡ id →
    is_of (record { id = id; func = func; info = info }) call ≡ Ok u
    → Shows told [] false (call ∷ []) [] [] a c → c ≡ b → BeginShown told id func info a b
begin_shown told id func info call a b c u h1 h2 h3 h4 = search (passed, and_parts, eqb-true, arith)

-- the call that is unlocked begins
shows_begun_at : (told : Bool) (progress : Progress) (id func info : ℕ) (call : Call) (a b : CpuState) → a.current ≡ at_call progress call
    → begun_at progress (record { id = id; func = func; info = info }) call a ≡ Ok b → BeginShown told id func info a b
shows_begun_at told progress id func info call a b h1 h2 = search (passed, both_made, begin_shown, eqb-true, shows_untaken, append-nil, ticks_none, arith)

-- or the front of the batch
shows_begun_front : (told unlocks : Bool) (id func info : ℕ) (front : Call) (a b : CpuState) → a.current ≡ None → a.batch ≡ front ∷ rest_of a.batch
    → front.id ≡ id → begun_front (record { id = id; func = func; info = info }) unlocks a front ≡ Ok b → BeginShown told id func info a b
shows_begun_front told unlocks id func info front a b none is same_id e =
    let c = left_batch Runs front a in
    let m = both_made (is_of (record { id = id; func = func; info = info }) front) (λ u. if is_async front.class && unlocks then Err
    (reason.IsLocked id) else Ok c) b e in
    let p = failed (is_async front.class && unlocks) (Ok c) (reason.IsLocked id) b m.1.1 in
    begin_shown told id func info front a b c m.0 same_id m.1.0 (search (shows_untaken, append-nil, ticks_none, arith)) cc

pub shows_begun : (told : Bool) (id func info : ℕ) (here : Bool) (elsewhere : Reason) (unlocks : Bool) (a b : CpuState)
    → begun (record { id = id; func = func; info = info }) here elsewhere unlocks a ≡ Ok b → BeginShown told id func info a b
shows_begun told id func info here elsewhere unlocks a b e = search (passed, shows_begun_at, both_made, front_is, shows_begun_front, arith)

-- the call at a place of the queue
pub picked : (r : ℕ) (queue : List Call) (i : Option ℕ) → place_in r queue ≡ i → (n : ℕ) → i ≡ Some n → (call : Call) → call_at queue (Some n) ≡ Some call
    → (call.id ≡ r) × IsPermutation queue (call ∷ remove queue n)
picked r queue None p n e call found = absurd cc
picked r queue (Some m) p n e call found =
    let at : place_in r queue ≡ Some n = p ∙ e in
    let q = position-Some (λ (x : Call). x.id == r) queue n call at in
    let g : get_or queue n call ≡ call = get_or_from_slice_get queue n call call found in
    (eqb-true call.id r (rw g at q.1), IsPermutation-remove queue n call q.0 (sym g))

-- a call leaves the queue, where the order is left out
shows_left_queue : (progress : Progress) (began over : List Call) (call : Call) (n : ℕ) (a : CpuState) → a.current ≡ None
    → IsPermutation a.queue (call ∷ remove a.queue n) → running_at progress call ≡ began → began ++ unlocked_at progress call ≡ call ∷ []
    → Shows false [] false began [] [] a (record a { queue = remove a.queue n; current = at_call progress call })
shows_left_queue progress began over call n a none moves runs parts = record {
  one_at_a_time = rw none (sym runs);
  each_once = rw (none, append-nil (a.batch ++ a.queue)) (IsPermutation-trans (a.batch ++ a.queue) (a.batch ++ (call ∷ remove a.queue n)) (began ++
      ((unlocked_at progress call ++ a.batch) ++ remove a.queue n))
      (IsPermutation-append_right a.batch a.queue (call ∷ remove a.queue n) moves)
      (rw (← append_assoc began (unlocked_at progress call ++ a.batch) (remove a.queue n), ← append_assoc began (unlocked_at progress call) a.batch, parts)
      (IsPermutation-middle a.batch call (remove a.queue n))));
  in_order = λ t. absurd cc;
  queue_is = λ t. absurd cc;
  long = refl;
  tally = λ source m below was. ticks_none_at a.ran source m was;
  long_queued = refl;
  noted = λ to m below was. ticks_none_at a.queued to m was;
}

shows_begun_any : (id func info : ℕ) (elsewhere : Reason) (a b : CpuState) (at : Option ℕ) (found : Option Call) → a.current ≡ None → place_in id a.queue ≡ at
    → call_at a.queue at ≡ found → begun_any (record { id = id; func = func; info = info }) a at found elsewhere ≡ Ok b → BeginShown false id func info a b
shows_begun_any id func info elsewhere a b (Some n) (Some call) none place is e =
    let c = record a { queue = remove a.queue n; current = at_call Runs call } in
    let m = both_made (is_of (record { id = id; func = func; info = info }) call) (λ u. Ok c) b e in
    let p = picked id a.queue (Some n) place n refl call is in
    begin_shown false id func info call a b c m.0 p.0 m.1.0 (shows_left_queue Runs (call ∷ []) [] call n a none p.1 refl refl) cc
shows_begun_any id func info elsewhere a b _ _ none place is e = absurd cc

pub shows_begun_loose : (id func info : ℕ) (elsewhere : Reason) (a b : CpuState) →
    begun_loose (record { id = id; func = func; info = info }) elsewhere a ≡ Ok b → BeginShown false id func info a b
shows_begun_loose id func info elsewhere a b e = search (passed, shows_begun_at, shows_begun_any, arith)

-- one more, as words of this number of bits count
next_mod : (n m : ℕ) → (n % m + 1) % m ≡ (n + 1) % m
next_mod n m =
    let e : n + 1 ≡ (n % m + 1) + n / m * m = omega (arith, mod-add-div' n m) in
    sym (ap (λ k. k % m) e ∙ add-mul-mod_self_right (n % m + 1) (n / m) m)

-- one more at a place
counted_by : (counts : List ℕ) (at place n : ℕ) (same : Bool) → (at == place) ≡ same → place < length counts → slice_index_or counts place 0 ≡ n % 2 ^ 64
    → slice_index_or (counted at counts) place 0 ≡ (n + cond same 1 0) % 2 ^ 64
counted_by counts at place n same h1 h2 h3 = search (eqb-true, get_or-set_same, next_mod, eqb-false, get_or-set_other, ticks_none_at, arith)

pub counted_at : (counts : List ℕ) (at place n : ℕ) → place < length counts → slice_index_or counts place 0 ≡ n % 2 ^ 64
    → slice_index_or (counted at counts) place 0 ≡ (n + cond (at == place) 1 0) % 2 ^ 64
counted_at counts at place n below was = counted_by counts at place n (at == place) refl below was

-- a call ends, of which the record is unlocked or not
shows_ended_as : (told : Bool) (call : Call) (after : Option Current) (a : CpuState) → a.current ≡ at_call Runs call → running_with after ≡ [] →
    held_unlocked after ≡ []
    → Shows told [] false [] (call ∷ []) [] a (record a { ran = counted call.source a.ran; current = after })
shows_ended_as told call after a is stopped locked =
    let b = record a { ran = counted call.source a.ran; current = after } in
    shows_untaken told [] [] (call ∷ []) a b (rw (is, stopped) refl) (rw (is, locked) refl) (sym (append-nil a.queue)) (record {
      long = length-set a.ran call.source ((slice_index_or a.ran call.source 0 + 1) % 2 ^ 64);
      tally = λ source n below was.
          let z : cond (call.source == source) 1 0 ≡ 0 + cond (call.source == source) 1 0 = omega arith in
          counted_at a.ran call.source source n below was ∙ ap (λ k. (n + k) % 2 ^ 64) z;
      queued = refl;
    })

after_end_rests : (held : Bool) (call : Call) → (running_with (if held then at_call Ended call else None) ≡ []) ×
    (held_unlocked (if held then at_call Ended call else None) ≡ [])
after_end_rests held call = search arith

-- The call of this record ends on a CPU.
pub record EndShown (told : Bool) (r : ℕ) (a b : CpuState) : Type 0 where
  pub call : Call
  pub id_is : call.id ≡ r
  pub shows : Shows told [] false [] (call ∷ []) [] a b

shows_ended_at : (told unlocks : Bool) (progress : Progress) (call : Call) (r : ℕ) (a b : CpuState) → a.current ≡ at_call progress call
    → ended_at progress call r unlocks a ≡ Ok b → EndShown told r a b
shows_ended_at told unlocks Runs call r a b is e =
    let c = record a { ran = counted call.source a.ran; current = after_end unlocks call } in
    let p = passed (call.id == r) (Ok c) (reason.NotOver call.id) b e in
    let same : c ≡ b = cc in
    let rests = after_end_rests (is_sync call.class && unlocks) call in
    record {
      call = call;
      id_is = eqb-true call.id r p.0;
      shows = subst (λ (x : CpuState). Shows told [] false [] (call ∷ []) [] a x) same (shows_ended_as told call (after_end unlocks call) a is rests.0 rests.1);
    }
shows_ended_at told unlocks _ call r a b is e = absurd cc

pub shows_ended : (told unlocks : Bool) (r : ℕ) (a b : CpuState) → ended r unlocks a ≡ Ok b → EndShown told r a b
shows_ended told unlocks r a b e = search (shows_ended_at, arith)

-- what holds of both branches
pub either : (P : CpuState → Type 0) (test : Bool) (x y : Bool × CpuState) → P x.1 → P y.1 → let z : Bool × CpuState = if test then x else y in P z.1
either P test x y p q = search arith

-- nothing is shown where an unlock that is left out is made
slipped_front_shows : (told : Bool) (r : ℕ) (a : CpuState) (current : Option Current) (batch : List Call) → a.current ≡ current → a.batch ≡ batch
    → Shows told [] false [] [] [] a (slipped_front r a current batch).1
slipped_front_shows told r a None (x ∷ xs) none is =
    either (λ b. Shows told [] false [] [] [] a b) ((x.id == r) && is_async x.class) (true, left_batch Unlocked x a) (false, a)
    (search (shows_untaken, append-nil, ticks_none, arith)) (shows_same told a a (record {
      queue = refl;
      batch = refl;
      current = refl;
      ran = refl;
      queued =
          refl;
    }))
slipped_front_shows told r a None [] none is = shows_same told a a (record { queue = refl; batch = refl; current = refl; ran = refl; queued = refl })
slipped_front_shows told r a (Some x) batch none is = shows_same told a a (record { queue = refl; batch = refl; current = refl; ran = refl; queued = refl })

pub shows_slipped_from_batch : (told : Bool) (r : ℕ) (a : CpuState) → Shows told [] false [] [] [] a (slipped_from_batch r a).1
shows_slipped_from_batch told r a = slipped_front_shows told r a a.current a.batch refl refl

slipped_any_shows : (r : ℕ) (a : CpuState) (at : Option ℕ) (found : Option Call) → a.current ≡ None → place_in r a.queue ≡ at → call_at a.queue at ≡ found
    → Shows false [] false [] [] [] a (slipped_any a at found).1
slipped_any_shows r a (Some n) (Some call) none place is =
    either (λ b. Shows false [] false [] [] [] a b) (is_async call.class) (true, record a { queue = remove a.queue n; current = at_call Unlocked call })
    (false, a)
    (shows_left_queue Unlocked [] [] call n a none (picked r a.queue (Some n) place n refl call is).1 refl refl) (shows_same false a a
    (record { queue = refl; batch = refl; current = refl; ran = refl; queued = refl }))
slipped_any_shows r a _ _ none place is = shows_same false a a (record { queue = refl; batch = refl; current = refl; ran = refl; queued = refl })

slipped_at_shows : (current : Option Current) (irq : Bool) (r : ℕ) (a : CpuState) → a.current ≡ current →
    Shows false [] false [] [] [] a (slipped_at current irq r a).1
slipped_at_shows None true r a is = slipped_any_shows r a (place_in r a.queue) (call_at a.queue (place_in r a.queue)) is refl refl
slipped_at_shows None false r a is = shows_same false a a (record { queue = refl; batch = refl; current = refl; ran = refl; queued = refl })
slipped_at_shows (Some x) irq r a is = shows_same false a a (record { queue = refl; batch = refl; current = refl; ran = refl; queued = refl })

pub shows_slipped_from_queue : (r : ℕ) (a : CpuState) → Shows false [] false [] [] [] a (slipped_from_queue r a).1
shows_slipped_from_queue r a = slipped_at_shows a.current a.irq r a refl

-- a CPU counts a call that it queues
pub shows_noted : (told : Bool) (to : ℕ) (first : Bool) (a : CpuState) → Shows told [] false [] [] (to ∷ []) a (noted to first a)
shows_noted told to first a =
    let s = shows_same told a a (record { queue = refl; batch = refl; current = refl; ran = refl; queued = refl }) in
    record {
      one_at_a_time = s.one_at_a_time;
      each_once = s.each_once;
      in_order = s.in_order;
      queue_is = s.queue_is;
      long = s.long;
      tally = s.tally;
      long_queued = length-set a.queued to ((slice_index_or a.queued to 0 + 1) % 2 ^ 64);
      noted = search (a.queued, counted_at, arith);
    }
