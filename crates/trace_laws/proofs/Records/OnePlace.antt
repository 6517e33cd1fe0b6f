-- Each record stays in one place.
use Rattle.trace_laws.proofs.Names.{Batch, Bool, CpuState, Free, InOnePlace, PlacedAt, Queue, Run, StateValue, ap, arith, cases_eq, cases_lt, cpu_at, eq-eqb}
use Rattle.trace_laws.proofs.Names.{eqb-true, false, fresh_cpu, get_or-set_other, get_or-set_same, get_or_past, in_batch, in_queue, in_run, inl, inr, is_batch}
use Rattle.trace_laws.proofs.Names.{is_queue, length, length-set, ne_eqb, one_if, place_at, refl, sym, true, with_cpu, with_place, ℕ, ◌&&◌, ◌+◌, ◌<◌, ◌==◌, ◌∙◌}
use Rattle.trace_laws.proofs.Names.{◌≡◌, ◌≢◌, ◌≤◌, ◌⊎◌}
use Rattle.trace_model.specs.declared.call.Place.{Place}
use Rattle.trace_laws.proofs.Records.RecordMoves.{InBatch, InQueue, IsUnlockedAsync, Kind, Nowhere, Running, Shift, at_batch, at_queue, at_run, place_of, stays}
use Rattle.trace_laws.proofs.{Calls.OtherEvents.KeepsCalls, Calls.StateSteps.cpu_changed, Calls.StateSteps.cpu_kept}
use Rattle.trace_laws.specs.Places.{is_run}

-- Each record of the state is in one place, and what is unlocked before it begins is ASYNC.
pub record Placed (s : StateValue) : Type 0 where
  pub cpus_are : length s.cpus ≡ 512
  pub places_are : length s.places ≡ 65536
  pub each : InOnePlace s
  pub async : (cpu : ℕ) → cpu < 512 → IsUnlockedAsync (cpu_at s cpu)

-- a place is changed
pub place_changed : (id : ℕ) (place : Place) (s : StateValue) → id < length s.places → place_at (with_place id place s) id ≡ place
place_changed id place s below = get_or-set_same s.places id place Free below

-- what was there, with and without what moves
moves_here : (was now : ℕ) (from to : Bool) → now + one_if (from && true) ≡ was + one_if (to && true) → was ≡ one_if from → now ≡ one_if to
moves_here was now from to h1 h2 = search arith

rests_here : (was now : ℕ) (from to : Bool) → now + one_if (from && false) ≡ was + one_if (to && false) → now ≡ was
rests_here was now from to h1 = search arith

-- the record that moves, at the CPU that acts
shifted_here : (id : ℕ) (from to : Kind) (cpu : ℕ) (a b : CpuState) → Shift id from to a b → PlacedAt (place_of from cpu) id cpu a →
    PlacedAt (place_of to cpu) id cpu b
shifted_here id from to cpu a b s p =
    let same : (id == id) ≡ true = eq-eqb id id refl in
    record {
      queue = moves_here (in_queue id a) (in_queue id b) (at_queue from) (at_queue to) (rw same at (s.queue id)) (p.queue ∙
          ap one_if (search (eq-eqb, arith))) ∙ ap one_if (sym (search (eq-eqb, arith)));
      batch = moves_here (in_batch id a) (in_batch id b) (at_batch from) (at_batch to) (rw same at (s.batch id)) (p.batch ∙
          ap one_if (search (eq-eqb, arith))) ∙ ap one_if (sym (search (eq-eqb, arith)));
      run = moves_here (in_run id a) (in_run id b) (at_run from) (at_run to) (rw same at (s.run id)) (p.run ∙ ap one_if (search (eq-eqb, arith))) ∙
          ap one_if (sym (search (eq-eqb, arith)));
    }

-- another record
shifted_other : (r id : ℕ) (from to : Kind) (place : Place) (cpu : ℕ) (a b : CpuState) → r ≢ id → Shift id from to a b → PlacedAt place r cpu a →
    PlacedAt place r cpu b
shifted_other r id from to place cpu a b ne s p =
    let other : (id == r) ≡ false = ne_eqb id r (λ e. ne (sym e)) in
    record {
      queue = rests_here (in_queue r a) (in_queue r b) (at_queue from) (at_queue to) (rw other at (s.queue r)) ∙ p.queue;
      batch = rests_here (in_batch r a) (in_batch r b) (at_batch from) (at_batch to) (rw other at (s.batch r)) ∙ p.batch;
      run = rests_here (in_run r a) (in_run r b) (at_run from) (at_run to) (rw other at (s.run r)) ∙ p.run;
    }

-- the record that moves, at another CPU
pub shifted_away : (id : ℕ) (from to : Kind) (cpu other : ℕ) (a : CpuState) → cpu ≢ other → PlacedAt (place_of from other) id cpu a →
    PlacedAt (place_of to other) id cpu a
shifted_away id from to cpu other a h1 h2 = search (ne_eqb, arith)

shifted_each : (s : StateValue) (actor id : ℕ) (from to : Kind) (c : CpuState) → Placed s → Shift id from to (cpu_at s actor) c
    → (id < 65536 → place_at s id ≡ place_of from actor) → (r : ℕ) → r < 65536 → (cpu : ℕ) → cpu < 512
    → let t = with_place id (place_of to actor) (with_cpu actor s c) in r ≡ id ⊎ r ≢ id → cpu ≡ actor ⊎ cpu ≢ actor →
    PlacedAt (place_at t r) r cpu (cpu_at t cpu)
shifted_each s actor id from to c p sh at r low cpu below (inl same) (inl here) =
    let t = with_place id (place_of to actor) (with_cpu actor s c) in
    let low_id : id < 65536 = rw (← same) low in
    let is : place_at s id ≡ place_of from actor = at low_id in
    let old : PlacedAt (place_at s r) r cpu (cpu_at s cpu) = p.each r low cpu below in
    let old_here : PlacedAt (place_of from actor) id actor (cpu_at s actor) = rw (same, here, is) at old in
    let placed : place_at t id ≡ place_of to actor = place_changed id (place_of to actor) (with_cpu actor s c) (rw p.places_are low_id) in
    let changed : cpu_at t actor ≡ c = cpu_changed actor s c (rw (p.cpus_are, ← here) below) in
    rw (same, here, placed, changed) (shifted_here id from to actor (cpu_at s actor) c sh old_here)
shifted_each s actor id from to c p sh at r low cpu below (inl same) (inr ne) =
    let t = with_place id (place_of to actor) (with_cpu actor s c) in
    let low_id : id < 65536 = rw (← same) low in
    let is : place_at s id ≡ place_of from actor = at low_id in
    let old : PlacedAt (place_at s r) r cpu (cpu_at s cpu) = p.each r low cpu below in
    let old_here : PlacedAt (place_of from actor) id cpu (cpu_at s cpu) = rw (same, is) at old in
    let placed : place_at t id ≡ place_of to actor = place_changed id (place_of to actor) (with_cpu actor s c) (rw p.places_are low_id) in
    let kept : cpu_at t cpu ≡ cpu_at s cpu = cpu_kept cpu actor s c ne in
    rw (same, placed, kept) (shifted_away id from to cpu actor (cpu_at s cpu) ne old_here)
shifted_each s actor id from to c p sh at r low cpu below (inr other) (inl here) =
    let t = with_place id (place_of to actor) (with_cpu actor s c) in
    let old : PlacedAt (place_at s r) r cpu (cpu_at s cpu) = p.each r low cpu below in
    let old_here : PlacedAt (place_at s r) r actor (cpu_at s actor) = rw here at old in
    let placed : place_at t r ≡ place_at s r = get_or-set_other (with_cpu actor s c).places id r (place_of to actor) Free other in
    let changed : cpu_at t actor ≡ c = cpu_changed actor s c (rw (p.cpus_are, ← here) below) in
    rw (here, placed, changed) (shifted_other r id from to (place_at s r) actor (cpu_at s actor) c other sh old_here)
shifted_each s actor id from to c p sh at r low cpu below (inr other) (inr ne) =
    let t = with_place id (place_of to actor) (with_cpu actor s c) in
    let placed : place_at t r ≡ place_at s r = get_or-set_other (with_cpu actor s c).places id r (place_of to actor) Free other in
    let kept : cpu_at t cpu ≡ cpu_at s cpu = cpu_kept cpu actor s c ne in
    rw (placed, kept) (p.each r low cpu below)

pub either_way : (a b : ℕ) → a ≡ b ⊎ a ≢ b
either_way a b = cases_eq a b

-- what is unlocked is still ASYNC
pub async_kept : (s : StateValue) (actor : ℕ) (c : CpuState) → Placed s → IsUnlockedAsync c → (cpu : ℕ) → cpu < 512 → cpu ≡ actor ⊎ cpu ≢ actor
    → IsUnlockedAsync (cpu_at (with_cpu actor s c) cpu)
async_kept s actor c h1 h2 cpu h3 h4 = search (cpu_changed, cpu_kept, arith)

-- a record moves from a place that is known
pub placed_shift : (s : StateValue) (actor id : ℕ) (from to : Kind) (c : CpuState) → Placed s → Shift id from to (cpu_at s actor) c
    → (id < 65536 → place_at s id ≡ place_of from actor) → Placed (with_place id (place_of to actor) (with_cpu actor s c))
placed_shift s actor id from to c h1 h2 h3 = search (length-set, place_of, shifted_each, either_way, async_kept, arith)

-- a record that a CPU has is where it says
pub one_is : (test : Bool) → 1 ≤ one_if test → test ≡ true
one_is test h = search arith

pub queue_is : (place : Place) (cpu : ℕ) → is_queue place cpu ≡ true → place ≡ Queue cpu
queue_is place cpu h1 = search (eqb-true, arith)

batch_is : (place : Place) (cpu : ℕ) → is_batch place cpu ≡ true → place ≡ Batch cpu
batch_is place cpu h1 = search (eqb-true, arith)

run_is : (place : Place) (cpu : ℕ) → is_run place cpu ≡ true → place ≡ Run cpu
run_is place cpu h1 = search (eqb-true, arith)

-- one kind, and not the other
abbrev pub leaves : Kind → Kind → Bool
leaves InQueue Nowhere = true
leaves InQueue Running = true
leaves InBatch Nowhere = true
leaves InBatch Running = true
leaves Running Nowhere = true
leaves _ _ = false

left_one : (was now : ℕ) → now + 1 ≡ was + 0 → 1 ≤ was
left_one was now e = omega arith

pub place_before : (place : Place) (id actor : ℕ) (from to : Kind) (a c : CpuState) → PlacedAt place id actor a → Shift id from to a c → leaves from to ≡ true
    → place ≡ place_of from actor
place_before place id actor InQueue Nowhere a c p s e =
    let same : (id == id) ≡ true = eq-eqb id id refl in queue_is place actor (one_is (is_queue place actor) (rw p.queue at (left_one (in_queue id a)
    (in_queue id c) (rw same at (s.queue id)))))
place_before place id actor InQueue Running a c p s e =
    let same : (id == id) ≡ true = eq-eqb id id refl in queue_is place actor (one_is (is_queue place actor) (rw p.queue at (left_one (in_queue id a)
    (in_queue id c) (rw same at (s.queue id)))))
place_before place id actor InBatch Nowhere a c p s e =
    let same : (id == id) ≡ true = eq-eqb id id refl in batch_is place actor (one_is (is_batch place actor) (rw p.batch at (left_one (in_batch id a)
    (in_batch id c) (rw same at (s.batch id)))))
place_before place id actor InBatch Running a c p s e =
    let same : (id == id) ≡ true = eq-eqb id id refl in batch_is place actor (one_is (is_batch place actor) (rw p.batch at (left_one (in_batch id a)
    (in_batch id c) (rw same at (s.batch id)))))
place_before place id actor Running Nowhere a c p s e =
    let same : (id == id) ≡ true = eq-eqb id id refl in run_is place actor (one_is (is_run place actor) (rw p.run at (left_one (in_run id a) (in_run id c)
    (rw same at (s.run id)))))
place_before place id actor _ _ a c p s e = absurd cc

free_is_none : (from to : Kind) → Free ≡ place_of from 0 → leaves from to ≡ true → ⊥
free_is_none from to h1 h2 = search arith

-- a CPU that there is not has no call
pub fresh_has_none : (from to : Kind) (id : ℕ) (c : CpuState) → Shift id from to fresh_cpu c → leaves from to ≡ true → ⊥
fresh_has_none from to id c h1 h2 = search (place_before, free_is_none, arith)

-- a record moves from where a CPU has it
pub placed_move : (s : StateValue) (actor id : ℕ) (from to : Kind) (c : CpuState) → Placed s → Shift id from to (cpu_at s actor) c → leaves from to ≡ true
    → Placed (with_place id (place_of to actor) (with_cpu actor s c))
placed_move s actor id from to c p sh e = placed_shift s actor id from to c p sh (λ low. elim (cases_lt actor 512) [
  | inl below ↦ place_before (place_at s id) id actor from to (cpu_at s actor) c (p.each id low actor below) sh e
  | inr past ↦
      let past_end : length s.cpus ≤ actor = rw p.cpus_are past in
      let fresh : cpu_at s actor ≡ fresh_cpu = get_or_past s.cpus actor fresh_cpu past_end in
      absurd (fresh_has_none from to id c (rw fresh at sh) e)
])

-- where no record moves, each is where it was
still_at : (place : Place) (r id cpu : ℕ) (a c : CpuState) → Shift id Nowhere Nowhere a c → PlacedAt place r cpu a → PlacedAt place r cpu c
still_at place r id cpu a c h1 h2 = search (rests_here, arith)

still_each : (s : StateValue) (actor id : ℕ) (c : CpuState) → Placed s → Shift id Nowhere Nowhere (cpu_at s actor) c → (r : ℕ) → r < 65536 → (cpu : ℕ) →
    cpu < 512
    → cpu ≡ actor ⊎ cpu ≢ actor → PlacedAt (place_at s r) r cpu (cpu_at (with_cpu actor s c) cpu)
still_each s actor id c p sh r low cpu below (inl here) =
    let changed : cpu_at (with_cpu actor s c) actor ≡ c = cpu_changed actor s c (rw (p.cpus_are, ← here) below) in
    let old : PlacedAt (place_at s r) r cpu (cpu_at s cpu) = p.each r low cpu below in
    rw (here, changed) (still_at (place_at s r) r id actor (cpu_at s actor) c sh (rw here at old))
still_each s actor id c p sh r low cpu below (inr ne) = let kept : cpu_at (with_cpu actor s c) cpu ≡ cpu_at s cpu = cpu_kept cpu actor s c ne in rw kept
    (p.each r low cpu below)

-- no record moves
pub placed_still : (s : StateValue) (actor id : ℕ) (c : CpuState) → Placed s → Shift id Nowhere Nowhere (cpu_at s actor) c → Placed (with_cpu actor s c)
placed_still s actor id c p sh = record {
  cpus_are = length-set s.cpus actor c ∙ p.cpus_are;
  places_are = p.places_are;
  each = λ r low cpu below. still_each s actor id c p sh r low cpu below (either_way cpu actor);
  async = λ cpu below. async_kept s actor c p sh.async cpu below (either_way cpu actor);
}

pub placed_keeps : (s t : StateValue) → Placed s → KeepsCalls s t → Placed t
placed_keeps s t h1 h2 = search (still_at, stays, arith)
