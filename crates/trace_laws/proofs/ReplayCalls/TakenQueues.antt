-- A CPU takes its queue: the order of its batch, and where its records are.
use Rattle.trace_laws.proofs.Names.{AllByRecursion, Async, Batch, Bool, Call, Class, Free, List, Sync, [], ap, arith, cond, eq-eqb, get_or-set_other}
use Rattle.trace_laws.proofs.Names.{get_or-set_same, inl, inr, is_class, length, length-set, map, map-append, ne_eqb, of_class, order, placed, refl}
use Rattle.trace_laws.proofs.Names.{slice_index_or, slice_set, subst, ℕ, ◌++◌, ◌<◌, ◌==◌, ◌||◌, ◌∙◌, ◌∷◌, ◌≡◌, ◌≢◌}
use Rattle.trace_laws.proofs.ReplayNames.{IsPlaced, MachineCall, Place, RecPlace, has_record, place_of, place_taken, told_call}
use Rattle.smp_words.proofs.Puts.{at_test}
use Rattle.smp_call_steps.proofs.{State.Places.has_record-true, State.Places.true-has_record}
use Rattle.smp_call_steps.specs.Order.{async_calls, if_async, if_sync, order as machine_order, sync_calls}
use Rattle.smp_call_steps.specs.declared.place.RecPlace.TheVariants as machine
use Rattle.smp_call_steps.specs.Places.{HasRecord}

-- the calls of a class
sync_more : (class : Class) (call : MachineCall) → call.class ≡ class → (rest : List MachineCall) → map told_call (sync_calls rest) ≡ of_class Sync
    (map told_call rest)
    → map told_call (if_sync class call ++ sync_calls rest) ≡ cond (is_class Sync class) (told_call call ∷ of_class Sync (map told_call rest))
    (of_class Sync (map told_call rest))
sync_more class call e rest same = search arith

syncs_told : (calls : List MachineCall) → map told_call (sync_calls calls) ≡ of_class Sync (map told_call calls)
syncs_told [] = refl
syncs_told (call ∷ rest) = sync_more call.class call refl rest (syncs_told rest)

async_more : (class : Class) (call : MachineCall) → call.class ≡ class → (rest : List MachineCall) → map told_call (async_calls rest) ≡ of_class Async
    (map told_call rest)
    → map told_call (if_async class call ++ async_calls rest) ≡ cond (is_class Async class) (told_call call ∷ of_class Async (map told_call rest))
    (of_class Async (map told_call rest))
async_more class call e rest same = search arith

asyncs_told : (calls : List MachineCall) → map told_call (async_calls calls) ≡ of_class Async (map told_call calls)
asyncs_told [] = refl
asyncs_told (call ∷ rest) = async_more call.class call refl rest (asyncs_told rest)

-- a batch is told in drain order
pub order_told : (calls : List MachineCall) → map told_call (machine_order calls) ≡ order (map told_call calls)
order_told calls = map-append told_call (sync_calls calls) (async_calls calls) ∙ rw (syncs_told calls, asyncs_told calls) refl

placed_or : (b c : Bool) (p q : Place) → cond c p (cond b p q) ≡ cond (b || c) p q
placed_or b c p q = search arith

pub placed_at : (p : Place) (calls : List MachineCall) (places : List Place) (id : ℕ) → id < length places
    → slice_index_or (placed p (map told_call calls) places) id Free ≡ cond (has_record id calls) p (slice_index_or places id Free)
placed_at p [] places id l = refl
placed_at p (call ∷ rest) places id l =
    let m : length (slice_set places call.id p) ≡ length places = length-set places call.id p in
    placed_at p rest (slice_set places call.id p) id (omega (arith, m, l))
    ∙ (ap (λ q. cond (has_record id rest) p q) (search (at_test, get_or-set_same, get_or-set_other, arith))
    ∙ placed_or (call.id == id) (has_record id rest) p (slice_index_or places id Free))

pub length-placed : (p : Place) (calls : List Call) (places : List Place) → length (placed p calls places) ≡ length places
length-placed p [] places = refl
length-placed p (x ∷ xs) places = length-placed p xs (slice_set places x.id p) ∙ length-set places x.id p

-- the record of a call that is placed is there
pub record_there : (places : ℕ → RecPlace) (at : RecPlace) (id : ℕ) (calls : List MachineCall) → AllByRecursion (IsPlaced places at) calls
    → HasRecord id calls → places id ≡ at
record_there places at id [] all has = absurd has
record_there places at id (call ∷ rest) all (inl e) = subst (λ (n : ℕ). places n ≡ at) e all.0.placed
record_there places at id (call ∷ rest) all (inr has) = record_there places at id rest all.1 has

-- a record that is not in the queue stays where it is
stays_else : (me cpu : ℕ) → cpu ≢ me → place_of (place_taken me (machine.Queued cpu)) ≡ place_of (machine.Queued cpu)
stays_else me cpu ne = rw (ne_eqb cpu me ne) refl

stays : (me : ℕ) (p : RecPlace) → p ≢ machine.Queued me → place_of (place_taken me p) ≡ place_of p
stays me p h1 = search (stays_else, arith)

pub taken_place : (me id : ℕ) (p : RecPlace) (queue : List MachineCall) (b : Bool) → has_record id queue ≡ b → (HasRecord id queue → p ≡ machine.Queued me)
    → (p ≡ machine.Queued me → HasRecord id queue) → cond b (Batch me) (place_of p) ≡ place_of (place_taken me p)
taken_place me id p queue b h1 h2 h3 = search (has_record-true, eq-eqb, true-has_record, stays, arith)
