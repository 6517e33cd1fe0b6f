-- The drain order of a batch, and the chain that leads through it.
use Rattle.std.proofs.Common.{◌≡◌, ◌≢◌, ℕ, ◌+◌, List, [], ◌∷◌, ◌++◌, sym, refl, ap, ◌∙◌, ◌⊎◌, inl, inr, arith, append_assoc}
use Rattle.std.specs.List.{AllByRecursion}
use Rattle.smp_call_steps.specs.{if_sync, if_async, sync_calls, async_calls, order, IsAbsent, IsApart, HasRecord, Leads, Call, Class, Sync, Async}
use Rattle.smp_call_steps.proofs.Basics.Alls.{every_both, every_append, every_sync, every_async}

-- what holds of all of a batch holds of all of it in drain order
pub every_order : (P : Call → Type 0) (calls : List Call) → AllByRecursion P calls → AllByRecursion P (order calls)
every_order P calls h = every_append P (sync_calls calls) (async_calls calls) (every_sync P calls h) (every_async P calls h)

pub has_left : (id : ℕ) (xs ys : List Call) → HasRecord id xs → HasRecord id (xs ++ ys)
has_left id [] ys h = absurd h
has_left id (x ∷ xs) ys (inl e) = inl e
has_left id (x ∷ xs) ys (inr h) = inr (has_left id xs ys h)

pub has_right : (id : ℕ) (xs ys : List Call) → HasRecord id ys → HasRecord id (xs ++ ys)
has_right id [] ys h = h
has_right id (x ∷ xs) ys h = inr (has_right id xs ys h)

has_class : (id : ℕ) (calls : List Call) → HasRecord id calls → HasRecord id (sync_calls calls) ⊎ HasRecord id (async_calls calls)
has_class id [] h = absurd h
has_class id (call ∷ rest) (inl e) = search (has_left, arith)
has_class id (call ∷ rest) (inr k) = search (has_right, has_class id rest k, arith)

-- the drain order has all records
pub has_order : (id : ℕ) (calls : List Call) → HasRecord id calls → HasRecord id (order calls)
has_order id calls h = search (has_class, has_left, has_right, arith)

pub apart_append : (xs ys : List Call) → IsApart xs → IsApart ys → AllByRecursion (λ x. IsAbsent x.id ys) xs → IsApart (xs ++ ys)
apart_append [] ys a b cross = b
apart_append (x ∷ xs) ys a b cross = (every_append (λ call. call.id ≢ x.id) xs ys a.0 cross.0, apart_append xs ys a.1 b cross.1)

apart_sync_one : (class : Class) (call : Call) (rest : List Call) → IsAbsent call.id rest → IsApart rest → IsApart (if_sync class call ++ rest)
apart_sync_one x call rest absent apart = search arith

apart_async_one : (class : Class) (call : Call) (rest : List Call) → IsAbsent call.id rest → IsApart rest → IsApart (if_async class call ++ rest)
apart_async_one x call rest absent apart = search arith

apart_sync : (calls : List Call) → IsApart calls → IsApart (sync_calls calls)
apart_sync [] a = tt
apart_sync (call ∷ rest) a = apart_sync_one call.class call (sync_calls rest) (every_sync (λ c. c.id ≢ call.id) rest a.0) (apart_sync rest a.1)

pub apart_async : (calls : List Call) → IsApart calls → IsApart (async_calls calls)
apart_async [] a = tt
apart_async (call ∷ rest) a = apart_async_one call.class call (async_calls rest) (every_async (λ c. c.id ≢ call.id) rest a.0) (apart_async rest a.1)

apart_classes_one : (class : Class) (call : Call) (sync async : List Call) → IsAbsent call.id sync → IsAbsent call.id async
    → AllByRecursion (λ x. IsAbsent x.id async) sync →
    AllByRecursion (λ x. IsAbsent x.id (if_async class call ++ async)) (if_sync class call ++ sync)
apart_classes_one x call sync async s a cross = search (every_both, arith)

apart_classes : (calls : List Call) → IsApart calls → AllByRecursion (λ x. IsAbsent x.id (async_calls calls)) (sync_calls calls)
apart_classes [] a = tt
apart_classes (call ∷ rest) a = search (apart_classes_one, every_sync, every_async, apart_classes rest a.1, arith)

-- the drain order has no record twice
pub apart_order : (calls : List Call) → IsApart calls → IsApart (order calls)
apart_order calls a = apart_append (sync_calls calls) (async_calls calls) (apart_sync calls a) (apart_async calls a) (apart_classes calls a)

pub sync_calls-push : (calls : List Call) (call : Call) → sync_calls (calls ++ call ∷ []) ≡ sync_calls calls ++ if_sync call.class call
sync_calls-push [] call = sync_nil call.class call
  where
    sync_nil : (class : Class) (call : Call) → if_sync class call ++ [] ≡ if_sync class call
    sync_nil Sync call = refl
    sync_nil Async call = refl
sync_calls-push (x ∷ xs) call = ap (λ k. if_sync x.class x ++ k) (sync_calls-push xs call)
    ∙ sym (append_assoc (if_sync x.class x) (sync_calls xs) (if_sync call.class call))

pub async_calls-push : (calls : List Call) (call : Call) → async_calls (calls ++ call ∷ []) ≡ async_calls calls ++ if_async call.class call
async_calls-push [] call = async_nil call.class call
  where
    async_nil : (class : Class) (call : Call) → if_async class call ++ [] ≡ if_async class call
    async_nil Sync call = refl
    async_nil Async call = refl
async_calls-push (x ∷ xs) call = ap (λ k. if_async x.class x ++ k) (async_calls-push xs call)
    ∙ sym (append_assoc (if_async x.class x) (async_calls xs) (if_async call.class call))

-- a chain that begins with no record has no call
pub no_chain : (nexts : ℕ → ℕ) (link : ℕ) (calls : List Call) → link ≡ 0 → Leads nexts link calls 0 → calls ≡ []
no_chain nexts link [] e l = refl
no_chain nexts link (x ∷ xs) e l = absurd (begins nexts link xs x.id e l.1)
  where
    begins : (nexts : ℕ → ℕ) (link : ℕ) (calls : List Call) (id : ℕ) → link ≡ 0 → Leads nexts link calls (id + 1) → ⊥
    begins nexts link [] id e l = omega arith
    begins nexts link (y ∷ ys) id e l = begins nexts link ys y.id e l.1

-- a chain, with its newest call apart
pub record HasNewest (nexts : ℕ → ℕ) (link : ℕ) (calls : List Call) (below : ℕ) : Type 0 where
  pub older : List Call
  pub newest : Call
  pub parts : calls ≡ older ++ newest ∷ []
  pub link_is : link ≡ newest.id + 1
  pub leads : Leads nexts (nexts newest.id) older below

newest_of : (nexts : ℕ → ℕ) (link : ℕ) (x : Call) (xs : List Call) (below : ℕ) → Leads nexts link (x ∷ xs) below → HasNewest nexts link (x ∷ xs) below
newest_of nexts link x [] below l = record { older = []; newest = x; parts = refl; link_is = l.1; leads = l.0 }
newest_of nexts link x (y ∷ ys) below l =
    let n = newest_of nexts link y ys (x.id + 1) l.1 in
    record { older = x ∷ n.older; newest = n.newest; parts = ap (λ k. x ∷ k) n.parts; link_is = n.link_is; leads = (l.0, n.leads) }

-- a chain that begins with a record has a newest call
pub has_newest : (nexts : ℕ → ℕ) (link : ℕ) (calls : List Call) → link ≢ 0 → Leads nexts link calls 0 → HasNewest nexts link calls 0
has_newest nexts link [] ne l = absurd (ne l)
has_newest nexts link (x ∷ xs) ne l = newest_of nexts link x xs 0 l
