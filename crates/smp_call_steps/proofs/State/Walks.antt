-- A chain that leads from the oldest call to the newest, and where a CPU is that goes along it.
use Rattle.std.proofs.Common.{◌≡◌, ◌≢◌, ℕ, ◌+◌, ◌-◌, false, cond, Option, Some, None, List, [], ◌∷◌, ◌++◌, length, sym, subst, refl, ap, ◌∙◌, arith}
use Rattle.std.proofs.Common.{append_assoc}
use Rattle.std.proofs.lemmas.List.{append-nil}
use Rattle.std.specs.List.{AllByRecursion}
use Rattle.smp_call_steps.specs.{if_sync, if_async, sync_calls, async_calls, order, Running, Nothing, DrainValue, link_to, record_at, second_on, first_on}
use Rattle.smp_call_steps.specs.{reverse_on, IsAbsent, IsApart, Leads, Path, Share, IsAsync, Reverses, EndsAt, Walks, Ends, HandleStands, HandIs, Call, Class}
use Rattle.smp_call_steps.specs.{Sync, Async, Walk, Handle}
use Rattle.smp_words.proofs.Puts.{at_test}
use Rattle.smp_call_steps.proofs.Basics.Alls.{every_left, every_right, every_append, every_class, every_last}
use Rattle.smp_call_steps.proofs.State.Batches.{HasNewest, has_newest, no_chain}

-- the record to which a link leads is linked by it
pub link_back : (n : ℕ) → link_to (record_at n) ≡ n
link_back n = at_test n 0 (λ b. link_to (cond {A = Option ℕ} b None (Some (n - 1))) ≡ n) (λ e. sym e) (λ ne. omega arith)

-- where the next words of these calls stay, so does the path
pub Path-kept : (nexts nexts' : ℕ → ℕ) (P : Call → Type 0) → ((call : Call) → P call → nexts' call.id ≡ nexts call.id) →
    (link : ℕ) (calls : List Call) (after : ℕ) → AllByRecursion P calls → Path nexts link calls after → Path nexts' link calls after
Path-kept nexts nexts' P same link [] after h l = l
Path-kept nexts nexts' P same link (call ∷ rest) after h l = search (Path-kept nexts nexts' P same (nexts call.id) rest after h.1 l.1, arith)

pub Path-push : (nexts : ℕ → ℕ) (link : ℕ) (calls : List Call) (newest : Call) (after : ℕ) → Path nexts link calls (newest.id + 1) → nexts newest.id ≡ after
    → Path nexts link (calls ++ newest ∷ []) after
Path-push nexts link [] newest after l e = (l, e)
Path-push nexts link (call ∷ rest) newest after l e = (l.0, Path-push nexts (nexts call.id) rest newest after l.1 e)

pub Path-cut : (nexts : ℕ → ℕ) (link : ℕ) (calls : List Call) (newest : Call) (after : ℕ) → Path nexts link (calls ++ newest ∷ []) after
    → Path nexts link calls (newest.id + 1)
Path-cut nexts link [] newest after l = l.0
Path-cut nexts link (call ∷ rest) newest after l = (l.0, Path-cut nexts (nexts call.id) rest newest after l.1)

pub Path-append : (nexts : ℕ → ℕ) (link : ℕ) (xs ys : List Call) (middle after : ℕ) → Path nexts link xs middle → Path nexts middle ys after
    → Path nexts link (xs ++ ys) after
Path-append nexts link [] ys middle after l k = subst (λ (n : ℕ). Path nexts n ys after) (sym l) k
Path-append nexts link (x ∷ xs) ys middle after l k = (l.0, Path-append nexts (nexts x.id) xs ys middle after l.1 k)

-- the records of a list that has none twice

pub apart_left : (xs ys : List Call) → IsApart (xs ++ ys) → IsApart xs
apart_left [] ys a = tt
apart_left (x ∷ xs) ys a = (every_left (λ call. call.id ≢ x.id) xs ys a.0, apart_left xs ys a.1)

pub apart_right : (xs ys : List Call) → IsApart (xs ++ ys) → IsApart ys
apart_right [] ys a = a
apart_right (x ∷ xs) ys a = apart_right xs ys a.1

-- no record of the left is in the right
pub apart_across : (xs ys : List Call) → IsApart (xs ++ ys) → AllByRecursion (λ x. IsAbsent x.id ys) xs
apart_across [] ys a = tt
apart_across (x ∷ xs) ys a = (every_right (λ call. call.id ≢ x.id) xs ys a.0, apart_across xs ys a.1)

-- nor is one in what is left of it
pub absent_before : (xs : List Call) (call : Call) (ys : List Call) → IsApart (xs ++ call ∷ ys) → IsAbsent call.id xs
absent_before [] call ys a = tt
absent_before (x ∷ xs) call ys a =
    let here = every_right (λ c. c.id ≢ x.id) xs (call ∷ ys) a.0 in
    ((λ e. here.0 (sym e)), absent_before xs call ys a.1)

pub absent_after : (xs : List Call) (call : Call) (ys : List Call) → IsApart (xs ++ call ∷ ys) → IsAbsent call.id ys
absent_after [] call ys a = a.0
absent_after (x ∷ xs) call ys a = absent_after xs call ys a.1

-- the ASYNC calls of a list

pub async_calls-append : (xs ys : List Call) → async_calls (xs ++ ys) ≡ async_calls xs ++ async_calls ys
async_calls-append [] ys = refl
async_calls-append (x ∷ xs) ys = search (append_assoc, async_calls-append xs ys, arith)

async_one : (class : Class) (call : Call) → call.class ≡ class → AllByRecursion IsAsync (if_async class call)
async_one x call e = search arith

pub all_async : (calls : List Call) → AllByRecursion IsAsync (async_calls calls)
all_async [] = tt
all_async (call ∷ rest) = every_append IsAsync (if_async call.class call) (async_calls rest) (async_one call.class call refl) (all_async rest)

-- the SYNC calls of a list

abbrev pub IsSync : Call → Type 0
IsSync call = call.class ≡ Sync

sync_one : (class : Class) (call : Call) → call.class ≡ class → AllByRecursion IsSync (if_sync class call)
sync_one x call e = search arith

pub all_sync : (calls : List Call) → AllByRecursion IsSync (sync_calls calls)
all_sync [] = tt
all_sync (call ∷ rest) = every_append IsSync (if_sync call.class call) (sync_calls rest) (sync_one call.class call refl) (all_sync rest)

-- what holds of all that is left of a batch

pub reverses_all : (P : Call → Type 0) {nexts : ℕ → ℕ} {s : Share} {d : DrainValue} {up down : ℕ} {call : Call} (h : Reverses nexts s d up down call)
    → AllByRecursion P s.batch → AllByRecursion P (h.older ++ call ∷ h.newer)
reverses_all P {s = s} h all =
    let k : AllByRecursion P (sync_calls s.last ++ async_calls s.last) = subst (λ (xs : List Call). AllByRecursion P xs) h.batch all in
    search (every_class, every_left, k, every_right, arith)

module _ (P : Call → Type 0) {nexts : ℕ → ℕ} {s : Share} {d : DrainValue} {walk : Walk} {here : ℕ} {front rest : List Call} {running : Running}
    (w : Walks nexts s d walk here front rest running) (all : AllByRecursion P s.batch) where
  walks_batch : AllByRecursion P (front ++ (sync_calls rest ++ async_calls s.last))
  walks_batch = subst (λ (xs : List Call). AllByRecursion P xs) w.batch all

  walks_async : AllByRecursion P (async_calls w.passed ++ async_calls rest)
  walks_async = search (async_calls-append, every_right, walks_batch, arith)

  pub walks_front : AllByRecursion P front
  walks_front = every_left P front (sync_calls rest ++ async_calls s.last) walks_batch

  pub walks_passed : AllByRecursion P (async_calls w.passed)
  walks_passed = every_left P (async_calls w.passed) (async_calls rest) walks_async

  pub walks_rest : AllByRecursion P rest
  walks_rest = search (every_class, every_left, every_right, walks_batch, walks_async, arith)

module _ (P : Call → Type 0) {nexts : ℕ → ℕ} {s : Share} {d : DrainValue} {here : ℕ} {front rest : List Call} {running : Running}
    (w : Ends nexts s d here front rest running) (all : AllByRecursion P s.batch) where
  ends_batch : AllByRecursion P (front ++ rest)
  ends_batch = subst (λ (xs : List Call). AllByRecursion P xs) w.batch all

  pub ends_front : AllByRecursion P front
  ends_front = every_left P front rest ends_batch

  pub ends_rest : AllByRecursion P rest
  ends_rest = every_right P front rest ends_batch

-- the call that the first pass begins next is SYNC, and that of the second is ASYNC

pub walks_sync : {nexts : ℕ → ℕ} {s : Share} {d : DrainValue} {walk : Walk} {here : ℕ} {call : Call} {rest : List Call} {running : Running}
    → Walks nexts s d walk here (call ∷ []) rest running → call.class ≡ Sync
walks_sync {call} w = every_last IsSync w.begun call (subst (λ (xs : List Call). AllByRecursion IsSync xs) w.begun_are (all_sync w.passed))

pub ends_async : {nexts : ℕ → ℕ} {s : Share} {d : DrainValue} {here : ℕ} {call : Call} {rest : List Call} {running : Running}
    → Ends nexts s d here (call ∷ []) rest running → call.class ≡ Async
ends_async {s} {call} {rest} w =
    (every_right IsAsync w.begun (call ∷ rest) (subst (λ (xs : List Call). AllByRecursion IsAsync xs) w.whole (all_async s.last))).0

-- the chain stays where a call of it begins, is counted or ends

pub walks_stay : {nexts : ℕ → ℕ} {s : Share} {d : DrainValue} {walk : Walk} {here : ℕ} {front front' rest : List Call} {running running' : Running}
    (h : Walks nexts s d walk here front rest running)
    (begun batch : List Call) (now : Running) → sync_calls h.passed ≡ begun ++ front' → batch ≡ front' ++ (sync_calls rest ++ async_calls s.last)
    → now ≡ running' →
    Walks nexts (record s { batch = batch; running = now }) d walk here front' rest running'
walks_stay h begun batch now begun_are batch_is running_is = search arith

pub ends_stay : {nexts : ℕ → ℕ} {s : Share} {d : DrainValue} {here : ℕ} {front front' rest : List Call} {running running' : Running}
    (h : Ends nexts s d here front rest running)
    (begun batch : List Call) (now : Running) → async_calls s.last ≡ begun ++ (front' ++ rest) → batch ≡ front' ++ rest → now ≡ running' →
    Ends nexts (record s { batch = batch; running = now }) d here front' rest running'
ends_stay h begun batch now whole batch_is running_is = search arith

-- the last ASYNC call that was passed
pub walks_last : (P : Call → Type 0) (nexts : ℕ → ℕ) (s : Share) (d : DrainValue) (walk : Walk) (last here : ℕ) (rest : List Call)
    → (w : Walks nexts s d walk here [] rest Nothing) → walk.last ≡ Some last → AllByRecursion P s.batch → (call : Call) × (call.id ≡ last) × P call
walks_last P nexts s d walk last here rest w e all =
    let end : EndsAt (Some last) (async_calls w.passed) = subst (λ (x : Option ℕ). EndsAt x (async_calls w.passed)) e w.ends_at in
    (end.1, end.3, every_last P end.0 end.1 (subst (λ (xs : List Call). AllByRecursion P xs) end.2 (walks_passed P w all)))

-- a link is to one record
pub same_record : (id : ℕ) (call : Call) → id + 1 ≡ call.id + 1 → call.id ≡ id
same_record id call e = omega arith

-- where a CPU is that goes on along the chain

pub second_goes : (nexts : ℕ → ℕ) (s : Share) (d : DrainValue) (next : Option ℕ) (rest : List Call) → Ends nexts s d (link_to next) [] rest Nothing
    → HandleStands nexts s d (second_on next)
second_goes nexts s d None [] h = (record { batch = h.batch; running = h.running_is; accepted = h.accepted }, h.counted)
second_goes nexts s d None (call ∷ rest) h = absurd (let e = h.leads_on.0 in omega arith)
second_goes nexts s d (Some id) [] h = absurd (let e : id + 1 ≡ 0 = h.leads_on in omega arith)
second_goes nexts s d (Some id) (call ∷ rest) h = (call, rest, h)

pub first_goes : (nexts : ℕ → ℕ) (s : Share) (d : DrainValue) (walk : Walk) (next : Option ℕ) (rest : List Call)
    → Walks nexts s d walk (link_to next) [] rest Nothing → HandleStands nexts s d (first_on walk next)
first_goes nexts s d walk None [] h =
    let all : s.last ≡ h.passed = h.whole ∙ append-nil h.passed in
    second_goes nexts s d walk.first (async_calls h.passed)
    (record {
      begun = [];
      whole = ap async_calls all;
      apart = h.apart;
      leads_on = h.leads_here;
      asyncs = all_async h.passed;
      counted = h.counted;
      batch = h.batch ∙ ap async_calls all;
      running_is = h.running_is;
      accepted = h.accepted;
    })
first_goes nexts s d walk None (call ∷ rest) h = absurd (let e = h.leads_on.0 in omega arith)
first_goes nexts s d walk (Some id) [] h = absurd (let e : id + 1 ≡ 0 = h.leads_on in omega arith)
first_goes nexts s d walk (Some id) (call ∷ rest) h = (call, rest, h)

-- the chain is reversed down to what is older
pub reverse_goes : (nexts : ℕ → ℕ) (s : Share) (d : DrainValue) (here next : Option ℕ) (older newer : List Call) → s.last ≡ older ++ newer
    → Leads nexts (link_to next) older 0 → Path nexts (link_to here) newer 0 → IsApart s.last →
    d.calls ≡ length newer → s.batch ≡ order s.last → s.running ≡ Nothing → s.accepted ≡ false → HandleStands nexts s d (reverse_on here next)
reverse_goes nexts s d here None older newer whole down up apart counted batch running accepted =
    let none : older ≡ [] = no_chain nexts 0 older refl down in
    let all : s.last ≡ newer = whole ∙ ap (λ (xs : List Call). xs ++ newer) none in
    first_goes nexts s d (record { first = here; last = None }) here newer (record {
      passed = [];
      begun = [];
      whole = all;
      begun_are = refl;
      leads_here = refl;
      ends_at = refl;
      leads_on = up;
      apart = apart;
      counted = counted ∙ ap length (sym all);
      batch = batch ∙ ap (λ (xs : List Call). sync_calls xs ++ async_calls s.last) all;
      running_is = running;
      accepted = accepted;
    })
reverse_goes nexts s d here (Some id) older newer whole down up apart counted batch running accepted =
    let n : HasNewest nexts (id + 1) older 0 = has_newest nexts (id + 1) older (λ e. omega arith) down in
    search (n, same_record, append_assoc, arith)

pub hand_of_second : (next : Option ℕ) (hand : ℕ) → hand ≢ 0 → HandIs (Some (Handle (second_on next))) hand
hand_of_second x hand ne = search arith

pub hand_of_first : (walk : Walk) (next : Option ℕ) (hand : ℕ) → hand ≢ 0 → HandIs (Some (Handle (first_on walk next))) hand
hand_of_first walk x hand ne = search (hand_of_second, arith)

pub hand_of_reverse : (here next : Option ℕ) (hand : ℕ) → hand ≢ 0 → HandIs (Some (Handle (reverse_on here next))) hand
hand_of_reverse here x hand ne = search (hand_of_first, arith)
