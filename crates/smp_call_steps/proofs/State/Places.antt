-- Where a record is in a queue, a batch or a running call, there it is; and its lists tell so.
use Rattle.std.proofs.Common.{◌≡◌, ◌≢◌, ℕ, ◌+◌, ◌<◌, ◌≤◌, ◌==◌, ◌||◌, Bool, true, false, Option, Some, None, List, [], ◌∷◌, ◌++◌, length, ◌⊎◌, inl, inr, sym}
use Rattle.std.proofs.Common.{subst, refl, ap, ◌∙◌, arith, append_assoc, length-append}
use Rattle.std.proofs.lemmas.Bool.{eqb-true, eq-eqb, or_cases, cases_lt}
use Rattle.std.proofs.lemmas.List.{get_or_past}
use Rattle.std.specs.List.{AllByRecursion, list_any}
use Rattle.smp_words.specs.Size.{cpus, records}
use Rattle.smp_call_steps.specs.{has_record, down_link, up_link, between_of, is_this, running_of, CallState, Running, DrainValue, link_to, if_sync}
use Rattle.smp_call_steps.specs.{if_async, sync_calls, async_calls, HasRecord, IsAbsent, IsApart, IsPlaced, IsThere, locked_by, AllPlaced, HasChain, chain_in}
use Rattle.smp_call_steps.specs.{ids, ControlValue, Share, share_of, Rests, StandsAt, HandleStands, Reverses, Walks, Ends, Leads, Path, nexts_in, FlagsShow}
use Rattle.smp_call_steps.specs.{control_of, outside, Call, Class, Word, Head, Flags, RecPlace, Walk, HandleStage, Stage}
use Rattle.smp_call_steps.specs.{Handle}
use Rattle.smp_words.specs.Layout.{number_in}
use Rattle.smp_call_steps.specs.Shows.{Shows}
use Rattle.smp_call_steps.proofs.Basics.Alls.{every, every_append, every_left, every_right, every_async}
use Rattle.smp_call_steps.proofs.Steps.Appending.{Leads-push}
use Rattle.smp_call_steps.proofs.State.Batches.{no_chain, has_left, has_right, apart_append, apart_async}
use Rattle.smp_call_steps.proofs.State.Walks.{Path-append, apart_left, apart_right, apart_across, async_calls-append, reverses_all, walks_front, walks_passed}
use Rattle.smp_call_steps.proofs.State.Walks.{walks_rest, ends_front, ends_rest}
use Rattle.smp_call_steps.proofs.State.Chains.{chain_read}
use Rattle.smp_words.proofs.Links.{no_head}
use Rattle.smp_call_steps.proofs.Basics.Short.{length-apart}
use Rattle.smp_call_steps.specs.place
use Rattle.smp_call_steps.specs.handle

-- lists that have a call by a record

has-either : (id : ℕ) (xs ys : List Call) → HasRecord id (xs ++ ys) → HasRecord id xs ⊎ HasRecord id ys
has-either id [] ys h = inr h
has-either id (x ∷ xs) ys (inl e) = inl (inl e)
has-either id (x ∷ xs) ys (inr h) = elim (has-either id xs ys h) [ inl k ↦ inl (inr k) | inr k ↦ inr k ]

of_sync : (id : ℕ) (class : Class) (call : Call) (rest : List Call) → HasRecord id (if_sync class call) → HasRecord id (call ∷ rest)
of_sync id x call rest h = search arith

of_async : (id : ℕ) (class : Class) (call : Call) (rest : List Call) → HasRecord id (if_async class call) → HasRecord id (call ∷ rest)
of_async id x call rest h = search arith

has-sync : (id : ℕ) (calls : List Call) → HasRecord id (sync_calls calls) → HasRecord id calls
has-sync id [] h = absurd h
has-sync id (call ∷ rest) h = elim (has-either id (if_sync call.class call) (sync_calls rest) h)
    [ inl k ↦ of_sync id call.class call rest k | inr k ↦ inr (has-sync id rest k) ]

has-async : (id : ℕ) (calls : List Call) → HasRecord id (async_calls calls) → HasRecord id calls
has-async id [] h = absurd h
has-async id (call ∷ rest) h = elim (has-either id (if_async call.class call) (async_calls rest) h)
    [ inl k ↦ of_async id call.class call rest k | inr k ↦ inr (has-async id rest k) ]

-- the test for a record tells so
pub has_record-true : (id : ℕ) (calls : List Call) → has_record id calls ≡ true → HasRecord id calls
has_record-true id [] e = cc
has_record-true id (call ∷ rest) e = elim (or_cases (call.id == id) (has_record id rest) e)
    [ inl k ↦ inl (eqb-true call.id id k) | inr k ↦ inr (has_record-true id rest k) ]

or_left : (x y : Bool) → x ≡ true → (x || y) ≡ true
or_left x y e = rw e refl

or_right : (x y : Bool) → y ≡ true → (x || y) ≡ true
or_right x y e = search arith

pub true-has_record : (id : ℕ) (calls : List Call) → HasRecord id calls → has_record id calls ≡ true
true-has_record id [] h = absurd h
true-has_record id (call ∷ rest) (inl e) = or_left (call.id == id) (has_record id rest) (eq-eqb call.id id e)
true-has_record id (call ∷ rest) (inr h) = or_right (call.id == id) (has_record id rest) (true-has_record id rest h)

-- the same test over the records
pub has_id : (id : ℕ) (calls : List Call) → list_any (λ y. y == id) (ids calls) ≡ has_record id calls
has_id id [] = refl
has_id id (call ∷ rest) = ap (λ (b : Bool). (call.id == id) || b) (has_id id rest)

-- whether the chain from this link leads through the record
abbrev pub is_on : (ℕ → ℕ) → ℕ → ℕ → Bool
is_on nexts link id = list_any (λ y. y == id) (chain_in nexts records link)

-- a call that is placed tells its record's place
pub place_of : (places : ℕ → RecPlace) (p : RecPlace) (id : ℕ) (calls : List Call) → AllPlaced places p calls → HasRecord id calls → places id ≡ p
place_of places p id [] all h = absurd h
place_of places p id (call ∷ rest) all (inl e) = rw e at all.0.placed
place_of places p id (call ∷ rest) all (inr h) = place_of places p id rest all.1 h

-- a list that is read from its end
abbrev pub turned : List Call → List Call
turned [] = []
turned (call ∷ rest) = turned rest ++ call ∷ []

pub path_leads : (nexts : ℕ → ℕ) (link : ℕ) (calls : List Call) → Path nexts link calls 0 → Leads nexts link (turned calls) 0
path_leads nexts link [] l = l
path_leads nexts link (call ∷ rest) l = rw l.0 (Leads-push nexts (nexts call.id) (turned rest) 0 call refl (path_leads nexts (nexts call.id) rest l.1))

turned_all : (P : Call → Type 0) (calls : List Call) → AllByRecursion P calls → AllByRecursion P (turned calls)
turned_all P [] h = tt
turned_all P (call ∷ rest) h = every_append P (turned rest) (call ∷ []) (turned_all P rest h.1) (h.0, tt)

turned_length : (calls : List Call) → length (turned calls) ≡ length calls
turned_length [] = refl
turned_length (call ∷ rest) = let n = turned_length rest in let m = length-append (turned rest) (call ∷ []) in omega arith

has_turned : (id : ℕ) (calls : List Call) → HasRecord id calls → HasRecord id (turned calls)
has_turned id [] h = absurd h
has_turned id (call ∷ rest) (inl e) = has_right id (turned rest) (call ∷ []) (inl e)
has_turned id (call ∷ rest) (inr h) = has_left id (turned rest) (call ∷ []) (has_turned id rest h)

-- the call by the record that is between the chains
abbrev pub IsBetween : Option ℕ → List Call → Type 0
IsBetween None calls = calls ≡ []
IsBetween (Some id) calls = (call : Call) × (calls ≡ call ∷ []) × (call.id ≡ id)

pub is_this_one : (call : Call) → IsBetween (Some call.id) (call ∷ [])
is_this_one call = (call, refl, refl)

-- a batch is a chain that is not reversed, one that is, and a record between them
pub record Splits (places : ℕ → RecPlace) (nexts : ℕ → ℕ) (cpu : ℕ) (batch : List Call) (stage : Option Stage) : Type 0 where
  pub down : List Call
  pub up : List Call
  pub between : List Call
  pub leads_down : Leads nexts (down_link stage) down 0
  pub leads_up : Path nexts (up_link stage) up 0
  pub is_between : IsBetween (between_of stage) between
  pub down_placed : AllPlaced places (place.Batch cpu) down
  pub up_placed : AllPlaced places (place.Batch cpu) up
  pub between_placed : AllPlaced places (place.Batch cpu) between
  pub down_apart : IsApart down
  pub up_apart : IsApart up
  pub all : (id : ℕ) → HasRecord id batch → HasRecord id between ⊎ (HasRecord id down ⊎ HasRecord id up)

module _ (places : ℕ → RecPlace) (nexts : ℕ → ℕ) (cpu : ℕ) (s : Share) (placed : AllPlaced places (place.Batch cpu) s.batch) (apart : IsApart s.batch) where
  rests_split : (stage : Option Stage) → down_link stage ≡ 0 → up_link stage ≡ 0 → between_of stage ≡ None → s.batch ≡ []
      → Splits places nexts cpu s.batch stage
  rests_split stage d u b e = search arith

  in_order : (id : ℕ) (d : DrainValue) (up down : ℕ) (call : Call) → (h : Reverses nexts s d up down call) → HasRecord id s.batch
      → HasRecord id h.older ⊎ HasRecord id (call ∷ h.newer)
  in_order id d up down call h k =
      let o : HasRecord id (sync_calls s.last ++ async_calls s.last) = subst (HasRecord id) h.batch k in
      let l : HasRecord id s.last = elim (has-either id (sync_calls s.last) (async_calls s.last) o)
      [ inl x ↦ has-sync id s.last x | inr x ↦ has-async id s.last x ] in
      has-either id h.older (call ∷ h.newer) (subst (HasRecord id) h.whole l)

  reversed_split : (d : DrainValue) (newer : Option ℕ) (id : ℕ) (older : Option ℕ) (call : Call) → Reverses nexts s d (link_to newer) (link_to older) call
      → call.id ≡ id → Splits places nexts cpu s.batch (Some (Handle (handle.ReverseStore newer id older)))
  reversed_split d newer id older call h e =
      let all = reverses_all (IsPlaced places (place.Batch cpu)) h placed in
      let right = every_right (IsPlaced places (place.Batch cpu)) h.older (call ∷ h.newer) all in
      let whole : IsApart (h.older ++ call ∷ h.newer) = subst IsApart h.whole h.apart in
      record {
        down = h.older;
        up = h.newer;
        between = call ∷ [];
        leads_down = h.leads_down;
        leads_up = h.leads_up;
        is_between = (call, refl, e);
        down_placed = every_left (IsPlaced places (place.Batch cpu)) h.older (call ∷ h.newer) all;
        up_placed = right.1;
        between_placed = (right.0, tt);
        down_apart = apart_left h.older (call ∷ h.newer) whole;
        up_apart = (apart_right h.older (call ∷ h.newer) whole).1;
        all = λ u k. elim (in_order u d (link_to newer) (link_to older) call h k) [ inl x ↦ inr (inl x) | inr x ↦ of_front u call h.newer x ];
      }
    where
      of_front : (u : ℕ) (call : Call) (newer : List Call) → HasRecord u (call ∷ newer) → HasRecord u (call ∷ []) ⊎ (HasRecord u h.older ⊎ HasRecord u newer)
      of_front u call newer (inl x) = inl (inl x)
      of_front u call newer (inr x) = inr (inr x)

  reversing_split : (d : DrainValue) (newer : Option ℕ) (id : ℕ) (call : Call) → Reverses nexts s d (link_to newer) (nexts id) call → call.id ≡ id
      → Splits places nexts cpu s.batch (Some (Handle (handle.ReverseLoad newer id)))
  reversing_split d newer id call h e =
      let all = reverses_all (IsPlaced places (place.Batch cpu)) h placed in
      let left = every_left (IsPlaced places (place.Batch cpu)) h.older (call ∷ h.newer) all in
      let right = every_right (IsPlaced places (place.Batch cpu)) h.older (call ∷ h.newer) all in
      let whole : IsApart (h.older ++ call ∷ h.newer) = subst IsApart h.whole h.apart in
      record {
        down = h.older ++ call ∷ [];
        up = h.newer;
        between = [];
        leads_down = subst (λ (k : ℕ). Leads nexts (k + 1) (h.older ++ call ∷ []) 0) e (Leads-push nexts (nexts id) h.older 0 call (ap nexts e) h.leads_down);
        leads_up = h.leads_up;
        is_between = refl;
        down_placed = every_append (IsPlaced places (place.Batch cpu)) h.older (call ∷ []) left (right.0, tt);
        up_placed = right.1;
        between_placed = tt;
        down_apart = apart_left (h.older ++ call ∷ []) h.newer (subst IsApart (sym (append_assoc h.older (call ∷ []) h.newer)) whole);
        up_apart = (apart_right h.older (call ∷ h.newer) whole).1;
        all = λ u k. elim (in_order u d (link_to newer) (nexts id) call h k)
            [ inl x ↦ inr (inl (has_left u h.older (call ∷ []) x)) | inr x ↦ of_front u call h.newer x ];
      }
    where
      of_front : (u : ℕ) (call : Call) (newer : List Call) → HasRecord u (call ∷ newer)
          → HasRecord u [] ⊎ (HasRecord u (h.older ++ call ∷ []) ⊎ HasRecord u newer)
      of_front u call newer (inl x) = inr (inl (has_right u h.older (call ∷ []) (inl x)))
      of_front u call newer (inr x) = inr (inr x)

  walked_split : (d : DrainValue) (walk : Walk) (here : ℕ) (front rest : List Call) (running : Running) (stage : Option Stage)
      → Walks nexts s d walk here front rest running → down_link stage ≡ 0 → up_link stage ≡ link_to walk.first → IsBetween (between_of stage) front →
      Splits places nexts cpu s.batch stage
  walked_split d walk here front rest running stage h down up between =
      let whole : IsApart (h.passed ++ rest) = subst IsApart h.whole h.apart in
      record {
        down = [];
        up = async_calls h.passed ++ rest;
        between = front;
        leads_down = down;
        leads_up = rw up (Path-append nexts (link_to walk.first) (async_calls h.passed) rest here 0 h.leads_here h.leads_on);
        is_between = between;
        down_placed = tt;
        up_placed = every_append (IsPlaced places (place.Batch cpu)) (async_calls h.passed) rest (walks_passed (IsPlaced places (place.Batch cpu)) h placed)
            (walks_rest (IsPlaced places (place.Batch cpu)) h placed);
        between_placed = walks_front (IsPlaced places (place.Batch cpu)) h placed;
        down_apart = tt;
        up_apart = apart_append (async_calls h.passed) rest (apart_async h.passed (apart_left h.passed rest whole)) (apart_right h.passed rest whole)
            (every_async (λ x. IsAbsent x.id rest) h.passed (apart_across h.passed rest whole));
        all = λ u k. elim (has-either u front (sync_calls rest ++ async_calls s.last) (subst (HasRecord u) h.batch k)) [
          | inl x ↦ inl x
          | inr x ↦ inr (inr (elim (has-either u (sync_calls rest) (async_calls s.last) x) [
            | inl y ↦ has_right u (async_calls h.passed) rest (has-sync u rest y)
            | inr y ↦ of_async_calls u (subst (HasRecord u) (ap async_calls h.whole ∙ async_calls-append h.passed rest) y)
          ]))
        ];
      }
    where
      of_async_calls : (u : ℕ) → HasRecord u (async_calls h.passed ++ async_calls rest) → HasRecord u (async_calls h.passed ++ rest)
      of_async_calls u k = elim (has-either u (async_calls h.passed) (async_calls rest) k)
          [ inl x ↦ has_left u (async_calls h.passed) rest x | inr x ↦ has_right u (async_calls h.passed) rest (has-async u rest x) ]

  ended_split : (d : DrainValue) (here : ℕ) (front rest : List Call) (running : Running) (stage : Option Stage) → Ends nexts s d here front rest running
      → down_link stage ≡ 0 → up_link stage ≡ here → IsBetween (between_of stage) front → Splits places nexts cpu s.batch stage
  ended_split d here front rest running stage h down up between = record {
    down = [];
    up = rest;
    between = front;
    leads_down = down;
    leads_up = rw up h.leads_on;
    is_between = between;
    down_placed = tt;
    up_placed = ends_rest (IsPlaced places (place.Batch cpu)) h placed;
    between_placed = ends_front (IsPlaced places (place.Batch cpu)) h placed;
    down_apart = tt;
    up_apart = apart_right front rest (subst IsApart h.batch apart);
    all = λ u k. elim (has-either u front rest (subst (HasRecord u) h.batch k)) [ inl x ↦ inl x | inr x ↦ inr (inr x) ];
  }

  ruleset split_there = (rests_split, walked_split, ended_split, is_this_one)

  handle_split : (d : DrainValue) (stage : HandleStage) → HandleStands nexts s d stage → Splits places nexts cpu s.batch (Some (Handle stage))
  handle_split d (handle.ReverseLoad newer id) h = reversing_split d newer id h.0 h.1 h.2
  handle_split d (handle.ReverseStore newer id older) h = reversed_split d newer id older h.0 h.1 h.2
  handle_split d _ h = search (split_there, arith)

stage_split : (places : ℕ → RecPlace) (at : Word → ℕ) (s : Share) (d : DrainValue) (me : ℕ) (stage : Option Stage) → AllPlaced places (place.Batch me) s.batch
    → IsApart s.batch → StandsAt places at s d me stage → Splits places (nexts_in at) me s.batch stage
stage_split places at s d me stage p a h = search (rests_split, handle_split, arith)

-- the SYNC call that runs, by the stage

module _ {a : CallState} {at : Word → ℕ} {control : ℕ → ControlValue} (s : Shows a at control) (cpu : ℕ) where
  splits : Splits a.place (nexts_in at) cpu (a.batch cpu) (control cpu).stage
  splits = stage_split a.place at (share_of a cpu) (control cpu).drain cpu (control cpu).stage (s.placed.batched cpu) (s.placed.batch_apart cpu) (s.stands cpu)

  placed_records : (calls : List Call) → AllPlaced a.place (place.Batch cpu) calls → AllByRecursion (λ call. call.id < records) calls
  placed_records calls all = every (IsPlaced a.place (place.Batch cpu)) (λ call. call.id < records) (λ call q. q.is_call.in_range) calls all

  up_short : length (turned splits.up) ≤ records
  up_short = search (length-apart, placed_records, turned_length, arith)

  down_short : length splits.down ≤ records
  down_short = length-apart records splits.down splits.down_apart (placed_records splits.down splits.down_placed)

  -- the chain of what is not reversed yet
  pub down_chain : (x : ControlValue) → x ≡ control cpu → HasChain (nexts_in at) (down_link x.stage)
  down_chain x here = search (placed_records, down_short, arith)

  -- and of what is
  pub up_chain : (x : ControlValue) → x ≡ control cpu → HasChain (nexts_in at) (up_link x.stage)
  up_chain x here = search (path_leads, turned_all, placed_records, up_short, arith)

  down_read : chain_in (nexts_in at) records (down_link (control cpu).stage) ≡ ids splits.down
  down_read = chain_read records (nexts_in at) (down_link (control cpu).stage) splits.down down_short splits.leads_down

  up_read : chain_in (nexts_in at) records (up_link (control cpu).stage) ≡ ids (turned splits.up)
  up_read = search (chain_read, up_short, path_leads, arith)

  there : (id : ℕ) (p : RecPlace) → a.place id ≡ p → IsThere a.held a.queue a.batch a.running id p
  there id p e = subst (λ (q : RecPlace). IsThere a.held a.queue a.batch a.running id q) e (s.placed.is_there id)

  this_between : (id : ℕ) (between : Option ℕ) (calls : List Call) → IsBetween between calls → AllPlaced a.place (place.Batch cpu) calls
      → is_this id between ≡ true → a.place id ≡ place.Batch cpu
  this_between id x calls b all t = search (eqb-true, arith)

  between_this : (id : ℕ) (between : Option ℕ) (calls : List Call) → IsBetween between calls → HasRecord id calls → is_this id between ≡ true
  between_this id x calls b h = search (eq-eqb, arith)

  -- the record between the chains is in the batch
  pub in_between : (x : ControlValue) → x ≡ control cpu → (id : ℕ) → is_this id (between_of x.stage) ≡ true → a.place id ≡ place.Batch cpu
  in_between x here id t =
      let between : is_this id (between_of (control cpu).stage) ≡ true = subst (λ (c : ControlValue). is_this id (between_of c.stage) ≡ true) here t in
      this_between id (between_of (control cpu).stage) splits.between splits.is_between splits.between_placed between

  -- the tests along both chains tell whether another record is
  pub in_batch : (x : ControlValue) → x ≡ control cpu → (id : ℕ) (b : Bool) → is_this id (between_of x.stage) ≡ false →
      b ≡ (is_on (nexts_in at) (down_link x.stage) id || is_on (nexts_in at) (up_link x.stage) id) →
      (b ≡ true → a.place id ≡ place.Batch cpu) × (a.place id ≡ place.Batch cpu → b ≡ true)
  in_batch x here id b f e =
      let other : is_this id (between_of (control cpu).stage) ≡ false = subst (λ (c : ControlValue). is_this id (between_of c.stage) ≡ false) here f in
      let tests : b ≡ (is_on (nexts_in at) (down_link (control cpu).stage) id || is_on (nexts_in at) (up_link (control cpu).stage) id) =
      subst (λ (c : ControlValue). b ≡ (is_on (nexts_in at) (down_link c.stage) id || is_on (nexts_in at) (up_link c.stage) id)) here e in
      let down = ap (list_any (λ y. y == id)) down_read ∙ has_id id splits.down in
      let up = ap (list_any (λ y. y == id)) up_read ∙ has_id id (turned splits.up) in
      let is : b ≡ (has_record id splits.down || has_record id (turned splits.up)) = tests ∙ (λ i. down i || up i) in (
        (λ t. elim (or_cases (has_record id splits.down) (has_record id (turned splits.up)) (sym is ∙ t)) [
          | inl k ↦ place_of a.place (place.Batch cpu) id splits.down splits.down_placed (has_record-true id splits.down k)
          | inr k ↦ place_of a.place (place.Batch cpu) id (turned splits.up) (turned_all (IsPlaced a.place (place.Batch cpu)) splits.up splits.up_placed)
              (has_record-true id (turned splits.up) k)
        ]),
        (λ h. is ∙ elim (splits.all id (there id (place.Batch cpu) h)) [
          | inl k ↦ absurd (let t = between_this id (between_of (control cpu).stage) splits.between splits.is_between k in cc)
          | inr k ↦ elim k [
            | inl q ↦ or_left (has_record id splits.down) (has_record id (turned splits.up)) (true-has_record id splits.down q)
            | inr q ↦ or_right (has_record id splits.down) (has_record id (turned splits.up))
                (true-has_record id (turned splits.up) (has_turned id splits.up q))
          ]
        ]),
      )

  pub in_queue : (id : ℕ) (chain : List ℕ) (b : Bool) → chain ≡ ids (a.queue cpu) → b ≡ list_any (λ y. y == id) chain →
      (b ≡ true → a.place id ≡ place.Queued cpu) × (a.place id ≡ place.Queued cpu → b ≡ true)
  in_queue id chain b e f = search (has_id, place_of, has_record-true, true-has_record, there, arith)

  pub in_running : (id : ℕ) (b : Bool) → b ≡ has_record id (running_of (control cpu).stage) →
      (b ≡ true → a.place id ≡ place.Running cpu) × (a.place id ≡ place.Running cpu → b ≡ true)
  in_running id b f = search (place_of, has_record-true, true-has_record, there, arith)

-- a record is not in the queue or the batch of this CPU, and does not run on it
pub record IsNotOn (cpu : ℕ) (p : RecPlace) : Type 0 where
  pub queue : p ≢ place.Queued cpu
  pub batch : p ≢ place.Batch cpu
  pub running : p ≢ place.Running cpu

-- nothing is at a CPU that there cannot be
pub record IsBare (at : Word → ℕ) (control : ℕ → ControlValue) : Type 0 where
  pub heads : (cpu : ℕ) → cpus ≤ cpu → at (Head cpu) ≡ 0
  pub controls : (cpu : ℕ) → cpus ≤ cpu → control cpu ≡ outside

module _ {a : CallState} {at : Word → ℕ} {control : ℕ → ControlValue} (s : Shows a at control) (id : ℕ) where
  free_if : (p : RecPlace) → FlagsShow p 0 → p ≡ place.Free
  free_if x f = search arith

  -- a record whose flags are 0 is free
  pub is_free : at (Flags id) ≡ 0 → place.Free ≡ a.place id
  is_free e = sym (free_if (a.place id) (rw e at (s.written.locks id)))

  rests_past : IsBare at control → (cpu : ℕ) → cpus ≤ cpu → Rests (share_of a cpu)
  rests_past bare cpu l =
      rw (bare.controls cpu l) at (s.stands cpu)

  queue_past : IsBare at control → (cpu : ℕ) → cpus ≤ cpu → a.queue cpu ≡ []
  queue_past bare cpu l = no_chain (nexts_in at) 0 (a.queue cpu) refl (rw (bare.heads cpu l) at (s.chained.chain cpu))

  not_past : (xs : List Call) → xs ≡ [] → HasRecord id xs → ⊥
  not_past xs e h = subst (λ (ys : List Call). HasRecord id ys) e h

  held_if : (p : RecPlace) → IsBare at control → at (Flags id) ≢ 0 → ((cpu : ℕ) → cpu < cpus → IsNotOn cpu p) → FlagsShow p (at (Flags id))
      → IsThere a.held a.queue a.batch a.running id p → place.Held ≡ p
  held_if place.Free bare ne far f h = absurd (ne f)
  held_if place.Held bare ne far f h = refl
  held_if (place.Queued cpu) bare ne far f h =
      elim (cases_lt cpu cpus) [ inl l ↦ absurd ((far cpu l).queue refl) | inr l ↦ absurd (not_past (a.queue cpu) (queue_past bare cpu l) h) ]
  held_if (place.Batch cpu) bare ne far f h =
      elim (cases_lt cpu cpus) [ inl l ↦ absurd ((far cpu l).batch refl) | inr l ↦ absurd (not_past (a.batch cpu) (rests_past bare cpu l).batch h) ]
  held_if (place.Running cpu) bare ne far f h =
      elim (cases_lt cpu cpus) [
        | inl l ↦ absurd ((far cpu l).running refl)
        | inr l ↦
            absurd (not_past (locked_by (a.running cpu)) (ap locked_by (rests_past bare cpu l).running) h)
      ]

  -- a record that is locked, in no queue or batch, and not running is held
  pub is_held : IsBare at control → at (Flags id) ≢ 0 → ((cpu : ℕ) → cpu < cpus → IsNotOn cpu (a.place id)) → place.Held ≡ a.place id
  is_held bare ne far = held_if (a.place id) bare ne far (s.written.locks id) (s.placed.is_there id)

-- a table and its controls have nothing beyond their CPUs
pub bare : (words : List ℕ) (controls : List ControlValue) → length controls ≡ cpus → IsBare (number_in words) (control_of controls)
bare words controls l = record { heads = no_head words; controls = λ cpu m. get_or_past controls cpu outside (omega arith) }

-- the tests of one CPU, all of them false
pub not_on : (cpu : ℕ) (p : RecPlace) (queued batched runs : Bool) → queued ≡ false → batched ≡ false → runs ≡ false →
    (p ≡ place.Queued cpu → queued ≡ true) → (p ≡ place.Batch cpu → batched ≡ true) → (p ≡ place.Running cpu → runs ≡ true) → IsNotOn cpu p
not_on cpu p queued batched runs q b r f g h = record { queue = λ e. let t = f e in cc; batch = λ e. let t = g e in cc; running = λ e. let t = h e in cc }
