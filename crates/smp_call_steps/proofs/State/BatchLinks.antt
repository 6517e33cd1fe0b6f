-- The links of a batch, by where its CPU is.
use Rattle.std.proofs.Common.{arith, ◌≡◌, ◌≢◌, ℕ, ◌+◌, Bool, true, false, Option, Some, None, List, [], ◌∷◌, ◌++◌, inl, inr, sym, subst, refl, ap}
use Rattle.std.proofs.Common.{◌∙◌, append_assoc}
use Rattle.std.proofs.lemmas.Bool.{eq-eqb, ne_eqb}
use Rattle.std.proofs.lemmas.List.{append-nil}
use Rattle.std.proofs.lemmas.List.Elements.{filter-append}
use Rattle.std.specs.List.{AllByRecursion, filter}
use Rattle.smp_call_steps.specs.{if_sync, sync_calls, async_calls, order, Running, DrainValue, link_to}
use Rattle.smp_call_steps.specs.{Leads, nexts_in, IsAbsent, IsApart, HasRecord, has_record, is_this, down_link, up_link, between_of, is_linked, BegunAt}
use Rattle.smp_call_steps.specs.{LoadedAt, KeepBatchLinks, Share, share_of, Reverses, Walks, Ends, HandleStands, StandsAt, Call, Word}
use Rattle.smp_call_steps.specs.{RecPlace, Walk, HandleStage, Stage, Handle}
use Rattle.smp_call_steps.specs.BatchLinks.{BatchLinks}
use Rattle.smp_call_steps.proofs.Basics.Alls.{every, every_both, every_left, every_right, every_append, every_class}
use Rattle.smp_call_steps.proofs.Steps.Appending.{Leads-push}
use Rattle.smp_call_steps.proofs.State.Batches.{has_right, apart_order}
use Rattle.smp_call_steps.proofs.State.Places.{IsBetween, is_this_one, true-has_record}
use Rattle.smp_call_steps.proofs.State.Walks.{Path-append, apart_right, apart_across, absent_before, absent_after, async_calls-append}
use Rattle.smp_call_steps.specs.handle

-- what a test keeps of a list

kept_all : (p : Call → Bool) (xs : List Call) → AllByRecursion (λ x. p x ≡ true) xs → filter p xs ≡ xs
kept_all p [] h = refl
kept_all p (x ∷ xs) h = rw h.0 (ap (λ (ys : List Call). x ∷ ys) (kept_all p xs h.1))

kept_none : (p : Call → Bool) (xs : List Call) → AllByRecursion (λ x. p x ≡ false) xs → filter p xs ≡ []
kept_none p [] h = refl
kept_none p (x ∷ xs) h = rw h.0 (kept_none p xs h.1)

-- where it keeps no SYNC call
kept_async : (p : Call → Bool) (xs : List Call) → AllByRecursion (λ x. p x ≡ false) (sync_calls xs) → filter p xs ≡ filter p (async_calls xs)
kept_async p [] h = refl
kept_async p (x ∷ xs) h =
    let rest = kept_async p xs (every_right (λ y. p y ≡ false) (if_sync x.class x) (sync_calls xs) h) in
    search (every_left, rest, filter-append, arith)

sync_calls-append : (xs ys : List Call) → sync_calls (xs ++ ys) ≡ sync_calls xs ++ sync_calls ys
sync_calls-append [] ys = refl
sync_calls-append (x ∷ xs) ys = search (append_assoc, sync_calls-append xs ys, arith)

-- which calls are in the chain

absent-has_record : (id : ℕ) (calls : List Call) → IsAbsent id calls → has_record id calls ≡ false
absent-has_record id [] h = refl
absent-has_record id (call ∷ rest) h = rw (ne_eqb call.id id h.0) (absent-has_record id rest h.1)

all_have : (calls : List Call) → AllByRecursion (λ c. HasRecord c.id calls) calls
all_have [] = tt
all_have (call ∷ rest) = (inl refl, every (λ c. HasRecord c.id rest) (λ c. HasRecord c.id (call ∷ rest)) (λ c h. inr h) rest (all_have rest))

absent_back : (xs ys : List Call) → AllByRecursion (λ x. IsAbsent x.id ys) xs → AllByRecursion (λ y. IsAbsent y.id xs) ys
absent_back xs [] h = tt
absent_back xs (y ∷ ys) h = (
  every (λ x. IsAbsent x.id (y ∷ ys)) (λ x. x.id ≢ y.id) (λ x k e. k.0 (sym e)) xs h,
  absent_back xs ys (every (λ x. IsAbsent x.id (y ∷ ys)) (λ x. IsAbsent x.id ys) (λ x k. k.1) xs h),
)

not_in_hand : (hand : Option ℕ) (front : List Call) → IsBetween hand front → (id : ℕ) → IsAbsent id front → is_this id hand ≡ false
not_in_hand x front b id absent = search (ne_eqb, arith)

is_linked-gone : (left : List Call) (hand : Option ℕ) (call : Call) → IsAbsent call.id left → is_linked left hand call ≡ false
is_linked-gone left hand call absent = rw (absent-has_record call.id left absent) refl

is_linked-left : (left : List Call) (hand : Option ℕ) (call : Call) → HasRecord call.id left → is_this call.id hand ≡ false → is_linked left hand call ≡ true
is_linked-left left hand call h e = rw (true-has_record call.id left h, e) refl

-- the batch in drain order is what has begun, what is in hand, and what is in the chain
module _ (batch begun front tail : List Call) (hand : Option ℕ) (whole : order batch ≡ begun ++ (front ++ tail)) (apart : IsApart batch)
    (between : IsBetween hand front) where
  all_apart : IsApart (begun ++ (front ++ tail))
  all_apart = subst IsApart whole (apart_order batch apart)

  begun_out : AllByRecursion (λ c. is_linked (front ++ tail) hand c ≡ false) begun
  begun_out = search (every, is_linked-gone, apart_across, all_apart, arith)

  front_out : AllByRecursion (λ c. is_linked (front ++ tail) hand c ≡ false) front
  front_out = search (every, arith)

  tail_in : AllByRecursion (λ c. is_linked (front ++ tail) hand c ≡ true) tail
  tail_in =
      let left_apart : IsApart (front ++ tail) = apart_right begun (front ++ tail) all_apart in
      every_both (λ c. HasRecord c.id tail) (λ c. IsAbsent c.id front) (λ c. is_linked (front ++ tail) hand c ≡ true)
      (λ c h absent. is_linked-left (front ++ tail) hand c (has_right c.id front tail h) (not_in_hand hand front between c.id absent))
      tail (all_have tail) (absent_back front tail (apart_across front tail left_apart))

-- what is not linked by the test of a drain order is linked by no other
all_linked : (batch : List Call) (hand : Option ℕ) → AllByRecursion (λ c. HasRecord c.id (order batch)) batch
all_linked batch hand =
    let all = all_have (order batch) in
    search (every_class, every_left, all, every_right, arith)

module _ (nexts : ℕ → ℕ) (s : Share) where
  rests_links : (stage : Option Stage) → down_link stage ≡ 0 → up_link stage ≡ 0 → s.batch ≡ [] → BegunAt stage (order s.last) → LoadedAt nexts stage
      → BatchLinks nexts s.last s.batch stage
  rests_links stage down up none begun loaded = record {
    begun = order s.last;
    older = [];
    newer = [];
    in_order = sym (append-nil (order s.last)) ∙ ap (λ (xs : List Call). order s.last ++ xs) (sym none);
    begun_at = begun;
    linked = subst (λ (xs : List Call). filter (is_linked xs (between_of stage)) s.last ≡ []) (sym none) (nothing_left s.last);
    leads_down = down;
    leads_up = up;
    loaded = loaded;
  }
    where
      nothing_left : (xs : List Call) → filter (is_linked [] (between_of stage)) xs ≡ []
      nothing_left [] = refl
      nothing_left (x ∷ xs) = nothing_left xs

  -- a record is reversed next
  reversing_links : (d : DrainValue) (newer : Option ℕ) (id : ℕ) (call : Call) → Reverses nexts s d (link_to newer) (nexts id) call → call.id ≡ id
      → BatchLinks nexts s.last s.batch (Some (Handle (handle.ReverseLoad newer id)))
  reversing_links d newer id call h e =
      let in_chain = every (λ c. HasRecord c.id (order s.last)) (λ c. is_linked (order s.last) None c ≡ true)
      (λ c k. is_linked-left (order s.last) None c k refl) s.last (all_linked s.last None) in
      record {
        begun = [];
        older = h.older ++ call ∷ [];
        newer = h.newer;
        in_order = sym h.batch;
        begun_at = refl;
        linked = subst (λ (xs : List Call). filter (is_linked xs None) s.last ≡ (h.older ++ call ∷ []) ++ h.newer) (sym h.batch)
            (kept_all (is_linked (order s.last) None) s.last in_chain ∙ (h.whole ∙ sym (append_assoc h.older (call ∷ []) h.newer)));
        leads_down = subst (λ (k : ℕ). Leads nexts (k + 1) (h.older ++ call ∷ []) 0) e (Leads-push nexts (nexts id) h.older 0 call (ap nexts e) h.leads_down);
        leads_up = h.leads_up;
        loaded = tt;
      }

  -- a record is in hand
  reversed_links : (d : DrainValue) (newer : Option ℕ) (id : ℕ) (older : Option ℕ) (call : Call) → Reverses nexts s d (link_to newer) (link_to older) call
      → call.id ≡ id → nexts id ≡ link_to older →
      BatchLinks nexts s.last s.batch (Some (Handle (handle.ReverseStore newer id older)))
  reversed_links d newer id older call h e loaded =
      let apart : IsApart (h.older ++ call ∷ h.newer) = subst IsApart h.whole h.apart in
      let have = subst (AllByRecursion (λ c. HasRecord c.id (order s.last))) h.whole (all_linked s.last (Some id)) in
      let right = every_right (λ c. HasRecord c.id (order s.last)) h.older (call ∷ h.newer) have in
      let stays : (c : Call) → HasRecord c.id (order s.last) → c.id ≢ call.id → is_linked (order s.last) (Some id) c ≡ true = λ c k ne.
      is_linked-left (order s.last) (Some id) c k (ne_eqb id c.id (λ f. ne (sym f ∙ sym e))) in
      let p : Call → Bool = is_linked (order s.last) (Some id) in
      let olds : filter p h.older ≡ h.older = kept_all p h.older
      (every_both (λ c. HasRecord c.id (order s.last)) (λ c. c.id ≢ call.id) (λ c. p c ≡ true) stays h.older
      (every_left (λ c. HasRecord c.id (order s.last)) h.older (call ∷ h.newer) have) (absent_before h.older call h.newer apart)) in
      let news : filter p h.newer ≡ h.newer = kept_all p h.newer
      (every_both (λ c. HasRecord c.id (order s.last)) (λ c. c.id ≢ call.id) (λ c. p c ≡ true) stays h.newer right.1 (absent_after h.older call h.newer apart))
      in
      search (p, kept_none, eq-eqb, filter-append, olds, news, arith)

  module _ (d : DrainValue) (walk : Walk) (here : ℕ) (front rest : List Call) (running : Running) (w : Walks nexts s d walk here front rest running) where
    walked_order : order s.last ≡ w.begun ++ (front ++ (sync_calls rest ++ async_calls s.last))
    walked_order = search (sync_calls-append, append_assoc, arith)

    walked_kept : (hand : Option ℕ) → IsBetween hand front
        → filter (is_linked (front ++ (sync_calls rest ++ async_calls s.last)) hand) s.last ≡ async_calls w.passed ++ rest
    walked_kept hand between =
        let tail : List Call = sync_calls rest ++ async_calls s.last in
        let p : Call → Bool = is_linked (front ++ tail) hand in
        let gone = every_append (λ c. p c ≡ false) w.begun front (begun_out s.last w.begun front tail hand walked_order w.apart between)
        (front_out s.last w.begun front tail hand walked_order w.apart between) in
        let syncs : AllByRecursion (λ c. p c ≡ false) (sync_calls w.passed) = subst (AllByRecursion (λ c. p c ≡ false)) (sym w.begun_are) gone in
        let stay : AllByRecursion (λ c. p c ≡ true) tail = tail_in s.last w.begun front tail hand walked_order w.apart between in
        let asyncs : AllByRecursion (λ c. p c ≡ true) (async_calls w.passed ++ async_calls rest) =
        subst (AllByRecursion (λ c. p c ≡ true)) (ap async_calls w.whole ∙ async_calls-append w.passed rest)
        (every_right (λ c. p c ≡ true) (sync_calls rest) (async_calls s.last) stay) in
        let ahead : AllByRecursion (λ c. p c ≡ true) rest =
        every_class (λ c. p c ≡ true) rest (every_left (λ c. p c ≡ true) (sync_calls rest) (async_calls s.last) stay)
        (every_right (λ c. p c ≡ true) (async_calls w.passed) (async_calls rest) asyncs) in
        search (p, kept_async, syncs, kept_all, every_left, asyncs, filter-append, ahead, arith)

    walked_links : (stage : Option Stage) → down_link stage ≡ 0 → up_link stage ≡ link_to walk.first → IsBetween (between_of stage) front
        → ((calls : List Call) → BegunAt stage calls) → LoadedAt nexts stage → BatchLinks nexts s.last s.batch stage
    walked_links stage down up between begun loaded = search (walked_order, walked_kept, Path-append, arith)

  module _ (d : DrainValue) (here : ℕ) (front rest : List Call) (running : Running) (w : Ends nexts s d here front rest running) where
    ended_order : order s.last ≡ (sync_calls s.last ++ w.begun) ++ (front ++ rest)
    ended_order = ap (λ (xs : List Call). sync_calls s.last ++ xs) w.whole ∙ sym (append_assoc (sync_calls s.last) w.begun (front ++ rest))

    ended_kept : (hand : Option ℕ) → IsBetween hand front → filter (is_linked (front ++ rest) hand) s.last ≡ rest
    ended_kept hand between =
        let p : Call → Bool = is_linked (front ++ rest) hand in
        let gone = begun_out s.last (sync_calls s.last ++ w.begun) front rest hand ended_order w.apart between in
        let syncs : AllByRecursion (λ c. p c ≡ false) (sync_calls s.last) = every_left (λ c. p c ≡ false) (sync_calls s.last) w.begun gone in
        let begun : filter p w.begun ≡ [] = kept_none p w.begun (every_right (λ c. p c ≡ false) (sync_calls s.last) w.begun gone) in
        let fronts : filter p front ≡ [] = kept_none p front (front_out s.last (sync_calls s.last ++ w.begun) front rest hand ended_order w.apart between) in
        let rests : filter p rest ≡ rest = kept_all p rest (tail_in s.last (sync_calls s.last ++ w.begun) front rest hand ended_order w.apart between) in
        search (kept_async, p, syncs, filter-append, begun, fronts, rests, arith)

    ended_links : (stage : Option Stage) → down_link stage ≡ 0 → up_link stage ≡ here → IsBetween (between_of stage) front
        → ((calls : List Call) → BegunAt stage calls) → LoadedAt nexts stage → BatchLinks nexts s.last s.batch stage
    ended_links stage down up between begun loaded = search (ended_order, ended_kept, arith)

  ruleset linked_there = (rests_links, walked_links, ended_links, is_this_one)

  handle_links : (d : DrainValue) (stage : HandleStage) → HandleStands nexts s d stage → BatchLinks nexts s.last s.batch (Some (Handle stage))
  handle_links d (handle.ReverseLoad newer id) h = reversing_links d newer id h.0 h.1 h.2
  handle_links d (handle.ReverseStore newer id older) h = reversed_links d newer id older h.0 h.1 h.2 h.3
  handle_links d _ h = search (linked_there, arith)

stage_links : (places : ℕ → RecPlace) (at : Word → ℕ) (s : Share) (d : DrainValue) (me : ℕ) (stage : Option Stage) → StandsAt places at s d me stage
    → BatchLinks (nexts_in at) s.last s.batch stage
stage_links places at s d me stage h = search (rests_links, handle_links, arith)

-- whatever words show calls show the links of each batch
pub batch_links : KeepBatchLinks
batch_links a at control s cpu = stage_links a.place at (share_of a cpu) (control cpu).drain cpu (control cpu).stage (s.stands cpu)
