-- The first pass leaves an ASYNC record in the chain, and takes a SYNC record out of it.
use Rattle.std.proofs.Common.{arith, ◌≡◌, ℕ, ◌+◌, Option, Some, None, List, [], ◌∷◌, ◌++◌, sym, subst, refl, ap, ◌∙◌, append_assoc}
use Rattle.std.proofs.lemmas.List.{append-nil}
use Rattle.smp_call_steps.specs.{if_sync, if_async, sync_calls, async_calls, Nothing, DrainValue, link_to, by_class, unlink_after, Path, Share, EndsAt, Walks}
use Rattle.smp_call_steps.specs.{HandleStands, Call, Class, Sync, Async, Walk}
use Rattle.smp_call_steps.proofs.State.Batches.{sync_calls-push, async_calls-push}
use Rattle.smp_call_steps.proofs.State.Walks.{Path-push, same_record, first_goes}

passed_sync : (passed : List Call) (call : Call) → call.class ≡ Sync → async_calls (passed ++ call ∷ []) ≡ async_calls passed
passed_sync passed call e = async_calls-push passed call ∙ (ap (λ (c : Class). async_calls passed ++ if_async c call) e ∙ append-nil (async_calls passed))

passed_async : (passed : List Call) (call : Call) → call.class ≡ Async → async_calls (passed ++ call ∷ []) ≡ async_calls passed ++ call ∷ []
passed_async passed call e = async_calls-push passed call ∙ ap (λ (c : Class). async_calls passed ++ if_async c call) e

-- a SYNC record is out of the chain, and its call begins next
pub passes_sync : (nexts nexts' : ℕ → ℕ) (s : Share) (d : DrainValue) (walk walk' : Walk) (next : Option ℕ) (call : Call) (rest : List Call)
    → (h : Walks nexts s d walk (call.id + 1) [] (call ∷ rest) Nothing) → call.class ≡ Sync →
    Path nexts' (link_to walk'.first) (async_calls h.passed) (link_to next) → EndsAt walk'.last (async_calls h.passed) → Path nexts' (link_to next) rest 0
    → Walks nexts' s d walk' (link_to next) (call ∷ []) rest Nothing
passes_sync nexts nexts' s d walk walk' next call rest h e here ends on =
    let passed = h.passed ++ call ∷ [] in
    let begun = sync_calls h.passed in
    let whole = h.whole ∙ sym (append_assoc h.passed (call ∷ []) rest) in
    let begun_are = sync_calls-push h.passed call ∙ ap (λ (c : Class). sync_calls h.passed ++ if_sync c call) e in
    let batch = h.batch ∙ ap (λ (c : Class). (if_sync c call ++ sync_calls rest) ++ async_calls s.last) e in
    search (passed, begun, whole, begun_are, passed_sync, batch, arith)

-- an ASYNC record stays in it
passes_async : (nexts : ℕ → ℕ) (s : Share) (d : DrainValue) (walk : Walk) (id : ℕ) (next : Option ℕ) (call : Call) (rest : List Call)
    → (h : Walks nexts s d walk (id + 1) [] (call ∷ rest) Nothing) → nexts id ≡ link_to next → call.class ≡ Async →
    Walks nexts s d (record { first = walk.first; last = Some id }) (link_to next) [] rest Nothing
passes_async nexts s d walk id next call rest h n e =
    let same : call.id ≡ id = same_record id call h.leads_on.0 in
    let linked : nexts call.id ≡ link_to next = ap nexts same ∙ n in
    record {
      passed = h.passed ++ call ∷ [];
      begun = sync_calls h.passed;
      whole = h.whole ∙ sym (append_assoc h.passed (call ∷ []) rest);
      begun_are = sync_calls-push h.passed call ∙ ap (λ (c : Class). sync_calls h.passed ++ if_sync c call) e;
      leads_here = search (passed_async, Path-push, arith);
      ends_at = (async_calls h.passed, call, passed_async h.passed call e, same);
      leads_on = subst (λ (k : ℕ). Path nexts k rest 0) linked h.leads_on.1;
      apart = h.apart;
      counted = h.counted;
      batch = h.batch ∙ ap (λ (c : Class). (if_sync c call ++ sync_calls rest) ++ async_calls s.last) e;
      running_is = h.running_is;
      accepted = h.accepted;
    }

-- where the flags of a record lead
pub flags_lead : (nexts : ℕ → ℕ) (s : Share) (d : DrainValue) (walk : Walk) (id : ℕ) (next : Option ℕ) (call : Call) (rest : List Call)
    → Walks nexts s d walk (id + 1) [] (call ∷ rest) Nothing → nexts id ≡ link_to next →
    (class : Class) → call.class ≡ class → HandleStands nexts s d (by_class class walk id next)
flags_lead nexts s d walk id next call rest h n Sync e = (call, rest, h, n, e)
flags_lead nexts s d walk id next call rest h n Async e =
    first_goes nexts s d (record { first = walk.first; last = Some id }) next rest (passes_async nexts s d walk id next call rest h n e)

-- where a SYNC call leads that is loaded
pub info_leads : (nexts : ℕ → ℕ) (s : Share) (d : DrainValue) (walk : Walk) (next : Option ℕ) (call : Call) (rest : List Call)
    → Walks nexts s d walk (call.id + 1) [] (call ∷ rest) Nothing → nexts call.id ≡ link_to next → call.class ≡ Sync →
    (last : Option ℕ) → walk.last ≡ last → HandleStands nexts s d (unlink_after last walk call next)
info_leads nexts s d walk next call rest h n e None l =
    let none : async_calls h.passed ≡ [] = subst (λ (x : Option ℕ). EndsAt x (async_calls h.passed)) l h.ends_at in (
      rest,
      passes_sync nexts nexts s d walk (record { first = next; last = None }) next call rest h e
          (subst (λ (xs : List Call). Path nexts (link_to next) xs (link_to next)) (sym none) refl) none
          (subst (λ (k : ℕ). Path nexts k rest 0) n h.leads_on.1),
      n,
    )
info_leads nexts s d walk next call rest h n e (Some last) l = (rest, h, n, e, l)
