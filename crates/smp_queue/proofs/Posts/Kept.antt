-- What a CPU keeps between two calls stays over each of them.
use Rattle.std.proofs.Common.{◌≡◌, ℕ, ◌+◌, ◌%◌, ◌^◌, ◌<◌, Bool, true, false, List, [], ◌∷◌, ◌++◌, length, get_or, set, replicate, length-set, length-append}
use Rattle.std.proofs.Common.{sym, refl, ap, ◌∙◌, subst, inl, inr, arith}
use Rattle.std.proofs.lemmas.List.{append-nil, get_or-set_same, get_or-set_other, length-replicate}
use Rattle.std.proofs.lemmas.Bool.{cases_eq}
use Rattle.smp_mask.specs.Mask.{has}
use Rattle.smp_words.specs.Size.{cpus, records}
use Rattle.smp_call_steps.specs.Stands.{posted}
use Rattle.smp_call_steps.specs.Histories.{Marked, mark, sent_to, calls_from}
use Rattle.smp_call_steps.specs.Threads.Heads.{Found, last_found}
use Rattle.smp_call_steps.specs.Threads.Known.{fresh, queued_known, lost_tries, standing, stepped}
use Rattle.smp_call_steps.proofs.Basics.Lists.{sent_to-push, one_if-same, one_if-other}
use Rattle.smp_call_steps.proofs.Basics.Rows.{length-row}
use Rattle.smp_words.proofs.Zeros.{get_or-same}
use Rattle.smp_queue.specs.{Call, KnownCalls, Posting, uncounted, IsKept}
use Rattle.smp_queue.specs.Appends.{Appends}
use Rattle.smp_queue.specs.post

pub kept_fresh : (v : KnownCalls) (number : ℕ) → v ≡ fresh v.setting number → number < cpus → has v.setting.online number ≡ true
    → IsKept v number (replicate cpus 0) (replicate cpus 0)
kept_fresh v number e l o = record {
  number_is = ap (λ (x : KnownCalls). x.number) e;
  below = l;
  online = o;
  outside = ap (λ (x : KnownCalls). x.stage) e;
  records_sized = ap (λ (x : KnownCalls). length x.part.confirmed) e ∙ length-row records (λ _. true);
  queued_sized = length-replicate {A = ℕ} cpus 0;
  ran_sized = length-replicate {A = ℕ} cpus 0;
  queued_are = λ to _. get_or-same 0 cpus to ∙ ap (λ (x : KnownCalls). length (sent_to to x.part.sent) % 2 ^ 64) (sym e);
  ran_are = λ source _. get_or-same 0 cpus source ∙ ap (λ (x : KnownCalls). length (calls_from source x.part.ran) % 2 ^ 64) (sym e);
}

module _ {v : KnownCalls} {number : ℕ} {queued ran : List ℕ} (k : IsKept v number queued ran) where
  -- also where it has made steps, or has tried in vain
  pub kept_stepped : (n : ℕ) → IsKept (stepped n v) number queued ran
  kept_stepped n = search arith

  pub kept_lost : (found : Found) → IsKept (lost_tries found v) number queued ran
  kept_lost found = search arith

  one_more : (n len : ℕ) → n ≡ len % 2 ^ 64 → (n + 1) % 2 ^ 64 ≡ (len + 1) % 2 ^ 64
  one_more n len e = omega arith

  -- a call more that was queued is counted
  pub kept_appended : (to : ℕ) (first : Bool) (link : ℕ) (call : Call) → to < cpus →
      IsKept (queued_known call to first link v) number (set queued to ((get_or queued to 0 + 1) % 2 ^ 64)) ran
  kept_appended to first link call below = record {
    number_is = k.number_is;
    below = k.below;
    online = k.online;
    outside = refl;
    records_sized = length-set v.part.confirmed call.id false ∙ k.records_sized;
    queued_sized = length-set queued to ((get_or queued to 0 + 1) % 2 ^ 64) ∙ k.queued_sized;
    ran_sized = k.ran_sized;
    queued_are = λ cpu l. elim (cases_eq cpu to) [
      | inl e ↦
          rw e (get_or-set_same queued to ((get_or queued to 0 + 1) % 2 ^ 64) 0 (let q = k.queued_sized in omega arith)
          ∙ (one_more (get_or queued to 0) (length (sent_to to v.part.sent)) (k.queued_are to below) ∙
          ap (λ n. n % 2 ^ 64) (sym (ap length
          (sent_to-push to v.part.sent (record { call = call; to = to; is_first = first })
          ∙ ap (λ (ms : List Marked). sent_to to v.part.sent ++ ms) (one_if-same to to (mark first call) refl))
          ∙ length-append (sent_to to v.part.sent) (mark first call ∷ [])))))
      | inr ne ↦ get_or-set_other queued to cpu ((get_or queued to 0 + 1) % 2 ^ 64) 0 ne ∙ (k.queued_are cpu l ∙
          ap (λ n. n % 2 ^ 64) (sym (ap length
          (sent_to-push cpu v.part.sent (record { call = call; to = to; is_first = first })
          ∙ (ap (λ (ms : List Marked). sent_to cpu v.part.sent ++ ms) (one_if-other to cpu (mark first call) (λ e. ne (sym e)))
          ∙ append-nil (sent_to cpu v.part.sent))))))
    ];
    ran_are = k.ran_are;
  }

-- of a CPU that queued a call
pub kept_posted : (v w v' : KnownCalls) (number : ℕ) (queued ran : List ℕ) (p : Posting) (first : Bool) (found : Found) → IsKept v number queued ran
    → p.to < cpus →
    w ≡ standing (uncounted p) post.Count (stepped 3 v) → Appends p first found w v' →
    IsKept v' number (set queued p.to ((get_or queued p.to 0 + 1) % 2 ^ 64)) ran
kept_posted v w v' number queued ran p first found k l e f =
    let known : v' ≡ queued_known (posted p) p.to first (last_found found) (lost_tries found (stepped 3 v)) = f.known_is
    ∙ ap (λ (u : KnownCalls). queued_known (posted p) p.to first (last_found found) (lost_tries found u)) e in
    subst (λ (u : KnownCalls). IsKept u number (set queued p.to ((get_or queued p.to 0 + 1) % 2 ^ 64)) ran) (sym known)
    (kept_appended (kept_lost (kept_stepped k 3) found) p.to first (last_found found) (posted p) l)
