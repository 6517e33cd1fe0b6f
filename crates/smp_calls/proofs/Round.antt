-- One more of many CPUs.
use Rattle.std.proofs.Common.{◌≡◌, length, ℕ, ◌<◌, ◌==◌, ◌||◌, Bool, true, false, cond, List, [], ◌∷◌, ◌++◌, length-set, set, get_or, refl, sym, ap, ◌∙◌}
use Rattle.std.proofs.Common.{subst, arith}
use Rattle.std.proofs.lemmas.Bool.{cases_eq, cases_Bool, eq-eqb, eqb-true, or_parts}
use Rattle.std.proofs.lemmas.List.{get_or-set_same, get_or-set_other}
use Rattle.smp_words.specs.Size.{records_of_one, record_of}
use Rattle.smp_words.specs.declared.call.Call.{Call}
use Rattle.smp_words.specs.declared.call.Class.{Class}
use Rattle.smp_call_steps.specs.declared.known.Sending.{Sending}
use Rattle.smp_call_steps.specs.declared.known.Logged.{Logged}
use Rattle.smp_call_steps.specs.Threads.Heads.{Found}
use Rattle.smp_queue.specs.Cpu.{CpuValue, confirmed_at, posts}
use Rattle.smp_queue.specs.declared.handler.Heard.{Heard}
use Rattle.smp_calls.specs.Families.{IsSized, Leaves, IsLast, owes_at}
use Rattle.smp_calls.specs.Queued.{Queued, destinations, firsts, sendings, calls_to, is_in, is_first_to, is_by, is_used}
use Rattle.smp_calls.specs.Records.{many_call, many_record}
use Rattle.smp_calls.specs.Rounds.{only_if, Queues}
use Rattle.smp_calls.proofs.Turns.{handles_same}
use Rattle.smp_calls.proofs.Steps.{leaves_none, leaves_as, leaves_then, sized_moved}
use Rattle.smp_calls.proofs.One.{or_false, by_case, same_record, locks_at, one_queued}
use Rattle.smp_call_steps.specs.declared.known.Logged.TheVariants as logged

-- ---- lists of queued calls, one after the other

pub destinations-append : (xs ys : List Queued) → destinations (xs ++ ys) ≡ destinations xs ++ destinations ys
destinations-append [] ys = refl
destinations-append (x ∷ xs) ys = ap (λ (zs : List ℕ). x.to ∷ zs) (destinations-append xs ys)

firsts_push : (first : Bool) (to : ℕ) (xs ys zs : List ℕ) → xs ≡ ys ++ zs → cond first (to ∷ xs) xs ≡ cond first (to ∷ ys) ys ++ zs
firsts_push true to xs ys zs e = ap (λ (ws : List ℕ). to ∷ ws) e
firsts_push false to xs ys zs e = e

pub firsts-append : (xs ys : List Queued) → firsts (xs ++ ys) ≡ firsts xs ++ firsts ys
firsts-append [] ys = refl
firsts-append (x ∷ xs) ys = firsts_push x.is_first x.to (firsts (xs ++ ys)) (firsts xs) (firsts ys) (firsts-append xs ys)

sendings-append : (call : ℕ → Call) (xs ys : List Queued) → sendings call (xs ++ ys) ≡ sendings call xs ++ sendings call ys
sendings-append call [] ys = refl
sendings-append call (x ∷ xs) ys = ap (λ (zs : List Sending). record { call = call x.to; to = x.to; is_first = x.is_first } ∷ zs) (sendings-append call xs ys)

calls_to-append : (xs ys : List ℕ) → calls_to (xs ++ ys) ≡ calls_to xs ++ calls_to ys
calls_to-append [] ys = refl
calls_to-append (x ∷ xs) ys = ap (λ (zs : List Logged). logged.Queued x ∷ zs) (calls_to-append xs ys)

-- the log of all these calls
calls_to-both : (xs ys : List Queued) → calls_to (destinations xs) ++ calls_to (destinations ys) ≡ calls_to (destinations (xs ++ ys))
calls_to-both xs ys = sym (ap calls_to (destinations-append xs ys) ∙ calls_to-append (destinations xs) (destinations ys))

or_assoc : (a b c : Bool) → ((a || b) || c) ≡ (a || (b || c))
or_assoc a b c = search (cases_Bool, arith)

pub is_in-append : (c : ℕ) (xs ys : List ℕ) → is_in c (xs ++ ys) ≡ (is_in c xs || is_in c ys)
is_in-append c [] ys = refl
is_in-append c (x ∷ xs) ys = ap (λ b. x == c || b) (is_in-append c xs ys) ∙ sym (or_assoc (x == c) (is_in c xs) (is_in c ys))

pub is_by-append : (of : ℕ → ℕ) (id : ℕ) (xs ys : List ℕ) → is_by of id (xs ++ ys) ≡ (is_by of id xs || is_by of id ys)
is_by-append of id [] ys = refl
is_by-append of id (x ∷ xs) ys = ap (λ b. id == of x || b) (is_by-append of id xs ys) ∙ sym (or_assoc (id == of x) (is_by of id xs) (is_by of id ys))

cond_both : (a b x : Bool) → cond b false (cond a false x) ≡ cond (a || b) false x
cond_both a b x = search (cases_Bool, arith)

-- ---- one call

false_true : (b : Bool) → (b || false) ≡ false → b ≡ true → ⊥
false_true true e h = cc
false_true false e h = cc

other_record : (number j k to : ℕ) → j < records_of_one → k < records_of_one → k ≡ many_record to
    → (record_of number j == record_of number (many_record to) || false) ≡ false → (j == k) ≡ false
other_record number j k to b l is_k unused = search (same_record, or_false, arith)

owed_else : (first : Bool) (owes : List Bool) (to c : ℕ) → is_first_to c (one_queued to first) ≡ false
    → get_or (cond first (set owes to true) owes) c false ≡ get_or owes c false
owed_else true owes to c e = search (cases_eq, false_true, eq-eqb, get_or-set_other, arith)
owed_else false owes to c e = refl

owed_then : (first : Bool) (owes : List Bool) (to c : ℕ) → is_first_to c (one_queued to first) ≡ true → c < length owes
    → get_or (cond first (set owes to true) owes) c false ≡ true
owed_then true owes to c e l = search (eqb-true, or_false, get_or-set_same, arith)
owed_then false owes to c e l = cc

owes_length : (first : Bool) (owes : List Bool) (to : ℕ) → length (cond first (set owes to true) owes) ≡ length owes
owes_length true owes to = length-set owes to true
owes_length false owes to = refl

first_one : (a b : Bool) → (a || b) ≡ true → b ≡ false → a ≡ true
first_one true b e n = refl
first_one false b e n = cc

-- one after the other, to the last of both
last_then : (old mid new : CpuValue) (xs ys : List ℕ) → IsLast old mid xs → IsLast mid new ys → IsLast old new (xs ++ ys)
last_then old mid new [] [] f g = (g.0 ∙ f.0, g.1 ∙ f.1, g.2 ∙ f.2, g.3 ∙ f.3)
last_then old mid new (x ∷ xs) [] f g = (g.0 ∙ (f.0 ∙ sym g.2), g.1 ∙ (f.1 ∙ sym g.3))
last_then old mid new [] (y ∷ ys) f g = g
last_then old mid new (x ∷ xs) (y ∷ ys) f g = g

last_both : (old mid new : CpuValue) (xs ys : List Queued) → IsLast old mid (destinations xs) → IsLast mid new (destinations ys)
    → IsLast old new (destinations (xs ++ ys))
last_both old mid new xs ys f g = subst (λ (zs : List ℕ). IsLast old new zs) (sym (destinations-append xs ys))
    (last_then old mid new (destinations xs) (destinations ys) f g)

module _ {H : Type 0} (leads : H → Heard → H → Type 0) where
  pub queues_none : (c : CpuValue) (h : H) (call : ℕ → Call) → Queues leads c h c h call []
  queues_none c h call = record { leaves = leaves_none leads c h; kept = λ x e. refl; due = λ x e l. cc; last = (refl, refl, refl, refl) }

  -- the step of a post alone
  queues_post : (c : CpuValue) (h : H) (to : ℕ) (class : Class) (func info : ℕ) (first : Bool) (found : Found) → IsSized c → many_record to < records_of_one →
      Queues leads c h (posts (many_record to) to class func info first found c) h (many_call c.number class func info) (one_queued to first)
  queues_post c h to class func info first found s l = search (length-set, owes_length, locks_at, or_false, handles_same, owed_else, owed_then, arith)

  -- one queueing after the other
  pub queues_then : {old mid new : CpuValue} {before m after : H} (call : ℕ → Call) (xs ys : List Queued) → Queues leads old before mid m call xs
      → Queues leads mid m new after call ys → Queues leads old before new after call (xs ++ ys)
  queues_then {old} {mid} {new} {before} {m} {after} call xs ys f g =
      let both = leaves_then leads f.leaves g.leaves in
      let as_one =
      subst (λ (ss : List Sending). Leaves leads old before new after ss (calls_to (destinations (xs ++ ys))) (owes_at new)
      (λ k. cond (is_used call (record_of mid.number k) ys) false (confirmed_at mid k))) (sym (sendings-append call xs ys))
      (subst (λ (log : List Logged). Leaves leads old before new after (sendings call xs ++ sendings call ys) log (owes_at new)
      (λ k. cond (is_used call (record_of mid.number k) ys) false (confirmed_at mid k))) (calls_to-both xs ys) both) in
      search (leaves_as, as_one, last_both, cond_both, destinations-append, is_by-append, or_parts, firsts-append, is_in-append, cases_Bool, first_one, arith)

  -- the record was waited for before
  pub queues_one : {old mid new : CpuValue} {before m : H} (k to : ℕ) (class : Class) (func info : ℕ) (asked first : Bool) (found : Found) → asked ≡ true
      → k ≡ many_record to
      → k < records_of_one → IsSized old →
      Leaves leads old before mid m [] [] (owes_at old) (λ j. j == k || confirmed_at old j) → new ≡ posts k to class func info first found mid →
      (queued : List Queued) × (destinations queued ≡ only_if asked to) × (firsts queued ≡ only_if first to)
      × Queues leads old before new m (many_call old.number class func info) queued
  queues_one {old} {mid} {new} {before} {m} k to class func info asked first found is_asked is_k l s f e =
      let same = sized_moved old mid f.number_is f.sized s in
      let small : many_record to < records_of_one = subst (λ (j : ℕ). j < records_of_one) is_k l in
      let posted : Queues leads mid m new m (many_call old.number class func info) (one_queued to first) =
      search (queues_post mid m to class func info first found same small, arith) in
      let both = leaves_then leads f posted.leaves in (
        one_queued to first,
        ap (λ b. only_if b to) (sym is_asked),
        refl,
        search (both, posted.kept, posted.due, posted.last, by_case, other_record, arith),
      )
