-- A call by one record: queued, and its interrupt sent.
use Rattle.std.proofs.Common.{◌≡◌, ℕ, zero, suc, ◌<◌, ◌==◌, ◌||◌, ◌&&◌, not, Bool, true, false, cond, List, [], ◌∷◌, length-set, set, get_or, refl, ap}
use Rattle.std.proofs.Common.{◌∙◌, append_assoc, arith}
use Rattle.std.proofs.lemmas.Bool.{cases_eq, cases_Bool, ne_eqb, eq-eqb}
use Rattle.std.proofs.lemmas.List.{get_or-set_other}
use Rattle.smp_words.proofs.Sizes.{one_local}
use Rattle.smp_words.specs.Size.{records_of_one, record_of}
use Rattle.smp_words.specs.declared.call.Class.{Class}
use Rattle.smp_call_steps.specs.Threads.Heads.{Found}
use Rattle.smp_queue.specs.Cpu.{CpuValue, confirmed_at, posts, sends}
use Rattle.smp_queue.specs.declared.handler.Heard.{Heard}
use Rattle.smp_calls.specs.Families.{IsSized, Leaves, Calls, CallsBy, CallsOne, owes_at}
use Rattle.smp_calls.specs.Queued.{Queued, sendings, calls_and_interrupts, is_first_to}
use Rattle.smp_calls.specs.Records.{call_by, single_record, class_for}
use Rattle.smp_calls.proofs.Turns.{handles_same}
use Rattle.smp_calls.proofs.Steps.{set_here, set_else, leaves_as, leaves_then, leaves_last, sized_moved}

pub and_true : (b : Bool) → (b && true) ≡ b
and_true b = search (cases_Bool, arith)

pub and_false : (b : Bool) → (b && false) ≡ false
and_false b = search (cases_Bool, arith)

pub or_false : (b : Bool) → (b || false) ≡ b
or_false b = search (cases_Bool, arith)

-- false is what is there, or would be where nothing is
pub set_false : (xs : List Bool) (i : ℕ) → get_or (set xs i false) i false ≡ false
set_false [] i = refl
set_false (x ∷ xs) zero = refl
set_false (x ∷ xs) (suc i) = set_false xs i

-- whether two local numbers of one CPU are the same record
pub same_record : (number j k : ℕ) → j < records_of_one → k < records_of_one → (record_of number j == record_of number k) ≡ (j == k)
same_record number j k b l = search (cases_eq, eq-eqb, ne_eqb, one_local, arith)

-- whether a record is confirmed once another one is locked
pub locks_at : (c : CpuValue) (k j : ℕ) → IsSized c → k < records_of_one → j < records_of_one
    → get_or (set c.part.confirmed (record_of c.number k) false) (record_of c.number j) false
    ≡ cond (record_of c.number j == record_of c.number k) false (confirmed_at c j)
locks_at c k j s l b = search (cases_eq, eq-eqb, set_here, one_local, ne_eqb, set_else, arith)

-- what is owed once a CPU was sent an interrupt, whether it was owed one or not
owed_at : (owes : List Bool) (to x : ℕ) → get_or (set (set owes to true) to false) x false ≡ (get_or owes x false && not (to == x || false))
owed_at owes to x = search (cases_eq, eq-eqb, set_false, and_false, ne_eqb, get_or-set_other, and_true, arith)

-- the CPU after one call was queued, with what it has found in the head, and its interrupt sent
abbrev pub sent_one : ℕ → ℕ → Class → ℕ → ℕ → Bool → Found → CpuValue → CpuValue
sent_one k to class func info first found c = let posted = posts k to class func info first found c in cond first (sends to posted) posted

abbrev pub one_queued : ℕ → Bool → List Queued
one_queued to first = record { to = to; is_first = first } ∷ []

-- the records of a CPU once one is locked
locked : (c : CpuValue) (number k j : ℕ) → IsSized c → k < records_of_one → j < records_of_one → c.number ≡ number
    → get_or (set c.part.confirmed (record_of c.number k) false) (record_of c.number j) false ≡ cond (j == k) false (confirmed_at c j)
locked c number k j s l b n = locks_at c k j s l b ∙ ap (λ x. cond x false (confirmed_at c j)) (same_record c.number j k b l)

or_cond : (b x : Bool) → (b || cond b false x) ≡ cond b true x
or_cond b x = search (cases_Bool, arith)

pub by_case : (is wait m o : Bool) → (is ≡ false → m ≡ o) → cond is wait m ≡ cond is wait o
by_case true wait m o e = refl
by_case false wait m o e = e refl

module _ {H : Type 0} (leads : H → Heard → H → Type 0) where
  leaves_sent : (first : Bool) (found : Found) (c : CpuValue) (h : H) (k to : ℕ) (class : Class) (func info : ℕ) → IsSized c → k < records_of_one →
      Leaves leads c h (sent_one k to class func info first found c) h (sendings (λ _. call_by c.number k class func info) (one_queued to first))
      (calls_and_interrupts (one_queued to first))
      (λ x. owes_at c x && not (is_first_to x (one_queued to first))) (λ j. cond (j == k) false (confirmed_at c j))
  leaves_sent true found c h k to class func info s l = search (length-set, append_assoc, owed_at, locked, handles_same, arith)
  leaves_sent false found c h k to class func info s l = search (length-set, and_true, locked, handles_same, arith)

  -- the same of a CPU with this number that has become another one
  pub leaves_one : (c d : CpuValue) (h : H) (number k to : ℕ) (class : Class) (func info : ℕ) (first : Bool) (found : Found) → IsSized c
      → k < records_of_one → c.number ≡ number → d ≡ sent_one k to class func info first found c →
      Leaves leads c h d h (sendings (λ _. call_by number k class func info) (one_queued to first)) (calls_and_interrupts (one_queued to first))
      (λ x. owes_at c x && not (is_first_to x (one_queued to first))) (λ j. cond (j == k) false (confirmed_at c j))
  leaves_one c d h number k to class func info first found s l n e = search (leaves_sent first found c h k to class func info s l, arith)

  -- the record and the class of a call are those that its waiting asks for
  said : {old new : CpuValue} {before after : H} (k : ℕ) (class : Class) (func info : ℕ) (queued : List Queued) (wait b : Bool) → wait ≡ b
      → k ≡ single_record wait → class ≡ class_for wait →
      Calls leads old before new after (λ _. call_by old.number k class func info) queued b →
      Calls leads old before new after (λ _. call_by old.number (single_record wait) (class_for wait) func info) queued wait
  said {old} {new} {before} {after} k class func info queued wait b w is_k is_class made = search arith

  -- a record is waited for, a call is queued by it, and where it is to be waited for, that too
  pub calls_one : {old mid new : CpuValue} {before m after : H} (k to : ℕ) (class : Class) (func info : ℕ) (first wait : Bool) (was : ℕ → Bool)
      (done : ℕ → Bool) → k < records_of_one →
      Leaves leads old before mid m [] [] (owes_at old) was →
      ((j : ℕ) → j < records_of_one → (j == k) ≡ false → was j ≡ confirmed_at old j) →
      Leaves leads mid m new after (sendings (λ _. call_by old.number k class func info) (one_queued to first)) (calls_and_interrupts (one_queued to first))
      (λ x. owes_at mid x && not (is_first_to x (one_queued to first))) done →
      ((j : ℕ) → j < records_of_one → done j ≡ cond (j == k) wait (confirmed_at mid j)) →
      Calls leads old before new after (λ _. call_by old.number k class func info) (one_queued to first) wait
  calls_one {old} {mid} k to class func info first wait was done l f kept g ends =
      search (leaves_then leads f g, by_case, same_record, or_false, arith)

  -- a call to one CPU by a record, not waited for
  pub calls_by : {old mid new : CpuValue} {before m : H} (k to : ℕ) (class : Class) (func info : ℕ) → k < records_of_one → IsSized old →
      Leaves leads old before mid m [] [] (owes_at old) (λ j. j == k || confirmed_at old j) →
      (first : Bool) × (found : Found) × (new ≡ sent_one k to class func info first found mid) →
      CallsBy leads old before new m k class to func info false
  calls_by {old} {mid} {new} {before} {m} k to class func info l s f q =
      let same = sized_moved old mid f.number_is f.sized s in
      let g = leaves_one mid new m old.number k to class func info q.0 q.1 same l f.number_is q.2 in (
        one_queued to q.0,
        refl,
        calls_one k to class func info q.0 false (λ j. j == k || confirmed_at old j) (λ j. cond (j == k) false (confirmed_at mid j)) l f
            (λ j b n. ap (λ x. x || confirmed_at old j) n) g (λ j b. refl),
      )

  -- by the record that its waiting asks for
  pub calls_left : {old mid new : CpuValue} {before m : H} (k to : ℕ) (class : Class) (func info : ℕ) (wait : Bool) → wait ≡ false → k ≡ single_record wait
      → class ≡ class_for wait → k < records_of_one → IsSized old →
      Leaves leads old before mid m [] [] (owes_at old) (λ j. j == k || confirmed_at old j) →
      (first : Bool) × (found : Found) × (new ≡ sent_one k to class func info first found mid) →
      CallsOne leads old before new m to func info wait
  calls_left k to class func info wait w is_k is_class l s f q =
      let made = calls_by k to class func info l s f q in
      (made.0, made.1, said k class func info made.0 wait false w is_k is_class made.2)

  -- one that is
  pub calls_waited : {old mid sent new : CpuValue} {before m after : H} (k to : ℕ) (class : Class) (func info : ℕ) (wait : Bool) → wait ≡ true
      → k ≡ single_record wait → class ≡ class_for wait → k < records_of_one → IsSized old →
      Leaves leads old before mid m [] [] (owes_at old) (λ j. j == k || confirmed_at old j) →
      (first : Bool) × (found : Found) × (sent ≡ sent_one k to class func info first found mid) →
      Leaves leads sent m new after [] [] (owes_at sent) (λ j. j == k || confirmed_at sent j) →
      CallsOne leads old before new after to func info wait
  calls_waited {old} {mid} {sent} {new} {before} {m} {after} k to class func info wait w is_k is_class l s f q h =
      let same = sized_moved old mid f.number_is f.sized s in
      let g = leaves_one mid sent m old.number k to class func info q.0 q.1 same l f.number_is q.2 in
      let g' = leaves_as leads (λ x. owes_at mid x && not (is_first_to x (one_queued to q.0))) (λ j. j == k || confirmed_at sent j)
      (leaves_last leads (leaves_then leads g h)) g.owes_are (λ j b. refl) in
      let made : Calls leads old before new after (λ _. call_by old.number k class func info) (one_queued to q.0) true =
      calls_one k to class func info q.0 true (λ j. j == k || confirmed_at old j) (λ j. j == k || confirmed_at sent j) l f
      (λ j b n. ap (λ x. x || confirmed_at old j) n) g' (λ j b. ap (λ x. j == k || x) (g.confirmed_are j b) ∙ or_cond (j == k) (confirmed_at mid j)) in
      (one_queued to q.0, refl, said k class func info (one_queued to q.0) wait true w is_k is_class made)
