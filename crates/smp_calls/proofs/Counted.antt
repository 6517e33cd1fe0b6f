-- How many steps a family makes, and how often it handles meanwhile.
use Rattle.std.proofs.Common.{arith, ◌≡◌, ℕ, suc, ◌+◌, ◌*◌, Bool, true, false, cond, Some, None, List, [], ◌∷◌, ◌++◌, length}
use Rattle.std.proofs.Common.{length-append, refl, sym, ap, subst}
use Rattle.std.proofs.lemmas.List.{append-nil}
use Rattle.smp_words.specs.declared.call.Class.{Class}
use Rattle.smp_call_steps.specs.Threads.Heads.{Found}
use Rattle.smp_queue.specs.Cpu.{CpuValue, posts, sends, notes_call}
use Rattle.smp_queue.specs.declared.handler.Heard.{Heard}
use Rattle.smp_calls.specs.Families.{Leaves, Awaits, IsLast, owes_at}
use Rattle.smp_calls.specs.Queued.{Queued, destinations, interrupts_to}
use Rattle.smp_calls.specs.Rounds.{Sends, only_if, noted_if}
use Rattle.smp_calls.specs.Turns.{LooksFor, MakesMore, HasTurns}
use Rattle.smp_calls.proofs.One.{sent_one}
use Rattle.smp_calls.proofs.Takes.{takes_none, takes_then, takes_waited}
use Rattle.smp_calls.proofs.Round.{destinations-append}

-- ---- one part

-- a wait is one look more than the takes of the interrupt word
looks_once : {H : Type 0} {k : ℕ} {old new : CpuValue} {before after : H} → Awaits k old before new after → LooksFor old new 1
looks_once a = record { turns = a.turns; tried_is = a.tried_is; apart = takes_waited a }

pub looks_none : (c : CpuValue) → LooksFor c c 0
looks_none c = record { turns = omega arith; tried_is = refl; apart = takes_none c c refl (omega arith) }

looks_then : (old mid new : CpuValue) (a b : ℕ) → LooksFor old mid a → LooksFor mid new b → LooksFor old new (a + b)
looks_then old mid new a b f g = search (takes_then, arith)

-- a wait more
pub looks_more : {H : Type 0} {k : ℕ} {m after : H} (old mid new : CpuValue) (cpu : ℕ) (xs : List ℕ) → LooksFor old mid (length xs)
    → Awaits k mid m new after → LooksFor old new (length (xs ++ cpu ∷ []))
looks_more old mid new cpu xs f a =
    subst (λ (n : ℕ). LooksFor old new n) (sym (length-append xs (cpu ∷ []))) (looks_then old mid new (length xs) 1 f (looks_once a))

makes_looked : (old new : CpuValue) (n : ℕ) → LooksFor old new n → new.log ≡ old.log ++ [] → MakesMore old new n
makes_looked old new n l e = search (append-nil, arith)

pub makes_none : (c : CpuValue) → MakesMore c c 0
makes_none c = record { steps_are = omega arith; apart = takes_none c c refl (omega arith) }

pub makes_then : (old mid new : CpuValue) (a b : ℕ) → MakesMore old mid a → MakesMore mid new b → MakesMore old new (a + b)
makes_then old mid new a b f g = search (takes_then, arith)

-- a post
makes_posted : (k to : ℕ) (class : Class) (func info : ℕ) (first : Bool) (found : Found) (c d : CpuValue) → d ≡ posts k to class func info first found c
    → MakesMore c d 5
makes_posted k to class func info first found c d e = search (takes_none, length-append, arith)

makes_sent : (to : ℕ) (c d : CpuValue) → d ≡ sends to c → MakesMore c d 0
makes_sent to c d e = search (takes_none, length-append, arith)

-- ---- a call to one CPU

-- a post, and the interrupt that is owed: nothing was done since
record Done (c d : CpuValue) : Type 0 where
  more : MakesMore c d 5
  steps_are : d.steps ≡ d.sent_at
  asked_are : length d.part.asked ≡ d.asked_at

done_one : (k to : ℕ) (class : Class) (func info : ℕ) (first : Bool) (found : Found) (c d : CpuValue) → d ≡ sent_one k to class func info first found c
    → Done c d
done_one k to class func info true found c d e =
    let posted = posts k to class func info true found c in
    let more = makes_then c posted d 5 0 (makes_posted k to class func info true found c posted refl) (makes_sent to posted d e) in
    search (more, arith)
done_one k to class func info false found c d e = search (makes_posted k to class func info false found c d e, arith)

module _ {H : Type 0} (leads : H → Heard → H → Type 0) where
  -- not waited for
  pub turns_left : {old mid new : CpuValue} {before m : H} {d : ℕ → Bool} (k to : ℕ) (class : Class) (func info : ℕ) (wait : Bool) → wait ≡ false →
      Leaves leads old before mid m [] [] (owes_at old) d → Awaits k old before mid m →
      (first : Bool) × (found : Found) × (new ≡ sent_one k to class func info first found mid) →
      HasTurns old new 1 wait
  turns_left {old} {mid} {new} k to class func info wait w l a q =
      let sent = done_one k to class func info q.0 q.1 mid new q.2 in
      let all = makes_then old mid new 1 5 (makes_looked old mid 1 (looks_once a) l.log_is) sent.more in
      subst (λ (b : Bool). HasTurns old new 1 b) (sym w) (record { all = all; since = λ some. omega (arith, sent.steps_are, sent.asked_are) })

  -- waited for
  pub turns_waited : {old mid sent new : CpuValue} {before m after : H} {d e : ℕ → Bool} (k to : ℕ) (class : Class) (func info : ℕ) (wait : Bool)
      → wait ≡ true → Leaves leads old before mid m [] [] (owes_at old) d → Awaits k old before mid m →
      (first : Bool) × (found : Found) × (sent ≡ sent_one k to class func info first found mid) →
      Leaves leads sent m new after [] [] (owes_at sent) e → Awaits k sent m new after →
      HasTurns old new 1 wait
  turns_waited {old} {mid} {sent} {new} k to class func info wait w l a q r b =
      let done = done_one k to class func info q.0 q.1 mid sent q.2 in
      let still = r.still refl in
      let all = makes_then old sent new 6 1 (makes_then old mid sent 1 5 (makes_looked old mid 1 (looks_once a) l.log_is) done.more)
      (makes_looked sent new 1 (looks_once b) r.log_is) in
      subst (λ (x : Bool). HasTurns old new 1 x) (sym w)
      (record { all = all; since = λ some. omega (arith, done.steps_are, done.asked_are, still.0, still.1, b.turns) })

-- ---- calls to many

-- these calls were queued after those
pub makes_more : (old mid new : CpuValue) (xs ys : List Queued) (to : List ℕ) → destinations ys ≡ to → MakesMore old mid (6 * length (destinations xs))
    → MakesMore mid new (6 * length to) → MakesMore old new (6 * length (destinations (xs ++ ys)))
makes_more old mid new xs ys to e f g =
    let n = ap (λ (zs : List ℕ). length zs) (destinations-append xs ys) in
    search (n, length-append, takes_then, arith)

-- a call was queued for this CPU, where it was asked for
pub makes_asked_not : (c : CpuValue) (to : ℕ) (asked : Bool) → asked ≡ false → MakesMore c c (6 * length (only_if asked to))
makes_asked_not c to asked not_asked = subst (λ b. MakesMore c c (6 * length (only_if b to))) (sym not_asked) (makes_none c)

pub makes_asked : {H : Type 0} (leads : H → Heard → H → Type 0) {old mid new : CpuValue} {before m : H} {d : ℕ → Bool} (k to : ℕ) (class : Class)
    (func info : ℕ) (first : Bool) (found : Found) (asked : Bool) → asked ≡ true → Leaves leads old before mid m [] [] (owes_at old) d
    → Awaits k old before mid m → new ≡ posts k to class func info first found mid → MakesMore old new (6 * length (only_if asked to))
makes_asked leads {old} {mid} {new} k to class func info first found asked is_asked l a e =
    subst (λ b. MakesMore old new (6 * length (only_if b to))) (sym is_asked)
    (makes_then old mid new 1 5 (makes_looked old mid 1 (looks_once a) l.log_is) (makes_posted k to class func info first found mid new e))

interrupts_to-length : (xs : List ℕ) → length (interrupts_to xs) ≡ length xs
interrupts_to-length [] = refl
interrupts_to-length (x ∷ xs) = ap suc (interrupts_to-length xs)

-- the interrupts
pub makes_sends : (old mid new : CpuValue) (n : ℕ) (xs : List ℕ) → MakesMore old mid n → Sends mid new xs → MakesMore old new n
makes_sends old mid new n xs f s = search (takes_then, takes_none, length-append, interrupts_to-length, arith)

-- a direct call, if any, counts for nothing
noted_same : {A : Type 0} (part : CpuValue → A) → ((c : CpuValue) → part (notes_call c) ≡ part c) → (c d : CpuValue) (here : Bool) (heard : Heard)
    → d ≡ noted_if (cond here (Some heard) None) c → part d ≡ part c
noted_same part same c d true heard e = search (same, arith)
noted_same part same c d false heard e = ap part e

-- where a call was queued, nothing was done since the last call or interrupt
pub last_of_some : (old new : CpuValue) (xs : List ℕ) → (xs ≡ [] → ⊥) → IsLast old new xs → (new.steps ≡ new.sent_at) × (length new.part.asked ≡ new.asked_at)
last_of_some old new [] some last = absurd (some refl)
last_of_some old new (x ∷ xs) some last = last

-- calls are queued, a direct call is made, if any, and the calls are waited for or not
pub turns_many : (old queued mid new : CpuValue) (here wait : Bool) (heard : Heard) (to : List ℕ) → MakesMore old queued (6 * length to)
    → IsLast old queued to → mid ≡ noted_if (cond here (Some heard) None) queued → LooksFor mid new (cond wait (length to) 0)
    → new.log ≡ mid.log ++ [] → (new.sent_at ≡ mid.sent_at) × (new.asked_at ≡ mid.asked_at) → HasTurns old new (length to) wait
turns_many old queued mid new true wait heard to f last n looks log still = search (last_of_some, makes_looked, takes_then, takes_none, append-nil, arith)
turns_many old queued mid new false wait heard to f last n looks log still = search (last_of_some, makes_looked, takes_then, takes_none, append-nil, arith)
