-- A call to many handles nothing before its last interrupt, where all its records are seen confirmed.
use Rattle.std.proofs.Common.{arith, ◌≡◌, ℕ, ◌<◌, ◌==◌, not, Bool, true, false, cond, List, [], ◌∷◌, ◌||◌, refl, sym, ap, ◌∙◌}
use Rattle.std.proofs.lemmas.Bool.{ne_eqb, eq-eqb}
use Rattle.smp_mask.specs.Mask.{has, members}
use Rattle.smp_mask.specs.declared.mask.TheConstants.{NR_CPUS}
use Rattle.smp_words.proofs.Sizes.{one_local}
use Rattle.smp_words.specs.declared.call.Class.{Class}
use Rattle.smp_call_steps.specs.Threads.Heads.{Found}
use Rattle.smp_queue.specs.Cpu.{CpuValue, confirmed_at, posts}
use Rattle.smp_queue.specs.declared.handler.Heard.{Heard}
use Rattle.smp_calls.specs.Families.{AreConfirmed, Awaits, HandlesNone}
use Rattle.smp_calls.specs.Queued.{Queued, destinations, is_by}
use Rattle.smp_calls.specs.Records.{many_call, many_record}
use Rattle.smp_calls.specs.Rounds.{only_if, Queues, Sends}
use Rattle.smp_calls.proofs.Lawful.{small_many, are_apart}
use Rattle.smp_calls.proofs.Lists.{next_gone}
use Rattle.smp_calls.proofs.Loops.{both_true, not_true}
use Rattle.smp_calls.proofs.Polling.{differ}

-- where the records of all others were seen confirmed, a CPU has handled nothing yet, and those of the CPUs left are so still
pub record Quiet {H : Type 0} (old : CpuValue) (before : H) (now : CpuValue) (here : H) (others left : ℕ) : Type 0 where
  pub handled : AreConfirmed old (has others) → HandlesNone old now × (here ≡ before)
  pub confirmed : AreConfirmed old (has others) → (c : ℕ) → c < NR_CPUS → has left c ≡ true → confirmed_at now (many_record c) ≡ true

pub none_handled : (c : CpuValue) → HandlesNone c c
none_handled c = record { asked_is = refl; taken_is = refl; ran_is = refl }

none_then : (old mid new : CpuValue) → HandlesNone old mid → HandlesNone mid new → HandlesNone old new
none_then old mid new f g = search arith

-- no interrupt that is sent handles anything
pub none_sent : (old mid new : CpuValue) (xs : List ℕ) → HandlesNone old mid → Sends mid new xs → HandlesNone old new
none_sent old mid new xs n s = search arith

-- the wait for a record that is seen confirmed is one look, and the post after it handles nothing
pub queued_at_once : {H : Type 0} (old mid new : CpuValue) (before m : H) (k to : ℕ) (class : Class) (func info : ℕ) (first : Bool) (found : Found)
    → Awaits k old before mid m → new ≡ posts k to class func info first found mid → confirmed_at old k ≡ true → HandlesNone old new × (m ≡ before)
queued_at_once old mid new before m k to class func info first found w e confirmed = search (w.at_once confirmed, arith)

-- no call for this CPU is by this record
pub last_none : (of : ℕ → ℕ) (id k : ℕ) (b : Bool) → (b ≡ true → id ≡ of k → ⊥) → is_by of id (cond b (k ∷ []) []) ≡ false
last_none of id k true none = ap (λ b. b || false) (ne_eqb id (of k) (none refl))
last_none of id k false none = refl

pub quiet_start : {H : Type 0} (c : CpuValue) (h : H) (others : ℕ) → Quiet c h c h others others
quiet_start c h others = record { handled = λ all. (none_handled c, refl); confirmed = λ all x l here. all x here }

module _ {H : Type 0} (leads : H → Heard → H → Type 0) where
  -- a call for one CPU leaves the records for the others as they were
  others_kept : {mid new : CpuValue} {m after : H} (class : Class) (func info cpu c : ℕ) (asked : Bool) (queued : List Queued)
      → destinations queued ≡ only_if asked cpu → Queues leads mid m new after (many_call mid.number class func info) queued
      → cpu < NR_CPUS → c < NR_CPUS → (c ≡ cpu → ⊥) → confirmed_at new (many_record c) ≡ confirmed_at mid (many_record c)
  others_kept {mid} class func info cpu c asked queued to q below l other =
      search (q.leaves.confirmed_are, last_none, are_apart.many, one_local, small_many, arith)

  -- one more was asked for, and called if so
  pub quiet_more : {old mid new : CpuValue} {before m after : H} (class : Class) (func info others left next cpu : ℕ) (asked : Bool)
      (queued : List Queued) → Quiet old before mid m others left →
      members left ≡ cpu ∷ members next → cpu < NR_CPUS → has left cpu ≡ true →
      destinations queued ≡ only_if asked cpu → Queues leads mid m new after (many_call mid.number class func info) queued →
      (confirmed_at mid (many_record cpu) ≡ true → HandlesNone mid new × (after ≡ m)) →
      Quiet old before new after others next
  quiet_more {old} {mid} {new} class func info others left next cpu asked queued q step below here to queues at_once = record {
    handled = λ all.
        let was = q.handled all in
        let now = at_once (q.confirmed all cpu below here) in (none_then old mid new was.0 now.0, now.1 ∙ was.1);
    confirmed = λ all c l h.
        let both = both_true (has left c) (not (c == cpu)) (sym (next_gone left next cpu c step l) ∙ h) in
        let another : c ≡ cpu → ⊥ = λ e. differ (c == cpu) (eq-eqb c cpu e) (not_true (c == cpu) both.1) in
        others_kept class func info cpu c asked queued to queues below l another ∙ q.confirmed all c l both.0;
  }
