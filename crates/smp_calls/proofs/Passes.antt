-- The loops that send an interrupt to each of many CPUs, and that wait for the record of each.
use Rattle.std.proofs.Common.{arith, ◌≡◌, length, length-set, length-append, ℕ, ◌<◌, ◌==◌, ◌||◌}
use Rattle.std.proofs.Common.{◌&&◌, not, Bool, true, false, List, [], ◌∷◌, ◌++◌, append_assoc}
use Rattle.std.proofs.Common.{set, get_or, refl, sym, ap, ◌∙◌}
use Rattle.std.proofs.lemmas.Bool.{cases_eq, cases_Bool, ne_eqb, eq-eqb}
use Rattle.std.proofs.lemmas.List.{append-nil, get_or-set_other}
use Rattle.smp_mask.specs.Mask.{has, members}
use Rattle.smp_mask.specs.declared.mask.TheConstants.{NR_CPUS}
use Rattle.smp_words.specs.Size.{records_of_one}
use Rattle.smp_queue.specs.Cpu.{CpuValue, confirmed_at, sends}
use Rattle.smp_call_steps.specs.declared.known.Logged.{Logged}
use Rattle.smp_queue.specs.declared.handler.Heard.{Heard}
use Rattle.smp_calls.specs.Families.{Leaves, IsLast, owes_at}
use Rattle.smp_calls.specs.Queued.{Queued, destinations, firsts, interrupts_to}
use Rattle.smp_calls.specs.Records.{many_record}
use Rattle.smp_calls.specs.Rounds.{Sends, WaitsFor, last_of}
use Rattle.smp_calls.proofs.Steps.{leaves_none, leaves_then}
use Rattle.smp_calls.proofs.One.{and_true, or_false, same_record, set_false}
use Rattle.smp_calls.proofs.Round.{is_in-append, is_by-append}
use Rattle.smp_calls.proofs.Lists.{next_gone}
use Rattle.smp_calls.proofs.Loops.{both_true}
use Rattle.smp_call_steps.specs.declared.known.Logged.TheVariants as logged

-- these members of a mask were passed, and those left not yet
pub record Passed (all left : ℕ) (xs : List ℕ) : Type 0 where
  pub passed_are : xs ++ members left ≡ members all
  pub among : (c : ℕ) → c < NR_CPUS → has left c ≡ true → has all c ≡ true

pub passed_none : (all : ℕ) → Passed all all []
passed_none all = record { passed_are = refl; among = λ c l h. h }

pub passed_more : (all left next cpu : ℕ) (xs : List ℕ) → Passed all left xs → members left ≡ cpu ∷ members next → Passed all next (xs ++ cpu ∷ [])
passed_more all left next cpu xs p step = record {
  passed_are = append_assoc xs (cpu ∷ []) (members next) ∙ (ap (λ (ys : List ℕ). xs ++ ys) (sym step) ∙ p.passed_are);
  among = λ c l h. p.among c l (both_true (has left c) (not (c == cpu)) (sym (next_gone left next cpu c step l) ∙ h)).0;
}

pub passed_all : (all left : ℕ) (xs : List ℕ) → Passed all left xs → members left ≡ [] → xs ≡ members all
passed_all all left xs p none = sym (append-nil xs) ∙ (ap (λ (ys : List ℕ). xs ++ ys) (sym none) ∙ p.passed_are)

-- ---- sending

pub sends_none : (c : CpuValue) → Sends c c []
sends_none c = search (append-nil, and_true, arith)

interrupts_to-push : (xs : List ℕ) (x : ℕ) → interrupts_to xs ++ logged.Interrupted x ∷ [] ≡ interrupts_to (xs ++ x ∷ [])
interrupts_to-push [] x = refl
interrupts_to-push (y ∷ ys) x = ap (λ (zs : List Logged). logged.Interrupted y ∷ zs) (interrupts_to-push ys x)

-- once one more was sent, it is the last
last_of-push : (xs : List ℕ) (x now before : ℕ) → last_of (xs ++ x ∷ []) now before ≡ now
last_of-push [] x now before = refl
last_of-push (y ∷ ys) x now before = refl

all_in : (o i : Bool) → false ≡ (o && not (i || true))
all_in o i = search (cases_Bool, arith)

owed_after : (owes : List Bool) (cpu c : ℕ) (o i : Bool) → get_or owes c false ≡ (o && not i)
    → get_or (set owes cpu false) c false ≡ (o && not (i || (cpu == c || false)))
owed_after owes cpu c o i e = search (cases_eq, eq-eqb, set_false, all_in, ne_eqb, get_or-set_other, or_false, arith)

pub sends_more : (old mid new : CpuValue) (cpu : ℕ) (xs : List ℕ) → Sends old mid xs → new ≡ sends cpu mid → Sends old new (xs ++ cpu ∷ [])
sends_more old mid new cpu xs s e = search (append_assoc, interrupts_to-push, last_of-push, length-append, length-set, owed_after, is_in-append, arith)

-- what was sent last, once interrupts are sent for calls that were queued
last_sent : (old mid new : CpuValue) (sent : List ℕ) → (mid.steps ≡ mid.sent_at) × (length mid.part.asked ≡ mid.asked_at) → Sends mid new sent
    → (new.steps ≡ new.sent_at) × (length new.part.asked ≡ new.asked_at)
last_sent old mid new [] last s = search (s, arith)
last_sent old mid new (x ∷ xs) last s = search (s, arith)

pub queued_and_sent : (old mid new : CpuValue) (queued : List Queued) → IsLast old mid (destinations queued) → Sends mid new (firsts queued)
    → IsLast old new (destinations queued)
queued_and_sent old mid new [] last s = search (s, arith)
queued_and_sent old mid new (q ∷ qs) last s = last_sent old mid new (firsts (q ∷ qs)) last s

-- ---- waiting

turned : (b a o : Bool) → (b || (a || o)) ≡ ((a || (b || false)) || o)
turned b a o = search (cases_Bool, arith)

module _ {H : Type 0} (leads : H → Heard → H → Type 0) where
  pub waits_none : (c : CpuValue) (h : H) → WaitsFor leads c h c h [] true
  waits_none c h = leaves_none leads c h

  pub waits_more : {old mid new : CpuValue} {before m after : H} (k cpu : ℕ) (xs : List ℕ) → k ≡ many_record cpu → k < records_of_one →
      WaitsFor leads old before mid m xs true →
      Leaves leads mid m new after [] [] (owes_at mid) (λ j. j == k || confirmed_at mid j) →
      WaitsFor leads old before new after (xs ++ cpu ∷ []) true
  waits_more {old} {mid} k cpu xs is_k small f g =
      let both = leaves_then leads f g in
      search (both, f.confirmed_are, turned, same_record, is_by-append, or_false, arith)
