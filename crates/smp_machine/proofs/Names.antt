-- Calls by Linux's names: of each CPU of a mask, and of all.
use Rattle.std.proofs.Common.{◌≡◌, ℕ, ◌<◌, Bool, true, false, not, ◌&&◌, ◌||◌, ◌==◌, Result, Ok, Err, IfOk, inl, inr, refl, sym, ◌∙◌}
use Rattle.std.proofs.lemmas.Bool.{cases_Bool}
use Rattle.smp_words.specs.Size.{cpus}
use Rattle.smp_mask.specs.Mask.{has}
use Rattle.smp_mask.specs.declared.error.SmpError.{SmpError}
use Rattle.smp_queue.specs.declared.handler.Heard.{Heard}
use Rattle.smp_calls.specs.Rounds.{Picks}
use Rattle.smp_calls.specs.Targets.{is_target}
use Rattle.smp_machine.specs.Answers.{CondAnswers, EachAnswers}
use Rattle.smp_machine.specs.MachineCpu.{MachineValue, MachineCpuValue}

-- where each CPU that is asked says yes, all that are asked are called
pub each_is_called : (says : ℕ → Bool → Type 0) (asked : ℕ → Bool) (called : ℕ) → ((c : ℕ) (answer : Bool) → says c answer → answer ≡ true)
    → ((c : ℕ) → asked c ≡ true → c < cpus) → Picks says asked called → (c : ℕ) → has called c ≡ asked c
each_is_called says asked called agrees below picks c = elim (cases_Bool (asked c)) [
  | inl there ↦ agrees c (has called c) (picks.answered c (below c there) there) ∙ sym there
  | inr other ↦ elim (cases_Bool (has called c)) [
    | inl in_it ↦ in_it ∙ sym (picks.among c in_it)
    | inr out ↦ out ∙ sym other
  ]
]

-- so a call of each that a condition holds of is one of each, where the condition holds of all
pub each_of_cond : {H : Type 0} (leads : H → Heard → H → Type 0) (m : MachineValue) (old : MachineCpuValue) (before : H) (new : MachineCpuValue) (after : H)
    (says : ℕ → Bool → Type 0) (mask func info : ℕ) (wait : Bool) (result : Result ℕ SmpError)
    → ((c : ℕ) (answer : Bool) → says c answer → answer ≡ true) → ((c : ℕ) → is_target mask m.calls.online old.calls.number true c ≡ true → c < cpus)
    → CondAnswers leads m old before new after says mask func info wait result → EachAnswers leads m old before new after mask func info wait result
each_of_cond leads m old before new after says mask func info wait (Ok called) agrees below a = record {
  free = a.free;
  targets = each_is_called says (is_target mask m.calls.online old.calls.number true) called agrees below a.picks;
  calls = a.calls;
  turns = a.turns;
  ended = a.ended;
  refused = a.refused;
  kept = a.kept;
}
each_of_cond leads m old before new after says mask func info wait (Err e) agrees below a = record {
  free = a.free;
  targets = tt;
  calls = a.calls;
  turns = a.turns;
  ended = a.ended;
  refused = a.refused;
  kept = a.kept;
}

-- the online CPUs of all that are online are these, with this one or without
same_target : (there here : Bool) → ((there && there) && not here) || ((true && there) && here) ≡ there
same_target true true = refl
same_target true false = refl
same_target false true = refl
same_target false false = refl

pub all_are_targets : (online this c : ℕ) → is_target online online this true c ≡ has online c
all_are_targets online this c = same_target (has online c) (c == this)

-- a target is below a bound, where those that are online are, and this CPU is
pub target_below : (c bound : ℕ) (there online here : Bool) → (online ≡ true → c < bound) → (here ≡ true → c < bound)
    → ((there && online) && not here) || ((true && there) && here) ≡ true → c < bound
target_below c bound true true true low own h = own refl
target_below c bound true true false low own h = low refl
target_below c bound true false true low own h = own refl
target_below c bound true false false low own h = absurd (cc h)
target_below c bound false true true low own h = absurd (cc h)
target_below c bound false true false low own h = absurd (cc h)
target_below c bound false false true low own h = absurd (cc h)
target_below c bound false false false low own h = absurd (cc h)

-- so where each is called, these are all that are online
pub all_called : ((a b : ℕ) → ((c : ℕ) → has a c ≡ has b c) → a ≡ b) → (online this : ℕ) (result : Result ℕ SmpError)
    → IfOk result (λ called. (c : ℕ) → has called c ≡ is_target online online this true c) → IfOk result (λ called. called ≡ online)
all_called sets online this (Ok called) targets = sets called online (λ c. targets c ∙ all_are_targets online this c)
all_called sets online this (Err e) targets = tt
