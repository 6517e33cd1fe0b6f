-- What calls of the families answer to a CPU that has no work in hand.
use Rattle.std.proofs.Common.{◌≡◌, ◌≢◌, ℕ, ◌≤◌, ◌⊎◌, inl, inr, ◌&&◌, Bool, true, false, None, Result, Ok, Err, IfOk, IfErr, refl, sym, subst, arith}
use Rattle.std.proofs.lemmas.Bool.{cases_eq}
use Rattle.smp_mask.specs.Mask.{has}
use Rattle.smp_mask.specs.declared.error.SmpError.{SmpError}
use Rattle.smp_mask.specs.declared.error.SmpError.TheVariants as error
use Rattle.smp_calls.specs.Families.{RefusesUser}
use Rattle.smp_calls.specs.Rounds.{Picks}
use Rattle.smp_calls.specs.Targets.{IsAny, HasNone}
use Rattle.smp_machine.specs.Calls.{RefusedInHand}
use Rattle.smp_machine.specs.MachineCpu.{MachineCpuValue}
use Rattle.smp_run.specs.Answers.{answer_of, call_refusal, IsAnyAnswer, IsCpus, IsDone, IsRefusedOr}
use Rattle.smp_run.specs.declared.answer.Answer.TheVariants.{Done, Cpu, Cpus, Refused}
use Rattle.smp_run.proofs.Picking.{picked}

-- a refusal for a work in hand comes to none that has none
pub not_in_hand : {H : Type 0} (e : SmpError) (old new : MachineCpuValue) (h h' : H) → old.stops.inside ≡ None → RefusedInHand e old h new h' → ⊥
not_in_hand e old new h h' free r = r.in_hand free

is_made : (online dst : ℕ) → has online dst ≡ true → IsRefusedOr (call_refusal online dst) IsDone Done
is_made online dst there = rw there refl

pub not_made : (online dst : ℕ) (e : SmpError) → e ≡ error.NoCpu → has online dst ≡ false → IsRefusedOr (call_refusal online dst) IsDone (Refused e)
not_made online dst e is off = rw (off, is) refl

-- to the own CPU, or to another
pub call_made : (online dst this : ℕ) (Q : Type 0) → has online this ≡ true → (dst ≢ this → (has online dst ≡ true) × Q)
    → IsRefusedOr (call_refusal online dst) IsDone Done
call_made online dst this Q here there = elim (cases_eq dst this) [
  | inl e ↦ is_made online dst (subst (λ (x : ℕ). has online x ≡ true) (sym e) here)
  | inr other ↦ is_made online dst (there other).0
]

pub single_answered : {H : Type 0} (online dst this : ℕ) (old new : MachineCpuValue) (h h' : H) (Q R : Type 0) (made : Result (Unit {0}) SmpError)
    → has online this ≡ true → old.stops.inside ≡ None → IfOk made (λ _. dst ≢ this → (has online dst ≡ true) × Q)
    → IfErr made (λ e. RefusedInHand e old h new h' ⊎ ((old.stops.inside ≡ None) × (e ≡ error.NoCpu) × (dst ≢ this) × (has online dst ≡ false) × R))
    → IsRefusedOr (call_refusal online dst) IsDone (answer_of (λ _. Done) made)
single_answered online dst this old new h h' Q R (Ok u) here free ok err = call_made online dst this Q here ok
single_answered online dst this old new h h' Q R (Err e) here free ok (inl held) = absurd (held.in_hand free)
single_answered online dst this old new h h' Q R (Err e) here free ok (inr (_, is, other, off, r)) = not_made online dst e is off

-- by a record of the user: E2 is answered by none
pub user_refused : {H : Type 0} (online u dst : ℕ) (old new : MachineCpuValue) (h h' : H) (e : SmpError) → u ≤ 1 → old.stops.inside ≡ None → e ≢ error.Busy
    → RefusedInHand e old h new h' ⊎ ((old.stops.inside ≡ None) × RefusesUser online old.calls new.calls u dst e × (h' ≡ h))
    → IsRefusedOr (call_refusal online dst) IsDone (Refused e)
user_refused online u dst old new h h' e few free other (inl held) = absurd (held.in_hand free)
user_refused online u dst old new h h' error.NoCpu few free other (inr (_, r, same)) = not_made online dst error.NoCpu refl r.2
user_refused online u dst old new h h' error.Busy few free other (inr (_, r, same)) = absurd (other refl)
user_refused online u dst old new h h' error.BadArgument few free other (inr (_, r, same)) = absurd (omega (arith, r.0, few))
user_refused online u dst old new h h' error.NoStopper few free other (inr (_, r, same)) = absurd r
user_refused online u dst old new h h' error.Contended few free other (inr (_, r, same)) = absurd r
user_refused online u dst old new h h' error.NoMemory few free other (inr (_, r, same)) = absurd r
user_refused online u dst old new h h' error.Stale few free other (inr (_, r, same)) = absurd r
user_refused online u dst old new h h' error.SlotBusy few free other (inr (_, r, same)) = absurd r
user_refused online u dst old new h h' (error.BadScript n cause) few free other (inr (_, r, same)) = absurd r
user_refused online u dst old new h h' error.IdleStep few free other (inr (_, r, same)) = absurd r
user_refused online u dst old new h h' (error.BadMask n) few free other (inr (_, r, same)) = absurd r
user_refused online u dst old new h h' (error.StreamFailed n) few free other (inr (_, r, same)) = absurd r
user_refused online u dst old new h h' (error.KeyRange n) few free other (inr (_, r, same)) = absurd r

pub any_answered : {H : Type 0} (mask online this : ℕ) (old new : MachineCpuValue) (h h' : H) (Q R : Type 0) (made : Result ℕ SmpError)
    → old.stops.inside ≡ None
    → IfOk made (λ cpu. IsAny mask online this cpu)
    → IfErr made (λ e. RefusedInHand e old h new h' ⊎ ((old.stops.inside ≡ None) × (e ≡ error.NoCpu) × HasNone mask online this × Q × R))
    → IsAnyAnswer mask online this (answer_of Cpu made)
any_answered mask online this old new h h' Q R (Ok cpu) free ok err = ok
any_answered mask online this old new h h' Q R (Err e) free ok (inl held) = absurd (held.in_hand free)
any_answered mask online this old new h h' Q R (Err e) free ok (inr (_, is, none, q, r)) =
    subst (λ (x : SmpError). IsAnyAnswer mask online this (Refused x)) (sym is) none

pub many_answered : {H : Type 0} (target : ℕ → Bool) (old new : MachineCpuValue) (h h' : H) (made : Result ℕ SmpError) → old.stops.inside ≡ None
    → IfOk made (λ called. (c : ℕ) → has called c ≡ target c) → IfErr made (λ e. RefusedInHand e old h new h') → IsCpus target (answer_of Cpus made)
many_answered target old new h h' (Ok called) free ok err = λ c below. ok c
many_answered target old new h h' (Err e) free ok err = absurd (err.in_hand free)

pub cond_answered : {H : Type 0} (asked says : ℕ → Bool) (old new : MachineCpuValue) (h h' : H) (made : Result ℕ SmpError) → old.stops.inside ≡ None
    → IfOk made (λ called. Picks (λ c answer. answer ≡ says c) asked called) → IfErr made (λ e. RefusedInHand e old h new h')
    → IsCpus (λ c. asked c && says c) (answer_of Cpus made)
cond_answered asked says old new h h' (Ok called) free ok err = picked asked says called ok
cond_answered asked says old new h h' (Err e) free ok err = absurd (err.in_hand free)
