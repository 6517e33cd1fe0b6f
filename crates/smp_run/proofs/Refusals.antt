-- What calls of the machine answer, and why they are refused, to a CPU that has no work in hand.
use Rattle.std.proofs.Common.{◌≡◌, ◌≢◌, ℕ, ℤ, pos, ◌<◌, inl, inr, ◌==◌, Bool, true, false, nat_lt, None, Result, Ok, Err, IfOk, IfErr}
use Rattle.std.proofs.Common.{ap, refl, subst}
use Rattle.std.proofs.Math.Bool.{and-false}
use Rattle.std.proofs.lemmas.Bool.{eq-eqb, ne_eqb, lt-ltb, le-ltb}
use Rattle.smp_mask.specs.Mask.{has}
use Rattle.smp_mask.specs.declared.error.SmpError.{SmpError}
use Rattle.smp_mask.specs.declared.error.SmpError.TheVariants as error
use Rattle.smp_queue.specs.declared.handler.Heard.{Heard}
use Rattle.smp_machine.specs.Counts.{CountsOr}
use Rattle.smp_machine.specs.Keys.{MayChange, RefusesKey}
use Rattle.smp_machine.specs.MachineCpu.{MachineCpuValue}
use Rattle.smp_machine.specs.Stops.{RefusesOne, RefusesTwo}
use Rattle.smp_multi.specs.Cpu.{TableValue}
use Rattle.smp_multi.specs.Nudges.{end_of}
use Rattle.smp_multi.specs.declared.func.Called.{Called}
use Rattle.smp_run.specs.Answers.{answer_of, IsCount, IsStopAnswer, IsRefusedOr, IsTruth, key_refusal, one_refusal, two_refusal}
use Rattle.smp_run.specs.declared.answer.Answer.{Answer}
use Rattle.smp_run.specs.declared.answer.Answer.TheVariants.{Number, Turned, Refused}

refused_one : (t : TableValue) (old : MachineCpuValue) (dst : ℕ) (Fine : Answer → Type 0) (e : SmpError) → old.stops.inside ≡ None → RefusesOne t old dst e
    → IsRefusedOr (one_refusal t.setting.online dst) Fine (Refused e)
refused_one t old dst Fine error.NoStopper free r = rw r.1 refl
refused_one t old dst Fine error.BadArgument free r = absurd (r free)
refused_one t old dst Fine error.NoCpu free r = absurd r
refused_one t old dst Fine error.Busy free r = absurd r
refused_one t old dst Fine error.Contended free r = absurd r
refused_one t old dst Fine error.NoMemory free r = absurd r
refused_one t old dst Fine error.Stale free r = absurd r
refused_one t old dst Fine error.SlotBusy free r = absurd r
refused_one t old dst Fine (error.BadScript n cause) free r = absurd r
refused_one t old dst Fine error.IdleStep free r = absurd r
refused_one t old dst Fine (error.BadMask k) free r = absurd r
refused_one t old dst Fine (error.StreamFailed k) free r = absurd r
refused_one t old dst Fine (error.KeyRange k) free r = absurd r

pub one_answered : (t : TableValue) (old : MachineCpuValue) (this dst arg online : ℕ) (made : Result ℤ SmpError) → t.setting.online ≡ online
    → old.stops.inside ≡ None → IfOk made (λ _. has t.setting.online dst ≡ true) → IfOk made (λ v. dst ≡ this → v ≡ pos arg)
    → IfErr made (λ e. RefusesOne t old dst e) → IsRefusedOr (one_refusal online dst) (IsStopAnswer (dst ≡ this) arg) (answer_of Number made)
one_answered t old this dst arg online (Ok v) same free ok own err = rw (← same, ok) (tt, λ e. ap Number (own e))
one_answered t old this dst arg online (Err e) same free ok own err =
    subst (λ (x : ℕ). IsRefusedOr (one_refusal x dst) (IsStopAnswer (dst ≡ this) arg) (Refused e)) same
    (refused_one t old dst (IsStopAnswer (dst ≡ this) arg) e free err)

refused_two : (t : TableValue) (old : MachineCpuValue) (a b : ℕ) (Fine : Answer → Type 0) (e : SmpError) → old.stops.inside ≡ None → RefusesTwo t old a b e
    → IsRefusedOr (two_refusal t.setting.online a b) Fine (Refused e)
refused_two t old a b Fine error.NoStopper free (_, other, inl off) = let e : (a == b) ≡ false = ne_eqb a b other in rw (e, off) refl
refused_two t old a b Fine error.NoStopper free (_, other, inr off) = let e : (a == b) ≡ false = ne_eqb a b other in
    rw (e, off, and-false (has t.setting.online a)) refl
refused_two t old a b Fine error.BadArgument free (inl inside) = absurd (inside free)
refused_two t old a b Fine error.BadArgument free (inr same) = rw (same, eq-eqb b b refl) refl
refused_two t old a b Fine error.NoCpu free r = absurd r
refused_two t old a b Fine error.Busy free r = absurd r
refused_two t old a b Fine error.Contended free r = absurd r
refused_two t old a b Fine error.NoMemory free r = absurd r
refused_two t old a b Fine error.Stale free r = absurd r
refused_two t old a b Fine error.SlotBusy free r = absurd r
refused_two t old a b Fine (error.BadScript n cause) free r = absurd r
refused_two t old a b Fine error.IdleStep free r = absurd r
refused_two t old a b Fine (error.BadMask k) free r = absurd r
refused_two t old a b Fine (error.StreamFailed k) free r = absurd r
refused_two t old a b Fine (error.KeyRange k) free r = absurd r

pub two_answered : (t : TableValue) (old : MachineCpuValue) (this a b arg online : ℕ) (made : Result ℤ SmpError) → t.setting.online ≡ online
    → old.stops.inside ≡ None → IfOk made (λ _. (a ≢ b) × (has t.setting.online a ≡ true) × (has t.setting.online b ≡ true))
    → IfOk made (λ v. a ≡ this → v ≡ pos arg) → IfErr made (λ e. RefusesTwo t old a b e)
    → IsRefusedOr (two_refusal online a b) (IsStopAnswer (a ≡ this) arg) (answer_of Number made)
two_answered t old this a b arg online (Ok v) same free ok own err =
    let e : (a == b) ≡ false = ne_eqb a b ok.0 in rw (← same, e, ok.1, ok.2) (tt, λ alone. ap Number (own alone))
two_answered t old this a b arg online (Err e) same free ok own err =
    subst (λ (x : ℕ). IsRefusedOr (two_refusal x a b) (IsStopAnswer (a ≡ this) arg) (Refused e)) same
    (refused_two t old a b (IsStopAnswer (a ≡ this) arg) e free err)

-- a stop of all CPUs is not refused
pub all_answered : (old : MachineCpuValue) (IsAlone : Type 0) (arg : ℕ) (made : Result ℤ SmpError) → old.stops.inside ≡ None
    → IfOk made (λ v. IsAlone → v ≡ pos arg) → IfErr made (λ e. (e ≡ error.BadArgument) × (old.stops.inside ≢ None))
    → IsStopAnswer IsAlone arg (answer_of Number made)
all_answered old IsAlone arg (Ok v) free own err = (tt, λ alone. ap Number (own alone))
all_answered old IsAlone arg (Err e) free own err = absurd (err.1 free)

refused_key : (t : TableValue) (old : MachineCpuValue) (k : ℕ) (Fine : Answer → Type 0) (e : SmpError) → old.stops.inside ≡ None → RefusesKey t old k e
    → IsRefusedOr (key_refusal t.setting.labels.keys k) Fine (Refused e)
refused_key t old k Fine error.BadArgument free (inl inside) = absurd (inside free)
refused_key t old k Fine error.BadArgument free (inr above) = let e : nat_lt k t.setting.labels.keys ≡ false = le-ltb k t.setting.labels.keys above in rw e refl
refused_key t old k Fine error.NoStopper free r = absurd r
refused_key t old k Fine error.NoCpu free r = absurd r
refused_key t old k Fine error.Busy free r = absurd r
refused_key t old k Fine error.Contended free r = absurd r
refused_key t old k Fine error.NoMemory free r = absurd r
refused_key t old k Fine error.Stale free r = absurd r
refused_key t old k Fine error.SlotBusy free r = absurd r
refused_key t old k Fine (error.BadScript n cause) free r = absurd r
refused_key t old k Fine error.IdleStep free r = absurd r
refused_key t old k Fine (error.BadMask n) free r = absurd r
refused_key t old k Fine (error.StreamFailed n) free r = absurd r
refused_key t old k Fine (error.KeyRange n) free r = absurd r

has_key : (keys k : ℕ) (Fine : Answer → Type 0) (answer : Answer) → k < keys → Fine answer → IsRefusedOr (key_refusal keys k) Fine answer
has_key keys k Fine answer below fine = let e : nat_lt k keys ≡ true = lt-ltb k keys below in rw e fine

pub set_answered : (t : TableValue) (old : MachineCpuValue) (k : ℕ) (made : Result Bool SmpError) → old.stops.inside ≡ None → IfOk made (λ _. MayChange t old k)
    → IfErr made (λ e. RefusesKey t old k e) → IsRefusedOr (key_refusal t.setting.labels.keys k) IsTruth (answer_of Turned made)
set_answered t old k (Ok turned) free ok err = has_key t.setting.labels.keys k IsTruth (Turned turned) ok.key tt
set_answered t old k (Err e) free ok err = refused_key t old k IsTruth e free err

module _ {H F : Type 0} (hears : H → Heard → H → Type 0) (runs : F → Called → F → Type 0) where
  -- what a change of a count answers, and what it leaves
  pub counted : (t : TableValue) (k : ℕ) (up : Bool) (old : MachineCpuValue) (h : H) (f : F) (new : MachineCpuValue) (h' : H) (f' : F)
      (made : Result Bool SmpError)
      → old.stops.inside ≡ None → CountsOr hears runs t k up old h f new h' f' made
      → IsRefusedOr (key_refusal t.setting.labels.keys k) (IsCount (end_of up)) (answer_of Turned made)
  counted t k up old h f new h' f' (Ok turned) free c = has_key t.setting.labels.keys k (IsCount (end_of up)) (Turned turned) c.0.key tt
  counted t k up old h f new h' f' (Err (error.KeyRange e)) free c =
      has_key t.setting.labels.keys k (IsCount (end_of up)) (Refused (error.KeyRange e)) c.0.key c.1.0
  counted t k up old h f new h' f' (Err error.BadArgument) free c = refused_key t old k (IsCount (end_of up)) error.BadArgument free c.0
  counted t k up old h f new h' f' (Err error.NoStopper) free c = absurd c.1
  counted t k up old h f new h' f' (Err error.NoCpu) free c = absurd c.1
  counted t k up old h f new h' f' (Err error.Busy) free c = absurd c.1
  counted t k up old h f new h' f' (Err error.Contended) free c = absurd c.1
  counted t k up old h f new h' f' (Err error.NoMemory) free c = absurd c.1
  counted t k up old h f new h' f' (Err error.Stale) free c = absurd c.1
  counted t k up old h f new h' f' (Err error.SlotBusy) free c = absurd c.1
  counted t k up old h f new h' f' (Err (error.BadScript n cause)) free c = absurd c.1
  counted t k up old h f new h' f' (Err error.IdleStep) free c = absurd c.1
  counted t k up old h f new h' f' (Err (error.BadMask n)) free c = absurd c.1
  counted t k up old h f new h' f' (Err (error.StreamFailed n)) free c = absurd c.1
