-- A command of the stop half that may start may begin at its first stage.
use Rattle.std.proofs.Common.{◌≡◌, ℕ, ◌+◌, ◌<◌, ◌^◌, Bool, true, false, ◌==◌, ◌&&◌, nat_lt, cond, arith, Option, Some, None, bit_and}
use Rattle.std.proofs.{lemmas.Bool.ltb-true, lemmas.List.length-map}
use Rattle.smp_words.specs.Commands.{FitsCommand}
use Rattle.smp_stop_steps.specs.{has, cpus, MayBegin, MayBeginAt, IsWork, StopControlValue, completes_from, begin_refusal, refusal_on, stop_first, stop_refusal}
use Rattle.smp_stop_steps.specs.{terms_of, has_slot, is_free, in_visit, may_advance, may_run, may_finish, Setup, stop_number, StopsValue, setup_of}
use Rattle.smp_stop_steps.specs.{stop_control_of, Command, StopStage, Advance, Complete, Visit, Work, Gate, declared.start.Terms.Terms}
use Rattle.smp_stop_steps.proofs.TheMachine.Fits.{both, if_passed, is_kind, is_one_kind, is_same, ne_false, not_one, not_true, passed, within}
use Rattle.smp_stop_steps.specs.completion
use Rattle.smp_stop_steps.specs.round
use Rattle.smp_stop_steps.specs.Names.{EXIT}

-- a stage that a CPU may begin at, where there is one
abbrev MayBeginIf : Setup → ℕ → ℕ → StopControlValue → Option StopStage → Type 0
MayBeginIf u me gate c None = Unit {0}
MayBeginIf u me gate c (Some stage) = MayBegin u me gate c stage

module _ (v : StopsValue) (cpu : ℕ) (low : cpu < cpus) (below : (k : ℕ) → has v.online k ≡ true → k < cpus) (online : has v.online cpu ≡ true)
    (c : StopControlValue) where
  abbrev u : Setup
  u = setup_of v.online v.labels

  abbrev t : Terms
  t = terms_of v cpu

  abbrev gate : ℕ
  gate = stop_number v.table Gate

  pub begins_work : (work : Work) (is_open : Bool) → c.is_open ≡ is_open → work.func < 2 ^ 16 → begin_refusal t work is_open ≡ None →
      (gate ≡ cpu + 1) × (c.is_open ≡ false) × IsWork u work
  begins_work work is_open shut small e = search (if_passed, both, within, is_same, bit_and, passed, ne_false, not_true, is_kind, arith)

  enters : (slot : ℕ) (x : Option Visit) → c.visit ≡ x → (is_free x && has_slot v.nr slot) ≡ true → (c.visit ≡ None) × (slot < cpus)
  enters slot x is e = search (ltb-true, both, nat_lt, arith)

  advances : (answer : ℕ) (x : Option Visit) → c.visit ≡ x → may_advance x ≡ true → MayBeginIf u cpu gate c (in_visit x (λ w. Advance w (round.Look answer)))
  advances answer x is e = search (both, not_one, not_true, ne_false, arith)

  runs : (answer : ℕ) (x : Option Visit) → c.visit ≡ x → may_run x ≡ true → MayBeginIf u cpu gate c (in_visit x (λ w. Complete w (completion.LoadFunc answer)))
  runs answer x is e = search (is_one_kind, arith)

  completes : (w : Visit) → c.visit ≡ Some w → w.acked ≡ EXIT → (b : Bool) → (w.answer == 0) ≡ b →
      MayBegin u cpu gate c (Complete w (cond b completion.CountDown completion.StoreAnswer))
  completes w is left b e = search (is_same, ne_false, arith)

  finishes : (x : Option Visit) → c.visit ≡ x → may_finish x ≡ true → MayBeginIf u cpu gate c (in_visit x (λ w. Complete w (completes_from w)))
  finishes x is e = search (completes, is_same, arith)

  reads : (n limit : ℕ) → (c.interrupts && nat_lt n limit) ≡ true → (c.interrupts ≡ true) × (n < limit)
  reads n limit e = let x = both c.interrupts (nat_lt n limit) e in (x.0, ltb-true n limit x.1)

  may_begin_if : (x : Command) → FitsCommand x → refusal_on t c x ≡ None → MayBeginIf u cpu gate c (stop_first c x)
  may_begin_if x f e = search (is_same, passed, begins_work, enters, advances, runs, finishes, reads, nat_lt, length-map, arith)

-- a command that may start may begin at its first stage
pub may_begin : (v : StopsValue) (cpu : ℕ) (x : Command) (stage : StopStage) → cpu < cpus → ((k : ℕ) → has v.online k ≡ true → k < cpus) →
    has v.online cpu ≡ true → FitsCommand x → stop_refusal v cpu x ≡ None →
    stop_first (stop_control_of v.controls cpu) x ≡ Some stage → MayBeginAt v cpu stage
may_begin v cpu x stage low below online f e first = search (v.online, v.table, may_begin_if, arith)
