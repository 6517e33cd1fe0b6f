-- No state word is ever more than 5, whether a stop is open in its slot or not.
use Rattle.std.proofs.Common.{ℕ, ◌+◌, ◌≤◌, Bool, true, false, ◌==◌, cond, Some, arith, None}
use Rattle.smp_words.specs.Access.{put_if}
use Rattle.smp_stop_steps.specs.{at_after, put_word, Change, StopRole, Sets, StopShows, SitsAt, SitsIn, SitsInRound, begun_value, Source, StopControlValue}
use Rattle.smp_stop_steps.specs.{change_at, completion_access, label_word, round_access, stop_access, Setup, StopState, first_phase, Field, CompletionStage}
use Rattle.smp_stop_steps.specs.{RoundStage, Advance, Begin, Complete}
use Rattle.smp_stop_steps.specs.{TakeGate, ExchangeKey, StopStage, Visit, Kind, Work, Gate, Slot, Key, Word, Place}
use Rattle.smp_stop_steps.specs.Names.{OVER}

-- each state word is a phase, or 5
abbrev pub ArePhases : (Word → ℕ) → Type 0
ArePhases at = (s : ℕ) → at (Slot s Field.State) ≤ OVER

either : (b : Bool) (n m : ℕ) → n ≤ OVER → m ≤ OVER → cond b n m ≤ OVER
either b n m l k = search arith

first_small : (kind : Kind) → first_phase kind ≤ OVER
first_small kind = search arith

-- a store that is not to a state word

module _ (at : Word → ℕ) (h : ArePhases at) where
  gate_after : (b : Bool) (n : ℕ) → ArePhases (put_if put_word at Gate (cond b (Some n) None))
  gate_after true n = λ s. h s
  gate_after false n = h

  label_after : (to : Place) (n : ℕ) → ArePhases (put_word at (label_word to) n)
  label_after to n = search arith

  begun_after : (cpus me : ℕ) (work : Work) (f : Field) → ArePhases (put_word at (Slot me f) (begun_value cpus work f))
  begun_after cpus me work f = search (either, first_small, arith)

  completion_after : (v : Visit) (st : CompletionStage) → ArePhases (at_after at (completion_access v st))
  completion_after v CompletionStage.StoreAnswer = λ s. h s
  completion_after v _ = λ s. h s

-- a step of a CPU

module _ (u : Setup) (p : StopState) (at : Word → ℕ) (seat : ℕ → StopRole) (source : ℕ → Source) (v : StopShows u p at seat source) (h : ArePhases at)
    (c : StopControlValue) (me : ℕ) where
  -- who sets the next phase has acknowledged this one, which is at most 4
  raised_small : (w : Visit) → SitsIn w w.acked Sets (seat me) → w.acked + 1 ≤ OVER
  raised_small w x = search (w.acked, v.present.stands, v.present.slots, arith)

  round_after : (w : Visit) (st : RoundStage) → SitsInRound u me c.changes w st (seat me) → ArePhases (at_after at (round_access u.cpus c.changes w st))
  round_after w (RoundStage.StoreChange made) x = let change : Change = change_at c.changes made in label_after at h change.0 change.1
  round_after w (RoundStage.Raise ran) x = λ s. either (s == w.slot) (w.acked + 1) (at (Slot s Field.State)) (raised_small w (x.0, x.1, x.2)) (h s)
  round_after w _ x = λ s. h s

  pub phases_after : (st : StopStage) → SitsAt u me c (Some st) (seat me) → ArePhases (at_after at (stop_access u.cpus me c.changes st))
  phases_after TakeGate x = gate_after at h (at Gate == 0) (me + 1)
  phases_after (Begin work f) x = begun_after at h u.cpus me work f
  phases_after (Advance w st) x = round_after w st x.1
  phases_after (Complete w st) x = completion_after at h w st
  phases_after (ExchangeKey k expected new) x =
      elim (at (Key k) == expected) as (λ b. ArePhases (put_if put_word at (Key k) (cond b (Some new) None))) [ true ↦ λ s. h s | false ↦ h ]
  phases_after _ x = λ s. h s
