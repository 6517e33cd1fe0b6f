-- Each result word is that of an i32, and so is each answer that a CPU has where it stands.
use Rattle.std.specs.Int.{w32, cast_signed}
use Rattle.std.proofs.Common.{◌≡◌, ℕ, ◌+◌, ◌%◌, ◌^◌, Bool, true, false, ◌==◌, cond, Option, Some, None, refl, ap, inl, inr, arith, List}
use Rattle.smp_words.specs.Access.{put_if}
use Rattle.smp_stop_steps.specs.{change_of, count_after, Place, at_after, word_of, put_word, Field, Note, Work, Word, Gate, Slot, Key, IsI32Word, AreI32Words}
use Rattle.smp_stop_steps.specs.{VisitFits, HasI32Answers, IsKept, NoteAnswers, AnswersFit, AnswersGo, KeepsAnswers, Change, begun_value, StopControlValue}
use Rattle.smp_stop_steps.specs.{StopOutcome, acked_on, begun_next, change_at, completion_access, completion_outcome, entry_on, key_on, label_word, looked_on}
use Rattle.smp_stop_steps.specs.{nudge_on, round_access, round_outcome, stop_access, stop_ends, stop_goes, stop_outcome, turn_ends, turn_note, Setup}
use Rattle.smp_stop_steps.specs.{is_multi, EXIT, CompletionStage, RoundStage, StopStage, Advance, Begin, Complete}
use Rattle.smp_stop_steps.specs.{ExchangeKey, TakeGate, Visit}
use Rattle.smp_stop_steps.specs.round

either : (b : Bool) (n m : ℕ) → IsI32Word n → IsI32Word m → IsI32Word (cond b n m)
either b n m l k = search arith

-- the words after a step: begin stores 0, a completion its answer, and no other step stores to a result

module _ (at : Word → ℕ) (h : AreI32Words at) where
  gate_after : (b : Bool) (n : ℕ) → AreI32Words (put_if put_word at Gate (cond b (Some n) None))
  gate_after true n = λ s. h s
  gate_after false n = h

  label_after : (to : Place) (n : ℕ) → AreI32Words (put_word at (label_word to) n)
  label_after to n = search arith

  begun_after : (cpus me : ℕ) (work : Work) (f : Field) → AreI32Words (put_word at (Slot me f) (begun_value cpus work f))
  begun_after cpus me work f = search (either, arith)

  completion_after : (v : Visit) → IsI32Word v.answer → (st : CompletionStage) → AreI32Words (at_after at (completion_access v st))
  completion_after v small CompletionStage.StoreAnswer = λ s. either (s == v.slot) v.answer (at (Slot s Field.Result)) small (h s)
  completion_after v small _ = λ s. h s

  round_after : (n : ℕ) (changes : List Change) (v : Visit) (st : RoundStage) → AreI32Words (at_after at (round_access n changes v st))
  round_after n changes v (round.StoreChange made) = let change : Change = change_at changes made in label_after change.0 change.1
  round_after n changes v _ = λ s. h s

  pub words_after : (n me : ℕ) (changes : List Change) (st : StopStage) → AnswersFit st → AreI32Words (at_after at (stop_access n me changes st))
  words_after n me changes TakeGate x = gate_after (at Gate == 0) (me + 1)
  words_after n me changes (Begin work f) x = begun_after n me work f
  words_after n me changes (Advance v st) x = round_after n changes v st
  words_after n me changes (Complete v st) x = completion_after v x.0 st
  words_after n me changes (ExchangeKey k expected new) x =
      elim (at (Key k) == expected) as (λ b. AreI32Words (put_if put_word at (Key k) (cond b (Some new) None))) [ true ↦ λ s. h s | false ↦ h ]
  words_after n me changes _ x = λ s. h s

-- what follows a step of a CPU that stands so

module _ (me : ℕ) (c : StopControlValue) (stage : StopStage) (found : ℕ) (h : HasI32Answers c) where
  choose : (b : Bool) (x y : StopOutcome) → AnswersGo stage found x → AnswersGo stage found y → AnswersGo stage found (cond b x y)
  choose b x y l k = search arith

  said : (b : Bool) (x y : Note) → NoteAnswers stage found (Some x) → NoteAnswers stage found (Some y) → NoteAnswers stage found (Some (cond b x y))
  said b x y l k = search arith

  goes : (next : StopStage) → AnswersFit next → IsKept stage (Some next) → AnswersGo stage found (stop_goes c next)
  goes next fits kept = record { control = record { visit = h.visit; stage = fits }; kept = kept; note = tt }

  ends : (n : Note) → NoteAnswers stage found (Some n) → AnswersGo stage found (stop_ends c n)
  ends n says = record { control = record { visit = h.visit; stage = tt }; kept = tt; note = says }

  begun : (work : Work) (f : Field) → AnswersGo stage found (begun_next c work f)
  begun work f = search (goes, arith)

  turn_said : (p : ℕ) (ran : Bool) → NoteAnswers stage found (Some (turn_note p ran))
  turn_said p ran = said (p == EXIT) Note.Left (cond ran Note.Ran (Note.Moved p)) tt (said ran Note.Ran (Note.Moved p) tt tt)

  nudged : (k : ℕ) (x : Option ℕ) → AnswersGo stage found (nudge_on c k found x)
  nudged k x = search (ends, choose, goes, arith)

-- a turn: where it stands with an answer, that is of an i32

module _ (me : ℕ) (c : StopControlValue) (v : Visit) (found : ℕ) (h : HasI32Answers c) (small : IsI32Word v.answer) where
  turn_over : (stage : StopStage) (visit : Option Visit) → VisitFits visit → (p : ℕ) (ran : Bool) →
      AnswersGo stage found (turn_ends (record c { visit = visit }) p ran)
  turn_over stage visit fits p ran = record { control = record { visit = fits; stage = tt }; kept = tt; note = turn_said me c stage found h p ran }

  keyed : (answer : ℕ) (stage : StopStage) (key : ℕ) (x : Option ℕ) → AnswersGo stage found (key_on c v key found x)
  keyed answer stage key x = search (choose, arith)

  looked : (answer : ℕ) → IsI32Word answer → AnswersGo (Advance v (round.Look answer)) found (looked_on me c v answer found)
  looked answer fits = search (v.active, arith)

  acked : (stage : StopStage) (w : Visit) → IsI32Word w.answer → (ran : Bool) → AnswersGo stage found (acked_on c w ran found)
  acked stage w fits ran = search (choose, turn_over, w.acked, arith)

  entered : (stage : StopStage) (key word site : ℕ) → AnswersGo stage found (entry_on c v key word site found)
  entered stage key word site = search arith

  stored : (stage : StopStage) (made n : ℕ) → AnswersGo stage found (stop_goes c (Advance v (cond (made + 1 == n) (round.Acknowledge 0 true)
      (round.StoreChange (made + 1)))))
  stored stage made n = search arith

  called : (answer func : ℕ) → IsI32Word answer → (b : Bool) → AnswersGo (Advance v (round.LoadArg answer func)) found
      (cond b record { control = record c { stage = Some (Advance v (round.Acknowledge answer true)) }; note = Some (Note.Run func found) }
      (stop_goes c (Advance v (round.LoadKey func (change_of found)))))
  called answer func fits b = search arith

  round_goes : (st : RoundStage) → AnswersFit (Advance v st) → AnswersGo (Advance v st) found (round_outcome me c v st found)
  round_goes (round.Look answer) x = search (choose, ends, looked, arith)
  round_goes (round.LoadFunc answer) x = goes me c (Advance v (round.LoadFunc answer)) found h (Advance v (round.LoadArg answer found)) x (inl refl)
  round_goes (round.LoadArg answer func) x = called answer func x.1 (is_multi v.kind)
  round_goes (round.LoadKey key change) x = keyed 0 (Advance v (round.LoadKey key change)) key (count_after change found)
  round_goes (round.LoadEntry key word site) x = entered (Advance v (round.LoadEntry key word site)) key word site
  round_goes (round.StoreChange made) x = stored (Advance v (round.StoreChange made)) made _
  round_goes (round.Acknowledge answer ran) x = search (acked, either, arith)
  round_goes (round.Refill ran) x = goes me c (Advance v (round.Refill ran)) found h (Advance v (round.Raise ran)) x (inr refl)
  round_goes (round.Raise ran) x = turn_over (Advance v (round.Raise ran)) c.visit h.visit v.acked ran

  given : (answer func : ℕ) → IsI32Word answer → (b : Bool) → AnswersGo (Complete v (CompletionStage.LoadArg answer func)) found
      (let w = record v { answer = answer } in
      record {
        control = record c { stage = Some (Complete w (cond b CompletionStage.CountDown CompletionStage.StoreAnswer)); visit = Some w };
        note = Some (Note.Run func found);
      })
  given answer func fits b = search arith

  completion_goes : (st : CompletionStage) → AnswersFit (Complete v st) → AnswersGo (Complete v st) found (completion_outcome c v st found)
  completion_goes st x = search (goes, given, choose, arith)

module _ (u : Setup) (at : Word → ℕ) (h : AreI32Words at) (c : StopControlValue) (me : ℕ) (k : HasI32Answers c) where
  abbrev found_at : StopStage → ℕ
  found_at stage = at (word_of (stop_access u.cpus me c.changes stage))

  -- what is collected is the 32 bits of an i32, so nothing is cut
  whole : (n : ℕ) → IsI32Word n → cast_signed w32 n ≡ cast_signed w32 (n % 2 ^ 32)
  whole n l = ap (cast_signed w32) (omega (arith, l))

  answers_go : (stage : StopStage) → AnswersFit stage → AnswersGo stage (found_at stage) (stop_outcome me c stage (found_at stage))
  answers_go stage x = search (ends, said, begun, choose, goes, round_goes, completion_goes, whole, nudged, arith)

  pub keeps_answers : (stage : StopStage) → c.stage ≡ Some stage → KeepsAnswers u at c me stage
  keeps_answers stage e = search (words_after, answers_go, arith)
