-- How often a CPU has answered its own stops, and what the stop of itself alone answers.
use Rattle.std.proofs.Common.{◌≡◌, inl, inr, ℕ, ℤ, ◌+◌, Bool, true, false, ◌&&◌, ◌||◌}
use Rattle.std.proofs.Common.{◌==◌, cond, Option, Some, None, List, [], ◌∷◌, ◌++◌, length, slice_index_or, arith}
use Rattle.std.proofs.Common.{refl, sym, ap, ◌∙◌, subst, eqb-true, eq-eqb}
use Rattle.std.specs.List.{AllByRecursion}
use Rattle.std.proofs.lemmas.Bool.{and_parts}
use Rattle.std.proofs.lemmas.List.{append-nil, append_cancel_left, length-append, same_from_push}
use Rattle.smp_mask.specs.Mask.{has, IsLeast}
use Rattle.smp_words.specs.Size.{cpus}
use Rattle.smp_stop_steps.specs.Past.{Past, works_of, answers_of, answer_now}
use Rattle.smp_stop_steps.specs.Start.{answer_word}
use Rattle.smp_stop_steps.proofs.State.Ends.{all_outside}
use Rattle.smp_multi.specs.Answers.{IsWholeWord}
use Rattle.smp_multi.specs.Cpu.{CpuValue as StopCpuValue, TableValue}
use Rattle.smp_multi.specs.Laws.{StopsAreShown, IsPending}
use Rattle.smp_multi.specs.Names.{Work, One, Multi, Slot, Field}
use Rattle.smp_multi.specs.Polls.{IsLastResult, MayAnswer}
use Rattle.smp_multi.proofs.Kept.{own_answers_agree}
use Rattle.smp_queue.specs.declared.handler.Heard.{Heard}
use Rattle.smp_multi.specs.declared.func.Called.{Called}
use Rattle.smp_multi.specs.Names.{OwnMove}
use Rattle.smp_machine.specs.Own.{Own}
use Rattle.smp_machine.specs.OwnAnswers.{IsCalled, IsGiven, IsOwnAnswer, HasToRun, OwnAnswers, HasCalledFor, RunsItself}
use Rattle.smp_machine.specs.MachineCpu.{MachineCpuValue}
use Rattle.smp_machine.specs.Served.{one_if}
use Rattle.smp_machine.specs.Stops.{HasStopped, IsOneWork, IsTwoWork, IsMachineWork, IsActive, IsActiveAlone}

-- how many of these works are of this CPU too
own_count : ℕ → List Work → ℕ
own_count me [] = 0
own_count me (w ∷ ws) = one_if (has w.mask me) + own_count me ws

count_push : (me : ℕ) (ws : List Work) (w : Work) → has w.mask me ≡ true → own_count me (ws ++ w ∷ []) ≡ own_count me ws + 1
unfolding own_count
count_push me [] w of = let one : one_if (has w.mask me) ≡ 1 = ap one_if of in omega arith
count_push me (x ∷ ws) w of = let rest = count_push me ws w of in omega arith

one_more : (b : Bool) (n : ℕ) (l : List ℕ) → length (cond b (n ∷ l) l) ≡ one_if b + length l
one_more true n l = omega arith
one_more false n l = omega arith

-- as many answers as works
as_many : (me : ℕ) (past : List Past) → length (answers_of me past) ≡ own_count me (works_of past)
unfolding own_count
as_many me [] = refl
as_many me (x ∷ rest) =
    one_more (has x.work.mask me) (x.answer me) (answers_of me rest)
    ∙ ap (λ (n : ℕ). one_if (has x.work.mask me) + n) (as_many me rest)

-- a CPU with no stop to collect has answered each of its own stops that has called it
own_counted : (c : StopCpuValue) → StopsAreShown c → c.pending ≡ None
    → length (slice_index_or c.part.answers c.number []) ≡ own_count c.number c.part.begun
own_counted c s none =
    subst (λ (z : StopCpuValue). length (slice_index_or z.part.answers z.number []) ≡ own_count z.number z.part.begun) (sym s.view) counted
  where
    number : c.number ≡ s.known.number
    number = ap (λ (z : StopCpuValue). z.number) s.view

    shut : (s.stops.now.stop s.known.number).is_open ≡ false
    shut = subst (λ (n : ℕ). (s.stops.now.stop n).is_open ≡ false) number (subst (IsPending (s.stops.now.stop c.number)) none s.pending)

    answers : s.stops.answers s.known.number s.known.number ≡ answers_of s.known.number (s.shown.past s.known.number).0
    answers = (s.shown.past s.known.number).1.answers_are s.known.number
        ∙ (ap (λ st. answers_of s.known.number (s.shown.past s.known.number).0 ++ answer_now st)
        (all_outside cpus (s.stops.now.stop s.known.number) (λ (f : Field). s.at (Slot s.known.number f)) (s.shown.present.slots s.known.number) shut
        s.known.number)
        ∙ append-nil (answers_of s.known.number (s.shown.past s.known.number).0))

    begun : s.stops.begun s.known.number ≡ works_of (s.shown.past s.known.number).0
    begun = (s.shown.past s.known.number).1.begun_are
        ∙ (ap (λ (b : Bool). works_of (s.shown.past s.known.number).0 ++ cond b ((s.stops.now.stop s.known.number).work ∷ []) []) shut
        ∙ append-nil (works_of (s.shown.past s.known.number).0))

    counted : length (slice_index_or s.known.part.answers s.known.number []) ≡ own_count s.known.number s.known.part.begun
    counted = ap length (sym (s.sees.part_is.answers.each s.known.number s.sees.below) ∙ answers)
        ∙ (as_many s.known.number (s.shown.past s.known.number).0
        ∙ ap (own_count s.known.number) (sym begun ∙ s.sees.part_is.begun))

-- ---- the CPU that is active alone

least_same : (passes : ℕ → Bool) (m n : ℕ) → IsLeast passes m → IsLeast passes n → m ≡ n
least_same passes m n a b = let low = a.least n b.passing in let high = b.least m a.passing in omega (arith, low, high)

both_true : (a b : Bool) → a ≡ true → b ≡ true → (a && b) ≡ true
both_true true b e f = f
both_true false b e f = cc

-- it is online and active, and no other is both
active_alone : (online : ℕ) (active : Option ℕ) (mask me : ℕ) → IsActive online active mask → IsActiveAlone online active me
    → (has online me ≡ true) × (has mask me ≡ true) × ((cpu : ℕ) → has online cpu ≡ true → has mask cpu ≡ true → cpu ≡ me)
active_alone online None mask me is least =
    let same : is.0 ≡ me = least_same (λ c. has online c) is.0 me is.1 least in
    (least.passing, is.2 me ∙ eq-eqb me is.0 (sym same), λ cpu there active. eqb-true cpu is.0 (sym (is.2 cpu) ∙ active) ∙ same)
active_alone online (Some given) mask me is alone =
    let mine = and_parts (has given me) (has online me) (alone me ∙ eq-eqb me me refl) in (
      mine.1,
      ap (λ (m : ℕ). has m me) is ∙ mine.0,
      λ cpu there active.
          eqb-true cpu me (sym (alone cpu) ∙ both_true (has given cpu) (has online cpu) (sym (ap (λ (m : ℕ). has m cpu) is) ∙ active) there),
    )

-- ---- a stop of which the CPU alone may answer

one_long : {A : Type 0} (l : List A) → length l ≡ 1 → (x : A) × (l ≡ x ∷ [])
one_long [] e = absurd (omega arith)
one_long (x ∷ []) e = (x, refl)
one_long (x ∷ y ∷ l) e = absurd (omega arith)

only_one : {A : Type 0} (x y : A) (before after : List A) → x ∷ [] ≡ before ++ y ∷ after → y ≡ x
only_one x y [] after e = cc
only_one x y (z ∷ []) after e = cc
only_one x y (z ∷ w ∷ before) after e = cc

module _ (old new : StopCpuValue) (work : Work) (word : ℕ) (answer : ℤ) (number : new.number ≡ old.number)
    (begun : new.part.begun ≡ old.part.begun ++ work ∷ []) (was_shown : StopsAreShown old) (shown : StopsAreShown new)
    (was_none : old.pending ≡ None) (outside : old.inside ≡ None) (none : new.pending ≡ None) (mine : OwnAnswers old new) (result : IsLastResult new word)
    (whole : IsWholeWord answer word) where
  last_work : result.work ≡ work
  last_work = (same_from_push result.works old.part.begun result.work work (sym result.begun ∙ begun)).1

  one_answer : has work.mask old.number ≡ true → length mine.answers ≡ 1
  one_answer of =
      let before : length (slice_index_or old.part.answers old.number []) ≡ own_count old.number old.part.begun = own_counted old was_shown was_none in
      let after : length (slice_index_or new.part.answers old.number []) ≡ own_count old.number new.part.begun =
      subst (λ (n : ℕ). length (slice_index_or new.part.answers n []) ≡ own_count n new.part.begun) number (own_counted new shown none) in
      let more : own_count old.number new.part.begun ≡ own_count old.number old.part.begun + 1 =
      ap (own_count old.number) begun ∙ count_push old.number old.part.begun work of in
      let grown : length (slice_index_or new.part.answers old.number [])
      ≡ length (slice_index_or old.part.answers old.number []) + length mine.answers =
      ap length mine.answers_are ∙ length-append (slice_index_or old.part.answers old.number []) mine.answers in
      omega arith

  -- the answer, and the call that has given it
  given : (x : ℕ) → IsOwnAnswer old mine.begun mine.calls x → HasToRun old.number work → IsCalled mine.calls work.func work.arg x
  given x (w, inl was, by) run = absurd (let bad : None ≡ Some w = sym was_none ∙ was in cc)
  given x (w, inr there, by) run =
      let only : work ∷ [] ≡ there.0 ++ w ∷ there.1 =
      append_cancel_left old.part.begun (work ∷ []) mine.begun (sym begun ∙ mine.begun_are) ∙ there.2 in
      let same : w ≡ work = only_one work w there.0 there.1 only in
      subst (λ (z : Work). IsCalled mine.calls z.func z.arg x) same (called w x (by (subst (HasToRun old.number) (sym same) run)))
    where
      called : (z : Work) (y : ℕ) → IsGiven old mine.calls z y → IsCalled mine.calls z.func z.arg y
      called z y (inl call) = call
      called z y (inr was) = absurd (let bad : None ≡ Some was.stop = sym outside ∙ was.is in cc)

  pub runs_itself : RunsItself work old new answer
  runs_itself run of alone =
      let l = one_long mine.answers (one_answer of) in
      let agrees = own_answers_agree new word result ((λ i. has (last_work i).mask (number i)) ∙ of) in
      let only : (cpu : ℕ) → has result.work.mask cpu ≡ true → MayAnswer result.work cpu → cpu ≡ new.number =
      λ cpu there may. alone cpu (ap (λ (w : Work). has w.mask cpu) (sym last_work) ∙ there) (subst (λ (w : Work). MayAnswer w cpu) last_work may)
      ∙ sym number in
      let last : slice_index_or old.part.answers old.number [] ++ l.0 ∷ [] ≡ agrees.answered.0 ++ agrees.own ∷ [] =
      ap (λ (k : List ℕ). slice_index_or old.part.answers old.number [] ++ k) (sym l.1) ∙ (sym mine.answers_are
      ∙ (ap (λ (n : ℕ). slice_index_or new.part.answers n []) (sym number) ∙ agrees.answered.1)) in
      let own : l.0 ≡ agrees.own = (same_from_push (slice_index_or old.part.answers old.number []) agrees.answered.0 l.0 agrees.own last).1 in
      let is : l.0 ≡ answer_word answer = own ∙ (sym (agrees.alone only) ∙ whole.0) in
      let each : AllByRecursion (IsOwnAnswer old mine.begun mine.calls) (l.0 ∷ []) =
      subst (AllByRecursion (IsOwnAnswer old mine.begun mine.calls)) l.1 mine.each in
      let call = given l.0 each.0 run in
      (mine.calls, mine.calls_are, (call.0, call.1, call.2, call.3, call.4 ∙ is))

-- of a stop as it is made
pub stop_itself : {H F : Type 0} (hears : H → Heard → H → Type 0) (runs : F → Called → F → Type 0) {old new : MachineCpuValue} {h h' : H} {f f' : F}
    (moves : Work → ℕ → List OwnMove) (work : Work) (v : ℤ) → StopsAreShown old.stops → StopsAreShown new.stops → old.stops.pending ≡ None
    → old.stops.inside ≡ None
    → HasStopped hears runs moves work old h f new h' f' v → RunsItself work old.stops new.stops v
stop_itself hears runs {old} {new} moves work v was shown none outside s =
    runs_itself old.stops new.stops work s.word v s.works.number_is (ap (λ (o : Own). o.begun) s.works.own_is) was shown none outside
    (ap (λ (o : Own). o.pending) s.works.own_is) s.works.mine s.result s.whole

module _ (func arg : ℕ) (work : Work) (old new : StopCpuValue) (v : ℤ) (r : RunsItself work old new v) where
  called_as : work.func ≡ func → work.arg ≡ arg → HasCalledFor work.func work.arg old new v → HasCalledFor func arg old new v
  called_as f a = subst (λ (p : ℕ × ℕ). HasCalledFor p.0 p.1 old new v) (λ i. (f i, a i))

  -- of a stop of one CPU, which is the caller
  pub one_itself : (dst : ℕ) → IsOneWork dst func arg work → dst ≡ old.number → HasCalledFor func arg old new v
  one_itself dst w self = called_as w.func_is w.arg_is (r (inl w.kind) (w.mask old.number ∙ eq-eqb old.number dst (sym self))
      (λ cpu there may. eqb-true cpu dst (sym (w.mask cpu) ∙ there) ∙ self))

  -- a CPU that may answer in a stop of kind Multi is active
  multi_active : work.kind ≡ Multi → (cpu : ℕ) → MayAnswer work cpu → has work.active cpu ≡ true
  multi_active kind cpu (inl one) = absurd (let bad : One ≡ Multi = sym one ∙ kind in cc)
  multi_active kind cpu (inr active) = active

  -- of a stop of two CPUs, of which the caller is the first
  pub two_itself : (a b : ℕ) → IsTwoWork a b func arg work → a ≡ old.number → HasCalledFor func arg old new v
  two_itself a b w self =
      let me : old.number == a ≡ true = eq-eqb old.number a (sym self) in
      called_as w.func_is w.arg_is (r (inr (w.kind, w.active old.number ∙ me)) (w.mask old.number ∙ ap (λ (x : Bool). x || old.number == b) me)
      (λ cpu there may. eqb-true cpu a (sym (w.active cpu) ∙ multi_active w.kind cpu may) ∙ self))

  -- of a stop of all CPUs, of which the caller alone is active
  pub machine_itself : (t : TableValue) (active : Option ℕ) → IsMachineWork t func arg active work → IsActiveAlone t.setting.online active old.number
      → HasCalledFor func arg old new v
  machine_itself t active w alone =
      let both = active_alone t.setting.online active work.active old.number w.active_is alone in
      called_as w.func_is w.arg_is (r (inr (w.kind, both.1)) (ap (λ (m : ℕ). has m old.number) w.mask ∙ both.0)
      (λ cpu there may. both.2 cpu (sym (ap (λ (m : ℕ). has m cpu) w.mask) ∙ there) (multi_active w.kind cpu may)))
