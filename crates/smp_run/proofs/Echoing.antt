-- What a stop answers in which the caller alone runs the function: its argument.
use Rattle.std.proofs.Common.{◌≡◌, ℕ, ℤ, pos, ◌<◌, ◌-◌, ◌%◌, ◌^◌, nat_lt, Bool, true, if◌then◌else◌, Result, Ok, Err, IfOk, List, [], ◌∷◌, ◌++◌, map}
use Rattle.std.proofs.Common.{arith, sym, ap, ◌∙◌}
use Rattle.std.specs.Int.{cast_signed, w32}
use Rattle.std.proofs.lemmas.Bool.{lt-ltb}
use Rattle.std.proofs.lemmas.Int.{to_z_pos}
use Rattle.std.proofs.lemmas.List.{append_cancel_left}
use Rattle.smp_mask.specs.declared.error.SmpError.{SmpError}
use Rattle.smp_queue.specs.declared.handler.Heard.{Heard}
use Rattle.smp_stop_steps.specs.Start.{answer_word}
use Rattle.smp_multi.specs.Answers.{answer_in}
use Rattle.smp_multi.specs.Names.{OwnMove, StopCall, Work}
use Rattle.smp_multi.specs.declared.func.Called.{Called}
use Rattle.smp_machine.specs.MachineCpu.{MachineCpuValue}
use Rattle.smp_machine.specs.OwnAnswers.{HasCalledFor}
use Rattle.smp_machine.specs.Seats.{SeatStopped, SeatValue}
use Rattle.smp_machine.specs.Stops.{HasStopped}
use Rattle.smp_machine.specs.Works.{HasRunStops, stop_call}
use Rattle.smp_run.specs.Answers.{IsEcho, echo_of}

-- a call of the function, whatever its value
abbrev echoes : {F : Type 0} → F → Called → F → Type 0
echoes p call q = IsEcho call

-- each of some calls of the function has answered its argument
echoed : {F : Type 0} (number : ℕ) (ran : List Called) (f f' : F) (call : StopCall) (before after : List StopCall)
    → HasRunStops echoes number f ran f' → map stop_call ran ≡ before ++ call ∷ after → call.answer ≡ answer_word (echo_of call.arg)
echoed number [] f f' call [] after run e = let none : [] ≡ call ∷ after = e in absurd (cc none)
echoed number [] f f' call (b ∷ before) after run e = let none : [] ≡ b ∷ before ++ call ∷ after = e in absurd (cc none)
echoed number (c ∷ ran) f f' call [] after run e =
    let both : stop_call c ∷ map stop_call ran ≡ call ∷ after = e in
    let here : stop_call c ≡ call = cc in
    sym (ap (λ (x : StopCall). x.answer) here) ∙ (ap answer_word run.1.1 ∙ ap (λ (x : StopCall). answer_word (echo_of x.arg)) here)
echoed number (c ∷ ran) f f' call (b ∷ before) after run e =
    let both : stop_call c ∷ map stop_call ran ≡ b ∷ (before ++ call ∷ after) = e in
    let rest : map stop_call ran ≡ before ++ call ∷ after = cc in
    echoed number ran run.0 f' call before after run.2 rest

-- what the function answers to an argument below 2^31
echo_is : (arg : ℕ) → arg < 2 ^ 31 → echo_of arg ≡ pos arg
echo_is arg low =
    let test : nat_lt arg (2 ^ 31) ≡ true = lt-ltb arg (2 ^ 31) low in
    ap (λ (b : Bool). pos (if b then arg else 2 ^ 31 - 1)) test

-- and the i32 of its word
echo_back : (arg : ℕ) → arg < 2 ^ 31 → answer_in (answer_word (echo_of arg)) ≡ pos arg
echo_back arg low =
    let small : arg % 2 ^ 32 ≡ arg = omega (arith, low) in
    ap (λ (z : ℤ). answer_in (answer_word z)) (echo_is arg low) ∙ (ap (cast_signed w32) small ∙ to_z_pos w32 arg low)

module _ {H F : Type 0} (hears : H → Heard → H → Type 0) where
  -- a stop in which the function was called here with this argument
  stop_answered : (moves : Work → ℕ → List OwnMove) (work : Work) (old new : MachineCpuValue) (h h' : H) (f f' : F) (func arg : ℕ) (v : ℤ) → arg < 2 ^ 31
      → HasStopped hears echoes moves work old h f new h' f' v → HasCalledFor func arg old.stops new.stops v → v ≡ pos arg
  stop_answered moves work old new h h' f f' func arg v low s (calls, calls_are, (call, (before, after, at), func_is, arg_is, answer_is)) =
      let same : map stop_call s.works.ran ≡ calls =
      append_cancel_left old.stops.part.calls (map stop_call s.works.ran) calls (sym s.works.calls_are ∙ calls_are) in
      let told = echoed old.stops.number s.works.ran f f' call before after s.works.grows (same ∙ at) in
      let word : s.word ≡ answer_word (echo_of arg) = s.whole.0 ∙ (sym answer_is ∙ (told ∙ ap (λ (n : ℕ). answer_word (echo_of n)) arg_is)) in
      s.answer_is ∙ (ap answer_in word ∙ echo_back arg low)

  -- a stop in which, by such a condition, the caller alone runs the function
  pub own_answered : (moves : Work → ℕ → List OwnMove) (P : Work → Type 0) (old new : SeatValue H F) (IsAlone IsOwn : Type 0) (func arg : ℕ)
      (made : Result ℤ SmpError) → (IsAlone → IsOwn) → arg < 2 ^ 31
      → IfOk made (λ v. (work : Work) × P work × SeatStopped hears echoes moves work old new v)
      → IfOk made (λ v. IsOwn → HasCalledFor func arg old.cpu.stops new.cpu.stops v)
      → IfOk made (λ v. IsAlone → v ≡ pos arg)
  own_answered moves P old new IsAlone IsOwn func arg (Ok v) as_own low ok own =
      λ alone. stop_answered moves ok.0 old.cpu new.cpu old.handler new.handler old.functions new.functions func arg v low ok.2 (own (as_own alone))
  own_answered moves P old new IsAlone IsOwn func arg (Err e) as_own low ok own = tt
