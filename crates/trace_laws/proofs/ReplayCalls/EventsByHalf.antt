-- Steps of the call half tell events of calls, and those of the stop half tell others.
use Rattle.trace_laws.proofs.Names.{arith, Bool, List, Option, StopEvent, [], cond, false, false≢true, true, true≢false, ℕ, ◌≡◌}
use Rattle.trace_laws.proofs.ReplayNames.{Act, CallState, Change, Note, Past, Seen}
use Rattle.trace_laws.proofs.ReplayNames.{StepEvents, StopStage, Word, call_events, of_arg}
use Rattle.trace_laws.proofs.ReplayNames.{of_nudge, of_result}
use Rattle.trace_laws.proofs.ReplayNames.{stop_access, told_on, with_on, word_of}
use Rattle.trace_laws.proofs.ReplayNames.{Stage, access_of}
use Rattle.smp_words.specs.declared.word.Word.TheVariants as word
use Rattle.smp_call_steps.specs.{Calls.told}
use Rattle.trace_laws.proofs.ReplayCalls.StepEvents.{by}

-- a word of the call half
abbrev pub is_call_word : Word → Bool
is_call_word word.Gate = false
is_call_word (word.Slot s f) = false
is_call_word (word.Key k) = false
is_call_word (word.Entry i) = false
is_call_word (word.Site i) = false
is_call_word _ = true

module _ (me : ℕ) where
  abbrev AllCalls : StepEvents → Type 0
  AllCalls t = call_events (by me t) ≡ by me t

  abbrev NoCalls : StepEvents → Type 0
  NoCalls t = call_events (by me t) ≡ []

  no_if : (b : Bool) (t u : StepEvents) → NoCalls t → NoCalls u → NoCalls (cond b t u)
  no_if b t u x y = search arith

  -- a step on a word of the call half
  pub all_calls : (p : Past) (w : Word) (s : Seen) → is_call_word w ≡ true → AllCalls (told_on p w s)
  all_calls p w s h1 = search (false≢true, arith)

  on_none : (e : StopEvent) (said : Option Note) → NoCalls (with_on e said)
  on_none e said = search arith

  arg_none : (said : Option Note) → NoCalls (of_arg said)
  arg_none said = search arith

  result_none : (cpu : ℕ) (said : Option Note) → NoCalls (of_result cpu said)
  result_none cpu said = search arith

  nudge_none : (key found : ℕ) (put : Option ℕ) → NoCalls (of_nudge key found put)
  nudge_none key found put = search arith

  -- a step on a word of the stop half
  pub no_calls : (p : Past) (w : Word) (s : Seen) → is_call_word w ≡ false → NoCalls (told_on p w s)
  no_calls p w s h1 = search (no_if, on_none, arg_none, result_none, nudge_none, true≢false, arith)

-- the calls are the same
pub stop_tells : (a : CallState) (me : ℕ) (x : Act) (w : Word) (found put : Option ℕ) → is_call_word w ≡ false → told a me x w found put ≡ a
stop_tells a me x w found put h1 = search (true≢false, arith)

pub stop_word : (n me : ℕ) (changes : List Change) (stage : StopStage) → is_call_word (word_of (stop_access n me changes stage)) ≡ false
stop_word n me changes stage = search arith

-- a CPU in a command of the call half steps on a word of that half
pub call_word : (at : Word → ℕ) (me : ℕ) (stage : Stage) → is_call_word (word_of (access_of at me stage)) ≡ true
call_word at me stage = search arith
