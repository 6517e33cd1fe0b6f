-- The numbers of the steps of calls are of their types.
use Rattle.trace_laws.proofs.Names.{AllByRecursion, Bool, List, Some, arith, cond, subst, ℕ, ◌<◌, ◌^◌, ◌∷◌, ◌≡◌}
use Rattle.trace_laws.proofs.ReplayNames.{Call, CallState, DrainValue, IsPlaced, CallOutcome}
use Rattle.trace_laws.proofs.ReplayNames.{Seen}
use Rattle.trace_laws.proofs.ReplayNames.{Stage, StandsAt, Word, access_of, outcome_of, seen_of, share_of}
use Rattle.smp_call_steps.specs.declared.place.RecPlace.TheVariants as place
use Rattle.smp_call_steps.specs.{Places.IsCall}
use Rattle.trace_laws.proofs.{ReplayTexts.ToldNumbers.NoteFits, ReplayTexts.ToldNumbers.StepFits}

note_if : (b : Bool) (x y : CallOutcome) → NoteFits x.note → NoteFits y.note → NoteFits (cond b x y).note
note_if b x y k l = search arith

-- a call that is next in the batch
first_call : (a : CallState) (me : ℕ) (call : Call) (rest : List Call) → a.batch me ≡ call ∷ rest
    → AllByRecursion (IsPlaced a.place (place.Batch me)) (a.batch me) → IsCall call
first_call a me call rest e all = (subst (λ (cs : List Call). AllByRecursion (IsPlaced a.place (place.Batch me)) cs) e all).0.is_call

module _ (a : CallState) (at : Word → ℕ) (d : DrainValue) (me found : ℕ) where
  -- what is seen of a stage
  abbrev saw : Stage → Seen
  saw stage = seen_of me (access_of at me stage) found (outcome_of d stage found).note

  call_note : (call : Call) → IsCall call → (call.func < 2 ^ 16) × (call.info < 2 ^ 64)
  call_note call k = (k.func, k.info)

  -- the step of a CPU at such a place
  pub call_fits : (stage : Stage) → StandsAt a.place at (share_of a me) d me (Some stage)
      → AllByRecursion (IsPlaced a.place (place.Batch me)) (a.batch me) → StepFits (saw stage)
  call_fits stage h1 h2 = search (note_if, call_note, first_call, arith)
