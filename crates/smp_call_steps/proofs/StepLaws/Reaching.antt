-- Each step that a CPU may make next leads from calls and words that are reached to such.
use Rattle.std.proofs.Common.{◌≡◌, ℕ, ◌<◌, Option, Some, subst, arith}
use Rattle.smp_words.specs.Size.{cpus}
use Rattle.smp_words.proofs.Sizes.{owner-below}
use Rattle.smp_call_steps.specs.{CallState, ControlValue, StandsAt, share_of, seen_then, ReachesOn, Word, Stage}
use Rattle.smp_call_steps.specs.Shows.{Shows}
use Rattle.smp_call_steps.proofs.Knows.Reached.{reach_more}
use Rattle.smp_call_steps.proofs.StepLaws.Premises.{may_make}

module _ (a : CallState) (at : Word → ℕ) (control : ℕ → ControlValue) (s : Shows a at control) (me : ℕ) where
  in_range : (stage : Stage) → StandsAt a.place at (share_of a me) (control me).drain me (Some stage) → me < cpus
  in_range x k = search (owner-below, arith)

  pub reaches_on : (stage : Stage) → (control me).stage ≡ Some stage → ReachesOn a at (control me).drain me stage
  reaches_on stage e r =
      let stands = subst (λ (x : Option Stage). StandsAt a.place at (share_of a me) (control me).drain me x) e (s.stands me) in
      reach_more a at (seen_then at (control me).drain me stage) (in_range stage stands, may_make a at control s me stage e) r
