-- What a CPU's stage says of its seat and of its source.
use Rattle.std.specs.Prelude.{◌≡◌, ℕ, Option, Some}
use Rattle.std.proofs.Common.{subst}
use Rattle.smp_stop_steps.specs.{StopRole, OwnsIf, SitsAt, SitsInRound, SourceSits, Source, StopControlValue, Setup, RoundStage, Advance, StopStage, Visit}
use Rattle.smp_stop_steps.specs.Sits.{ControlFits}

module _ {u : Setup} {me gate : ℕ} {c : StopControlValue} {x : StopRole} {y : Source} (s : ControlFits u me gate c x y) where
  pub at_seat : (stage : StopStage) → c.stage ≡ Some stage → SitsAt u me c (Some stage) x
  at_seat stage e = subst (λ (st : Option StopStage). SitsAt u me c st x) e s.seat

  pub at_source : (stage : StopStage) → c.stage ≡ Some stage → SourceSits c.is_open (Some stage) y
  at_source stage e = subst (λ (st : Option StopStage). SourceSits c.is_open st y) e s.source

  -- in a round
  pub in_round : (v : Visit) (stage : RoundStage) → c.stage ≡ Some (Advance v stage) → (c.visit ≡ Some v) × SitsInRound u me c.changes v stage x
  in_round v stage e = at_seat (Advance v stage) e

  pub round_source : (v : Visit) (stage : RoundStage) → c.stage ≡ Some (Advance v stage) → OwnsIf c.is_open y
  round_source v stage e = at_source (Advance v stage) e
