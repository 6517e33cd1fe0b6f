-- How far a CPU is with its function, by its stage: that it has called it, and with which answer it completes.
use Rattle.std.specs.Prelude.{◌≡◌, ℕ, Bool, true, false, Option, Some, None}
use Rattle.smp_stop_steps.specs.Names.{StopStage, Advance, Complete, EnterKind, EnterMask, EnterActive, Visit, Patch, EXIT, CompletionStage, RoundStage}
use Rattle.smp_stop_steps.specs.{Callings.answer_in, Stages.StopControlValue, State.Calling, State.Idle, State.Calls, State.Carries}

-- it calls no function now, and its visit has the answer that it carries
abbrev pub IsQuiet : Option Visit → Calling → Type 0
IsQuiet None Idle = Unit {0}
IsQuiet (Some v) Idle = v.answer ≡ 0
IsQuiet (Some v) (Carries answer) = v.answer ≡ answer
IsQuiet _ _ = ⊥

-- it is to acknowledge: with this answer of the function that it has called, or with none
abbrev pub IsAcking : Visit → ℕ → Bool → Calling → Type 0
IsAcking v answer true Idle = v.kind ≡ Patch
IsAcking v answer true (Calls call) = answer ≡ call.answer
IsAcking v answer true (Carries x) = ⊥
IsAcking v answer false f = IsQuiet (Some v) f

-- it is to complete with the answer of its visit; who has called no function has left its stop
abbrev pub IsEnding : Visit → Calling → Type 0
IsEnding v Idle = (v.acked ≡ EXIT) × (v.answer ≡ 0)
IsEnding v f = v.answer ≡ answer_in f

abbrev pub CarriesAt : Option Visit → Option StopStage → Calling → Type 0
CarriesAt visit (Some (Advance v (RoundStage.Acknowledge answer ran))) f = IsAcking v answer ran f
CarriesAt visit (Some (Complete v CompletionStage.StoreAnswer)) f = IsEnding v f
CarriesAt visit (Some (Complete v CompletionStage.CountDown)) f = IsEnding v f
CarriesAt visit (Some (EnterKind slot)) f = f ≡ Idle
CarriesAt visit (Some (EnterMask slot kind)) f = f ≡ Idle
CarriesAt visit (Some (EnterActive slot kind mask)) f = f ≡ Idle
CarriesAt visit _ f = IsQuiet visit f

abbrev pub CarriesIn : StopControlValue → Calling → Type 0
CarriesIn c f = CarriesAt c.visit c.stage f
