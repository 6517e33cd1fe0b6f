-- What breaks the headline of stops.
use Rattle.std.proofs.Common.{◌≡◌, ◌≢◌, ◌≤◌, true≢false, sym, refl, arith}
use Rattle.smp_stop_steps.specs.{StopCall, One, Multi, no_stops}
use Rattle.smp_stop_steps.specs.Broken.{runs_outside, runs_inactive, runs_early, runs_interrupted, patches_interrupted, turned_site}
use Rattle.smp_stop_steps.specs.Headline.{has_entered, makes_patch, RunDisabled, IsLawfulElse}

abbrev call : StopCall
call = record { func = 0; arg = 0; answer = 0 }

no_one : Multi ≢ One
no_one e = cc

pub outside : RunDisabled runs_outside → ⊥
outside h = true≢false (sym (h 0 1 (has_entered call refl refl no_one)).member)

pub inactive : RunDisabled runs_inactive → ⊥
inactive h = true≢false (sym (h 0 1 (has_entered call refl refl no_one)).active)

pub early : RunDisabled runs_early → ⊥
early h = let e : 2 ≤ 1 = ((h 0 1 (has_entered call refl refl no_one)).disabled 0 refl).acknowledged in omega (arith, e)

pub interrupted : RunDisabled runs_interrupted → ⊥
interrupted h = true≢false ((h 0 1 (has_entered call refl refl no_one)).disabled 0 refl).off

pub patch_interrupted : RunDisabled patches_interrupted → ⊥
patch_interrupted h = true≢false ((h 0 1 (makes_patch _ _ _ _ refl refl)).disabled 0 refl).off

pub turned : IsLawfulElse no_stops turned_site → ⊥
turned h = let e : 1 ≡ 0 = (h refl).sites 0 (omega arith) in omega (arith, e)
