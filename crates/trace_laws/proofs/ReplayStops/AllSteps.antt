-- Each step of the stop half is accepted.
use Rattle.trace_laws.proofs.Names.{Some, refl, ℕ, ◌<◌, ◌^◌, ◌≡◌}
use Rattle.trace_laws.proofs.ReplayNames.{Advance, Begin, Close, Complete, CompletionStage, Drafts, Enter, ExchangeKey}
use Rattle.trace_laws.proofs.ReplayNames.{LoadResult, NudgeKey, OpenGate, ReadKey, ReadSite, RoundStage, Slot, StopStage, TakeGate, Visit, setup_of}
use Rattle.trace_laws.proofs.ReplayNames.{stop_number}
use Rattle.smp_words.specs.declared.field.Field.TheVariants as field
use Rattle.smp_stop_steps.specs.declared.stage.CompletionStage.TheVariants as completion
use Rattle.smp_stop_steps.specs.declared.stage.RoundStage.TheVariants as round
use Rattle.trace_laws.proofs.ReplayPatches.PatchSteps as patching
use Rattle.trace_laws.proofs.ReplayStops.EndSteps as ends
use Rattle.trace_laws.proofs.ReplayStops.KeyNudges as nudges
use Rattle.trace_laws.proofs.ReplayStops.PhaseSteps as phases
use Rattle.trace_laws.proofs.ReplayStops.StageSteps as stages
use Rattle.trace_laws.proofs.ReplayStops.TurnSteps as turns
use Rattle.trace_laws.proofs.{ReplayPatches.PatchEvents.AreEntries, ReplayStops.Here.Here, ReplayStops.Here.parts, ReplayStops.TurnSteps.Made}

module _ (known : Here) (results : (slot : ℕ) → stop_number known.v.table (Slot slot field.Result) < 2 ^ 32)
    (online : known.s.setting.online ≡ known.v.online) (count : known.s.setting.keys ≡ known.v.labels.keys)
    (entries : AreEntries (setup_of known.v.online known.v.labels) known.s.words) where
  open known use {shown}
  open parts known use {C, Old}

  abbrev Does : StopStage → Type 0
  Does stage = Made known stage

  in_round : (x : Visit) (stage : RoundStage) → C.stage ≡ Some (Advance x stage) → Does (Advance x stage)
  in_round x (round.Look answer) e = turns.looks known x answer e
  in_round x (round.LoadFunc answer) e = turns.loads_func known x answer
  in_round x (round.LoadArg answer func) e = turns.loads_arg known x answer func e
  in_round x (round.LoadKey key change) e = patching.begins_patch known x key change e
  in_round x (round.StoreChange made) e = patching.stores_change known x made e entries
  in_round x (round.Acknowledge answer ran) e = phases.acknowledges_phase known x answer ran e entries
  in_round x (round.Refill ran) e = phases.refills known x ran e
  in_round x (round.Raise ran) e = phases.raises_phase known x ran e
  in_round x stage e = stages.loads known (Advance x stage) (λ k. refl) (λ k. refl)

  in_completion : (x : Visit) (stage : CompletionStage) → C.stage ≡ Some (Complete x stage) → Does (Complete x stage)
  in_completion x (completion.LoadFunc answer) e = ends.loads_func known results x answer
  in_completion x (completion.LoadArg answer func) e = ends.loads_arg known results x answer func e
  in_completion x completion.StoreAnswer e = ends.stores_answer known results x e
  in_completion x completion.CountDown e = ends.counts_down known results x e

  pub stop_accepted : (stage : StopStage) → C.stage ≡ Some stage → Drafts (Some stage) Old.draft → Does stage
  stop_accepted TakeGate e d = stages.takes_gate known
  stop_accepted OpenGate e d = stages.opens_gate known e
  stop_accepted (Begin w g) e d = stages.begins known w g e d online count
  stop_accepted (Enter slot) e d = stages.enters known slot e
  stop_accepted (Advance x stage) e d = in_round x stage e
  stop_accepted (Complete x stage) e d = in_completion x stage e
  stop_accepted (Close slot) e d = ends.closes known results slot e
  stop_accepted LoadResult e d = ends.collects_it known results e
  stop_accepted (ReadKey k) e d = stages.reads_key known k e
  stop_accepted (ReadSite k) e d = stages.reads_site known k e
  stop_accepted (NudgeKey k up) e d = stages.looks_key known k up e
  stop_accepted (ExchangeKey k expected new) e d = nudges.exchanges known shown.shows.setup.few_keys k expected
      new e
  stop_accepted stage e d = stages.loads known stage (λ k. refl) (λ k. refl)
