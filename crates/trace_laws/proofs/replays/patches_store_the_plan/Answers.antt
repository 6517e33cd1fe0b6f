use Rattle.trace_laws.proofs.ReplayPatches.PlannedStores.{plan_leads}
use Rattle.trace_laws.proofs.replays.patches_store_the_plan.Goals as goal

pub returns : goal.returns
returns c = plan_leads
