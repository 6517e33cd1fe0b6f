use Rattle.trace_judge.proofs.Meaning.{is_meant, runs_accepted}
use Rattle.trace_judge.proofs.laws.verdicts_are_meant.Goals as goal

pub returns-clause-meant : goal.returns-clause-meant
returns-clause-meant c = is_meant

pub returns-clause-accepted : goal.returns-clause-accepted
returns-clause-accepted c = runs_accepted
