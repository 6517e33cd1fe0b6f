use Rattle.std.proofs.Common.{◌<◌, ap, subst, ◌∙◌}
use Rattle.smp_labels.specs.declared.words.TheConstants.{MOST_KEYS}
use Rattle.smp_stop_steps.specs.Threads.Known.{stepped}
use Rattle.smp_multi.proofs.Patching.{ready_begin, begin_known, at_patch, patch_alone}
use Rattle.smp_multi.proofs.patch.begin_patch.Goals as goal

pub load-requires : goal.load-requires
load-requires c = ready_begin _ _ c.args.visit c.requires.at c.args.key c.requires.key c.requires.low

pub returns-clause-known : goal.returns-clause-known
returns-clause-known c = c.load.ensures.known ∙ ap (stepped 1) (begin_known _ _ c.args.visit c.requires.at c.args.key c.load.result)

pub returns-clause-at : goal.returns-clause-at
returns-clause-at c = at_patch _ _ c.args.visit c.requires.at c.load.new.seat c.load.result c.load.ensures.table (returns-clause-known c)
    (subst (λ n. n < MOST_KEYS) c.requires.key c.requires.low)

pub returns-clause-alone : goal.returns-clause-alone
returns-clause-alone c = patch_alone _ _ c.args.visit (returns-clause-at c)
