use Rattle.std.proofs.Common.{◌∙◌, sym, ap}
use Rattle.smp_mask.specs.declared.mask.TheConstants.{NR_CPUS}
use Rattle.smp_mask.specs.Reading.{is_live}
use Rattle.smp_mask.proofs.Reach.{live_high}
use Rattle.smp_mask.proofs.parse.Place.whole.Goals as goal

pub returns-in-High-clause-within : goal.returns-in-High-clause-within
returns-in-High-clause-within c = live_high NR_CPUS c.in-High.low c.in-High.high (sym (ap (is_live NR_CPUS) c.in-High.is) ∙ c.requires)
