use Rattle.std.proofs.Common.{◌∙◌, sym, ap}
use Rattle.smp_mask.specs.declared.mask.TheConstants.{NR_CPUS}
use Rattle.smp_mask.specs.Reading.{is_live}
use Rattle.smp_mask.proofs.Reach.{live_high}
use Rattle.smp_mask.proofs.parse.Place.after.Goals as goal

pub longer-requires-in-High : goal.longer-requires-in-High
longer-requires-in-High c = live_high NR_CPUS c.in-High.low c.in-High.high (sym (ap (is_live NR_CPUS) c.in-High.is) ∙ c.requires)
