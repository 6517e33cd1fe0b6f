use Rattle.std.proofs.Common.{Err, refl}
use Rattle.smp_mask.specs.declared.error.SmpError.TheVariants as error
use Rattle.smp_tables_c.specs.Opens.{CanOpen}
use Rattle.smp_tables_c.specs.Sites.{labels_of as labels_so}
use Rattle.smp_tables_c.proofs.smp_open.Goals as goal

pub returns-in-None : goal.returns-in-None
returns-in-None c =
    let labels = labels_so c.args.keys c.args.sites.now in
    (Err error.BadArgument, ((λ (can : CanOpen c.args.nr c.args.online labels c.args.cpus.now). c.in-None.ensures.refused can.are_labels), refl), refl)
