use Rattle.smp_script.proofs.Names.{nat_lt, rules, tests, road}
use Rattle.std.proofs.lemmas.Iterator.Consumers.{YieldsList-at}
use Rattle.std.proofs.lemmas.Iterator.Search.{all_from_yields_List}
use Rattle.smp_script.proofs.field.stays_below.Goals as goal

pub returns : goal.returns
returns c = all_from_yields_List (λ cpu. nat_lt cpu c.args.limit) _ _ c.all.result c.all.ensures.ran (YieldsList-at c.iter.ensures (road c.args.mask))
    (λ x b q k. search (rules, tests))
