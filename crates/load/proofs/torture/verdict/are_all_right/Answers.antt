use Rattle.std.proofs.Common.{◌↔◌, All, IsTrue, List, subst}
use Rattle.load.specs.declared.torture.kind.Kind.{Kind}
use Rattle.load.specs.Kinds.{index_of}
use Rattle.load.specs.Verdicts.{IsRightOf}
use Rattle.load.proofs.torture.verdict.are_all_right.Goals as goal

pub returns : goal.returns
returns c =
    subst (λ (ks : List Kind). IsTrue c.are_right.result ↔ All (λ k. IsRightOf (index_of k) c.args.reports.now) ks)
    c.as_slice.ensures c.are_right.ensures
