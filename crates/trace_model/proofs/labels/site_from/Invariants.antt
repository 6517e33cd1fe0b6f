-- None of the sites that were tried is of the key.
use Rattle.std.proofs.Common.{◌≡◌, ◌-◌}
use Rattle.trace_model.specs.Labels.{is_site, site_from}
use Rattle.trace_model.specs.Stop.{first_from}
use Rattle.trace_model.proofs.labels.site_from.Given as goal

abbrev pub invariant-loop-site : goal.invariant-loop-site
invariant-loop-site l = first_from (is_site l.words l.key) l.site (16 - l.site) ≡ site_from l.words l.key l.from
