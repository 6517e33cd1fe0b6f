use Rattle.std.proofs.Common.{◌≡◌, ◌++◌, ◌∷◌, [], ℕ, ◌+◌, refl, ap, ◌∙◌}
use Rattle.smp_multi.specs.Names.{ReadSite}
use Rattle.smp_multi.specs.Reads.{jumps}
use Rattle.smp_run.specs.Readings.{HasRead, site_reading, sites_read}
use Rattle.smp_run.proofs.Joining.{one_more}
use Rattle.smp_run.proofs.Readings.{more_read}
use Rattle.smp_run.proofs.reading.read_sites.Goals as goal

pub loop-i-preserved : goal.loop-i-preserved
loop-i-preserved g c =
    let was = c.loop-i.invariant in let old = c.loop-i.sites.items in let item = c.read_site-kind.result in
    let items : c.push.new.self.items ≡ old ++ item ∷ [] = c.in_ok-push.ensures.items in
    let all : HasRead c.args.machine.now c.args.me.now c.read_site-kind.new.me (sites_read (old ++ item ∷ [])) =
    more_read site_reading c.args.machine.now c.args.me.now c.loop-i.me c.read_site-kind.new.me old item c.loop-i.i
    (ReadSite c.loop-i.i (jumps c.read_site-kind.result)) was.1 refl was.0 c.read_site-kind.ensures in (
      rw items all,
      rw items (one_more old item ∙ ap (λ (n : ℕ). n + 1) was.1),
      λ some. c.read_site-kind.ensures.one_table,
    )
