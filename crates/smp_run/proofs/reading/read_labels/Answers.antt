use Rattle.std.proofs.Common.{◌++◌, ap, ◌∙◌, arith}
use Rattle.smp_multi.specs.Cpu.{CpuValue}
use Rattle.smp_run.specs.Readings.{keys_read, sites_read}
use Rattle.smp_run.proofs.Readings.{both_read, kinds_read, same_labels}
use Rattle.smp_run.proofs.reading.read_labels.Goals as goal

pub returns-clause-kinds : goal.returns-clause-kinds
returns-clause-kinds g c =
    let labels = c.args.labels.now in let keys = c.in_ok-keys.keys.items in let sites = c.in_ok-sites.sites.items in
    let by_keys = c.in_ok-keys.ensures.0 in let by_sites = c.in_ok-sites.ensures.read.0 in
    kinds_read labels keys sites c.read_sites.new.me.stops c.args.me.now.stops.part.readings c.words-words.ensures.known
    (same_labels c.args.machine.now c.args.me.now c.read_keys.new.me c.read_sites.new.me labels c.requires.seated
    (ap (λ (x : CpuValue). x.setting) by_keys.stops_are)
    (ap (λ (x : CpuValue). x.setting) by_sites.stops_are)
    c.requires.labels)
    (c.in_ok-keys.ensures.1 ∙ c.keys.ensures.value) (c.in_ok-sites.ensures.read.1 ∙ c.sites.ensures.value)
    (ap (λ (x : CpuValue). x.part.readings) by_sites.stops_are
    ∙ ap (λ (x : CpuValue). x.part.readings ++ sites_read sites) by_keys.stops_are)
    (λ some. c.in_ok-sites.ensures.one (omega (arith, some, c.sites.ensures.value)))

pub returns-clause-read : goal.returns-clause-read
returns-clause-read g c =
    both_read c.args.machine.now c.args.me.now c.read_keys.new.me c.read_sites.new.me (keys_read c.in_ok-keys.keys.items) (sites_read c.in_ok-sites.sites.items)
    c.in_ok-keys.ensures.0 c.in_ok-sites.ensures.read.0
