use Rattle.std.proofs.Common.{◌≡◌, ◌++◌, ◌∷◌, [], ℕ, ◌+◌, refl, ap, ◌∙◌}
use Rattle.smp_multi.specs.Names.{ReadKey}
use Rattle.smp_run.specs.Readings.{HasRead, key_reading, keys_read}
use Rattle.smp_run.proofs.Joining.{one_more}
use Rattle.smp_run.proofs.Readings.{more_read}
use Rattle.smp_run.proofs.reading.read_keys.Goals as goal

pub loop-k-preserved : goal.loop-k-preserved
loop-k-preserved g c =
    let was = c.loop-k.invariant in let old = c.loop-k.keys.items in let item = c.read_key-on.result in
    let items : c.push.new.self.items ≡ old ++ item ∷ [] = c.in_ok-push.ensures.items in
    let all : HasRead c.args.machine.now c.args.me.now c.read_key-on.new.me (keys_read (old ++ item ∷ [])) =
    more_read key_reading c.args.machine.now c.args.me.now c.loop-k.me c.read_key-on.new.me old item c.loop-k.k (ReadKey c.loop-k.k c.read_key-on.result)
    was.1 refl was.0 c.read_key-on.ensures in (
      rw items all,
      rw items (one_more old item ∙ ap (λ (n : ℕ). n + 1) was.1),
    )
