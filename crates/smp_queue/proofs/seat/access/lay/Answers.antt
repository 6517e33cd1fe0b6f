use Rattle.std.proofs.Common.{◌≡◌, ◌∙◌, ℕ, [], List, replicate, sym, subst}
use Rattle.atomic_table.specs.Table.{opening}
use Rattle.smp_queue.specs.{Maker, cells, Ruled}
use Rattle.smp_queue.proofs.TheRule.Keeps.{starts}
use Rattle.smp_queue.proofs.seat.access.lay.Goals as goal

pub new-requires : goal.new-requires
new-requires g c =
    let zeros = c.in_ok-words.ensures.items_if_clones_equal (λ y h. h) in
    let same : c.as_slice.result.now ≡ replicate cells 0 = c.as_slice.ensures.value ∙ zeros in
    subst (λ (ws : List ℕ). Ruled c.args.setting.now (opening ws [] (Maker 0 c.args.setting.now))) (sym same) (starts c.args.setting.now)
