use Rattle.std.proofs.Common.{◌<◌, sym, refl, ap, ◌∙◌, arith}
use Rattle.smp_mask.specs.Mask.{has}
use Rattle.smp_words.specs.Size.{cpus}
use Rattle.smp_call_steps.proofs.Machine.Starts.{online_below}
use Rattle.smp_queue.specs.{Intr, Send}
use Rattle.smp_queue.proofs.TheRule.Cells.{has_cell}
use Rattle.smp_queue.proofs.table.CallTable.interrupt.Goals as goal

pub store-requires : goal.store-requires
store-requires g c =
    let m = c.me.invariant in
    let l = m.below in
    let n = m.number_is in
    let to : c.args.to < cpus = online_below c.self.inside.nr c.self.inside.online c.args.to c.self.invariant.limits
    (sym c.contains.ensures.member ∙ c.if-not-contains.false) in
    record {
      table_is = ap (λ d. d.table) c.me.view_is ∙ (c.requires ∙ (sym (ap (λ t. t.table) c.self.view_is) ∙ sym c.words.ensures.table));
      sized = ap (λ t. t.words) c.words.ensures.table ∙ c.self.invariant.sized;
      can = record { stage = Send c.args.to; aims = (m.outside, to, omega arith); is_access = refl };
      apart = tt;
      reaches = ap (λ k. has k.online c.args.to) (c.words.ensures.key ∙ c.self.invariant.key_is) ∙ (sym c.contains.ensures.member ∙ c.if-not-contains.false);
      cell = has_cell (Intr c.args.to) to;
    }
