use Rattle.std.proofs.Common.{ap, refl, ◌∙◌}
use Rattle.smp_multi.specs.Names.{KnownStops, Rests}
use Rattle.smp_multi.specs.Names.field
use Rattle.smp_multi.proofs.Counting.{then_steps}
use Rattle.smp_multi.proofs.Entering.{ready_plain, entered_moved, finds_kind, finds_mask, finds_active}
use Rattle.smp_multi.proofs.enter.load_visit.Goals as goal

pub load-kind-requires : goal.load-kind-requires
load-kind-requires c = ready_plain _ _ c.args.slot c.requires.0 field.Kind c.requires.1 tt

pub load-mask-requires : goal.load-mask-requires
load-mask-requires c = ready_plain _ _ c.args.slot c.requires.0 field.Mask
    (entered_moved _ _ _ c.args.slot c.requires.0 1 c.requires.1 c.load-kind.ensures.table c.load-kind.ensures.known) tt

pub load-active-requires : goal.load-active-requires
load-active-requires c = ready_plain _ _ c.args.slot c.requires.0 field.Active
    (entered_moved _ _ _ c.args.slot c.requires.0 2 c.requires.1 c.load-mask.ensures.table
    (then_steps 1 1 _ _ _ c.load-kind.ensures.known c.load-mask.ensures.known)) tt

pub returns-clause-known : goal.returns-clause-known
returns-clause-known c = then_steps 2 1 _ _ _ (then_steps 1 1 _ _ _ c.load-kind.ensures.known c.load-mask.ensures.known) c.load-active.ensures.known

pub returns-clause-visit : goal.returns-clause-visit
returns-clause-visit c = λ work h.
    let one = c.load-kind.ensures.known in
    let two = then_steps 1 1 _ _ _ one c.load-mask.ensures.known in
    record {
      loaded = record {
        kind = c.of_word.ensures ∙ finds_kind _ c.args.slot work 0 0 Rests h.seat_is c.load-kind.result c.load-kind.ensures.then;
        mask = finds_mask _ c.args.slot work 0 0 Rests (ap (λ (v : KnownStops). v.seat) one ∙ h.seat_is) c.load-mask.result c.load-mask.ensures.then;
        active = finds_active _ c.args.slot work 0 0 Rests (ap (λ (v : KnownStops). v.seat) two ∙ h.seat_is) c.load-active.result c.load-active.ensures.then;
      };
      slot_is = refl;
      fresh = refl;
    }
