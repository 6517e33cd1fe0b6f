use Rattle.std.proofs.Common.{◌≡◌, sym, refl, ap, ◌∙◌, cond}
use Rattle.smp_mask.specs.Mask.{has}
use Rattle.smp_multi.specs.Places.{entered, missed}
use Rattle.smp_multi.proofs.Entering.{ready_roll, entered_or, is_called_by}
use Rattle.smp_multi.proofs.enter.take_bit.Goals as goal

pub mask-found-requires : goal.mask-found-requires
mask-found-requires c = ready_roll _ _ c.args.number c.args.slot _ c.requires.free c.requires.low refl

pub returns-clause-known : goal.returns-clause-known
returns-clause-known c =
    let k = c.mask-found.ensures.known in
    let work = (k.0.stops.now.stop c.args.slot).work in
    let v = c.args.seat.now.known in
    let same : c.has_bit.result ≡ has c.mask-found.result v.number = c.has_bit.ensures ∙ ap (has c.mask-found.result) (sym c.requires.free.seated.number_is)
    in (
      work,
      k.1 ∙ (entered_or c.args.slot work (has c.mask-found.result v.number) v
          ∙ ap (λ b. cond b (entered c.args.slot work v) (missed c.args.slot v)) (sym same)),
      λ e. is_called_by v c.args.slot c.mask-found.result k.0 (sym same ∙ e),
    )
