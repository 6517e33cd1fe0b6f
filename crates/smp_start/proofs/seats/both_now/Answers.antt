use Rattle.std.proofs.Common.{◌≡◌, ◌∷◌, [], sym, ap, ◌∙◌, subst}
use Rattle.smp_start.specs.Crowd.{IsMoment}
use Rattle.smp_start.proofs.Moments.{same_first}
use Rattle.smp_start.proofs.seats.both_now.Goals as goal

pub returns : goal.returns
returns g c =
    let one = c.args.one.now in
    let other = c.args.other.now in
    let crowd = c.all_now.ensures in
    let both : c.all_now.new.crowd.seats ≡ (c.take-2.new.seat.table_id, (other.id, other.me)) ∷ (c.take.new.seat.table_id, (one.id, one.me)) ∷ [] =
    ap (λ w. w.seats) crowd.0 ∙ (c.take-2.ensures.2 ∙ ap (λ ms. (c.take-2.new.seat.table_id, (other.id, other.me)) ∷ ms)
    (c.take.ensures.2 ∙ ap (λ ms. (c.take.new.seat.table_id, (one.id, one.me)) ∷ ms) c.new-crowd.ensures.1)) in
    let last = same_first _ _ _ _ (sym both ∙ c.give.ensures.3) in
    let first = same_first _ _ _ _ (last.1 ∙ c.give-2.ensures.3) in
    let table = ap (λ w. w.table_id) crowd.0 ∙ (c.take-2.ensures.0 ∙ (c.take.ensures.0 ∙ c.new-crowd.ensures.0)) in
    let at = subst (λ ms. IsMoment crowd.1.0 ms) (sym (ap (λ w. w.seats) crowd.0) ∙ both) crowd.1.2 in (
      λ i. record {
        marker = one.marker;
        table_id = (c.give-2.ensures.1 ∙ (c.give.ensures.0 ∙ (table ∙ sym c.requires.0))) i;
        id = (first.0 i).1.0;
        me = (first.0 i).1.1;
      },
      λ i. record {
        marker = other.marker;
        table_id = (c.give.ensures.1 ∙ (table ∙ sym c.requires.1)) i;
        id = (last.0 i).1.0;
        me = (last.0 i).1.1;
      },
      (crowd.1.0, crowd.1.1, at.1.0, at.0),
    )
