use Rattle.smp_script.proofs.Names.{◌≡◌, ◌∙◌, sym, ap, map, Ok, true, false, arith, subst, take_all, AreLabels, entry_of}
use Rattle.smp_script.proofs.Reader.Items.{good_items, make_labels}
use Rattle.smp_script.proofs.labels.read_entries.Goals as goal

pub returns-in-Ok : goal.returns-in-Ok
returns-in-Ok c =
    let good = good_items (λ i. i.now) c.args.keys c.args.items.now (sym c.have_numbers.ensures ∙ c.if-not-have_numbers.false) (omega arith)
    (sym c.are_below.ensures ∙ c.if-not-are_below.false) in
    let all = c.loop-item.invariant ∙ ap (λ xs. map entry_of (map (λ i. i.now) xs)) (take_all c.loop-item.item-index c.args.items.now c.loop-item-test.false) in
    rw good (ap Ok (c.in-Ok.ensures.made ∙ ap (λ es. record { keys = c.args.keys; entries = es }) (c.as_slice.ensures.value ∙ all)))

pub returns-in-Err : goal.returns-in-Err
returns-in-Err c =
    let are = make_labels (λ i. i.now) c.args.keys c.args.items.now c.requires (omega arith) (sym c.are_below.ensures ∙ c.if-not-are_below.false) in
    let all = c.loop-item.invariant ∙ ap (λ xs. map entry_of (map (λ i. i.now) xs)) (take_all c.loop-item.item-index c.args.items.now c.loop-item-test.false) in
    let bad : false ≡ true = c.in-Err.ensures.taken.1 (subst (λ es. AreLabels c.args.keys es) (sym (c.as_slice.ensures.value ∙ all)) are) in
    cc
