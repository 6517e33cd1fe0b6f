use Rattle.std.proofs.Common.{◌≡◌, ◌||◌, Bool, true, false, ℕ, sym, refl, ap, ◌∙◌, arith}
use Rattle.std.proofs.lemmas.List.{get_or_read}
use Rattle.smp_words.specs.Layout.{number_in}
use Rattle.smp_call_steps.specs.{nexts_in, outside}
use Rattle.smp_call_steps.proofs.State.Places.{is_on, in_batch, in_between, down_chain, up_chain}
use Rattle.smp_call_steps.proofs.place.is_in_batch.Goals as goal

or_first : (x y b : Bool) → b ≡ x → b ≡ true → b ≡ (x || y)
or_first x y b e t = search arith

or_second : (x y b : Bool) → x ≡ false → b ≡ y → b ≡ (x || y)
or_second x y b f e = rw f e

pub is_on_chain-requires-clause-chained : goal.is_on_chain-requires-clause-chained
is_on_chain-requires-clause-chained c =
    let controls = c.args.controls.now in
    let here = get_or_read controls c.args.cpu c.index-controls-cpu.result (omega (arith, c.requires.known, c.requires.table.controls_sized))
    c.index-controls-cpu.is outside in
    rw c.down.ensures (down_chain c.requires.table.shown c.args.cpu c.index-controls-cpu.result here)

pub is_on_chain-requires-else-is_on_chain-clause-chained : goal.is_on_chain-requires-else-is_on_chain-clause-chained
is_on_chain-requires-else-is_on_chain-clause-chained c =
    let controls = c.args.controls.now in
    let here = get_or_read controls c.args.cpu c.index-controls-cpu.result (omega (arith, c.requires.known, c.requires.table.controls_sized))
    c.index-controls-cpu.is outside in
    rw c.up.ensures (up_chain c.requires.table.shown c.args.cpu c.index-controls-cpu.result here)

pub returns-then-is_between-clause-calls : goal.returns-then-is_between-clause-calls
returns-then-is_between-clause-calls c calls shown =
    let controls = c.args.controls.now in
    let here = get_or_read controls c.args.cpu c.index-controls-cpu.result (omega (arith, c.requires.known, c.requires.table.controls_sized))
    c.index-controls-cpu.is outside in (
      (λ _. in_between shown c.args.cpu c.index-controls-cpu.result here c.args.id (sym c.is_between.ensures ∙ c.if-is_between.true)),
      (λ _. refl),
    )

pub returns-then-is_on_chain-clause-calls : goal.returns-then-is_on_chain-clause-calls
returns-then-is_on_chain-clause-calls c calls shown =
    let controls = c.args.controls.now in
    let at = number_in c.args.words.now in
    let x = c.index-controls-cpu.result in
    let here = get_or_read controls c.args.cpu x (omega (arith, c.requires.known, c.requires.table.controls_sized)) c.index-controls-cpu.is outside in
    let down = c.is_on_chain.ensures ∙ ap (λ (link : ℕ). is_on (nexts_in at) link c.args.id) c.down.ensures in
    in_batch shown c.args.cpu x here c.args.id _ (sym c.is_between.ensures ∙ c.if-is_between.false) (or_first _ _ _ down c.if-is_on_chain.true)

pub returns-else-is_on_chain-clause-calls : goal.returns-else-is_on_chain-clause-calls
returns-else-is_on_chain-clause-calls c calls shown =
    let controls = c.args.controls.now in
    let at = number_in c.args.words.now in
    let x = c.index-controls-cpu.result in
    let here = get_or_read controls c.args.cpu x (omega (arith, c.requires.known, c.requires.table.controls_sized)) c.index-controls-cpu.is outside in
    let down = c.is_on_chain.ensures ∙ ap (λ (link : ℕ). is_on (nexts_in at) link c.args.id) c.down.ensures in
    let up = c.is_on_chain-else-is_on_chain.ensures ∙ ap (λ (link : ℕ). is_on (nexts_in at) link c.args.id) c.up.ensures in
    in_batch shown c.args.cpu x here c.args.id _ (sym c.is_between.ensures ∙ c.if-is_between.false) (or_second _ _ _ (sym down ∙ c.if-is_on_chain.false) up)

pub returns-then-is_between-clause-told : goal.returns-then-is_between-clause-told
returns-then-is_between-clause-told c = search (get_or_read, arith)

pub returns-then-is_on_chain-clause-told : goal.returns-then-is_on_chain-clause-told
returns-then-is_on_chain-clause-told c = search (get_or_read, arith)

pub returns-else-is_on_chain-clause-told : goal.returns-else-is_on_chain-clause-told
returns-else-is_on_chain-clause-told c = search (get_or_read, arith)
