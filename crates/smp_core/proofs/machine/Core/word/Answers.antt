use Rattle.std.proofs.Common.{◌≡◌, ℕ, ◌<◌, Some, sym, ap, ◌∙◌, arith}
use Rattle.std.proofs.lemmas.List.{get_or_read}
use Rattle.std.proofs.lemmas.Bool.{ltb-true}
use Rattle.smp_words.specs.Layout.{index_of}
use Rattle.smp_words.specs.Size.{table_size}
use Rattle.smp_words.specs.declared.word.Word.{Word}
use Rattle.smp_core.proofs.machine.Core.word.Goals as goal

-- a word's number is below the size of the table
index_below : (w : Word) (i : ℕ) → index_of w ≡ Some i → i < table_size
index_below w i e = search (ltb-true, arith)

pub returns-in-Some : goal.returns-in-Some
returns-in-Some g c =
    let at : index_of c.args.word ≡ Some c.in-Some.index = sym c.call_index.ensures ∙ c.in-Some.is in
    let low = index_below c.args.word c.in-Some.index at in
    let sized = c.self.invariant.table.words_sized in
    rw (← c.self.view_is, at) (ap Some (get_or_read c.self.inside.words.items c.in-Some.index c.index.result.now (omega (arith, low, sized)) c.index.ensures 0))
