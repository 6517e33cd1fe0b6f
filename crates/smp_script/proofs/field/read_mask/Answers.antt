use Rattle.smp_script.proofs.Names.{◌≡◌, true, ◌∙◌, sym, refl, codes, bytes_eq, none_empty}
use Rattle.smp_script.proofs.field.read_mask.Goals as goal

pub returns-then-is_word : goal.returns-then-is_word
returns-then-is_word c =
    let none : c.empty.result ≡ 0 = none_empty _ c.empty.ensures in
    let dash : bytes_eq c.args.text.now (codes "-") ≡ true = sym c.is_word.ensures ∙ c.if-is_word.true in
    rw (none, dash) refl
