use Rattle.std.proofs.Common.{◌≡◌, List, [], ◌∷◌, ℕ, refl, sym, ap, ◌∙◌}
use Rattle.smp_words.specs.declared.seen.Act.{Act}
use Rattle.smp_words.specs.declared.seen.Act.TheVariants.{Load, Store, Swap, Sub, And, Cas}
use Rattle.smp_script.proofs.Texts.Named.{first_with}
use Rattle.smp_replay.specs.Text.{act_text}
use Rattle.smp_replay.proofs.laws.acts_have_words.Goals as goal

-- the act of a word
abbrev act_of : List ℕ → Act
act_of word = first_with act_text Cas (Load ∷ Store ∷ Swap ∷ Sub ∷ And ∷ Cas ∷ []) word

act_read : (a : Act) → act_of (act_text a) ≡ a
act_read Load = refl
act_read Store = refl
act_read Swap = refl
act_read Sub = refl
act_read And = refl
act_read Cas = refl

pub returns-clause-apart : goal.returns-clause-apart
returns-clause-apart c = λ a b e. sym (act_read a) ∙ ap act_of e ∙ act_read b
