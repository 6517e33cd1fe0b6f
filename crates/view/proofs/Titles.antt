-- First lines that name no kind.
use Rattle.std.proofs.Common.{◌≡◌, ℕ, false, List, [], ◌∷◌, None, refl}
use Rattle.std.specs.Prelude.{codes}
use Rattle.std.specs.Str.{bytes_eq}
use Rattle.smp_script.specs.Lines.{parts_of}
use Rattle.smp_script.proofs.Texts.Splits.{first_of}
use Rattle.view.specs.Kinds.{kind_in}

-- one with another first word
pub other_word : (smp : List ℕ) (rest : List (List ℕ)) → bytes_eq smp (codes "smp") ≡ false → kind_in (smp ∷ rest) ≡ None
other_word smp [] e = refl
other_word smp (version ∷ []) e = refl
other_word smp (version ∷ kind ∷ []) e = rw e refl
other_word smp (version ∷ kind ∷ more ∷ rest) e = refl

-- one with a field too many
pub too_many : (smp version kind rest : List ℕ) → kind_in (smp ∷ version ∷ kind ∷ parts_of 32 rest) ≡ None
too_many smp version kind rest = rw (first_of 32 rest).are refl
