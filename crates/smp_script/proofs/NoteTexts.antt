-- The text of a note is read back as that note.
use Rattle.smp_script.proofs.Names.{◌≡◌, ℕ, suc, ℤ, pos, negsuc, ◌<◌, ◌^◌, true, cond, List, [], ◌∷◌, ◌++◌, Result, Ok, Err, codes, bytes_eq, refl, sym}
use Rattle.smp_script.proofs.Names.{ap, ◌∙◌, append_assoc, arith, decimal, signed_decimal, Cause, IsAnswer, lacks, parts_of, signed_of, value_after}
use Rattle.smp_words.specs.declared.seen.Note.{Note}
use Rattle.smp_words.specs.declared.seen.Note.TheVariants as notes
use Rattle.smp_script.specs.Printed.{NoteFits, note_text}
use Rattle.smp_script.proofs.Texts.Decimals.{decimal_lacks, value_of_decimal}
use Rattle.smp_script.proofs.Texts.Joins.{parts_front, parts_plain}
use Rattle.smp_script.proofs.Texts.Named.{first_with}
use Rattle.smp_script.proofs.Written.LineWriting.{signed_read}

-- the notes without numbers
abbrev bare : List Note
bare =
    notes.Busy ∷ notes.NoCpu ∷ notes.Owed ∷ notes.Queued ∷ notes.Contended ∷ notes.Sent ∷ notes.Done ∷ notes.Locked ∷ notes.Idle ∷ notes.Gate
    ∷ notes.Taken ∷ notes.Open ∷ notes.Begun ∷ notes.Stale ∷ notes.Entered ∷ notes.Same ∷ notes.Ran ∷ notes.Left ∷ notes.Finished ∷ notes.Pending
    ∷ notes.On ∷ notes.Off ∷ notes.Nop ∷ notes.Jmp ∷ notes.KeyRange ∷ notes.Stop ∷ notes.Lost ∷ []

abbrev or_zero : Result ℤ Cause → ℤ
or_zero (Ok z) = z
or_zero (Err cause) = pos 0

-- the note of a word and the number behind it
abbrev numbered : List ℕ → List ℕ → Note
numbered word number = cond (bytes_eq word (codes "handled")) (notes.Handled (value_after 0 number))
    (cond (bytes_eq word (codes "moved")) (notes.Moved (value_after 0 number)) (notes.Result (or_zero (signed_of number))))

-- the note of a text by what is between its spaces
abbrev of_parts : List (List ℕ) → Note
of_parts (word ∷ []) = first_with note_text notes.Lost bare word
of_parts (word ∷ a ∷ []) = numbered word a
of_parts (word ∷ a ∷ b ∷ []) = notes.Run (value_after 0 a) (value_after 0 b)
of_parts (word ∷ a ∷ b ∷ c ∷ []) = notes.Call (value_after 0 a) (value_after 0 b) (value_after 0 c)
of_parts _ = notes.Lost

abbrev read : List ℕ → Note
read text = of_parts (parts_of 32 text)

-- the parts of one number, of two and of three
last : (n : ℕ) → n < 2 ^ 64 → parts_of 32 (decimal n) ≡ decimal n ∷ []
last n small = parts_plain 32 (decimal n) (decimal_lacks 32 n refl small)

pair : (a b : ℕ) → a < 2 ^ 64 → b < 2 ^ 64 → parts_of 32 (decimal a ++ codes " " ++ decimal b) ≡ decimal a ∷ decimal b ∷ []
pair a b small low =
    ap (λ text. parts_of 32 text) (append_assoc (decimal a) (codes " ") (decimal b))
    ∙ parts_front 32 (decimal a) (decimal b) (decimal_lacks 32 a refl small) ∙ ap (λ ps. decimal a ∷ ps) (last b low)

three : (a b c : ℕ) → a < 2 ^ 64 → b < 2 ^ 64 → c < 2 ^ 64
    → parts_of 32 (decimal a ++ codes " " ++ decimal b ++ codes " " ++ decimal c) ≡ decimal a ∷ decimal b ∷ decimal c ∷ []
three a b c small low least =
    ap (λ text. parts_of 32 text) (append_assoc (decimal a ++ codes " " ++ decimal b) (codes " ") (decimal c)
    ∙ append_assoc (decimal a ++ codes " ") (decimal b) (codes " " ++ decimal c) ∙ append_assoc (decimal a) (codes " ") (decimal b ++ (codes " " ++ decimal c))
    ∙ ap (λ rest. decimal a ++ (codes " " ++ rest)) (sym (append_assoc (decimal b) (codes " ") (decimal c))))
    ∙ parts_front 32 (decimal a) (decimal b ++ codes " " ++ decimal c) (decimal_lacks 32 a refl small) ∙ ap (λ ps. decimal a ∷ ps) (pair b c low least)

signed_lacks : (z : ℤ) → IsAnswer z → lacks 32 (signed_decimal z) ≡ true
signed_lacks (pos n) h = decimal_lacks 32 n refl (omega (arith, h))
signed_lacks (negsuc n) h = decimal_lacks 32 (suc n) refl (omega (arith, h))

note_read : (n : Note) → NoteFits n → read (note_text n) ≡ n
note_read notes.Busy fits = refl
note_read notes.NoCpu fits = refl
note_read notes.Owed fits = refl
note_read notes.Queued fits = refl
note_read notes.Contended fits = refl
note_read notes.Sent fits = refl
note_read notes.Done fits = refl
note_read notes.Locked fits = refl
note_read notes.Idle fits = refl
note_read (notes.Call s f i) fits =
    ap (λ ps. of_parts (codes "call" ∷ ps)) (three s f i (omega (arith, fits.0)) (omega (arith, fits.1)) (omega (arith, fits.2)))
    ∙ ap (λ n. notes.Call n (value_after 0 (decimal f)) (value_after 0 (decimal i))) (value_of_decimal s (omega (arith, fits.0)))
    ∙ ap (λ n. notes.Call s n (value_after 0 (decimal i))) (value_of_decimal f (omega (arith, fits.1)))
    ∙ ap (λ n. notes.Call s f n) (value_of_decimal i (omega (arith, fits.2)))
note_read (notes.Handled n) fits =
    ap (λ ps. of_parts (codes "handled" ∷ ps)) (last n (omega (arith, fits))) ∙ ap notes.Handled (value_of_decimal n (omega (arith, fits)))
note_read notes.Gate fits = refl
note_read notes.Taken fits = refl
note_read notes.Open fits = refl
note_read notes.Begun fits = refl
note_read notes.Stale fits = refl
note_read notes.Entered fits = refl
note_read notes.Same fits = refl
note_read (notes.Moved n) fits =
    ap (λ ps. of_parts (codes "moved" ∷ ps)) (last n (omega (arith, fits))) ∙ ap notes.Moved (value_of_decimal n (omega (arith, fits)))
note_read (notes.Run f i) fits =
    ap (λ ps. of_parts (codes "run" ∷ ps)) (pair f i (omega (arith, fits.0)) (omega (arith, fits.1)))
    ∙ ap (λ n. notes.Run n (value_after 0 (decimal i))) (value_of_decimal f (omega (arith, fits.0)))
    ∙ ap (λ n. notes.Run f n) (value_of_decimal i (omega (arith, fits.1)))
note_read notes.Ran fits = refl
note_read notes.Left fits = refl
note_read notes.Finished fits = refl
note_read notes.Pending fits = refl
note_read (notes.Result z) fits =
    ap (λ ps. of_parts (codes "result" ∷ ps)) (parts_plain 32 (signed_decimal z) (signed_lacks z fits))
    ∙ ap (λ (r : Result ℤ Cause). notes.Result (or_zero r)) (signed_read z fits)
note_read notes.On fits = refl
note_read notes.Off fits = refl
note_read notes.Nop fits = refl
note_read notes.Jmp fits = refl
note_read notes.KeyRange fits = refl
note_read notes.Stop fits = refl
note_read notes.Lost fits = refl

-- so two notes with one text are one
pub told_apart : (m n : Note) → NoteFits m → NoteFits n → note_text m ≡ note_text n → m ≡ n
told_apart m n mine other e = sym (note_read m mine) ∙ ap read e ∙ note_read n other
