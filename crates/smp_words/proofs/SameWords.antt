-- When two names are of one word.
use Rattle.std.proofs.Common.{◌≡◌, ℕ, Bool, true, false, ◌==◌, cond, sym, refl, ap, ◌∙◌}
use Rattle.std.proofs.lemmas.Bool.{eqb-true, eq-eqb, and_parts, and_from}
use Rattle.smp_words.specs.Put.{same_word, same_field, place_of}
use Rattle.smp_words.specs.declared.field.Field.{Field}
use Rattle.smp_words.specs.declared.word.Word.{Word}
use Rattle.smp_words.specs.declared.word.Word.TheVariants.{Head, Intr, Hand, Queued, Ran, Flags, Func, Info, Next, Gate, Slot, Key, Entry, Site}
use Rattle.smp_words.specs.declared.field.Field.TheVariants as field

-- the field at a place
field_at : ℕ → Field
field_at n =
    cond (n == 0) field.Kind (cond (n == 1) field.Mask (cond (n == 2) field.Active (cond (n == 3) field.Func (cond (n == 4) field.Arg (
    cond (n == 5) field.State (cond (n == 6) field.Ack (cond (n == 7) field.Roll (cond (n == 8) field.Todo (cond (n == 9) field.Result field.Done)))))))))

field_at-place : (f : Field) → field_at (place_of f) ≡ f
unfolding field_at
field_at-place field.Kind = refl
field_at-place _ = refl

-- two fields at one place are one
pub one_place : (f g : Field) → place_of f ≡ place_of g → f ≡ g
one_place f g e = sym (field_at-place f) ∙ (ap field_at e ∙ field_at-place g)

both_true : (a b : Bool) → cond a b false ≡ true → (a ≡ true) × (b ≡ true)
both_true true b e = (refl, e)
both_true false b e = cc

pub same_field-true : (f g : Field) (b : Bool) → same_field f g b ≡ true → (f ≡ g) × (b ≡ true)
same_field-true f g b e = let p = both_true (place_of f == place_of g) b e in (one_place f g (eqb-true (place_of f) (place_of g) p.0), p.1)

pub same_word-true : (u w : Word) → same_word u w ≡ true → u ≡ w
same_word-true (Head c) (Head c') e = let x = eqb-true c c' e in cc
same_word-true (Intr c) (Intr c') e = let x = eqb-true c c' e in cc
same_word-true (Hand c) (Hand c') e = let x = eqb-true c c' e in cc
same_word-true (Queued s d) (Queued s' d') e = let p = and_parts (s == s') (d == d') e in let x = eqb-true s s' p.0 in let y = eqb-true d d' p.1 in cc
same_word-true (Ran s d) (Ran s' d') e = let p = and_parts (s == s') (d == d') e in let x = eqb-true s s' p.0 in let y = eqb-true d d' p.1 in cc
same_word-true (Flags r) (Flags r') e = let x = eqb-true r r' e in cc
same_word-true (Func r) (Func r') e = let x = eqb-true r r' e in cc
same_word-true (Info r) (Info r') e = let x = eqb-true r r' e in cc
same_word-true (Next r) (Next r') e = let x = eqb-true r r' e in cc
same_word-true Gate Gate e = refl
same_word-true (Slot s f) (Slot t g) e = let p = same_field-true f g (s == t) e in let x = eqb-true s t p.1 in let y = p.0 in cc
same_word-true (Key i) (Key j) e = let x = eqb-true i j e in cc
same_word-true (Entry i) (Entry j) e = let x = eqb-true i j e in cc
same_word-true (Site i) (Site j) e = let x = eqb-true i j e in cc
same_word-true _ _ e = cc

pub same_word-itself : (w : Word) → same_word w w ≡ true
same_word-itself (Head c) = eq-eqb c c refl
same_word-itself (Intr c) = eq-eqb c c refl
same_word-itself (Hand c) = eq-eqb c c refl
same_word-itself (Queued s d) = and_from (s == s) (d == d) (eq-eqb s s refl) (eq-eqb d d refl)
same_word-itself (Ran s d) = and_from (s == s) (d == d) (eq-eqb s s refl) (eq-eqb d d refl)
same_word-itself (Flags r) = eq-eqb r r refl
same_word-itself (Func r) = eq-eqb r r refl
same_word-itself (Info r) = eq-eqb r r refl
same_word-itself (Next r) = eq-eqb r r refl
same_word-itself Gate = refl
same_word-itself (Slot s f) = ap (λ b. cond b (s == s) false) (eq-eqb (place_of f) (place_of f) refl) ∙ eq-eqb s s refl
same_word-itself (Key i) = eq-eqb i i refl
same_word-itself (Entry i) = eq-eqb i i refl
same_word-itself (Site i) = eq-eqb i i refl
