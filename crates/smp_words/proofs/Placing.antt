-- Words that lie in a list, each in a place of its own: a store there is a put at the word.
use Rattle.std.proofs.Common.{arith, ◌≡◌, ◌≢◌, ℕ, ◌<◌, Bool, true, false, cond, Option, Some, None, List, length, set, refl, ap, ◌∙◌}
use Rattle.std.proofs.lemmas.List.{get_or-set_same, get_or-set_other}
use Rattle.smp_words.specs.Put.{put_word, same_word}
use Rattle.smp_words.specs.Layout.{number_at}
use Rattle.smp_words.proofs.SameWords.{same_word-true, same_word-itself}
use Rattle.smp_words.specs.declared.word.Word.{Word}

number_kept : (words : List ℕ) (i n : ℕ) (o : Option ℕ) → o ≢ Some i → number_at (set words i n) o ≡ number_at words o
number_kept words i n None ne = refl
number_kept words i n (Some j) ne = get_or-set_other words i j n 0 (λ e. ne (ap Some e))

module _ (place : Word → Option ℕ) (one : (u w : Word) (i : ℕ) → place u ≡ Some i → place w ≡ Some i → u ≡ w) where
  other_place : (u w : Word) (i : ℕ) → same_word u w ≡ false → place w ≡ Some i → place u ≢ Some i
  other_place u w i s e f = search (same_word-itself, arith)

  number_stored : (words : List ℕ) (w u : Word) (i n : ℕ) (b : Bool) → i < length words → place w ≡ Some i → same_word u w ≡ b →
      number_at (set words i n) (place u) ≡ cond b n (number_at words (place u))
  number_stored words w u i n true l e s = ap (number_at (set words i n)) (ap place (same_word-true u w s) ∙ e) ∙ get_or-set_same words i n 0 l
  number_stored words w u i n false l e s = number_kept words i n (place u) (other_place u w i s e)

  pub stored_at : (words : List ℕ) (w : Word) (i n : ℕ) → i < length words → place w ≡ Some i →
      (λ (u : Word). number_at (set words i n) (place u)) ≡ put_word (λ (u : Word). number_at words (place u)) w n
  stored_at words w i n l e = λ k u. number_stored words w u i n (same_word u w) l e refl k
