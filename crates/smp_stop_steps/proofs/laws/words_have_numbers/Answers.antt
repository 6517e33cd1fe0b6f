use Rattle.std.proofs.Common.{◌≡◌, ℕ, Bool, true, false, nat_lt, cond, Some, None, List, refl}
use Rattle.smp_words.specs.declared.size.TheConstants.{NR_CPUS, MOST_KEYS, MOST_SITES}
use Rattle.smp_words.specs.{Layout.number_if, StopLayout.stop_index_of}
use Rattle.smp_stop_steps.specs.{Word, is_there, StopWords, stop_number_of}
use Rattle.smp_words.specs.declared.word.Word.TheVariants as word
use Rattle.smp_stop_steps.proofs.laws.words_have_numbers.Goals as goal

-- two numbers that are there where the same holds
both : (b : Bool) (x y : ℕ) → is_there (cond b (Some x) None) ≡ is_there (cond b (Some y) None)
both true x y = refl
both false x y = refl

both_in : (b : Bool) (words : List ℕ) (x y : ℕ) → is_there (number_if words (cond b (Some x) None)) ≡ is_there (cond b (Some y) None)
both_in true words x y = refl
both_in false words x y = refl

each : (t : StopWords) (w : Word) → is_there (stop_number_of t w) ≡ is_there (stop_index_of w)
each t word.Gate = refl
each t (word.Slot s f) = both_in (nat_lt s NR_CPUS) t.slots _ _
each t (word.Key k) = both (nat_lt k MOST_KEYS) _ _
each t (word.Entry i) = both (nat_lt i MOST_SITES) _ _
each t (word.Site i) = both (nat_lt i MOST_SITES) _ _
each t _ = refl

pub returns : goal.returns
returns c = each
