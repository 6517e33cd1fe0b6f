-- The words that a map of labels fills, one site after the other.
use Rattle.std.proofs.Common.{◌≡◌, ℕ, zero, suc, ◌+◌, ◌-◌, ◌<◌, ◌≤◌, false, List, [], ◌∷◌, ◌++◌, length, get_or, set, take, map, replicate, inl, inr, refl, sym}
use Rattle.std.proofs.Common.{◌∙◌, subst, get_or-set_same, get_or-set_other, append_assoc, arith}
use Rattle.std.proofs.lemmas.Bool.{cases_eq}
use Rattle.std.proofs.lemmas.List.{set_at, length-map, length-take-le, map-append, length_push, take_more}
use Rattle.std.specs.List.{All}
use Rattle.smp_labels.specs.declared.entries.Entry.{Entry}
use Rattle.smp_labels.specs.declared.words.TheConstants.{MOST_KEYS, MOST_SITES}
use Rattle.smp_labels.specs.Kinds.{kind_of, kind_word}
use Rattle.smp_labels.specs.Entries.{entry_word, entry_at, IsEntryWord}
use Rattle.smp_labels.specs.Labels.{AreLabels}
use Rattle.smp_labels.specs.Law.{site_word, IsLawful}
use Rattle.smp_labels.proofs.Lawful.{entry_at-word, site_word_at}

-- one word for each of these entries, of n sites
abbrev pub words_of : (Entry → ℕ) → ℕ → List Entry → List ℕ
words_of word n entries = map word entries ++ replicate (n - length entries) 0

-- the entry words of these entries, of n sites
abbrev pub entry_words : ℕ → List Entry → List ℕ
entry_words = words_of entry_word

-- one more entry
words_of-set : (word : Entry → ℕ) (n : ℕ) (entries : List Entry) (e : Entry) → length entries < n →
    set (words_of word n entries) (length entries) (word e) ≡ words_of word n (entries ++ e ∷ [])
words_of-set word n entries e fits =
    let more : n - length entries ≡ suc (n - (length entries + 1)) = omega arith in
    let rest : List ℕ = replicate (n - (length entries + 1)) 0 in
    rw (more, set_at (map word entries) 0 rest (word e) (length entries) (length-map entries word), length_push entries e, map-append word entries (e ∷ []))
    (sym (append_assoc (map word entries) (word e ∷ []) rest))

-- one more of these entries
pub words_of-more : (word : Entry → ℕ) (n i : ℕ) (entries : List Entry) (d : Entry) → i < length entries → length entries ≤ n →
    set (words_of word n (take i entries)) i (word (get_or entries i d)) ≡ words_of word n (take (i + 1) entries)
words_of-more word n i entries d within fits =
    let e = get_or entries i d in
    let long : length (take i entries) ≡ i = length-take-le i entries (omega arith) in
    rw (take_more entries i d within)
    (subst (λ k. set (words_of word n (take i entries)) k (word e) ≡ words_of word n (take i entries ++ e ∷ [])) long
    (words_of-set word n (take i entries) e (omega arith)))

all_zero : (n i : ℕ) → let z : ℕ = 0 in get_or (replicate n z) i 0 ≡ z
all_zero zero i = refl
all_zero (suc n) zero = refl
all_zero (suc n) (suc i) = all_zero n i

form : (n i : ℕ) (entries : List Entry) → All (λ e. e.key < MOST_KEYS) entries → IsEntryWord (get_or (map entry_word entries ++ replicate n 0) i 0)
form n i [] known = rw (all_zero n i) tt
form n zero (e ∷ entries) known = rw (entry_at-word e) (known 0 e (omega arith))
form n (suc i) (e ∷ entries) known = form n i entries (λ k d l. known (suc k) d (omega arith))

packed : (n : ℕ) (entries : List Entry) (i j : ℕ) → i < j → get_or (map entry_word entries ++ replicate n 0) i 0 ≡ 0
    → get_or (map entry_word entries ++ replicate n 0) j 0 ≡ 0
packed n [] i j before ended = all_zero n j
packed n (e ∷ entries) zero j before ended = absurd (omega arith)
packed n (e ∷ entries) (suc i) zero before ended = absurd (omega arith)
packed n (e ∷ entries) (suc i) (suc j) before ended = packed n entries i j (omega arith) ended

-- one more site
pub sites-set : (sites entries : List ℕ) (i : ℕ) (e : Entry) → i < length sites → i < length entries →
    ((k : ℕ) → get_or sites k 0 ≡ site_word (λ _. 0) (entry_at (get_or entries k 0))) →
    (k : ℕ) → get_or (set sites i (kind_word (kind_of false e.branch))) k 0 ≡ site_word (λ _. 0) (entry_at (get_or (set entries i (entry_word e)) k 0))
sites-set sites entries i e in_sites in_entries so_far k = elim (cases_eq k i) [
  | inl here ↦
      rw (here, get_or-set_same sites i (kind_word (kind_of false e.branch)) 0 in_sites, get_or-set_same entries i (entry_word e) 0 in_entries, entry_at-word e)
      refl
  | inr other ↦ rw (get_or-set_other sites i k (kind_word (kind_of false e.branch)) 0 other, get_or-set_other entries i k (entry_word e) 0 other) (so_far k)
]

-- the words of a map are lawful
pub filled_lawful : (keys : ℕ) (entries : List Entry) (sites : List ℕ) → AreLabels keys entries →
    ((k : ℕ) → get_or sites k 0 ≡ site_word (λ _. 0) (entry_at (get_or (entry_words MOST_SITES entries) k 0))) →
    IsLawful (record { key = λ k. get_or (replicate MOST_KEYS 0) k 0; entry = λ i. get_or (entry_words MOST_SITES entries) i 0; site = λ i. get_or sites i 0 })
filled_lawful keys entries sites labels stand = record {
  keys = λ k _. rw (all_zero MOST_KEYS k) (omega arith);
  entries = λ i _. form (MOST_SITES - length entries) i entries (λ k d l. omega (arith, labels.known k d l, labels.few_keys));
  packed = λ i j before _ ended. packed (MOST_SITES - length entries) entries i j before ended;
  sites = λ i _. stand i ∙ site_word_at (λ _. 0) (λ k. get_or (replicate MOST_KEYS 0) k 0) (λ k. sym (all_zero MOST_KEYS k))
      (entry_at (get_or (entry_words MOST_SITES entries) i 0));
}
