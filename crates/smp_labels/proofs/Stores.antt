-- What stores leave of a table.
use Rattle.std.proofs.Common.{◌≡◌, ◌≢◌, ℕ, zero, suc, List, [], ◌∷◌, ◌++◌, refl, sym, ap, ◌∙◌, arith}
use Rattle.std.specs.List.{All}
use Rattle.smp_words.proofs.Puts.{put_same, put_other}
use Rattle.smp_labels.specs.declared.patch.Place.{Place}
use Rattle.smp_labels.specs.declared.patch.Place.TheVariants.{Key, Site}
use Rattle.smp_labels.specs.Law.{Table}
use Rattle.smp_labels.specs.Plans.{stored, applied, word_at}

-- the first stores, and then the others
pub applied-append : (front rest : List (Place × ℕ)) (t : Table) → applied (front ++ rest) t ≡ applied rest (applied front t)
applied-append [] rest t = refl
applied-append (change ∷ front) rest t = applied-append front rest (stored change.0 change.1 t)

stored_same : (p : Place) (word : ℕ) (t : Table) → word_at (stored p word t) p ≡ word
stored_same (Key k) word t = put_same t.key k word
stored_same (Site i) word t = put_same t.site i word

stored_other : (q p : Place) (word : ℕ) (t : Table) → q ≢ p → word_at (stored q word t) p ≡ word_at t p
stored_other (Key k) (Key j) word t other = put_other t.key k word j (λ e. other (ap Key (sym e)))
stored_other (Key k) (Site j) word t other = refl
stored_other (Site i) (Key j) word t other = refl
stored_other (Site i) (Site j) word t other = put_other t.site i word j (λ e. other (ap Site (sym e)))

stored_entry : (p : Place) (word : ℕ) (t : Table) (i : ℕ) → (stored p word t).entry i ≡ t.entry i
stored_entry (Key k) word t i = refl
stored_entry (Site j) word t i = refl

-- no store changes an entry
pub entries_kept : (changes : List (Place × ℕ)) (t : Table) (i : ℕ) → (applied changes t).entry i ≡ t.entry i
entries_kept [] t i = refl
entries_kept (change ∷ rest) t i = entries_kept rest (stored change.0 change.1 t) i ∙ stored_entry change.0 change.1 t i

-- none of the changes is of this place
abbrev pub LeaveOut : Place → List (Place × ℕ) → Type 0
LeaveOut p [] = Unit {0}
LeaveOut p (change ∷ rest) = (change.0 ≢ p) × LeaveOut p rest

pub leave_out_each : (p : Place) (changes : List (Place × ℕ)) → All (λ change. change.0 ≢ p) changes → LeaveOut p changes
leave_out_each p [] each = tt
leave_out_each p (change ∷ rest) each = (each 0 change (omega arith), leave_out_each p rest (λ k d within. each (suc k) d (omega arith)))

pub leave_out-append : (p : Place) (front rest : List (Place × ℕ)) → LeaveOut p front → LeaveOut p rest → LeaveOut p (front ++ rest)
leave_out-append p [] rest _ out = out
leave_out-append p (change ∷ front) rest before out = (before.0, leave_out-append p front rest before.1 out)

leave_out_front : (p : Place) (front rest : List (Place × ℕ)) → LeaveOut p (front ++ rest) → LeaveOut p front
leave_out_front p [] rest out = tt
leave_out_front p (change ∷ front) rest out = (out.0, leave_out_front p front rest out.1)

-- a place that is left out is as it was
pub place_kept : (changes : List (Place × ℕ)) (t : Table) (p : Place) → LeaveOut p changes → word_at (applied changes t) p ≡ word_at t p
place_kept [] t p out = refl
place_kept (change ∷ rest) t p out = place_kept rest (stored change.0 change.1 t) p out.1 ∙ stored_other change.0 p change.1 t out.0

-- no place is changed twice
abbrev pub AreDistinct : List (Place × ℕ) → Type 0
AreDistinct [] = Unit {0}
AreDistinct (change ∷ rest) = LeaveOut change.0 rest × AreDistinct rest

pub distinct_front : (front rest : List (Place × ℕ)) → AreDistinct (front ++ rest) → AreDistinct front
distinct_front [] rest distinct = tt
distinct_front (change ∷ front) rest distinct = (leave_out_front change.0 front rest distinct.0, distinct_front front rest distinct.1)

-- where no place is changed twice, each change lasts
pub all_made : (changes : List (Place × ℕ)) (t : Table) → AreDistinct changes → All (λ change. word_at (applied changes t) change.0 ≡ change.1) changes
all_made [] t distinct k d within = absurd (omega arith)
all_made (change ∷ rest) t distinct zero d within = place_kept rest (stored change.0 change.1 t) change.0 distinct.0 ∙ stored_same change.0 change.1 t
all_made (change ∷ rest) t distinct (suc k) d within = all_made rest (stored change.0 change.1 t) distinct.1 k d (omega arith)
