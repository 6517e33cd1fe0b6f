-- A stop half as it is made shows that nothing was begun.
use Rattle.std.proofs.Common.{◌≡◌, ◌≢◌, ℕ, zero, suc, ◌-◌, ◌<◌, true, false, List, [], ◌∷◌, ◌++◌, length, map, get_or, replicate, refl, arith, eq-eqb, ne_eqb}
use Rattle.std.proofs.lemmas.List.{length-map}
use Rattle.smp_labels.specs.{Entries.entry_word, Labels.Labels, Labels.AreLabels, Law.IsLawful, declared.entries.Entry.Entry}
use Rattle.smp_words.specs.declared.size.TheConstants.{SLOT_WORDS}
use Rattle.smp_words.proofs.Zeros.{get_or-same, zero_at}
use Rattle.smp_stop_steps.specs.{has, MOST_SITES, MOST_KEYS, cpus, labels_in, no_stops, Free, Shut, StopControlValue, stop_outside, StopWords, stop_number}
use Rattle.smp_stop_steps.specs.{slot_cell, StopsShow, setup_of, first_below, Field}
use Rattle.smp_stop_steps.proofs.Steps.Facts.{no_stops_shown}

-- the least member, where there is one
pub first_is : (mask k : ℕ) → (first_below mask k ≡ k → (c : ℕ) → c < k → has mask c ≡ false) × (first_below mask k ≢ k → (first_below mask k < k) ×
    (has mask (first_below mask k) ≡ true))
unfolding first_below
first_is mask zero = (λ _ c low. absurd (omega arith), λ ne. absurd (ne refl))
first_is mask (suc k) = search (first_is mask k, eq-eqb, ne_eqb, arith)

first_online : (mask : ℕ) → ((c : ℕ) × (has mask c ≡ true)) → ((c : ℕ) → has mask c ≡ true → c < cpus) → has mask (first_below mask cpus) ≡ true
first_online mask member below = search (first_is, arith)

-- zeros behind a list are read as nothing there
read_zeros : (xs : List ℕ) (n i : ℕ) → get_or (xs ++ replicate n 0) i 0 ≡ get_or xs i 0
read_zeros [] n i = get_or-same 0 n i
read_zeros (x ∷ xs) n zero = refl
read_zeros (x ∷ xs) n (suc i) = read_zeros xs n i

named_entry : (es : List Entry) (i : ℕ) → i < length (map entry_word es) → get_or (map entry_word es) i 0 ≢ 0
named_entry [] i low = absurd (let z : ⊥ = omega (arith, low) in z)
named_entry (e ∷ es) zero low = λ z. omega (arith, z)
named_entry (e ∷ es) (suc i) low = named_entry es i (let z : i < length (map entry_word es) = omega (arith, low) in z)

pub opened_shown : (online : ℕ) (labels : Labels) (t : StopWords) (controls : List StopControlValue) → ((c : ℕ) × (has online c ≡ true)) →
    ((c : ℕ) → has online c ≡ true → c < cpus) → AreLabels labels.keys labels.entries →
    t.gate ≡ 0 → t.slots ≡ replicate SLOT_WORDS 0 → t.entries ≡ map entry_word labels.entries ++ replicate (MOST_SITES - length labels.entries) 0 →
    IsLawful (labels_in (stop_number t)) → t.keys ≡ replicate MOST_KEYS 0 →
    controls ≡ replicate cpus stop_outside → StopsShow (setup_of online labels) no_stops t controls
opened_shown online labels t controls member below are gate slots entries lawful off outside = record {
  seat = λ _. Free;
  source = λ _. Shut;
  shows = no_stops_shown (setup_of online labels) (stop_number t)
      record { first = first_online online member below; below = below; few = omega arith; few_keys = are.few_keys; named = named_entry labels.entries }
      gate (λ s. rw slots (zero_at SLOT_WORDS (slot_cell s Field.Roll)))
      (search (length-map, read_zeros, arith))
      lawful (λ k. rw off (get_or-same 0 MOST_KEYS k));
  sits = λ cpu low. rw outside (rw (get_or-same stop_outside cpus cpu) record { below = low; irq = refl; seat = refl; source = refl; gate_held = tt });
  carries = λ cpu low. rw outside (rw (get_or-same stop_outside cpus cpu) tt);
  shut = λ cpu high. refl;
}
