-- The machine of a script, before its first command.
use Rattle.trace_laws.proofs.Names.{Bool, Entry, Labels, List, MOST_KEYS, MOST_SITES, Ok, Option, [], and_parts, ap, arith}
use Rattle.trace_laws.proofs.Names.{bytes_eq, cases_Bool, cases_lt, codes, entry_at, entry_at-word, entry_word, false, first_site, get_or, has, inl, inr}
use Rattle.trace_laws.proofs.Names.{length, length-append, length-map, length-replicate, map, members, nat_lt, nat_tests, refl, replicate, suc, sym}
use Rattle.trace_laws.proofs.Names.{true, true≢false, zero, ℕ, ◌%◌, ◌*◌, ◌++◌, ◌+◌, ◌-◌, ◌/◌, ◌<◌, ◌==◌, ◌^◌, ◌∙◌, ◌∷◌, ◌≡◌, ◌≤◌}
use Rattle.trace_laws.proofs.ReplayNames.{AreLabels, ControlValue, IsWhole, LabelsFit, NR_CPUS, SLOT_WORDS, StopControlValue, StopShown, are_online}
use Rattle.trace_laws.proofs.ReplayNames.{cpus, get_or-same, labels_in, labels_or_none, mask_of, new_core, new_shown, new_stops, no_calls}
use Rattle.trace_laws.proofs.ReplayNames.{no_stops, outside, same_members, slot_cell, stays_below, stop_number, stop_outside, table_size, zero_at}
use Rattle.std.proofs.lemmas.Nat.Bits.{bit_at_cat_low}
use Rattle.std.specs.Int.{bit_at}
use Rattle.smp_mask.proofs.{Members.item_member, Sets.has_above, Sets.has_none, Walks.accepted}
use Rattle.smp_labels.proofs.Filled.{filled_lawful}
use Rattle.smp_labels.specs.{Law.IsLawful, Law.site_word}
use Rattle.smp_words.specs.declared.field.Field.TheVariants as field
use Rattle.smp_words.specs.Limits.{AreLimits}
use Rattle.smp_stop_steps.proofs.TheMachine.Opened.{opened_shown}
use Rattle.smp_stop_steps.specs.New.{new_stop_words}
use Rattle.smp_core.proofs.{Joined.new_joined, Offline.new_apart, OfflineStops.new_stops_apart}
use Rattle.smp_script.proofs.{Reader.Widths.all_stay, Reader.Widths.mask_below, Reader.Widths.member_below}

-- the sites while all keys are off
sites_off : (es : List Entry) (n i : ℕ)
    → get_or (map first_site es ++ replicate n 0) i 0 ≡ site_word (λ _. 0) (entry_at (get_or (map entry_word es ++ replicate n 0) i 0))
sites_off [] n i = rw (get_or-same {A = ℕ} 0 n i) refl
sites_off (e ∷ es) n zero = rw (entry_at-word e) refl
sites_off (e ∷ es) n (suc i) = sites_off es n i

new_lawful : (labels : Labels) → AreLabels labels.keys labels.entries → IsLawful (labels_in (stop_number (new_stop_words labels)))
new_lawful labels are = filled_lawful labels.keys labels.entries (map first_site labels.entries ++ replicate (MOST_SITES - length labels.entries) 0) are
    (λ i. sites_off labels.entries (MOST_SITES - length labels.entries) i)

pub new_none : (nr online : ℕ) (labels : Labels) → AreLimits nr online → AreLabels labels.keys labels.entries → StopShown no_stops (new_stops nr online labels)
new_none nr online labels limits are = search (opened_shown, new_lawful, arith)

pub new_whole : (nr online : ℕ) (labels : Labels) → AreLimits nr online → AreLabels labels.keys labels.entries → IsWhole (new_core nr online labels)
new_whole nr online labels limits are =
    let none = new_none nr online labels limits are in
    let words = replicate table_size 0 in
    let controls = replicate cpus outside in
    record {
      sound = record {
        limits = limits;
        table = record {
          words_sized = length-replicate {A = ℕ} table_size 0;
          controls_sized = length-replicate {A = ControlValue} cpus outside;
          calls = no_calls;
          shown = new_shown words controls refl refl;
        };
        stops_nr = refl;
        stops_online = refl;
        apart = new_apart online words controls refl refl;
        stops_apart = new_stops_apart (new_stops nr online labels) none refl;
        joined = new_joined controls (new_stops nr online labels).controls refl;
      };
      stops = record {
        sized = length-replicate {A = StopControlValue} cpus stop_outside;
        table_is = record {
          slots = length-replicate {A = ℕ} SLOT_WORDS 0;
          keys = length-replicate {A = ℕ} MOST_KEYS 0;
          entries = search (length-append, length-map, length-replicate, arith);
          sites = search (length-append, length-map, length-replicate, arith);
        };
        phases = λ s. rw (zero_at SLOT_WORDS (slot_cell s field.State)) (omega arith);
        results = λ s. rw (zero_at SLOT_WORDS (slot_cell s field.Result)) (omega arith);
        answers = λ cpu. rw (get_or-same stop_outside cpus cpu) (record { visit = tt; stage = tt });
        stops = no_stops;
        shown = none;
      };
    }

-- the labels of a script are lawful
pub labels_are : (labels : Option Labels) → LabelsFit labels → AreLabels (labels_or_none labels).keys (labels_or_none labels).entries
labels_are labels fit = search arith

are_cpus : (text : List ℕ) (m : ℕ) → mask_of 32 text ≡ Ok m → (cpu : ℕ) → has m cpu ≡ true → cpu < NR_CPUS
are_cpus text m h cpu on = elim (cases_Bool (bytes_eq text (codes "-"))) [
  | inl none ↦
      let zero_ : 0 ≡ m = cc in
      absurd (true≢false (sym (ap (λ n. has n cpu) zero_ ∙ on) ∙ has_none cpu))
  | inr some ↦ mask_below NR_CPUS text m (accepted NR_CPUS (omega arith) text m (search arith)) cpu on
]

-- the CPUs of a script are those of a machine
pub limits_are : (nr online : ℕ) (mask : List ℕ) → 1 ≤ nr → nr ≤ 32 → mask_of 32 mask ≡ Ok online → are_online nr online ≡ true → AreLimits nr online
limits_are nr online mask some few read are =
    let p = and_parts (nat_lt 0 (length (members online))) (stays_below nr online) are in
    let long : 0 < length (members online) = grind (arith, nat_tests, p.0) in
    record {
      some = omega arith;
      within = omega arith;
      member = (get_or (members online) 0 0, (item_member online NR_CPUS 0 0 long).1);
      below = member_below nr online (are_cpus mask online read) p.1;
    }

none_stays : stays_below 32 0 ≡ true
none_stays = all_stay 32 0 (λ cpu on. absurd (true≢false (sym on ∙ has_none cpu)))

-- a mask of a trace is of CPUs below 32
masks_below : (text : List ℕ) (m : ℕ) → mask_of 32 text ≡ Ok m → (cpu : ℕ) → has m cpu ≡ true → cpu < 32
masks_below text m h = member_below 32 m (are_cpus text m h) (search (cases_Bool, codes, none_stays, arith))

-- so it has 32 bits
low_bit : (m c : ℕ) → c < 32 → bit_at (m % 2 ^ 32) c ≡ bit_at m c
low_bit m c within =
    let whole : m / 2 ^ 32 * 2 ^ 32 + m % 2 ^ 32 ≡ m = omega arith in
    sym (bit_at_cat_low (m / 2 ^ 32) 32 (m % 2 ^ 32) c within) ∙ ap (λ n. bit_at n c) whole

pub mask_fits : (text : List ℕ) (m : ℕ) → mask_of 32 text ≡ Ok m → m < 2 ^ 32
mask_fits text m h =
    let same : m ≡ m % 2 ^ 32 = same_members m (m % 2 ^ 32) (λ c. by_case c (has m c) refl) in
    omega (arith, same)
  where
    by_case : (c : ℕ) (b : Bool) → has m c ≡ b → has m c ≡ has (m % 2 ^ 32) c
    by_case c true e = ap (λ n. n == 1) (sym (low_bit m c (masks_below text m h c e)))
    by_case c false e = elim (cases_lt c 32) [
      | inl within ↦ ap (λ n. n == 1) (sym (low_bit m c within))
      | inr above ↦ e ∙ sym (has_above 32 (m % 2 ^ 32) c (omega arith) above)
    ]
