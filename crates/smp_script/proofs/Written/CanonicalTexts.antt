-- The canonical text of a script.
use Rattle.smp_script.proofs.Names.{◌≡◌, ℕ, map, ◌<◌, ◌≤◌, ◌^◌, ◌+◌, Bool, true, false, ◌==◌, cond, List, [], ◌∷◌, length, Option, Some, None, Result, Ok}
use Rattle.smp_script.proofs.Names.{codes, refl, sym, ap, ◌∙◌, inl, inr, arith, bytes_eq, cases_Bool, nat_tests, bytes_eq-Decides, after, digit, longer}
use Rattle.smp_script.proofs.Names.{mask_of_text, or_refused, read_from, NR_CPUS, SmpError, none_below, Script, are_online, script_of, IsLawful, IsMaskText}
use Rattle.smp_script.proofs.Names.{LineHasSets, SpellLine, canonical_lines, canonical_text, lacks, line_masks, mask_text, Directive, Start, Do, Mode, Begin}
use Rattle.smp_script.proofs.Names.{AllByRecursion, is_cpu, stays_below, limit_of}
use Rattle.smp_mask.specs.ListText.{list_text}
use Rattle.smp_mask.specs.Reading.{step}
use Rattle.smp_mask.proofs.Canonical.{reads_back}
use Rattle.smp_script.specs.declared.request.Request.TheVariants as request
use Rattle.smp_script.proofs.Written.Writing.{spelling_is_read}
use Rattle.std.proofs.Math.Nat.{pow-le-pow_right}
use Rattle.smp_script.proofs.Reader.Versions.{limit_within}
use Rattle.smp_script.proofs.Reader.Widths.{all_stay}

-- a byte that no CPU list has
record NoList (c : ℕ) : Type 0 where
  no_digit : digit c ≡ None
  no_hyphen : (c == 45) ≡ false
  no_comma : (c == 44) ≡ false

none_either : (b : Bool) → ◌≡◌ {A = Option ℕ} (cond b None None) None
none_either true = refl
none_either false = refl

none_longer : (n c : ℕ) → NoList c → longer n c ≡ None
none_longer n c o = rw o.no_digit (none_either (n == 0))

none_after : (p : _) (c : ℕ) → NoList c → after p c ≡ None
none_after p c o = let n = none_longer in grind (arith, nat_tests, o.no_digit, o.no_hyphen)

none_step : (w : ℕ) (r : _) (c : ℕ) → NoList c → step w r c ≡ None
none_step w r c o = rw (o.no_comma, none_after r.place c o) refl

goes_on : {R : Type 0} (c : ℕ) (at : ℕ) (bs : List ℕ) (m : ℕ) (go : R → Result ℕ SmpError) (o : Option R) → ((q : R) → go q ≡ Ok m → lacks c bs ≡ true)
    → or_refused at go o ≡ Ok m → lacks c bs ≡ true
goes_on c at bs m go None rest e = cc
goes_on c at bs m go (Some q) rest e = rest q e

-- a text that reads as a mask lacks it
reads_lack : (w c : ℕ) → NoList c → (r : _) (at : ℕ) (text : List ℕ) (m : ℕ) → read_from w r at text ≡ Ok m → lacks c text ≡ true
unfolding read_from
reads_lack w c o r at [] m e = refl
reads_lack w c o r at (b ∷ bs) m e = elim (cases_Bool (b == c)) [
  | inl here ↦
      let same : b ≡ c = grind (arith, nat_tests, here) in
      let none : step w r b ≡ None = ap (step w r) same ∙ none_step w r c o in
      let bad : or_refused at (λ q. read_from w q (at + 1) bs) None ≡ Ok m = ap (or_refused at (λ q. read_from w q (at + 1) bs)) (sym none) ∙ e in
      cc
  | inr other ↦ rw other (goes_on c at bs m (λ q. read_from w q (at + 1) bs) (step w r b) (λ q f. reads_lack w c o q (at + 1) bs m f) e)
]

some_text : (text : List ℕ) (m : ℕ) → mask_of_text NR_CPUS text ≡ Ok m → (m ≡ 0 → ⊥) → (length text == 0) ≡ false
unfolding read_from
some_text [] m e some = absurd (some (let z : 0 ≡ m = cc in sym z))
some_text (b ∷ bs) m e some = grind (arith, nat_tests)

no_dash : (text : List ℕ) (m : ℕ) → mask_of_text NR_CPUS text ≡ Ok m → bytes_eq text (codes "-") ≡ false
unfolding read_from
no_dash text m e = search (cases_Bool, bytes_eq-Decides, arith)

-- some CPU online is some member
some_online : (nr mask : ℕ) → are_online nr mask ≡ true → mask ≡ 0 → ⊥
some_online nr mask h z = search (none_below, nat_tests, arith)

-- the canonical text of a mask is one of its texts
list_is_text : (limit m : ℕ) → limit ≤ NR_CPUS → m < 2 ^ limit → (m ≡ 0 → ⊥) → IsMaskText limit (list_text m) m
list_is_text limit m few narrow some =
    let room : 2 ^ limit ≤ 2 ^ NR_CPUS = pow-le-pow_right (omega arith) few in
    let set : m < 2 ^ NR_CPUS = omega (arith, narrow, room) in
    let stays : stays_below limit m ≡ true = all_stay limit m (λ cpu h. is_cpu limit m cpu narrow h) in
    let read : mask_of_text NR_CPUS (list_text m) ≡ Ok m = reads_back NR_CPUS (omega arith) m set in
    let spaces : lacks 32 (list_text m) ≡ true =
    reads_lack NR_CPUS 32 (record { no_digit = refl; no_hyphen = refl; no_comma = refl }) _ 0 (list_text m) m read in
    let feeds : lacks 10 (list_text m) ≡ true =
    reads_lack NR_CPUS 10 (record { no_digit = refl; no_hyphen = refl; no_comma = refl }) _ 0 (list_text m) m read in
    let long : (length (list_text m) == 0) ≡ false = some_text (list_text m) m read some in
    record { field = rw (long, spaces, feeds) refl; reads = rw (no_dash (list_text m) m read, read, stays) refl }

pub mask_is_text : (limit m : ℕ) → limit ≤ NR_CPUS → m < 2 ^ limit → IsMaskText limit (mask_text m) m
mask_is_text limit m few set = elim (cases_Bool (m == 0)) [
  | inl none ↦ let zero_ : m ≡ 0 = grind (arith, nat_tests, none) in rw zero_ (record { field = refl; reads = refl })
  | inr some ↦ rw some (list_is_text limit m few set (grind (arith, nat_tests, some)))
]

line_is_spelled : (limit : ℕ) (d : Directive) → limit ≤ NR_CPUS → LineHasSets limit d → SpellLine limit (line_masks d, d)
line_is_spelled limit (Start cpu (Begin work)) few h = search mask_is_text
line_is_spelled limit (Do cpu count (request.Machine (Some mask) func arg)) few h = search mask_is_text
line_is_spelled limit _ few h = search mask_is_text

lines_are_spelled : (limit : ℕ) (ds : List Directive) → limit ≤ NR_CPUS → AllByRecursion (LineHasSets limit) ds
    → AllByRecursion (SpellLine limit) (canonical_lines ds)
lines_are_spelled limit [] few h = tt
lines_are_spelled limit (d ∷ ds) few h = (line_is_spelled limit d few h.0, lines_are_spelled limit ds few h.1)

lines_ask : (ds : List Directive) → map (λ l. l.1) (canonical_lines ds) ≡ ds
lines_ask [] = refl
lines_ask (d ∷ ds) = ap (λ xs. d ∷ xs) (lines_ask ds)

-- the canonical text of a script is read as it
pub canonical_is_read : (mode : Mode) (script : Script) → IsLawful mode script → script_of mode (canonical_text mode script) ≡ Ok script
canonical_is_read mode script s =
    spelling_is_read mode (list_text script.online) (canonical_lines script.directives) script (canonical_text mode script) (record {
      text_is = refl;
      mask_is = list_is_text (limit_of script.version) script.online (limit_within script.version) s.is_set (some_online script.nr script.online s.online);
      lines_are = lines_ask script.directives;
      masks_are = lines_are_spelled (limit_of script.version) script.directives (limit_within script.version) s.are_sets;
      some = s.some;
      within = s.within;
      online = s.online;
      labels = s.labels;
      fit = s.fit;
      keys = s.keys;
      bytes = s.bytes;
      count = s.count;
      events = s.events;
    })
