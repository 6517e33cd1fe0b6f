-- What a text is that reads as a script.
use Rattle.smp_script.proofs.Names.{◌≡◌, ℕ, ◌+◌, ◌≤◌, ◌&&◌, true, false, nat_lt, List, [], ◌∷◌, ◌++◌, map, length, sum_by, Option, Some, None, Result, Ok, Err}
use Rattle.smp_script.proofs.Names.{codes, cond, refl, sym, ap, ◌∙◌, inl, inr, arith, subst, decimal, AllByRecursion, join_with_byte, list_all, bytes_eq}
use Rattle.smp_script.proofs.Names.{cases_Bool, and_parts, nat_tests, sum_by-cons, NR_CPUS, TooLong, Cut, Word, SharedKey, Labels, Directive, Mode, Setting}
use Rattle.smp_script.proofs.Names.{field_at, AreApart, shares, mode_text, setting_of, Line, fields_of, lines_of, Fault, ◌>>=◌, at_line, mask_of, are_whole}
use Rattle.smp_script.proofs.Names.{line_directive, Script, are_online, cpus_of, directives_of, events_of, first_line, labels_at, line_at, script_of, table_of}
use Rattle.smp_script.proofs.Names.{title_of, whole_cpus, DirectiveFits, IsSpelling, Masks, SpellLine, directive_words, is_field, labels_before, line_before}
use Rattle.smp_script.proofs.Names.{spelled_lines, Version, limit_of, version_of, version_text}
use Rattle.smp_script.proofs.Reader.ApartKeys.{apart_from}
use Rattle.smp_script.proofs.Texts.Decimals.{number_in-ok}
use Rattle.smp_script.proofs.Spelled.ReadParts.{both, guarded, placed_ok, same_word}
use Rattle.smp_script.proofs.Spelled.LineReadings.{line_fields, line_ok}
use Rattle.smp_script.proofs.Spelled.LabelReadings.{labels_ok}
use Rattle.smp_script.proofs.Texts.Splits.{Begins, join_parts, line_back, no_line}
use Rattle.smp_script.proofs.Reader.Versions.{limit_within}

-- a text whose lines read as these is their spelling, within the limits
pub record AreLines (setting : Setting) (n events : ℕ) (earlier : List Directive) (bs : List ℕ) (ds : List Directive) : Type 0 where
  pub lines : List (Masks × Directive)
  pub lines_are : map (λ l. l.1) lines ≡ ds
  pub spell : AllByRecursion (SpellLine setting.limit) lines
  pub text : bs ≡ spelled_lines lines
  pub fit : AllByRecursion (DirectiveFits setting.mode setting.online) ds
  pub apart : AllByRecursion (λ d. shares earlier d ≡ false) ds
  pub keys : AreApart ds
  pub count : n + length ds ≤ 2001
  pub total : events + sum_by events_of ds ≤ 100000

-- what follows a line
abbrev pub after_line : Setting → ℕ → ℕ → List Directive → List Line → Directive → Result (List Directive) Fault
after_line setting n events earlier ls d = cond (shares earlier d) (Err (n, SharedKey)) (cond (nat_lt 100000 (events + events_of d)) (Err (n, TooLong))
    (directives_of setting (n + 1) (events + events_of d) (earlier ++ d ∷ []) ls >>= λ rest. Ok (d ∷ rest)))

pub lines_ok : (setting : Setting) (n events : ℕ) (earlier : List Directive) (ls : List Line) (bs : List ℕ) (ds : List Directive) → lines_of bs ≡ ls
    → n ≤ 2001 → events ≤ 100000 → directives_of setting n events earlier ls ≡ Ok ds → AreLines setting n events earlier bs ds
unfolding directives_of spelled_lines line_before
lines_ok setting n events earlier [] bs ds e few under h = search (no_line, arith)
lines_ok setting n events earlier (l ∷ ls) bs ds e few under h = elim (cases_Bool (nat_lt 2000 n)) [
  | inl many ↦ let bad : ◌≡◌ {A = Result (List Directive) Fault} (Err (n, TooLong)) (Ok ds) = rw many at h in cc
  | inr fits ↦
      let g = guarded l.ended (at_line n (line_directive setting l.text) >>= after_line setting n events earlier ls) (n, Cut) ds (rw fits at h) in
      let a = both (at_line n (line_directive setting l.text)) (after_line setting n events earlier ls) ds g.1 in
      let d = a.value in
      let begins = line_back bs l ls e g.0 in
      let here = line_ok setting l.text d begins.on_line (placed_ok n (line_directive setting l.text) d a.first) in
      elim (cases_Bool (shares earlier d)) [
        | inl shared ↦ let bad : ◌≡◌ {A = Result (List Directive) Fault} (Err (n, SharedKey)) (Ok ds) = rw shared at a.then in cc
        | inr apart ↦ elim (cases_Bool (nat_lt 100000 (events + events_of d))) [
          | inl past ↦ let bad : ◌≡◌ {A = Result (List Directive) Fault} (Err (n, TooLong)) (Ok ds) = rw (apart, past) at a.then in cc
          | inr within ↦
              let b = both (directives_of setting (n + 1) (events + events_of d) (earlier ++ d ∷ []) ls) (λ rest. Ok (d ∷ rest)) ds
              (rw (apart, within) at a.then) in
              let rest = lines_ok setting (n + 1) (events + events_of d) (earlier ++ d ∷ []) ls begins.rest b.value (sym begins.others_are)
              (grind (arith, nat_tests, fits)) (grind (arith, nat_tests, within)) b.first in
              let same : d ∷ b.value ≡ ds = let t = b.then in cc in
              let others = apart_from earlier d b.value rest.apart in
              subst (λ x. AreLines setting n events earlier bs x) same (record {
                lines = (here.masks, d) ∷ rest.lines;
                lines_are = ap (λ xs. d ∷ xs) rest.lines_are;
                spell = (here.spell, rest.spell);
                text = begins.text_is ∙ ap (λ t. t ++ 10 ∷ begins.rest) here.text_is
                    ∙ ap (λ t. join_with_byte 32 (directive_words here.masks d) ++ 10 ∷ t) rest.text;
                fit = (here.fit, rest.fit);
                apart = (apart, others.0);
                keys = (others.1, rest.keys);
                count = omega (arith, rest.count);
                total = omega (arith, rest.total, sum_by-cons events_of d b.value);
              })
        ]
      ]
]

ok_same : (x y : Script) → ◌≡◌ {A = Result Script Fault} (Ok x) (Ok y) → x ≡ y
ok_same x y h = cc

-- how a script goes on after each of its parts
abbrev pub after_labels : Mode → Version → ℕ × ℕ → Option Labels × List Line → Result Script Fault
after_labels mode version table third = directives_of (setting_of mode version table.1) (first_line third.0) 0 [] third.1
    >>= λ ds. Ok (record { version = version; nr = table.0; online = table.1; labels = third.0; directives = ds })

abbrev pub after_table : Mode → Version → List Line → ℕ × ℕ → Result Script Fault
after_table mode version body table = labels_at body >>= after_labels mode version table

abbrev pub after_second : Mode → Version → List ℕ × List Line → Result Script Fault
after_second mode version second = at_line 2 (whole_cpus (limit_of version) (fields_of second.0)) >>= after_table mode version second.1

abbrev pub after_title : Mode → List ℕ × List Line → Version → Result Script Fault
after_title mode first version = line_at 2 first.1 >>= after_second mode version

abbrev pub after_first : Mode → List ℕ × List Line → Result Script Fault
after_first mode first = at_line 1 (title_of mode (fields_of first.0)) >>= after_title mode first

front_ok : (n : ℕ) (bs : List ℕ) (ls : List Line) (p : List ℕ × List Line) → lines_of bs ≡ ls → line_at n ls ≡ Ok p → Begins bs p.0 p.1
front_ok n bs [] p e h = cc
front_ok n bs (l ∷ ls) p e h = search (guarded, line_back, arith)

version_ok : (text : List ℕ) (version : Version) → version_of text ≡ Ok version → text ≡ version_text version
version_ok text version h = search (cases_Bool, same_word, guarded, arith)

pub title_ok : (mode : Mode) (fields : List (List ℕ)) (version : Version) → title_of mode fields ≡ Ok version
    → fields ≡ codes "smp" ∷ version_text version ∷ mode_text mode ∷ []
title_ok mode (a ∷ b ∷ c ∷ []) version h =
    let p = guarded (bytes_eq a (codes "smp")) (cond (bytes_eq c (mode_text mode)) (version_of b) (Err Word)) Word version h in
    let q = guarded (bytes_eq c (mode_text mode)) (version_of b) Word version p.1 in
    rw (same_word a (codes "smp") p.0, version_ok b version q.1, same_word c (mode_text mode) q.0) refl
title_ok mode _ version h = cc

-- these fields are the words of the second line
record AreCpus (limit : ℕ) (fields : List (List ℕ)) (table : ℕ × ℕ) : Type 0 where
  mask : List ℕ
  words : fields ≡ codes "cpus" ∷ decimal table.0 ∷ mask ∷ []
  mask_is : mask_of limit mask ≡ Ok table.1
  some : 1 ≤ table.0
  within : table.0 ≤ limit
  online : are_online table.0 table.1 ≡ true

table_ok : (limit : ℕ) (nr mask : List ℕ) (table : ℕ × ℕ) → limit ≤ NR_CPUS → table_of limit nr mask ≡ Ok table
    → AreCpus limit (codes "cpus" ∷ nr ∷ mask ∷ []) table
table_ok limit nr mask table few h = search (both, guarded, number_in-ok, arith)

cpus_ok : (limit : ℕ) (fields : List (List ℕ)) (table : ℕ × ℕ) → limit ≤ NR_CPUS → cpus_of limit fields ≡ Ok table → AreCpus limit fields table
cpus_ok limit (word ∷ nr ∷ mask ∷ []) table few h =
    let g = guarded (bytes_eq word (codes "cpus")) (table_of limit nr mask) Word table h in
    rw (same_word word (codes "cpus") g.0) (table_ok limit nr mask table few g.1)
cpus_ok limit _ table few h = cc

-- the second line's mask
pub whole_mask : (limit : ℕ) (fields : List (List ℕ)) (table : ℕ × ℕ) → limit ≤ NR_CPUS → whole_cpus limit fields ≡ Ok table
    → mask_of limit (field_at fields 2) ≡ Ok table.1
whole_mask limit fields table few h = search (guarded, cpus_ok, arith)

mask_field : (nr mask : List ℕ) → list_all is_field (codes "cpus" ∷ nr ∷ mask ∷ []) ≡ true → is_field mask ≡ true
mask_field nr mask good = (and_parts (is_field mask) true (and_parts (is_field nr) (is_field mask && true) good).1).0

few_lines : (labels : Option Labels) → first_line labels ≤ 2001
few_lines None = omega arith
few_lines (Some labels) = omega arith

-- the text of a script's parts
text_of : (mode : Mode) (version : Version) (text first second : List ℕ) (rest after : List ℕ) (nr : ℕ) (mask : List ℕ) (labels : Option Labels) (body : List ℕ)
    → text ≡ first ++ 10 ∷ rest → first ≡ join_with_byte 32 (codes "smp" ∷ version_text version ∷ mode_text mode ∷ [])
    → rest ≡ second ++ 10 ∷ after → second ≡ join_with_byte 32 (codes "cpus" ∷ decimal nr ∷ mask ∷ []) → after ≡ labels_before labels body
    → text ≡ line_before (codes "smp" ∷ version_text version ∷ mode_text mode ∷ [])
    (line_before (codes "cpus" ∷ decimal nr ∷ mask ∷ []) (labels_before labels body))
unfolding line_before
text_of mode version text first second rest after nr mask labels body a b c d e = rw (a, b, c, d, e) refl

-- a text that reads as a script is a spelling of it
pub script_is_spelled : (mode : Mode) (text : List ℕ) (script : Script) → script_of mode text ≡ Ok script
    → (mask : List ℕ) × (lines : List (Masks × Directive)) × IsSpelling mode mask lines script text
unfolding script_of
script_is_spelled mode text script h = elim (cases_Bool (nat_lt 65536 (length text))) [
  | inl long ↦ let bad : ◌≡◌ {A = Result Script Fault} (Err (0, TooLong)) (Ok script) = rw long at h in cc
  | inr short ↦
      let a = both (line_at 1 (lines_of text)) (after_first mode) script (rw short at h) in
      let b = both (at_line 1 (title_of mode (fields_of a.value.0))) (after_title mode a.value) script a.then in
      let c = both (line_at 2 a.value.1) (after_second mode b.value) script b.then in
      let d = both (at_line 2 (whole_cpus (limit_of b.value) (fields_of c.value.0))) (after_table mode b.value c.value.1) script c.then in
      let m = both (labels_at c.value.1) (after_labels mode b.value d.value) script d.then in
      let e = both (directives_of (setting_of mode b.value d.value.1) (first_line m.value.0) 0 [] m.value.1)
      (λ ds. Ok (record { version = b.value; nr = d.value.0; online = d.value.1; labels = m.value.0; directives = ds })) script m.then in
      let same : record { version = b.value; nr = d.value.0; online = d.value.1; labels = m.value.0; directives = e.value } ≡ script = ok_same _ _ e.then in
      let one = front_ok 1 text (lines_of text) a.value refl a.first in
      let two = front_ok 2 one.rest a.value.1 c.value (sym one.others_are) c.first in
      let three = labels_ok two.rest c.value.1 m.value (sym two.others_are) m.first in
      let title = title_ok mode (fields_of a.value.0) b.value (placed_ok 1 _ b.value b.first) in
      let whole = guarded (are_whole (fields_of c.value.0)) (cpus_of (limit_of b.value) (fields_of c.value.0)) Word d.value
      (placed_ok 2 (whole_cpus (limit_of b.value) (fields_of c.value.0)) d.value d.first) in
      let cpus = cpus_ok (limit_of b.value) (fields_of c.value.0) d.value (limit_within b.value) whole.1 in
      let body = lines_ok (setting_of mode b.value d.value.1) (first_line m.value.0) 0 [] m.value.1 three.rest e.value (sym three.others_are)
      (few_lines m.value.0)
      (omega arith) e.first in
      let first_is : a.value.0 ≡ join_with_byte 32 (codes "smp" ∷ version_text b.value ∷ mode_text mode ∷ []) =
      sym (join_parts 32 a.value.0) ∙ ap (join_with_byte 32) title in
      let second_is : c.value.0 ≡ join_with_byte 32 (codes "cpus" ∷ decimal d.value.0 ∷ cpus.mask ∷ []) =
      sym (join_parts 32 c.value.0) ∙ ap (join_with_byte 32) cpus.words in
      let after_is : two.rest ≡ labels_before m.value.0 (spelled_lines body.lines) = three.text_is ∙ ap (labels_before m.value.0) body.text in
      subst (λ x. (mask : List ℕ) × (lines : List (Masks × Directive)) × IsSpelling mode mask lines x text) same (
        cpus.mask,
        body.lines,
        record {
          text_is = text_of mode b.value text a.value.0 c.value.0 one.rest two.rest d.value.0 cpus.mask m.value.0
              (spelled_lines body.lines) one.text_is first_is two.text_is second_is after_is;
          mask_is = record {
            field = mask_field (decimal d.value.0) cpus.mask (ap (list_all is_field) (sym cpus.words) ∙ line_fields c.value.0 two.on_line whole.0);
            reads = cpus.mask_is;
          };
          lines_are = body.lines_are;
          masks_are = body.spell;
          some = cpus.some;
          within = cpus.within;
          online = cpus.online;
          labels = three.fit;
          fit = body.fit;
          keys = body.keys;
          bytes = grind (arith, nat_tests, short);
          count = omega (arith, body.count);
          events = omega (arith, body.total);
        },
      )
]
