-- The lines of a script, as they are written.
use Rattle.smp_script.proofs.Names.{◌≡◌, ℕ, ◌+◌, ◌<◌, ◌≤◌, true, false, nat_lt, List, [], ◌∷◌, ◌++◌, map, length, sum_by, Option, Some, None, Ok, codes, refl}
use Rattle.smp_script.proofs.Names.{sym, ap, ◌∙◌, arith, subst, decimal, AllByRecursion, join_with_byte, list_all, nat_tests, sum_by-cons, NR_CPUS, Labels}
use Rattle.smp_script.proofs.Names.{Directive, Start, Mode, Replay, Run, Setting, AreApart, shares, mode_text, setting_of, fields_of, lines_of, mask_of}
use Rattle.smp_script.proofs.Names.{is_labels, line_directive, Script, are_online, directives_of, events_of, first_line, labels_at, script_of, title_of}
use Rattle.smp_script.proofs.Names.{whole_cpus, DirectiveFits, IsSpelling, LabelsFit, Masks, SpellLine, directive_words, is_field, labels_before, line_before}
use Rattle.smp_script.proofs.Names.{spelled_lines, Version, One, limit_of, version_text}
use Rattle.smp_script.proofs.Reader.ApartKeys.{apart_at_first, apart_both}
use Rattle.smp_script.proofs.Written.LineWriting.{line_written}
use Rattle.smp_script.proofs.Texts.Decimals.{is_field-decimal, number_in-decimal}
use Rattle.smp_script.proofs.Written.LabelWriting.{labels_line_read}
use Rattle.smp_script.proofs.Texts.Joins.{fields_join, lines_of-line, whole_fields}
use Rattle.smp_script.proofs.Reader.Versions.{limit_within}

fields_back : (ts : List (List ℕ)) → 0 < length ts → list_all is_field ts ≡ true → fields_of (join_with_byte 32 ts) ≡ ts
fields_back [] some h = absurd (omega arith)
fields_back (t ∷ ts) some h = fields_join t ts h

some_words : (masks : Masks) (d : Directive) → 0 < length (directive_words masks d)
some_words masks (Start cpu command) = omega arith
some_words masks _ = omega arith

-- the numbers of a line fit, as the first two lines settle
abbrev Fits : Setting → Directive → Type 0
Fits setting d = DirectiveFits setting.mode setting.online d

words_are_fields : (setting : Setting) (masks : Masks) (d : Directive) → Fits setting d → SpellLine setting.limit (masks, d)
    → list_all is_field (directive_words masks d) ≡ true
words_are_fields setting masks d f s = (line_written setting.mode setting.limit setting.online masks d f s).0

line_read : (setting : Setting) (masks : Masks) (d : Directive) → Fits setting d → SpellLine setting.limit (masks, d)
    → line_directive setting (join_with_byte 32 (directive_words masks d)) ≡ Ok d
unfolding line_directive
line_read setting masks d f s =
    let fields = words_are_fields setting masks d f s in
    rw (fields_back (directive_words masks d) (some_words masks d) fields, whole_fields (directive_words masks d) fields)
    (line_written setting.mode setting.limit setting.online masks d f s).1

abbrev asked : List (Masks × Directive) → List Directive
asked lines = map (λ l. l.1) lines

-- the lines of a script are read
pub lines_are_read : (setting : Setting) (n events : ℕ) (earlier : List Directive) (lines : List (Masks × Directive))
    → AllByRecursion (Fits setting) (asked lines) → AllByRecursion (SpellLine setting.limit) lines
    → AllByRecursion (λ d. shares earlier d ≡ false) (asked lines) → AreApart (asked lines) → n + length (asked lines) ≤ 2001
    → events + sum_by events_of (asked lines) ≤ 100000 → directives_of setting n events earlier (lines_of (spelled_lines lines)) ≡ Ok (asked lines)
unfolding directives_of spelled_lines
lines_are_read setting n events earlier [] f s apart keys count total = refl
lines_are_read setting n events earlier ((masks, d) ∷ lines) f s apart keys count total =
    let sum : sum_by events_of (d ∷ asked lines) ≡ events_of d + sum_by events_of (asked lines) = sum_by-cons events_of d (asked lines) in
    let few : nat_lt 2000 n ≡ false = grind (arith, nat_tests) in
    let fits : nat_lt 100000 (events + events_of d) ≡ false = grind (arith, nat_tests) in
    let rest : directives_of setting (n + 1) (events + events_of d) (earlier ++ d ∷ []) (lines_of (spelled_lines lines)) ≡ Ok (asked lines) =
    lines_are_read setting (n + 1) (events + events_of d) (earlier ++ d ∷ []) lines f.1 s.1 (apart_both earlier d (asked lines) apart.1 keys.0) keys.1
    (omega arith) (omega arith) in
    rw (
      lines_of-line (directive_words masks d) (spelled_lines lines) (words_are_fields setting masks d f.0 s.0),
      few,
      line_read setting masks d f.0 s.0,
      apart.0,
      fits,
      rest,
    ) refl

pub cpus_are_read : (limit : ℕ) (nr online : ℕ) (mask : List ℕ) → 1 ≤ nr → nr ≤ limit → limit ≤ NR_CPUS → is_field mask ≡ true → mask_of limit mask ≡ Ok online
    → are_online nr online ≡ true → whole_cpus limit (codes "cpus" ∷ decimal nr ∷ mask ∷ []) ≡ Ok (nr, online)
cpus_are_read limit nr online mask some within few field is_mask are = search (is_field-decimal, number_in-decimal, whole_fields, arith)

longer : (n : ℕ) → n ≤ 65536 → nat_lt 65536 n ≡ false
longer n h = grind (arith, nat_tests)

not_labels : (masks : Masks) (d : Directive) → is_labels (directive_words masks d) ≡ false
not_labels masks (Start cpu command) = refl
not_labels masks _ = refl

-- lines of a script are no labels line
no_labels_line : (setting : Setting) (lines : List (Masks × Directive)) → AllByRecursion (Fits setting) (asked lines)
    → AllByRecursion (SpellLine setting.limit) lines → labels_at (lines_of (spelled_lines lines)) ≡ Ok (None, lines_of (spelled_lines lines))
unfolding spelled_lines
no_labels_line setting [] f s = refl
no_labels_line setting ((masks, d) ∷ lines) f s = search (words_are_fields, lines_of-line, fields_back, some_words, not_labels, arith)

third_read : (setting : Setting) (labels : Option Labels) (lines : List (Masks × Directive)) → LabelsFit labels → AllByRecursion (Fits setting) (asked lines)
    → AllByRecursion (SpellLine setting.limit) lines
    → labels_at (lines_of (labels_before labels (spelled_lines lines))) ≡ Ok (labels, lines_of (spelled_lines lines))
third_read setting None lines h f s = no_labels_line setting lines f s
third_read setting (Some labels) lines h f s = labels_line_read labels (spelled_lines lines) h

title_fields : (mode : Mode) (version : Version) → list_all is_field (codes "smp" ∷ version_text version ∷ mode_text mode ∷ []) ≡ true
title_fields Replay One = refl
title_fields Run One = refl
title_fields _ _ = refl

title_read : (mode : Mode) (version : Version)
    → title_of mode (fields_of (join_with_byte 32 (codes "smp" ∷ version_text version ∷ mode_text mode ∷ []))) ≡ Ok version
title_read Replay One = refl
title_read Run One = refl
title_read _ _ = refl

-- a spelling of a script is read as it
pub spelling_is_read : (mode : Mode) (mask : List ℕ) (lines : List (Masks × Directive)) (script : Script) (text : List ℕ)
    → IsSpelling mode mask lines script text → script_of mode text ≡ Ok script
unfolding script_of
spelling_is_read mode mask lines script text s =
    let limit = limit_of script.version in
    let few = limit_within script.version in
    let nr_field : is_field (decimal script.nr) ≡ true = is_field-decimal script.nr (omega (arith, s.within, few)) in
    let words : list_all is_field (codes "cpus" ∷ decimal script.nr ∷ mask ∷ []) ≡ true = rw (nr_field, s.mask_is.field) refl in
    let first = lines_of-line (codes "smp" ∷ version_text script.version ∷ mode_text mode ∷ [])
    (line_before (codes "cpus" ∷ decimal script.nr ∷ mask ∷ []) (labels_before script.labels (spelled_lines lines))) (title_fields mode script.version) in
    let second = lines_of-line (codes "cpus" ∷ decimal script.nr ∷ mask ∷ []) (labels_before script.labels (spelled_lines lines)) words in
    let table : whole_cpus limit (fields_of (join_with_byte 32 (codes "cpus" ∷ decimal script.nr ∷ mask ∷ []))) ≡ Ok (script.nr, script.online) =
    ap (whole_cpus limit) (fields_join (codes "cpus") (decimal script.nr ∷ mask ∷ []) words)
    ∙ cpus_are_read limit script.nr script.online mask s.some s.within few s.mask_is.field s.mask_is.reads s.online in
    let setting = setting_of mode script.version script.online in
    let fit : AllByRecursion (Fits setting) (asked lines) = subst (λ ds. AllByRecursion (Fits setting) ds) (sym s.lines_are) s.fit in
    let keys : AreApart (asked lines) = subst AreApart (sym s.lines_are) s.keys in
    let count : first_line script.labels + length (asked lines) ≤ 2001 = subst (λ ds. first_line script.labels + length ds ≤ 2001) (sym s.lines_are) s.count in
    let events : sum_by events_of (asked lines) ≤ 100000 = subst (λ ds. sum_by events_of ds ≤ 100000) (sym s.lines_are) s.events in
    let third = third_read setting script.labels lines s.labels fit s.masks_are in
    let body = lines_are_read setting (first_line script.labels) 0 [] lines fit s.masks_are (apart_at_first (asked lines)) keys count (omega (arith, events)) in
    rw (longer (length text) s.bytes, s.text_is, first, title_read mode script.version, second, table) (rw (third, body, s.lines_are) refl)
