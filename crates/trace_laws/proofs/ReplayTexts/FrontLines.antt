-- The lines in front of the events of a trace, by the script that they are of.
use Rattle.trace_laws.proofs.Names.{Cause, Err, Labels, Line, List, None, Ok, Option, Result, Some, [], and_parts, ap, arith, cases_Bool, codes, decimal}
use Rattle.trace_laws.proofs.Names.{fields_of, if◌then◌else◌, inl, inr, join_with_byte, list_all, members, nat_lt, nat_tests, refl, sym, true, whole_labels, ℕ}
use Rattle.trace_laws.proofs.Names.{◌>>=◌, ◌∙◌, ◌∷◌, ◌≡◌, ◌≤◌}
use Rattle.trace_laws.proofs.ReplayNames.{AreLabels, One, SmpError, Two, Version, fields_join, is_field, is_field-decimal, items_text, labels_fields, limit_of}
use Rattle.trace_laws.proofs.ReplayNames.{lines_of-line, mask_of, or_mask, stays_below}
use Rattle.smp_script.proofs.Written.LabelWriting.{labels_line_read}
use Rattle.smp_script.specs.{Faults.Fault, Faults.at_line, Labels.is_labels, Script.labels_at}

-- the words of the second line, and of the third where it is one of labels
abbrev pub cpus_words : ℕ → List ℕ → List (List ℕ)
cpus_words nr mask = codes "cpus" ∷ decimal nr ∷ mask ∷ []

abbrev pub labels_words : Labels → List (List ℕ)
labels_words labels = codes "labels" ∷ decimal labels.keys ∷ items_text labels.entries ∷ []

-- CPUs below 8 are below 32
still_below : (cpus : List ℕ) → list_all (λ cpu. nat_lt cpu 8) cpus ≡ true → list_all (λ cpu. nat_lt cpu 32) cpus ≡ true
still_below [] h = refl
still_below (c ∷ cs) h =
    let p = and_parts (nat_lt c 8) (list_all (λ cpu. nat_lt cpu 8) cs) h in
    let here : nat_lt c 32 ≡ true = grind (arith, nat_tests, p.0) in
    rw (here, still_below cs p.1) refl

wider : (read : Result ℕ SmpError) (m : ℕ) → or_mask 8 read ≡ Ok m → or_mask 32 read ≡ Ok m
wider (Ok mask) m h = elim (cases_Bool (stays_below 8 mask)) [
  | inl low ↦ rw (still_below (members mask) low) (rw low at h)
  | inr high ↦ let bad : or_mask 8 (Ok mask) ≡ Ok m = h in grind (arith, high, bad)
]
wider (Err error) m h = cc

wider_mask : (text : List ℕ) (m : ℕ) → mask_of 8 text ≡ Ok m → mask_of 32 text ≡ Ok m
wider_mask text m h1 = search (cases_Bool, codes, wider, arith)

-- the mask of a script is one of a trace
pub trace_mask : (version : Version) (text : List ℕ) (m : ℕ) → mask_of (limit_of version) text ≡ Ok m → mask_of 32 text ≡ Ok m
trace_mask One text m h = wider_mask text m h
trace_mask Two text m h = h

pub few_cpus : (version : Version) → limit_of version ≤ 32
few_cpus One = omega arith
few_cpus Two = omega arith

-- the second line is read
pub cpus_fields : (nr : ℕ) (mask : List ℕ) → nr ≤ 32 → is_field mask ≡ true → list_all is_field (cpus_words nr mask) ≡ true
cpus_fields nr mask few field = rw (is_field-decimal nr (omega (arith, few)), field) refl

-- and the third
labels_found : (read : Result Labels Cause) (labels : Labels) (ls : List Line)
    → ◌>>=◌ {B = Option Labels × List Line} (at_line 3 read) (λ found. Ok (Some found, ls)) ≡ Ok (Some labels, ls) → read ≡ Ok labels
labels_found read labels ls h1 = search arith

-- the third line, by its fields
abbrev third_by : Line → List (List ℕ) → Result (Option Labels × List Line) Fault
third_by l fields =
    if is_labels fields then ◌>>=◌ {B = Option Labels × List Line} (at_line 3 (whole_labels fields)) (λ found. Ok (Some found, [])) else Ok (None, l ∷ [])

pub labels_told : (labels : Labels) → AreLabels labels.keys labels.entries → whole_labels (labels_words labels) ≡ Ok labels
labels_told labels h =
    let fields = labels_fields labels h in
    let l : Line = record { text = join_with_byte 32 (labels_words labels); ended = true } in
    let back = fields_join (codes "labels") (decimal labels.keys ∷ items_text labels.entries ∷ []) fields in
    let said : third_by l (fields_of l.text) ≡ Ok (Some labels, []) =
    ap labels_at (sym (lines_of-line (labels_words labels) [] fields)) ∙ labels_line_read labels [] h in
    labels_found (whole_labels (labels_words labels)) labels [] (sym (ap (third_by l) back) ∙ said)
