-- The lines of a script that ask for something, as they are written.
use Rattle.smp_script.proofs.Names.{◌≡◌, ℕ, suc, ℤ, pos, negsuc, ◌<◌, ◌^◌, Bool, true, false, List, [], ◌∷◌, Some, Result, Ok, Err, codes, refl, sym, ap, ◌∙◌}
use Rattle.smp_script.proofs.Names.{inl, inr, arith, decimal, signed_decimal, list_all, bytes_eq, cases_Bool, and_parts, nat_tests, has, read_from, Cause, Mask}
use Rattle.smp_script.proofs.Names.{Class, Sync, Async, Post, Begin, Nudge, Kind, OneKind, Directive, Start, Do, Mode, Replay, Run, Which, All, directive_of}
use Rattle.smp_script.proofs.Names.{start_begin, start_post, class_of, kind_of, mask_of, way_of, number_in, signed_of, member_of, repeated, switch_of, wait_of}
use Rattle.smp_script.proofs.Names.{which_of, DirectiveFits, IsAnswer, Masks, SpellLine, class_text, directive_words, is_field, kind_text, lacks, switch_text}
use Rattle.smp_script.proofs.Names.{wait_text, way_text, which_text}
use Rattle.smp_script.specs.declared.request.Request.TheVariants as request
use Rattle.smp_script.proofs.Spelled.ReadParts.{same_word}
use Rattle.smp_script.proofs.Texts.Decimals.{decimal_lacks, is_field-decimal, number_in-decimal}

-- words from a list are fields, and are read as what they stand for
pub class_written : (c : Class) → (is_field (class_text c) ≡ true) × (class_of (class_text c) ≡ Ok c)
class_written Sync = (refl, refl)
class_written Async = (refl, refl)

pub kind_written : (k : Kind) → (is_field (kind_text k) ≡ true) × (kind_of (kind_text k) ≡ Ok k)
kind_written OneKind = (refl, refl)
kind_written _ = (refl, refl)

pub way_written : (up : Bool) → (is_field (way_text up) ≡ true) × (way_of (way_text up) ≡ Ok up)
way_written true = (refl, refl)
way_written false = (refl, refl)

wait_written : (b : Bool) → (is_field (wait_text b) ≡ true) × (wait_of (wait_text b) ≡ Ok b)
wait_written true = (refl, refl)
wait_written false = (refl, refl)

pub switch_written : (b : Bool) → (is_field (switch_text b) ≡ true) × (switch_of (switch_text b) ≡ Ok b)
switch_written true = (refl, refl)
switch_written false = (refl, refl)

which_written : (c : Which) → (is_field (which_text c) ≡ true) × (which_of (which_text c) ≡ Ok c)
which_written All = (refl, refl)
which_written _ = (refl, refl)

minus_field : (text : List ℕ) → is_field text ≡ true → is_field (45 ∷ text) ≡ true
minus_field text h = grind (and_parts, nat_tests, arith)

pub signed_field : (z : ℤ) → IsAnswer z → is_field (signed_decimal z) ≡ true
signed_field (pos n) h = is_field-decimal n (omega (arith, h))
signed_field (negsuc n) h = minus_field (decimal (suc n)) (is_field-decimal (suc n) (omega (arith, h)))

plain_read : (text : List ℕ) (n : ℕ) → lacks 45 text ≡ true → number_in 0 2147483647 text ≡ Ok n → signed_of text ≡ Ok (pos n)
plain_read [] n h e = cc
plain_read (b ∷ bs) n h e = grind arith

pub signed_read : (z : ℤ) → IsAnswer z → signed_of (signed_decimal z) ≡ Ok z
signed_read (pos n) h = plain_read (decimal n) n (decimal_lacks 45 n refl (omega (arith, h)))
    (number_in-decimal 0 2147483647 n (omega arith) (omega (arith, h)) (omega (arith, h)))
signed_read (negsuc n) h = grind (number_in-decimal, arith)

pub member_read : (mask cpu : ℕ) → cpu < 2 ^ 32 → has mask cpu ≡ true → member_of mask (decimal cpu) ≡ Ok cpu
member_read mask cpu h on = let read = number_in-decimal 0 4294967295 cpu (omega arith) (omega arith) (omega arith) in rw (read, on) refl

-- `none` is no list
none_wrong : (limit : ℕ) → mask_of limit (codes "none") ≡ Err Mask
unfolding read_from
none_wrong limit = refl

-- so a text of a mask is not `none`
not_none : (limit : ℕ) (text : List ℕ) (m : ℕ) → mask_of limit text ≡ Ok m → bytes_eq text (codes "none") ≡ false
not_none limit text m h = elim (cases_Bool (bytes_eq text (codes "none"))) [
  | inr other ↦ other
  | inl none ↦
      let same : text ≡ codes "none" = same_word text (codes "none") none in
      let bad : ◌≡◌ {A = Result ℕ Cause} (Err Mask) (Ok m) = sym (none_wrong limit) ∙ ap (mask_of limit) (sym same) ∙ h in
      cc
]

-- the words of a line are fields, and are read as it
abbrev pub Written : Mode → ℕ → ℕ → Masks → Directive → Type 0
Written mode limit mask masks d = (list_all is_field (directive_words masks d) ≡ true)
    × (directive_of (record { mode = mode; limit = limit; online = mask }) (directive_words masks d) ≡ Ok d)

ruleset numbers = (is_field-decimal, number_in-decimal, member_read, signed_field, signed_read)

replay_written : (limit mask : ℕ) (masks : Masks) (d : Directive) → DirectiveFits Replay mask d → SpellLine limit (masks, d) → Written Replay limit mask masks d
unfolding start_post start_begin
replay_written limit mask masks (Start cpu (Begin work)) f s =
    search (numbers, (kind_written work.kind).0, (kind_written work.kind).1, s.0.field, s.1.field, s.0.reads, s.1.reads, arith)
replay_written limit mask masks (Start cpu (Post number dst class func info tries)) f s =
    search (numbers, (class_written class).0, (class_written class).1, arith)
replay_written limit mask masks (Start cpu (Nudge key up)) f s = search (numbers, (way_written up).0, (way_written up).1, arith)
replay_written limit mask masks _ f s = search (numbers, arith)

run_written : (limit mask : ℕ) (masks : Masks) (d : Directive) → DirectiveFits Run mask d → SpellLine limit (masks, d) → Written Run limit mask masks d
unfolding repeated
run_written limit mask masks (Do cpu count (request.Any wait set func info)) f s =
    search (numbers, (wait_written wait).0, (wait_written wait).1, s.field, s.reads, arith)
run_written limit mask masks (Do cpu count (request.Many wait set func info)) f s =
    search (numbers, (wait_written wait).0, (wait_written wait).1, s.field, s.reads, arith)
run_written limit mask masks (Do cpu count (request.Cond which wait set func info)) f s =
    let c = which_written which in
    let w = wait_written wait in
    search (numbers, c.0, c.1, w.0, w.1, s.field, s.reads, arith)
run_written limit mask masks (Do cpu count (request.Machine (Some set) func n)) f s =
    search (numbers, not_none limit masks.active set s.reads, s.field, s.reads, arith)
run_written limit mask masks (Do cpu count (request.Set key on)) f s = search (numbers, (switch_written on).0, (switch_written on).1, arith)
run_written limit mask masks (Do cpu count (request.Single true dst func info)) f s = search (numbers, arith)
run_written limit mask masks _ f s = search (numbers, arith)

pub line_written : (mode : Mode) (limit mask : ℕ) (masks : Masks) (d : Directive) → DirectiveFits mode mask d → SpellLine limit (masks, d)
    → Written mode limit mask masks d
line_written Replay limit mask masks d f s = replay_written limit mask masks d f s
line_written Run limit mask masks d f s = run_written limit mask masks d f s
