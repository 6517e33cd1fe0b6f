-- A text has one first fault at most.
use Rattle.smp_script.proofs.Names.{◌≡◌, ℕ, true, List, Result, Ok, Err, refl, arith, is_ok, cases_order, slice_get_within, Cause, Number, Range, Mask, Line}
use Rattle.smp_script.proofs.Names.{lines_of, Fault, Script, script_of, Form, word, ActiveFault, FieldFault, ItemsFault, MaskFault, MemberFault, NumberFault}
use Rattle.smp_script.proofs.Names.{OnlineFault, SignedFault, LineFault, wrong_field, IsFault, IsFirstFault, past_bytes, no_line, in_line, setting_in, Mode}
use Rattle.smp_script.proofs.Names.{Setting}
use Rattle.smp_script.proofs.Faults.LineFaults.{place_within}
use Rattle.smp_script.proofs.Faults.FirstFaults.{TellsText, script_tells}

-- two faults of a field have one cause
number_cause : (low high : ℕ) (text : List ℕ) (c d : Cause) → NumberFault low high text c → NumberFault low high text d → c ≡ d
number_cause low high text Number Number f g = refl
number_cause low high text Range Range f g = refl
number_cause low high text _ _ f g = search

online_cause : (limit nr : ℕ) (text : List ℕ) (c d : Cause) → OnlineFault limit nr text c → OnlineFault limit nr text d → c ≡ d
online_cause limit nr text Mask Range f g = absurd (f g.0 g.1)
online_cause limit nr text Range Mask f g = absurd (g f.0 f.1)
online_cause limit nr text _ _ f g = search

signed_cause : (text : List ℕ) (c d : Cause) → SignedFault text c → SignedFault text d → c ≡ d
signed_cause text Number Number f g = refl
signed_cause text Range Range f g = refl
signed_cause text _ _ f g = search

mask_cause : (limit : ℕ) (text : List ℕ) (c d : Cause) → MaskFault limit text c → MaskFault limit text d → c ≡ d
mask_cause limit text Mask Mask f g = refl
mask_cause limit text _ _ f g = search

items_cause : (keys : ℕ) (text : List ℕ) (c d : Cause) → ItemsFault keys text c → ItemsFault keys text d → c ≡ d
items_cause keys text Number Number f g = refl
items_cause keys text Range Range f g = refl
items_cause keys text _ _ f g = search

active_cause : (limit : ℕ) (text : List ℕ) (c d : Cause) → ActiveFault limit text c → ActiveFault limit text d → c ≡ d
active_cause limit text Mask Mask f g = refl
active_cause limit text _ _ f g = search

member_cause : (mask : ℕ) (text : List ℕ) (c d : Cause) → MemberFault mask text c → MemberFault mask text d → c ≡ d
member_cause mask text Number Number f g = refl
member_cause mask text Range Range f g = refl
member_cause mask text _ _ f g = search

ruleset causes = (number_cause, signed_cause, mask_cause, active_cause, member_cause, items_cause, online_cause)

field_cause : (fields : List (List ℕ)) (i : ℕ) (form : Form) (c d : Cause) → FieldFault fields i form c → FieldFault fields i form d → c ≡ d
field_cause fields i (word w) c d f g = absurd f
field_cause fields i _ c d f g = search (causes, arith)

-- two faults of one rank in a line have one cause
line_cause : (setting : Setting) (n events : ℕ) (shared : Type 0) (line : Line) (k m : ℕ) (c d : Cause) → k ≡ m → LineFault setting n events shared line k c
    → LineFault setting n events shared line m d → c ≡ d
line_cause setting n events shared line k m c d e (wrong_field i {shape = a} {form = v} s w f) (wrong_field j {shape = b} {form = u} t x g) =
    search (field_cause, arith)
line_cause setting n events shared line k m c d e (wrong_field i {shape = a} {form = v} s w f) _ = search (place_within, arith)
line_cause setting n events shared line k m c d e _ (wrong_field j {shape = b} {form = u} t x g) = search (place_within, arith)
line_cause setting n events shared line k m c d e _ _ = search arith

-- and in a text
fault_cause : (setting : Setting) (text : List ℕ) (n k m l : ℕ) (c d : Cause) → n ≡ m → k ≡ l → IsFault setting text n k c → IsFault setting text m l d → c ≡ d
fault_cause setting text n k m l c d e r (past_bytes f) (past_bytes g) = refl
fault_cause setting text n k m l c d e r (in_line i {line = a} here f) (in_line j {line = b} there g) = search (line_cause, arith)
fault_cause setting text n k m l c d e r (in_line i {line = a} here f) (no_line g few) = absurd (omega (arith, e, slice_get_within (lines_of text) i a here))
fault_cause setting text n k m l c d e r (no_line f few) (in_line j {line = b} there g) = absurd (omega (arith, e, slice_get_within (lines_of text) j b there))
fault_cause setting text n k m l c d e r _ _ = search arith

-- first faults are in one line
one_line : (setting : Setting) (text : List ℕ) (n m : ℕ) (c d : Cause) → IsFirstFault setting text n c → IsFirstFault setting text m d → n ≡ m
one_line setting text n m c d a b = search (cases_order, arith)

-- and have one cause
one_cause : (setting : Setting) (text : List ℕ) (n m : ℕ) (c d : Cause) → IsFirstFault setting text n c → IsFirstFault setting text m d → n ≡ m → c ≡ d
one_cause setting text n m c d a b e = search (cases_order, fault_cause, arith)

-- a text with a first fault is refused with it
refused_with : (setting : Setting) (text : List ℕ) (n : ℕ) (cause : Cause) → IsFirstFault setting text n cause → (r : Result Script Fault)
    → TellsText setting text r → r ≡ Err (n, cause)
refused_with setting text n cause h (Ok script) tells = absurd (tells n h.rank cause h.fault)
refused_with setting text n cause h (Err fault) tells =
    let line = one_line setting text n fault.0 cause fault.1 h tells in
    let why = one_cause setting text n fault.0 cause fault.1 h tells line in
    rw (line, why) refl

pub is_refused : (mode : Mode) (text : List ℕ) (n : ℕ) (cause : Cause) → IsFirstFault (setting_in mode text) text n cause → script_of mode text ≡ Err (n, cause)
is_refused mode text n cause h = refused_with (setting_in mode text) text n cause h (script_of mode text) (script_tells mode text)

-- a text without a fault is read
read_then : (setting : Setting) (text : List ℕ) → ((n rank : ℕ) (cause : Cause) → IsFault setting text n rank cause → ⊥) → (r : Result Script Fault)
    → TellsText setting text r → is_ok r ≡ true
read_then setting text none (Ok script) tells = refl
read_then setting text none (Err fault) tells = absurd (none fault.0 tells.rank fault.1 tells.fault)

pub is_read : (mode : Mode) (text : List ℕ) → ((n rank : ℕ) (cause : Cause) → IsFault (setting_in mode text) text n rank cause → ⊥)
    → is_ok (script_of mode text) ≡ true
is_read mode text none = read_then (setting_in mode text) text none (script_of mode text) (script_tells mode text)

none_then : (setting : Setting) (text : List ℕ) (r : Result Script Fault) → TellsText setting text r → is_ok r ≡ true → (n rank : ℕ) (cause : Cause)
    → IsFault setting text n rank cause → ⊥
none_then setting text (Ok script) tells h = tells
none_then setting text (Err fault) tells h = cc

pub has_none : (mode : Mode) (text : List ℕ) → is_ok (script_of mode text) ≡ true → (n rank : ℕ) (cause : Cause)
    → IsFault (setting_in mode text) text n rank cause → ⊥
has_none mode text h = none_then (setting_in mode text) text (script_of mode text) (script_tells mode text) h
