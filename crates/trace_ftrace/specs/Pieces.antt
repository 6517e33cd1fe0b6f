-- A text that comes in pieces.
use Rattle.std.specs.Prelude.{◌≡◌, ℕ, ◌+◌, ◌≤◌, nat_lt, Bool, true, false, List, ◌++◌, length, Option, Some, None, Err}
use Rattle.smp_script.specs.Lines.{lines_of}
use Rattle.trace_ftrace.specs.Kept.{KeptValue}
use Rattle.trace_ftrace.specs.Marks.{lines_kept, no_lines, Keeps}
use Rattle.trace_ftrace.specs.declared.wrong.Refusal.{Refusal}

-- what is kept of the lines that are ended, the number of the next and what there is of it, how many bytes there were, or what is wrong
pub record PiecesValue : Type 0 where
  pub skip : ℕ
  pub kept : KeptValue
  pub number : ℕ
  pub part : List ℕ
  pub bytes : ℕ
  pub is_long : Bool
  pub fault : Option Refusal

-- whatever follows a text, its lines show what those of its last part show from this number on, with what is kept
abbrev pub GoesOn : ℕ → ℕ → List ℕ → KeptValue → ℕ → List ℕ → KeptValue → Type 0
GoesOn skip n text k more part then =
    (rest : List ℕ) → lines_kept skip n (lines_of (text ++ rest)) k ≡ lines_kept skip more (lines_of (part ++ rest)) then

-- whatever follows a text, this is wrong with it, unless memory ran out
abbrev pub Fails : Refusal → ℕ → ℕ → List ℕ → KeptValue → Type 0
Fails why skip n text k = (rest : List ℕ) → Keeps (Err why) no_lines (lines_kept skip n (lines_of (text ++ rest)) k)

-- these pieces are those of this text: it is too long, or its lines go on from what is kept, or one is at fault
abbrev pub IsRead : Bool → Option Refusal → ℕ → List ℕ → PiecesValue → Type 0
IsRead true fault skip text p = nat_lt 536870912 (length text) ≡ true
IsRead false None skip text p = (length text ≡ p.bytes) × GoesOn skip 1 text no_lines p.number p.part p.kept
IsRead false (Some why) skip text p = (length text ≡ p.bytes) × Fails why skip 1 text no_lines

abbrev pub HaveRead : ℕ → List ℕ → PiecesValue → Type 0
HaveRead skip text p = (p.skip ≡ skip) × IsRead p.is_long p.fault skip text p

-- they are no longer than a text may be
abbrev pub AreWithin : PiecesValue → Type 0
AreWithin p = (p.number + length p.part ≤ p.bytes + 1) × (p.bytes ≤ 536870912)

-- all but what is kept is the same
abbrev pub HasSame : PiecesValue → PiecesValue → Type 0
HasSame p q = (q.skip ≡ p.skip) × (q.bytes ≡ p.bytes) × (q.is_long ≡ p.is_long) × (q.fault ≡ p.fault)
