-- What was made, what was sent, and what was heard.
use Rattle.std.specs.Prelude.{◌≡◌, ℕ, ◌+◌, ◌*◌, ◌%◌, ◌^◌, ◌<◌, max, Bool, if◌then◌else◌, List, slice_index_or, slice_set}
use Rattle.load.specs.declared.torture.call_totals.CallTotal.{CallTotal}
use Rattle.load.specs.declared.torture.answers.Answers.{Answers}
use Rattle.load.specs.declared.torture.call_totals.CallTotals.{CallTotals}
use Rattle.load.specs.Kinds.{kinds}

-- nothing
abbrev pub no_total : CallTotal
no_total = record { count = 0; sum = 0 }

-- where the calls of a function are, to or from a CPU
abbrev pub place_of : ℕ → ℕ → ℕ
place_of func cpu = 32 * func + cpu

-- the calls of a function, to or from a CPU
abbrev pub total_at : List CallTotal → ℕ → ℕ → CallTotal
total_at cells func cpu = slice_index_or cells (place_of func cpu) no_total

-- one call more, of this value
abbrev pub total_with : CallTotal → ℕ → CallTotal
total_with c value = record { count = (c.count + 1) % 2 ^ 64; sum = (c.sum + value) % 2 ^ 64 }

-- the calls of both
abbrev pub total_sum : CallTotal → CallTotal → CallTotal
total_sum a b = record { count = (a.count + b.count) % 2 ^ 64; sum = (a.sum + b.sum) % 2 ^ 64 }

-- a call more of a function and a value, to or from a CPU
abbrev pub noted : CallTotals → ℕ → ℕ → ℕ → CallTotals
noted s func cpu value = record s { cells = slice_set s.cells (place_of func cpu) (total_with (total_at s.cells func cpu) value) }

-- a call more that nobody can have made
abbrev pub strayed : CallTotals → CallTotals
strayed s = record s { strays = (s.strays + 1) % 2 ^ 64 }

-- a call is noted where its function and its CPU exist, and else as one that nobody can have made
abbrev pub Notes : ℕ → ℕ → ℕ → CallTotals → CallTotals → Type 0
Notes func cpu value old new = ((func < kinds → cpu < 32 → new ≡ noted old func cpu value) × (¬ ((func < kinds) × (cpu < 32)) → new ≡ strayed old))

-- nothing made
abbrev pub no_answers : Answers
no_answers = record { count = 0; wrong = 0; nanos = 0; longest = 0 }

-- what was made of a kind
abbrev pub answers_of : List Answers → ℕ → Answers
answers_of answers index = slice_index_or answers index no_answers

-- one more, that was answered as it should be or not, and took so long
abbrev pub answers_with : Answers → Bool → ℕ → Answers
answers_with m right took = record {
  count = (m.count + 1) % 2 ^ 64;
  wrong = (m.wrong + (if right then 0 else 1)) % 2 ^ 64;
  nanos = (m.nanos + took) % 2 ^ 64;
  longest = max m.longest took;
}

-- what both have made
abbrev pub answers_sum : Answers → Answers → Answers
answers_sum a b = record {
  count = (a.count + b.count) % 2 ^ 64;
  wrong = (a.wrong + b.wrong) % 2 ^ 64;
  nanos = (a.nanos + b.nanos) % 2 ^ 64;
  longest = max a.longest b.longest;
}
