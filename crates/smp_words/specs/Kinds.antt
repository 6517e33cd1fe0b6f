-- The number of each kind of stop.
use Rattle.std.specs.Prelude.{ℕ, ◌==◌, cond}
use Rattle.smp_words.specs.declared.work.Kind.{Kind}
use Rattle.smp_words.specs.declared.work.Kind.TheVariants.{One, Multi, Patch}

-- the number of a kind, and the kind of a number
abbrev pub kind_word : Kind → ℕ
kind_word One = 0
kind_word Multi = 1
kind_word Patch = 2

abbrev pub kind_at : ℕ → Kind
kind_at n = cond (n == 0) One (cond (n == 1) Multi Patch)
