-- The kind of a site.
use Rattle.std.specs.Prelude.{ℕ, Bool, true, false, not, ◌==◌, if◌then◌else◌}
use Rattle.smp_labels.specs.declared.kinds.SiteKind.{SiteKind}
use Rattle.smp_labels.specs.declared.kinds.SiteKind.TheVariants.{Nop, Jmp}

abbrev pub xor : Bool → Bool → Bool
xor true b = not b
xor false b = b

-- the kind of a site whose key is enabled or not, and which was declared with that branch
abbrev pub kind_of : Bool → Bool → SiteKind
kind_of enabled branch = if xor enabled branch then Jmp else Nop

-- the word of a site of this kind
abbrev pub kind_word : SiteKind → ℕ
kind_word Nop = 0
kind_word Jmp = 1

-- the kind that a site's word says
abbrev pub kind_at : ℕ → SiteKind
kind_at word = if word == 0 then Nop else Jmp
