-- The label words, and a patch in progress.
use Rattle.std.specs.Prelude.{◌≡◌, ℕ, Bool, true, false, Option, Some, None, IfSome, List, [], ◌∷◌}
use Rattle.smp_labels.specs.declared.keys.Change.TheVariants.{Off, On, Up, Down}
use Rattle.smp_labels.specs.{Keys.count_left, declared.keys.Change.Change as KeyChange, Law.Table, Law.IsLawful, Plans.applied, Plans.SetsKey}
use Rattle.smp_stop_steps.specs.Names.{is_on, change_of, count_after, Place, Work, Word, Key, Entry, Site}
pub use Rattle.smp_stop_steps.specs.declared.known.Reading.{Reading}
pub use Rattle.smp_stop_steps.specs.declared.known.Reading.TheVariants.{ReadKey, ReadSite}

-- the label words by their numbers
abbrev pub labels_in : (Word → ℕ) → Table
labels_in at = record { key = λ k. at (Key k); entry = λ i. at (Entry i); site = λ i. at (Site i) }

-- a store of a patch: the word, and the number that is put there
abbrev pub Change : Type 0
Change = Place × ℕ

-- who patches, in which work, the count that it found, and which stores are made and are to be made: at most one
-- patches by construction
pub data Patching : Type 0 where
  Whole : Patching
  Patches : (cpu : ℕ) → (work : Work) → (count : ℕ) → (made rest : List Change) → Patching

-- the count that the patch of this work leaves where it finds this one
abbrev pub count_set : Work → ℕ → ℕ
count_set work count = count_left (change_of work.arg) count

-- what it answers: 1 where that count is at the end of its range, so that nothing changes, else 0
abbrev pub answer_for : Option ℕ → ℕ
answer_for None = 1
answer_for (Some new) = 0

abbrev pub patch_answer : Work → ℕ → ℕ
patch_answer work count = answer_for (count_after (change_of work.arg) count)

-- whether a key is on after a change, where that follows from the change alone: a count that goes down may end as either
abbrev pub state_left : KeyChange → Option Bool
state_left Off = Some false
state_left On = Some true
state_left Up = Some true
state_left Down = None

-- a key of this word is as the patch of this work has left it
abbrev pub StandsSet : Work → ℕ → Type 0
StandsSet work word = IfSome (state_left (change_of work.arg)) (λ on. is_on word ≡ on)

-- the label law: the table is lawful while nobody patches; else just the stores so far have changed a lawful table, with
-- the key at the count that was found, and the rest leads to the lawful one with that count changed
abbrev pub LabelsShow : Patching → Table → Type 0
LabelsShow Whole t = IsLawful t
LabelsShow (Patches cpu work count made rest) t =
    (old : Table) × IsLawful old × (t ≡ applied made old) × (old.key work.func ≡ count) × SetsKey work.func (count_set work count) old (applied rest t)

-- the words say what was read
abbrev pub Agrees : Table → Reading → Type 0
Agrees t (ReadKey k on) = is_on (t.key k) ≡ on
Agrees t (ReadSite i jumps) = is_on (t.site i) ≡ jumps

-- what the source of a patch knows of its key as it leaves
abbrev pub reading_of : ℕ → Option Bool → List Reading
reading_of key None = []
reading_of key (Some on) = ReadKey key on ∷ []
