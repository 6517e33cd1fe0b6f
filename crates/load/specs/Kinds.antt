-- Kinds, and their weights.
use Rattle.std.specs.Prelude.{◌≡◌, ◌⊎◌, ℕ, List, [], ◌∷◌, slice_index_or}
use Rattle.load.specs.declared.torture.kind.Kind.{Kind}
use Rattle.load.specs.declared.torture.kind.Kind.TheVariants.{Single, SingleWait, Async, Any, AnyWait, Many, ManyWait, Each, EachWait}
use Rattle.load.specs.declared.torture.kind.Kind.TheVariants.{StopOne, StopTwo, StopMachine, SetKey, KeyInc, KeyDec, ReadKey, ReadSite, Sleep, Poll}

-- how many kinds there are
abbrev pub kinds : ℕ
kinds = 19

-- the place of a kind
abbrev pub index_of : Kind → ℕ
index_of Single = 0
index_of SingleWait = 1
index_of Async = 2
index_of Any = 3
index_of AnyWait = 4
index_of Many = 5
index_of ManyWait = 6
index_of Each = 7
index_of EachWait = 8
index_of StopOne = 9
index_of StopTwo = 10
index_of StopMachine = 11
index_of SetKey = 12
index_of KeyInc = 13
index_of KeyDec = 14
index_of ReadKey = 15
index_of ReadSite = 16
index_of Sleep = 17
index_of Poll = 18

-- all kinds
abbrev pub all_kinds : List Kind
all_kinds = Single ∷ SingleWait ∷ Async ∷ Any ∷ AnyWait ∷ Many ∷ ManyWait ∷ Each ∷ EachWait ∷ StopOne ∷ StopTwo ∷ StopMachine ∷ SetKey ∷ KeyInc
    ∷ KeyDec ∷ ReadKey ∷ ReadSite ∷ Sleep ∷ Poll ∷ []

-- the functions whose calls wait: those of the kinds single-wait, any-wait, many-wait and each-wait
abbrev pub Waits : ℕ → Type 0
Waits func = (func ≡ 1) ⊎ (func ≡ 4) ⊎ (func ≡ 6) ⊎ (func ≡ 8)

-- the weight of a kind
abbrev pub weight_of : List ℕ → Kind → ℕ
weight_of weights kind = slice_index_or weights (index_of kind) 0
