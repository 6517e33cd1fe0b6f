-- What every call table keeps.
use Rattle.std.specs.Prelude.{◌≡◌, ℕ}
use Rattle.atomic_table.specs.Seated.{TableId}
use Rattle.smp_words.specs.Limits.{AreLimits}
use Rattle.smp_queue.specs.Names.{CallSetting}
use Rattle.smp_queue.specs.Cells.{cells}

-- it has a cell for each word and no slots, its rule is that of what it is made with, and its CPUs are such as may be
pub record IsTable (table : TableId) (key : CallSetting) (nr online : ℕ) : Type 0 where
  pub sized : table.words ≡ cells
  pub no_slots : table.slots ≡ 0
  pub key_is : key ≡ record { nr = nr; online = online }
  pub limits : AreLimits nr online
