-- What every stop table keeps.
use Rattle.std.specs.Prelude.{◌≡◌, ℕ}
use Rattle.atomic_table.specs.Seated.{TableId}
use Rattle.smp_words.specs.Limits.{AreLimits}
use Rattle.smp_multi.specs.Names.{StopSetting}
use Rattle.smp_multi.specs.Cells.{cells}

-- it has a cell for each word and no slots of the kit's, its rule is that of what it is made with, and its CPUs are such as may be
pub record IsTable (table : TableId) (key : StopSetting) (nr : ℕ) (setting : StopSetting) : Type 0 where
  pub sized : table.words ≡ cells
  pub no_slots : table.slots ≡ 0
  pub key_is : key ≡ setting
  pub limits : AreLimits nr setting.online
