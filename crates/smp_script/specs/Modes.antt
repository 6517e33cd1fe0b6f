-- The kinds of scripts, and what the first two lines of one settle for the others.
use Rattle.std.specs.Prelude.{ℕ, List, codes}
use Rattle.smp_script.specs.declared.mode.Mode.{Mode}
use Rattle.smp_script.specs.declared.mode.Mode.TheVariants.{Replay, Run}
use Rattle.smp_script.specs.declared.setting.Setting.{Setting}
use Rattle.smp_script.specs.declared.version.Version.{Version}
use Rattle.smp_script.specs.Versions.{limit_of}

-- the word of a kind in the first line
abbrev pub mode_text : Mode → List ℕ
mode_text Replay = codes "replay"
mode_text Run = codes "run"

-- what the kind, the version and the CPUs online settle
abbrev pub setting_of : Mode → Version → ℕ → Setting
setting_of mode version online = record { mode = mode; limit = limit_of version; online = online }
