-- What the parts of the top call answer; no public contract cites these.
use Rattle.std.specs.Prelude.{◌≡◌, ◌<◌, ◌≤◌, ℕ, List, length, Result, Ok, Err}
use Rattle.hsm_config.specs.Configs.{config_in}
use Rattle.hsm_config.specs.declared.configuration.Config.{Config}
use Rattle.hsm_program.specs.Files.{file_limit}
use Rattle.hsm_program.specs.Runs.{HasStatus}
use Rattle.hsm_program.specs.Settings.{HoldsConfig}
use Rattle.hsm_program.specs.declared.outcome.Outcome.{Outcome}
use Rattle.hsm_program.specs.declared.outcome.Outcome.TheVariants.{Served, Usage, FileFault, SeedFault, ListenFault, OutFault, FileLong, ConfigRefused, ScriptRefused, Memory}

-- why a configuration is not there, and the status then
abbrev pub IsRefusal : ℕ → Outcome → Type 0
IsRefusal status FileFault = HasStatus status FileFault
IsRefusal status FileLong = HasStatus status FileLong
IsRefusal status (ConfigRefused why) = HasStatus status (ConfigRefused why)
IsRefusal status Memory = HasStatus status Memory
IsRefusal status Served = ⊥
IsRefusal status OutFault = ⊥
IsRefusal status SeedFault = ⊥
IsRefusal status (ListenFault lane) = ⊥
IsRefusal status (Usage place) = ⊥
IsRefusal status (ScriptRefused line) = ⊥

-- the same by the bytes of its file; that it could not be opened or read, and want of memory, have their causes elsewhere
abbrev pub RefusesConfig : List ℕ → Outcome → Type 0
RefusesConfig bytes (ConfigRefused why) = (length bytes ≤ file_limit) × (config_in bytes ≡ Err why)
RefusesConfig bytes FileLong = file_limit < length bytes
RefusesConfig bytes FileFault = Unit {0}
RefusesConfig bytes Memory = Unit {0}
RefusesConfig bytes Served = ⊥
RefusesConfig bytes OutFault = ⊥
RefusesConfig bytes SeedFault = ⊥
RefusesConfig bytes (ListenFault lane) = ⊥
RefusesConfig bytes (Usage place) = ⊥
RefusesConfig bytes (ScriptRefused line) = ⊥

-- the configuration that the bytes of a file say, or why there is none
abbrev pub ReadsConfig : List ℕ → Result Config (ℕ × Outcome) → Type 0
ReadsConfig bytes (Ok config) = HoldsConfig bytes config
ReadsConfig bytes (Err ended) = RefusesConfig bytes ended.1

-- an answer that comes only after the configuration
abbrev pub IsAfterConfig : Outcome → Type 0
IsAfterConfig Served = Unit {0}
IsAfterConfig OutFault = Unit {0}
IsAfterConfig FileFault = Unit {0}
IsAfterConfig FileLong = Unit {0}
IsAfterConfig (ScriptRefused line) = Unit {0}
IsAfterConfig Memory = Unit {0}
IsAfterConfig (ConfigRefused why) = ⊥
IsAfterConfig SeedFault = ⊥
IsAfterConfig (ListenFault lane) = ⊥
IsAfterConfig (Usage place) = ⊥

-- an answer of printing
abbrev pub IsPrinted : Outcome → Type 0
IsPrinted Served = Unit {0}
IsPrinted OutFault = Unit {0}
IsPrinted FileFault = ⊥
IsPrinted FileLong = ⊥
IsPrinted (ScriptRefused line) = ⊥
IsPrinted Memory = ⊥
IsPrinted (ConfigRefused why) = ⊥
IsPrinted SeedFault = ⊥
IsPrinted (ListenFault lane) = ⊥
IsPrinted (Usage place) = ⊥
