-- What the file of a configuration says.
use Rattle.std.specs.Prelude.{◌≡◌, ◌≤◌, ℕ, ◌++◌, ◌∷◌, List, [], length, replicate, codes, decimal, Ok}
use Rattle.hsm_rows.specs.declared.settings.Module.{Module}
use Rattle.hsm_config.specs.declared.configuration.Config.{Config}
use Rattle.hsm_config.specs.Configs.{config_in, module_of}
use Rattle.hsm_program.specs.Files.{file_limit}

-- the bytes of a file are this configuration
abbrev pub HoldsConfig : List ℕ → Config → Type 0
HoldsConfig bytes config = (length bytes ≤ file_limit) × (config_in bytes ≡ Ok config)

-- they are a configuration
abbrev pub IsConfig : List ℕ → Type 0
IsConfig bytes = (config : Config) × HoldsConfig bytes config

-- the module of a script's run: that of the configuration with a seed of zeros
abbrev pub run_module : Config → Module
run_module config = module_of config (replicate 32 0)

-- what is printed of a configuration that is checked: the number of its host ports
abbrev pub check_text : Config → List ℕ
check_text config = codes "OK " ++ decimal (length config.host_ports.items) ++ 10 ∷ []
