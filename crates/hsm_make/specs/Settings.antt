-- The module that runs a made script.
use Rattle.std.specs.Prelude.{[], ◌∷◌, replicate}
use Rattle.hsm_rows.specs.declared.settings.Module.{Module}
use Rattle.hsm_config.specs.declared.configuration.Config.{Config}
use Rattle.hsm_config.specs.Configs.{module_of}
use Rattle.hsm_config.specs.Rules.{test_pairs}

-- Its configuration: a header of 4 bytes, the LMK pairs of the test set and one host lane. No made script speaks of an
-- officer, and no port is opened.
unfoldable pub made_config : Config
made_config = record {
  header = 4;
  officers = replicate 2 (replicate 32 0);
  pairs = test_pairs;
  console_port = 1;
  host_ports = record { items = 2 ∷ [] };
  accept = 1;
}

-- the module of that configuration and the seed of zeros
abbrev pub made_module : Module
made_module = module_of made_config (replicate 32 0)
