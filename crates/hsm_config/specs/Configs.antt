-- The configuration of a document and of bytes, and its module.
use Rattle.std.specs.Prelude.{ℕ, List, [], ◌∷◌, length, map, Option, Some, None, Result, Ok, Err, codes}
use Rattle.toml.specs.Data.{Members}
use Rattle.hsm_types.specs.Table.{table_permits}
use Rattle.hsm_lmk.specs.Sealing.{pair_key}
use Rattle.hsm_rows.specs.declared.settings.Module.{Module}
use Rattle.hsm_config.specs.Document.{document_of}
use Rattle.hsm_config.specs.Rules.{first_broken, host_ports_of, number_or_zero, officers_of, pairs_of}
use Rattle.hsm_config.specs.declared.configuration.Config.{Config}
use Rattle.hsm_config.specs.declared.configuration.ConfigFault.{ConfigFault}
use Rattle.hsm_config.specs.declared.configuration.ConfigFault.TheVariants.{NotToml, Rule}

-- what a document says; what it does not say is 0 or empty
unfoldable pub config_of : Members → Config
config_of document = record {
  header = number_or_zero (codes "header") document;
  officers = officers_of document;
  pairs = pairs_of document;
  console_port = number_or_zero (codes "console_port") document;
  host_ports = record { items = host_ports_of document };
  accept = number_or_zero (codes "accept") document;
}

-- a document that breaks no rule is a configuration
abbrev pub settled : Members → Option ℕ → Result Config ConfigFault
settled document None = Ok (config_of document)
settled document (Some n) = Err (Rule n)

abbrev pub read_of : Option Members → Result Config ConfigFault
read_of None = Err NotToml
read_of (Some document) = settled document (first_broken document)

-- the configuration that bytes are, or why they are none
unfoldable pub config_in : List ℕ → Result Config ConfigFault
config_in bytes = read_of (document_of bytes)

-- the module of a configuration and a seed: the permits of the table of key types, and no row disabled
unfoldable pub module_of : Config → List ℕ → Module
module_of config seed = record {
  lmks = record { items = map pair_key config.pairs ∷ [] };
  permits = table_permits;
  disabled = record { items = [] };
  header = config.header;
  hosts = length config.host_ports.items;
  officers = config.officers;
  seed = seed;
}

-- the ports of the lanes: the console's, and then those of the hosts
abbrev pub ports_of : Config → List ℕ
ports_of config = config.console_port ∷ config.host_ports.items
