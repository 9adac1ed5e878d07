-- What the module of a made script is.
use Rattle.std.proofs.Common.{◌≡◌, ◌<◌, ◌≤◌, ℕ, true, List, length, map, [], ◌∷◌, refl, ap, ◌∙◌, lit≤, arith}
use lib.Count.{ones}
use Rattle.hsm_lmk.specs.Pairs.{set_at}
use Rattle.hsm_lmk.specs.Sealing.{pair_key}
use Rattle.hsm_rows.specs.declared.settings.Module.{Module}
use Rattle.hsm_config.specs.Configs.{module_of}
use Rattle.hsm_config.specs.Rules.{are_odd, test_pairs}
use Rattle.hsm_config.specs.declared.configuration.Config.{Config}
use Rattle.hsm_make.specs.Settings.{made_config, made_module}

odd_pairs : are_odd made_config.pairs ≡ true
unfolding made_config test_pairs ones
odd_pairs = refl

pub odd : (config : Config) → config ≡ made_config → are_odd config.pairs ≡ true
odd config is = ap (λ (c : Config). are_odd c.pairs) is ∙ odd_pairs

some : 1 ≤ length made_config.host_ports.items
unfolding made_config
some = lit≤ tt

pub some_host : (config : Config) → config ≡ made_config → 1 ≤ length config.host_ports.items
some_host config is = rw is some

loaded : made_module.lmks.items ≡ map pair_key test_pairs ∷ []
unfolding module_of made_config
loaded = refl

loaded_so : (m : Module) → m ≡ made_module → m.lmks.items ≡ map pair_key test_pairs ∷ []
loaded_so m is = ap (λ (n : Module). n.lmks.items) is ∙ loaded

pub some_set : (m : Module) (sets : List (List (List (List ℕ)))) → m ≡ made_module → sets ≡ m.lmks.items → 0 < length sets
some_set m sets is s = let one : length sets ≡ 1 = ap length (s ∙ loaded_so m is) in omega (arith, one)

pub first_set : (m : Module) (sets : List (List (List (List ℕ)))) → m ≡ made_module → sets ≡ m.lmks.items → set_at sets 0 ≡ map pair_key test_pairs
first_set m sets is s = ap (λ (x : List (List (List (List ℕ)))). set_at x 0) (s ∙ loaded_so m is)
