-- Values of a message as they are written.
use Rattle.std.specs.Prelude.{ℕ, List, []}
use Rattle.hsm_commands.specs.declared.value.Written.{Written}
use Rattle.hsm_commands.specs.declared.value.Written.TheVariants.{Nothing, Three, Four, Eight, Twelve, Sixteen}

-- the characters of a value
abbrev pub written_text : Written → List ℕ
written_text Nothing = []
written_text (Three text) = text
written_text (Four text) = text
written_text (Eight text) = text
written_text (Twelve text) = text
written_text (Sixteen text) = text
