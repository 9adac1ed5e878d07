use Rattle.std.proofs.Common.{◌∙◌, ap₂, Bool, List, ◌++◌}
use Rattle.hsm_des.specs.Bits.{pick}
use Rattle.hsm_des.specs.Tables.{round_key_choice}
use Rattle.hsm_des.proofs.Rounds.{part_of_two}
use Rattle.hsm_des.proofs.words.round_key_at.Goals as goal

pub returns-clause-key : goal.returns-clause-key
returns-clause-key c =
    c.choose_round_key.ensures.key
    ∙ ap₂ (λ (x y : List Bool). pick round_key_choice (x ++ y))
    (part_of_two c.args.places c.args.c c.requires) (part_of_two c.args.places c.args.d c.requires)
