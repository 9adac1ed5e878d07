use Rattle.std.proofs.Common.{◌∙◌, ℕ, List, ◌-◌, ◌++◌, map, filter, ap}
use Rattle.hsm_types.specs.Pins.{is_decimal}
use Rattle.hsm_verify.specs.Values.{selected, is_letter}
use Rattle.std.specs.List.{list_all}
use Rattle.hsm_verify.proofs.ValueBounds.{selected_decimal}
use Rattle.hsm_verify.proofs.selection.select_all.Goals as goal

pub returns-clause-value : goal.returns-clause-value
unfolding selected
returns-clause-value c =
    c.take_letters.ensures
    ∙ ap (λ (ns : List ℕ). filter is_decimal ns ++ map (λ letter. letter - 10) (filter is_letter ns)) c.nibbles_of-nibbles.ensures.nibbles

pub returns-clause-decimal : goal.returns-clause-decimal
returns-clause-decimal c = ap (list_all is_decimal) (returns-clause-value c) ∙ selected_decimal c.args.block
