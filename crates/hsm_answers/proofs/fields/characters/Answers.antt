use Rattle.std.proofs.Common.{◌∙◌, sym, arith}
use Rattle.std.proofs.lemmas.List.{get_or-map, length-map}
use Rattle.hsm_nibbles.specs.Characters.{hex_character}
use Rattle.hsm_nibbles.proofs.NibbleLaws.{below_at}
use Rattle.hsm_nibbles.proofs.Filling.{filled_more}
use Rattle.hsm_answers.proofs.fields.characters.Goals as goal

pub hex_character-requires : goal.hex_character-requires
hex_character-requires g c = below_at c.args.digits.now c.loop-i.i c.requires

pub loop-i-preserved : goal.loop-i-preserved
loop-i-preserved g c =
    let digits = c.args.digits.now in
    let long = length-map digits hex_character in
    filled_more c.loop-i.invariant _ (omega arith)
    (c.hex_character.ensures ∙ sym (get_or-map hex_character digits c.loop-i.i 0 0 (omega arith)))
