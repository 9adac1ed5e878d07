use Rattle.std.proofs.Common.{◌∙◌, map, sym, ap, arith}
use Rattle.std.proofs.lemmas.List.{get_or-map, length-map}
use Rattle.hsm_nibbles.specs.Characters.{hex_character}
use Rattle.hsm_nibbles.proofs.NibbleLaws.{below_at}
use Rattle.hsm_nibbles.proofs.Filling.{filled_none, filled_more, filled_all}
use Rattle.hsm_nibbles.proofs.block_characters.Goals as goal

pub loop-i-init : goal.loop-i-init
loop-i-init c = let long = length-map c.nibbles_of-nibbles.result hex_character in filled_none _ _ (omega arith)

pub hex_character-requires : goal.hex_character-requires
hex_character-requires c = below_at c.nibbles_of-nibbles.result c.loop-i.i c.nibbles_of-nibbles.ensures.bounds

pub loop-i-preserved : goal.loop-i-preserved
loop-i-preserved c =
    let nibbles = c.nibbles_of-nibbles.result in
    let long = length-map nibbles hex_character in
    filled_more c.loop-i.invariant _ (omega arith)
    (c.hex_character.ensures ∙ sym (get_or-map hex_character nibbles c.loop-i.i 0 0 (omega arith)))

pub returns : goal.returns
returns c =
    let long = length-map c.nibbles_of-nibbles.result hex_character in
    filled_all c.loop-i.invariant (omega arith) ∙ ap (map hex_character) c.nibbles_of-nibbles.ensures.nibbles
