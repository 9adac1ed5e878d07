use Rattle.std.proofs.Common.{◌<◌, ◌∙◌, ℕ, List, length, map, slice_index, ap, sym, arith}
use Rattle.std.proofs.lemmas.List.{get_or-map, length-map}
use Rattle.hsm_verify.specs.Values.{natural_pin}
use Rattle.hsm_nibbles.specs.Nibbles.{nibbles_of}
use Rattle.hsm_nibbles.proofs.Filling.{filled_more, filled_all}
use Rattle.hsm_verify.proofs.offsets.natural_pin.Goals as goal

pub loop-i-preserved : goal.loop-i-preserved
loop-i-preserved c =
    let ns = c.nibbles_of-nibbles.result in
    let table = c.args.table.now in
    let within : c.loop-i.i < length ns = omega arith in
    let long = length-map ns (slice_index table) in
    filled_more c.loop-i.invariant _ (omega arith)
    (ap (slice_index table) c.from.ensures ∙ sym (get_or-map (slice_index table) ns c.loop-i.i 0 0 within))

pub returns : goal.returns
unfolding natural_pin
returns c =
    let ns = c.nibbles_of-nibbles.result in
    let table = c.args.table.now in
    let long = length-map ns (slice_index table) in
    filled_all c.loop-i.invariant (omega arith)
    ∙ ap (λ (xs : List ℕ). map (slice_index table) xs) c.nibbles_of-nibbles.ensures.nibbles
    ∙ ap (λ (b : ℕ). map (slice_index table) (nibbles_of b)) c.encipher.ensures
