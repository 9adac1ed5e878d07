use Rattle.std.proofs.Common.{◌∙◌, Bool, List, ap, ap₂, bit_xor}
use Rattle.hsm_des.specs.Bits.{bits, pick}
use Rattle.hsm_des.specs.Tables.{box_permutation, boxes}
use Rattle.hsm_des.specs.Des.{cipher_function, substitute}
use Rattle.hsm_des.specs.Words.{key_places}
use Rattle.hsm_des.proofs.WordLemmas.{length-P}
use Rattle.hsm_des.proofs.Rounds.{half_held, is_wide, mixed, mixed-is, mixed_all, sixes_are}
use Rattle.hsm_des.proofs.words.cipher_function.Goals as goal

pub returns : goal.returns
unfolding cipher_function mixed
returns c =
    let sixes = bit_xor c.args.half c.args.key in
    let x = pick key_places (bits 64 sixes) in
    let digits = substitute boxes x in
    let wide =
    mixed_all _ x
    (ap₂ bit_xor (ap₂ bit_xor (ap₂ bit_xor (ap₂ bit_xor (ap₂ bit_xor (ap₂ bit_xor (ap₂ bit_xor c.merged_entry.ensures c.merged_entry-2.ensures) c.merged_entry-3.ensures) c.merged_entry-4.ensures) c.merged_entry-5.ensures) c.merged_entry-6.ensures) c.merged_entry-7.ensures) c.merged_entry-8.ensures
    ∙ mixed-is sixes) in
    record {
      half = half_held _ (pick box_permutation digits) (length-P digits) wide
          ∙ ap (λ (bs : List Bool). pick box_permutation (substitute boxes bs)) (sixes_are c.args.half c.args.key c.requires);
      wide = is_wide _ (pick box_permutation digits) (length-P digits) wide;
    }
