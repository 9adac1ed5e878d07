use Rattle.std.proofs.Common.{◌∙◌, List, Bool, reverse, ap, ap₂, sym}
use Rattle.hsm_des.specs.Bits.{number, pick}
use Rattle.hsm_des.specs.Tables.{final_permutation}
use Rattle.hsm_des.specs.Des.{after_rounds, Halves, exchanged, joined, encrypted, decrypted}
use Rattle.hsm_des.specs.Words.{round_key}
use Rattle.hsm_des.proofs.NumberLaws.{three_numbers}
use Rattle.hsm_des.proofs.Rounds.{map_reverse}
use Rattle.hsm_des.proofs.words.decrypt_encrypt_decrypt.Goals as goal

pub returns : goal.returns
unfolding encrypted decrypted
returns c =
    let run = λ (keys : List (List Bool)) (h : Halves). after_rounds keys h in
    let h1 =
    c.back_rounds-left1.ensures.halves
    ∙ ap₂ run (map_reverse round_key c.first.inside.keys ∙ ap reverse c.first.view_is)
    (ap₂ (λ (l r : List Bool). record { left = l; right = r }) c.wide_initial-left.ensures.left c.wide_initial-left.ensures.right) in
    let h2 = c.after_rounds-left2.ensures.halves ∙ ap₂ run c.second.view_is (ap exchanged h1) in
    let h3 = c.back_rounds-left3.ensures.halves ∙ ap₂ run (map_reverse round_key c.third.inside.keys ∙ ap reverse c.third.view_is) (ap exchanged h2) in
    c.wide_last.ensures
    ∙ ap (λ (h : Halves). number (pick final_permutation (joined (exchanged h)))) h3
    ∙ sym (three_numbers (reverse c.args.first.now) c.args.second.now (reverse c.args.third.now) c.args.block)
