use Rattle.std.proofs.Common.{◌∙◌, List, Bool, ap, ap₂}
use Rattle.hsm_des.specs.Bits.{number, pick}
use Rattle.hsm_des.specs.Tables.{final_permutation}
use Rattle.hsm_des.specs.Des.{after_rounds, Halves, exchanged, joined, cipher, encrypted}
use Rattle.hsm_des.proofs.words.encrypt.Goals as goal

pub returns : goal.returns
unfolding encrypted cipher
returns c =
    c.wide_last.ensures
    ∙ ap (λ (h : Halves). number (pick final_permutation (joined (exchanged h))))
    (c.after_rounds-last_left.ensures.halves
    ∙ ap₂ (λ (keys : List (List Bool)) (h : Halves). after_rounds keys h) c.s.view_is
    (ap₂ (λ (l r : List Bool). record { left = l; right = r }) c.wide_initial-left.ensures.left c.wide_initial-left.ensures.right))
