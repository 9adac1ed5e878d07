use Rattle.std.proofs.Common.{◌≡◌, drop, fold, bit_xor}
use Rattle.hsm_tdes.specs.Tdes.{enciphered}
use Rattle.hsm_lmk.proofs.lmk_check.Given as goal

abbrev pub invariant-loop-pair : goal.invariant-loop-pair
invariant-loop-pair l =
    fold (λ sum key. bit_xor sum (enciphered key 0)) l.sum (drop l.pair-index l.pair-items)
    ≡ fold (λ sum key. bit_xor sum (enciphered key 0)) 0 l.pair-items
