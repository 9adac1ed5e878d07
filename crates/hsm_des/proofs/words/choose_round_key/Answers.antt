use Rattle.std.proofs.Common.{◌∙◌, ℕ, ap, ap₂, bit_xor, sym}
use Rattle.hsm_des.specs.Words.{round_key, word_of}
use Rattle.hsm_des.proofs.Rounds.{parts_joined, parts_joined-is, parts_joined-held}
use Rattle.hsm_des.proofs.words.choose_round_key.Goals as goal

pub returns : goal.returns
unfolding parts_joined
returns c =
    let word =
    ap₂ bit_xor (ap₂ bit_xor (ap₂ bit_xor (ap₂ bit_xor (ap₂ bit_xor (ap₂ bit_xor (ap₂ bit_xor c.key_part.ensures c.key_part-2.ensures) c.key_part-3.ensures) c.key_part-4.ensures) c.key_part-5.ensures) c.key_part-6.ensures) c.key_part-7.ensures) c.key_part-8.ensures in record {
      key = ap round_key word ∙ parts_joined-is c.args.c c.args.d c.requires.c c.requires.d;
      word = ap (λ (n : ℕ). word_of (round_key n)) word ∙ parts_joined-held c.args.c c.args.d c.requires.c c.requires.d ∙ sym word;
    }
