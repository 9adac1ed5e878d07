use Rattle.std.proofs.Common.{◌≡◌, ℕ, ◌+◌, ◌-◌, ◌*◌, ◌^◌, ◌<◌, ◌≤◌, ◌∙◌, length, slice_index, take, sym, ap, arith, below_more, length-take-le}
use Rattle.hsm_tdes.specs.Tdes.{enciphered, deciphered, key_bytes}
use Rattle.hsm_tdes.proofs.TdesLaws.{enciphered-deciphered}
use Rattle.hsm_types.specs.Schemes.{scheme_parts}
use Rattle.hsm_lmk.specs.Sealing.{under, block_at}
use Rattle.hsm_lmk.proofs.SealingLemmas.{block_written, block_kept, length-written, length-key_bytes, part_of_front}
use Rattle.hsm_lmk.proofs.open_parts.Goals as goal

pub loop-i-preserved : goal.loop-i-preserved
loop-i-preserved c =
    let i = c.loop-i.i in
    let bytes = c.loop-i.bytes in
    let new = c.copy_from_slice.new.self in
    let n = slice_index c.opened_blocks-blocks.result i in
    let w = c.args.wrapping.now in
    let s = c.args.scheme in
    let same = c.copy_from_slice.ensures.after ∙ c.to_be_bytes.ensures in
    let most = c.scheme_parts-parts.ensures.most in
    let room : 8 * i + 8 ≤ length bytes = omega (arith, c.loop-i.invariant.size, most) in
    let value : n ≡ deciphered (under w s i) (block_at c.args.text.now i) = c.opened_blocks-blocks.ensures.values i (omega (arith, c.scheme_parts-parts.ensures.parts)) in
    let small : block_at c.args.text.now i < 2 ^ 64 = c.opened_blocks-blocks.ensures.texts i (omega (arith, c.scheme_parts-parts.ensures.parts)) in
    record {
      size = length-written bytes new i n room same ∙ c.loop-i.invariant.size;
      each = below_more _ _
          (λ k h. c.loop-i.invariant.each k h ∙ ap (enciphered (under w s k)) (sym (block_kept bytes new i k (8 * i + 8 - 8 * i) h (omega arith))))
          (sym (ap (enciphered (under w s i)) (block_written bytes new i n room (omega arith) same ∙ value)
          ∙ enciphered-deciphered (under w s i) (block_at c.args.text.now i) small));
    }

pub returns : goal.returns
returns c =
    let bytes = c.loop-i.bytes in
    let key = c.in-Some.key in
    let n = scheme_parts c.args.scheme in
    let found = c.in-Some.ensures.bytes in
    let parts = found.0.parts in
    let count : c.scheme_parts-parts.result ≡ n = c.scheme_parts-parts.ensures.parts in
    let front : key_bytes key ≡ take (8 * n) bytes = found.1 ∙ ap (λ (m : ℕ). take (8 * m) bytes) count in
    let long : length (take (8 * n) bytes) ≡ 8 * n = length-take-le (8 * n) bytes (omega (arith, c.scheme_parts-parts.ensures.most, count)) in
    let len : length key ≡ n = omega (arith, length-key_bytes key parts, ap length front, long) in
    record {
      is_key = found.0;
      parts = len;
      size = c.requires.size;
      each = λ i h.
          c.loop-i.invariant.each i (omega (arith, count))
          ∙ ap (enciphered (under c.args.wrapping.now c.args.scheme i)) (part_of_front key bytes n i parts (omega arith) len front);
    }
