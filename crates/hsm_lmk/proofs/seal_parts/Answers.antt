use Rattle.std.proofs.Common.{◌≡◌, ◌≤◌, ◌∙◌, ◌++◌, ◌+◌, ◌*◌, ◌-◌, ◌<◌, List, [], ℕ, length, get_or, slice_index, take, drop, sym, ap, ap₂, arith, w64, append_assoc, append-nil, take_all}
use Rattle.std.specs.Int.{to_be_bytes}
use Rattle.std.proofs.lemmas.List.{drop_all}
use Rattle.std.proofs.lemmas.Option.{slice_get-get_or}
use Rattle.std.proofs.lemmas.Slice.{take-put_mid}
use Rattle.hsm_tdes.specs.Tdes.{enciphered}
use Rattle.hsm_lmk.specs.Sealing.{under, block_of}
use Rattle.hsm_lmk.specs.Opened.{sealed, sealed_from}
use Rattle.hsm_lmk.proofs.OpenedLaws.{sealed_step}
use Rattle.hsm_lmk.proofs.SealingLemmas.{length-written}
use Rattle.hsm_lmk.proofs.SealedLaws.{sealed_is_sealed}
use Rattle.hsm_lmk.proofs.seal_parts.Goals as goal

pub loop-i-preserved : goal.loop-i-preserved
unfolding block_of
loop-i-preserved c =
    let w = c.args.wrapping.now in
    let s = c.args.scheme in
    let i = c.loop-i.i in
    let out = c.loop-i.out in
    let new = c.copy_from_slice.new.self in
    let key = c.args.key.now in
    let within : i < length key = omega (arith, c.parts-i-end.ensures.count) in
    let part = get_or key i [] in
    let n = enciphered (under w s i) (block_of part) in
    let rest = sealed_from w s (i + 1) (drop (i + 1) c.args.key.now) in
    let block : slice_index c.sealed_blocks-blocks.result i ≡ n = c.sealed_blocks-blocks.ensures i (omega (arith, c.requires.parts)) in
    let bytes : new ≡ to_be_bytes w64 n = c.copy_from_slice.ensures.after ∙ c.to_be_bytes.ensures ∙ ap (to_be_bytes w64) block in
    let eight : length new ≡ 8 = ap length bytes in
    let room : 8 * i + 8 ≤ length out = omega (arith, c.loop-i.invariant.size, c.requires.parts, c.parts-i-end.ensures.count) in
    let next : 8 * (i + 1) ≡ 8 * i + length new = omega arith in
    let front = take-put_mid (8 * i) (8 * i + 8 - 8 * i) out new (8 * (i + 1)) next (omega arith) in
    record {
      size = length-written out new i n room bytes ∙ c.loop-i.invariant.size;
      same =
          c.loop-i.invariant.same
          ∙ ap (λ (x : List ℕ). take (8 * i) out ++ x) (sealed_step w s i key part (slice_get-get_or key i [] within))
          ∙ sym (append_assoc (take (8 * i) out) (to_be_bytes w64 n) rest)
          ∙ ap (λ (x : List ℕ). take (8 * i) out ++ x ++ rest) (sym bytes)
          ∙ ap (λ (x : List ℕ). x ++ rest) (sym front);
    }

value : goal.returns-clause-value
unfolding sealed
value c =
    let w = c.args.wrapping.now in
    let s = c.args.scheme in
    let i = c.loop-i.i in
    let out = c.loop-i.out in
    let key = c.args.key.now in
    let none : drop i key ≡ [] = drop_all i key (omega (arith, c.parts-i-end.ensures.count)) in
    let whole : take (8 * i) out ≡ out = take_all (8 * i) out (omega (arith, c.loop-i.invariant.size, c.requires.parts, c.parts-i-end.ensures.count)) in
    sym (c.loop-i.invariant.same
    ∙ ap₂ (λ (front : List ℕ) (rest : List (List ℕ)). front ++ sealed_from w s i rest) whole none
    ∙ append-nil out)

pub returns-clause-value : goal.returns-clause-value
returns-clause-value c = value c

pub returns-clause-sealed : goal.returns-clause-sealed
returns-clause-sealed c = rw (value c) (sealed_is_sealed c.args.wrapping.now c.args.scheme c.args.key.now c.parts-i-end.ensures.key c.requires.parts)
