use Rattle.std.proofs.Common.{◌≡◌, ◌<◌, ◌∙◌, ℕ, List, [], slice_get, slice_index_or, Some, sym, ap, ap₂, arith}
use Rattle.std.proofs.lemmas.Option.{get_or_from_slice_get}
use Rattle.hsm_tdes.specs.Tdes.{enciphered}
use Rattle.hsm_types.specs.Schemes.{scheme_parts}
use Rattle.hsm_types.specs.declared.types.Scheme.{Scheme}
use Rattle.hsm_lmk.specs.Sealing.{under, block_of}
use Rattle.hsm_lmk.proofs.SealingLemmas.{three_blocks}
use Rattle.hsm_lmk.proofs.sealed_blocks.Goals as goal

-- what block i is to be
abbrev sealed_block : List (List ℕ) → Scheme → List (List ℕ) → ℕ → ℕ
sealed_block w s key i = enciphered (under w s i) (block_of (slice_index_or key i []))

one_block : (w under_i : List (List ℕ)) (s : Scheme) (key : List (List ℕ)) (i block : ℕ) (part : List ℕ) → under_i ≡ under w s i → slice_get key i ≡ Some part
    → block ≡ block_of part → enciphered under_i block ≡ sealed_block w s key i
one_block w under_i s key i block part wrapping at is =
    ap₂ enciphered wrapping (is ∙ ap block_of (sym (get_or_from_slice_get key i part [] at)))

pub returns-then-parts-eq1 : goal.returns-then-parts-eq1
unfolding block_of
returns-then-parts-eq1 c =
    let w = c.args.wrapping.now in
    let s = c.args.scheme in
    let key = c.args.key.now in
    let n : scheme_parts s ≡ 1 = omega (arith, c.requires.parts, c.parts.ensures.count, c.if-parts-eq1.true) in
    three_blocks (sealed_block w s key) (scheme_parts s) c.encipher.result 0 0 (omega (arith, n))
    (λ h. c.encipher.ensures ∙ one_block w _ s key 0 _ _ (c.of-first.ensures ∙ c.under.ensures.key) c.part.ensures c.from_be_bytes-a.ensures)
    (λ h. absurd (omega (arith, n)))
    (λ h. absurd (omega (arith, n)))

pub returns-then-parts-eq2 : goal.returns-then-parts-eq2
unfolding block_of
returns-then-parts-eq2 c =
    let w = c.args.wrapping.now in
    let s = c.args.scheme in
    let key = c.args.key.now in
    let n : scheme_parts s ≡ 2 = omega (arith, c.requires.parts, c.parts-2.ensures.count, c.if-parts-eq2.true) in
    three_blocks (sealed_block w s key) (scheme_parts s) c.encipher_two-x.result.0 c.encipher_two-x.result.1 0 (omega (arith, n))
    (λ h. c.encipher_two-x.ensures.first ∙ one_block w _ s key 0 _ _ (c.of-first.ensures ∙ c.under.ensures.key) c.part.ensures c.from_be_bytes-a.ensures)
    (λ h. c.encipher_two-x.ensures.second ∙ one_block w _ s key 1 _ _ c.vary_next.ensures c.part-2.ensures c.from_be_bytes-b.ensures)
    (λ h. absurd (omega (arith, n)))

pub returns : goal.returns
unfolding block_of
returns c =
    let w = c.args.wrapping.now in
    let s = c.args.scheme in
    let key = c.args.key.now in
    let most : scheme_parts s < 4 = omega (arith, c.requires.parts, c.parts.ensures.key.most) in
    three_blocks (sealed_block w s key) (scheme_parts s) c.encipher_two-x-2.result.0 c.encipher_two-x-2.result.1 c.encipher-2.result most
    (λ h. c.encipher_two-x-2.ensures.first ∙ one_block w _ s key 0 _ _ (c.of-first.ensures ∙ c.under.ensures.key) c.part.ensures c.from_be_bytes-a.ensures)
    (λ h. c.encipher_two-x-2.ensures.second ∙ one_block w _ s key 1 _ _ c.vary_next.ensures c.part-2.ensures c.from_be_bytes-b.ensures)
    (λ h. c.encipher-2.ensures ∙ one_block w _ s key 2 _ _ c.vary_next-2.ensures c.part-3.ensures c.from_be_bytes-c.ensures)
