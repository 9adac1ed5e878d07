use Rattle.std.proofs.Common.{◌≡◌, ◌≢◌, ◌<◌, ◌∙◌, ℕ, [], length, map, sym, ap, arith, subst, below_more, length-set, get_or-set_same, get_or-set_other, ext_get_or, Err}
use Rattle.std.proofs.lemmas.Bool.{iff_false}
use Rattle.std.proofs.lemmas.List.{get_or-map, get_or_default, length-map}
use Rattle.hsm_lmk.specs.declared.LmkFault.TheVariants.{Parity}
use Rattle.hsm_lmk.specs.Opening.{IsFirstEven, AllPairsOdd}
use Rattle.hsm_lmk.specs.Sealing.{pair_key}
use Rattle.hsm_lmk.proofs.PairLemmas.{first_even_is_one, first_even_is_none}
use Rattle.hsm_lmk.proofs.LmkSet.of.Goals as goal

pub returns-then-not-all_odd-clause-parity : goal.returns-then-not-all_odd-clause-parity
returns-then-not-all_odd-clause-parity c =
    let pairs = c.args.pairs.now in
    let here = c.loop-k.k in
    let first : IsFirstEven pairs here = record {
      within = omega (arith, c.told-pairs, c.loop-k-test.true);
      even = λ odd. iff_false c.all_odd.ensures c.if-not-all_odd.true (rw c.pair_key-key.ensures odd);
      before = c.loop-k.invariant.odd;
    } in
    λ k. (
      λ same. let equal : here ≡ k = cc in let P : ℕ → Type 0 = λ n. IsFirstEven pairs n in subst P equal first,
      λ other. ap (λ (n : ℕ). Err (Parity n)) (first_even_is_one pairs here k first other),
    )

pub loop-k-preserved : goal.loop-k-preserved
loop-k-preserved c =
    let keys = c.loop-k.keys in
    let k = c.loop-k.k in
    let key = c.pair_key-key.result in
    let there : k < length keys = omega (arith, c.loop-k.invariant.size) in
    let odd = c.all_odd.ensures.0 c.if-not-all_odd.false in
    record {
      size = length-set keys k key ∙ c.loop-k.invariant.size;
      same = below_more _ _
          (λ j h. let other : j ≢ k = omega arith in rw get_or-set_other (c.loop-k.invariant.same j h))
          (get_or-set_same keys k key [] there ∙ c.pair_key-key.ensures);
      odd = below_more _ _ c.loop-k.invariant.odd (rw c.pair_key-key.ensures at odd);
    }

pub invariant_of-result : goal.invariant_of-result
invariant_of-result c =
    let keys = c.loop-k.keys in
    let invariant = c.loop-k.invariant in
    record {
      twenty = invariant.size;
      parts = λ i d h. let below : i < c.loop-k.k = omega (arith, invariant.size) in
          ap length (get_or_default keys i d [] h ∙ invariant.same i below);
      odd = λ i d h. let below : i < c.loop-k.k = omega (arith, invariant.size) in
          rw (get_or_default keys i d [] h, invariant.same i below) (invariant.odd i below);
    }

pub returns : goal.returns
returns c =
    let keys = c.loop-k.keys in
    let pairs = c.args.pairs.now in
    let invariant = c.loop-k.invariant in
    let odd : AllPairsOdd pairs = λ j h. invariant.odd j (omega (arith, c.told-pairs)) in
    record {
      pairs = ext_get_or [] keys (map pair_key pairs) (invariant.size ∙ sym (length-map pairs pair_key ∙ c.told-pairs))
          (λ i h.
          let there : i < length pairs = omega (arith, c.told-pairs, invariant.size) in
          invariant.same i (omega arith) ∙ sym (get_or-map pair_key pairs i [] [] there));
      odd = odd;
      parity = λ k. (λ same. cc, λ first. absurd (first_even_is_none pairs k odd first));
    }
