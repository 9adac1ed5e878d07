use Rattle.std.proofs.Common.{◌++◌, ◌∷◌, [], ◌+◌, ◌∙◌, ℕ, List, drop, ap, sym, arith}
use Rattle.hsm_commands.specs.Values.{clear_digits}
use Rattle.hsm_commands.proofs.ClearSteps.{clear_more}
use Rattle.hsm_commands.proofs.clear_pins.clear_digits.Goals as goal

pub loop-character-preserved : goal.loop-character-preserved
loop-character-preserved c =
    let i = c.loop-character.character-index in
    let text = c.args.text.now in
    let digits = c.loop-character.digits.items in
    record {
      same_digits =
          clear_more text digits i (omega (arith, c.loop-character-test.true)) (sym c.is_ascii_digit.ensures.value ∙ c.if-not-is_ascii_digit.false) c.loop-character.invariant.same_digits
          ∙ ap (λ (xs : List ℕ). xs ++ clear_digits (drop (i + 1) text)) (sym (c.push.ensures.items ∙ ap (λ (d : ℕ). digits ++ d ∷ []) c.digit.ensures));
      count = omega (arith, c.push.ensures.len, c.loop-character.invariant.count);
      short = c.loop-character.invariant.short;
    }
