use Rattle.std.proofs.Common.{ℕ, List, ◌+◌, ◌++◌, length, drop, ap, sym, ◌∙◌, arith, append_assoc, length-append}
use Rattle.hsm_nibbles.specs.Characters.{hex_of_bytes}
use Rattle.hsm_answers.proofs.Lengths.{hex_length}
use Rattle.hsm_commands.proofs.ListSteps.{clear_text, clear_part, part_on}
use Rattle.hsm_commands.proofs.reply_console.put_clear.Goals as goal

pub loop-i-preserved : goal.loop-i-preserved
loop-i-preserved c =
    let key = c.args.key.now in
    let i = c.loop-i.i in
    let part = c.part.result in
    let split = ap clear_text (part_on key i part c.part.ensures) ∙ clear_part part (drop (i + 1) key) in
    record {
      text =
          ap (λ (x : List ℕ). x ++ clear_text (drop (i + 1) key)) c.put_hex.ensures
          ∙ (append_assoc c.loop-i.reply (hex_of_bytes part) (clear_text (drop (i + 1) key))
          ∙ (ap (λ (x : List ℕ). c.loop-i.reply ++ x) (sym split) ∙ c.loop-i.invariant.text));
      grown = omega (arith, ap length c.put_hex.ensures, length-append c.loop-i.reply (hex_of_bytes part), hex_length part, c.loop-i.invariant.grown);
      key = c.loop-i.invariant.key;
    }
