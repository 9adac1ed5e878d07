use Rattle.std.proofs.Common.{◌≡◌, ◌∙◌, ap, ap₂, ◌-◌, ◌++◌, replicate, ℕ, List, length, drop, map, arith, subst, sym}
use Rattle.std.specs.Int.Digits.{AllBelowBase}
use Rattle.hsm_nibbles.specs.Characters.{hex_character}
use Rattle.hsm_commands.proofs.LeftSteps.{rest_of_twelve, twelve_below}
use Rattle.hsm_commands.proofs.reply_pins.filled_to_twelve.Goals as goal

values_are : (copied digits pin : List ℕ) → copied ≡ digits → digits ≡ pin → copied ++ drop {A = ℕ} (length digits) (replicate 12 15) ≡ pin ++ replicate (12 - length pin) 15
values_are copied digits pin e h =
    ap₂ (λ (xs ys : List ℕ). xs ++ drop (length ys) (replicate 12 15)) (e ∙ h) h
    ∙ ap (λ (xs : List ℕ). pin ++ xs) (rest_of_twelve (length pin))

pub characters-requires : goal.characters-requires
characters-requires c =
    let P : List ℕ → Type 0 = λ xs. AllBelowBase 16 xs in
    (omega arith, subst P (sym (values_are c.copy_from_slice.new.self c.digits-digits.result.now c.args.pin.now c.copy_from_slice.ensures.after c.digits-digits.ensures.digits)) (twelve_below c.args.pin.now c.digits-digits.ensures.pin))

pub returns : goal.returns
returns c =
    c.characters.ensures
    ∙ ap (map hex_character) (values_are c.copy_from_slice.new.self c.digits-digits.result.now c.args.pin.now c.copy_from_slice.ensures.after c.digits-digits.ensures.digits)
