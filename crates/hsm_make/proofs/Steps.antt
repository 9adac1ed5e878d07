-- The numbers of the messages, one after another.
use Rattle.std.proofs.Common.{◌≡◌, ℕ, zero, suc, ◌-◌, ◌%◌, ◌^◌, ◌<◌, ◌∙◌, List, [], ◌∷◌, ◌++◌, refl, sym, ap, flat_map, append_assoc, append-nil, arith}
use Rattle.hsm_make.specs.Numbers.{next_x, xs_after}
use Rattle.hsm_make.specs.Messages.{made_text, message_lines}

-- the first of the next numbers, and those after it
pub first_of_xs : (x left : ℕ) → 0 < left → xs_after x left ≡ next_x x ∷ xs_after (next_x x) (left - 1)
first_of_xs x zero some = absurd (omega (arith, some))
first_of_xs x (suc left) some = let e : suc left - 1 ≡ left = omega arith in rw e refl

-- Where a script and the lines of the numbers that are left make a whole, they do so after the lines of the next number are appended.
pub next_lines : (whole script after lines : List ℕ) (x y left fewer : ℕ) → script ++ flat_map message_lines (xs_after x left) ≡ whole
    → 0 < left → fewer ≡ left - 1 → y ≡ next_x x → lines ≡ message_lines y → after ≡ script ++ lines
    → after ++ flat_map message_lines (xs_after y fewer) ≡ whole
next_lines whole script after lines x y left fewer h some one next is appended =
    rw (appended, one, is, next) (
    append_assoc script (message_lines (next_x x)) (flat_map message_lines (xs_after (next_x x) (left - 1)))
    ∙ sym (ap (λ (xs : List ℕ). script ++ flat_map message_lines xs) (first_of_xs x left some)) ∙ h)

-- Before the first message nothing is written.
pub no_lines : (script : List ℕ) (count seed x left : ℕ) → script ≡ [] → x ≡ seed % 2 ^ 31 → left ≡ count
    → script ++ flat_map message_lines (xs_after x left) ≡ made_text count seed
unfolding made_text
no_lines script count seed x left empty first all = rw (empty, first, all) refl

-- After the last message nothing is left to write.
pub all_lines : (whole script : List ℕ) (x left : ℕ) → script ++ flat_map message_lines (xs_after x left) ≡ whole → left ≡ 0 → script ≡ whole
all_lines whole script x left h none =
    sym (append-nil script) ∙ sym (ap (λ (n : ℕ). script ++ flat_map message_lines (xs_after x n)) none) ∙ h
