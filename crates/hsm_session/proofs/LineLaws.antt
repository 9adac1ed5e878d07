-- The first line of a text.
use Rattle.std.proofs.Common.{◌≡◌, ℕ, zero, suc, ◌<◌, List, [], ◌∷◌, length, take, drop, get_or, ap, ◌∙◌, arith}
use Rattle.hsm_session.specs.Scripts.{lines, onto_first_line}

-- a text that does not begin with a line feed
lines_more : (byte : ℕ) (bytes : List ℕ) → (byte ≡ 10 → ⊥) → lines (byte ∷ bytes) ≡ onto_first_line byte (lines bytes)
lines_more byte bytes other = grind arith

-- a text whose first line feed stands at a place
pub lines_at : (text : List ℕ) (at : ℕ) → ((k : ℕ) → k < at → get_or text k 0 ≡ 10 → ⊥) → at < length text → get_or text at 0 ≡ 10
    → lines text ≡ take at text ∷ lines (drop (suc at) text)
lines_at [] at none within here = absurd (omega arith)
lines_at (byte ∷ bytes) zero none within here = grind arith
lines_at (byte ∷ bytes) (suc at) none within here =
    lines_more byte bytes (none 0 (omega arith))
    ∙ ap (onto_first_line byte) (lines_at bytes at (λ k below. none (suc k) (omega arith)) (omega arith) here)

-- a text without a line feed
pub lines_alone : (text : List ℕ) → ((k : ℕ) → k < length text → get_or text k 0 ≡ 10 → ⊥) → 0 < length text → lines text ≡ text ∷ []
lines_alone [] none some = absurd (omega arith)
lines_alone (byte ∷ []) none some = lines_more byte [] (none 0 (omega arith))
lines_alone (byte ∷ next ∷ bytes) none some =
    lines_more byte (next ∷ bytes) (none 0 (omega arith))
    ∙ ap (onto_first_line byte) (lines_alone (next ∷ bytes) (λ k below. none (suc k) (omega arith)) (omega arith))
