-- Laws of PINs.
use Rattle.std.proofs.Common.{◌≡◌, ℕ, ◌≤◌, true, ◌++◌, List, length, drop, replicate, ap, ◌∙◌, arith, length-append, length-drop, le-leb}
use Rattle.std.specs.List.{list_all}
use Rattle.std.proofs.Math.Seq.{take-append_seam, drop-append_seam}
use Rattle.std.proofs.lemmas.List.{drop-replicate}
use Rattle.hsm_types.specs.Pins.{is_decimal, is_pin, KeepsPin}

-- 4 to 12 decimal digits are a PIN
pub is_pin-true : (digits : List ℕ) → 4 ≤ length digits → length digits ≤ 12 → list_all is_decimal digits ≡ true → is_pin digits ≡ true
is_pin-true digits least most decimal = rw (le-leb 4 (length digits) least, le-leb (length digits) 12 most) decimal

-- a PIN before as many zeros as fill twelve places
pub keeps_pin : (digits : List ℕ) → length digits ≤ 12 → is_pin digits ≡ true
    → KeepsPin (digits ++ drop (length digits) (replicate 12 0)) (length digits)
keeps_pin digits most pin =
    let zeros : List ℕ = replicate 12 0 in
    record {
      twelve = length-append digits (drop (length digits) zeros) ∙ omega (arith, length-drop (length digits) zeros);
      most = most;
      pin = ap is_pin (take-append_seam digits (drop (length digits) zeros)) ∙ pin;
      others = drop-append_seam digits (drop (length digits) zeros) ∙ drop-replicate (length digits) 12 0;
    }
