-- A PIN's fields from its digits.
use Rattle.std.specs.Prelude.{◌≡◌, ℕ, List, ◌-◌, ◌++◌, length, take, replicate}
use Rattle.std.proofs.Common.{ap, ap₂, sym, ◌∙◌, arith, take-append-drop, length-take-le}
use Rattle.hsm_types.specs.Pins.{KeepsPin}
use Rattle.hsm_types.specs.declared.pins.Pin.TheInside.{Inside}

-- the fields are told by the digits
pub fields-digits : (p : Inside) → KeepsPin p.digits p.count
    → record { digits = take p.count p.digits ++ replicate (12 - length (take p.count p.digits)) 0; count = length (take p.count p.digits) } ≡ p
fields-digits p kept =
    let held : length (take p.count p.digits) ≡ p.count = length-take-le p.count p.digits (omega (arith, kept.most, kept.twelve)) in
    let same : take p.count p.digits ++ replicate (12 - length (take p.count p.digits)) 0 ≡ p.digits =
    ap (λ n. take p.count p.digits ++ replicate (12 - n) 0) held
    ∙ ap (λ rest. take p.count p.digits ++ rest) (sym kept.others)
    ∙ take-append-drop p.count p.digits in
    ap₂ (λ (digits : List ℕ) (count : ℕ). record { digits = digits; count = count }) same held
