-- The texts of an authorisation that were read stand.
use Rattle.std.proofs.Common.{◌≡◌, ℕ, false, true, ◌⊎◌, inl, inr, List, [], Ok, refl}
use Rattle.hsm_rows.specs.Table.{row_A}
use Rattle.hsm_rows.specs.Reading.{ReadText, reading}
use Rattle.hsm_rows.specs.ConsoleStanding.{AuthorisationStands}
use Rattle.hsm_rows.proofs.StandingTexts.{console_texts}

-- a text that is never left out
there : {P : Type 0} {t : List ℕ} → P ⊎ ((t ≡ []) × ((rest : List ℕ) × (false ≡ true))) → P
there (inl h) = h
there (inr h) = let e : false ≡ true = h.1.1 in let z : ⊥ = cc in absurd z

-- what `A` read
pub authorisation_stands : (text : List ℕ) (r : ReadText) → reading row_A text ≡ Ok r → AuthorisationStands r
authorisation_stands text r h =
    let all = console_texts row_A text r refl h in
    record { activity = there all.0; minutes = there all.1.0; first = there all.1.1.0; second = there all.1.1.1.0 }
