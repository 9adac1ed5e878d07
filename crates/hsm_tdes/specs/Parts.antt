-- A key's parts as a list.
use Rattle.std.specs.Prelude.{◌≡◌, ℕ, List, [], ◌∷◌, refl}
use Rattle.std.proofs.Common.{ap}
use Rattle.hsm_tdes.specs.declared.Parts.{Parts}
use Rattle.hsm_tdes.specs.declared.Parts.TheVariants.{One, Two, Three}
use Rattle.hsm_tdes.specs.declared.Key.TheInside.{Inside}

-- the parts in order
abbrev pub parts_of : Parts → List (List ℕ)
parts_of (One a) = a ∷ []
parts_of (Two a b) = a ∷ b ∷ []
parts_of (Three a b c) = a ∷ b ∷ c ∷ []

-- the fields that hold these parts
abbrev pub from_parts : List (List ℕ) → Parts
from_parts [] = One []
from_parts (a ∷ []) = One a
from_parts (a ∷ b ∷ []) = Two a b
from_parts (a ∷ b ∷ c ∷ more) = Three a b c

from_parts-parts : (p : Parts) → from_parts (parts_of p) ≡ p
from_parts-parts (One a) = refl
from_parts-parts (Two a b) = refl
from_parts-parts (Three a b c) = refl

-- the fields are told by the parts
pub from_parts-parts_of : (k : Inside) → record { parts = from_parts (parts_of k.parts) } ≡ k
from_parts-parts_of k = ap (λ (parts : Parts). record { parts = parts }) (from_parts-parts k.parts)
