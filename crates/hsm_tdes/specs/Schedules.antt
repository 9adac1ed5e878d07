-- The schedules of a key's parts.
use Rattle.std.specs.Prelude.{◌≡◌, ℕ, Bool, List, [], ◌∷◌, map, refl}
use Rattle.std.proofs.Common.{ap, sym, ◌∙◌}
use Rattle.hsm_des.specs.Des.{round_keys, key_bits}
use Rattle.hsm_tdes.specs.declared.prepared.Schedules.{Schedules}
use Rattle.hsm_tdes.specs.declared.prepared.Schedules.TheVariants.{One, Two, Three}
use Rattle.hsm_tdes.specs.declared.prepared.Prepared.TheInside.{Inside}

-- the round keys of a part
abbrev pub schedule_of : List ℕ → List (List Bool)
schedule_of part = round_keys (key_bits part)

-- the schedules in order
abbrev pub schedule_list : Schedules → List (List (List Bool))
schedule_list (One a) = a ∷ []
schedule_list (Two a b) = a ∷ b ∷ []
schedule_list (Three a b c) = a ∷ b ∷ c ∷ []

-- these are the schedules of the key's parts
abbrev pub AreSchedules : Schedules → List (List ℕ) → Type 0
AreSchedules schedules key = schedule_list schedules ≡ map schedule_of key

-- the fields that hold these schedules
abbrev pub from_list : List (List (List Bool)) → Schedules
from_list [] = One []
from_list (a ∷ []) = One a
from_list (a ∷ b ∷ []) = Two a b
from_list (a ∷ b ∷ c ∷ more) = Three a b c

-- the schedules of the key's parts
abbrev pub schedules_of : List (List ℕ) → Schedules
schedules_of key = from_list (map schedule_of key)

from_list-schedule_list : (s : Schedules) → from_list (schedule_list s) ≡ s
from_list-schedule_list (One a) = refl
from_list-schedule_list (Two a b) = refl
from_list-schedule_list (Three a b c) = refl

-- the fields are told by the key
pub fields-key : (p : Inside) → AreSchedules p.schedules p.key → record { key = p.key; schedules = schedules_of p.key } ≡ p
fields-key p made =
    ap (λ (schedules : Schedules). record { key = p.key; schedules = schedules }) (ap from_list (sym made) ∙ from_list-schedule_list p.schedules)
