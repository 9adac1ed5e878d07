-- Needs one after another.
use Rattle.std.proofs.Common.{◌≡◌, List, [], ◌∷◌, refl}
use Rattle.hsm_auth.specs.declared.activity.Activity.{Activity}
use Rattle.hsm_answers.specs.Asks.{as_needs}
use Rattle.hsm_commands.specs.Needs.{after_need}

-- one more before a list of them
pub after_list : (a : Activity) (more : List Activity) → after_need a (as_needs more) ≡ as_needs (a ∷ more)
after_list a [] = refl
after_list a (b ∷ []) = refl
after_list a (b ∷ c ∷ more) = refl
