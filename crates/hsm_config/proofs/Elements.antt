-- Steps of loops over the elements of an array.
use Rattle.std.proofs.Common.{◌≡◌, ℕ, ◌+◌, ◌<◌, Bool, true, List, [], ◌∷◌, ◌++◌, length, take, map, get_or, refl, sym, ap, ◌∙◌}
use Rattle.std.specs.List.{list_all}
use Rattle.std.proofs.lemmas.List.{map-append, take_more}
use Rattle.std.proofs.lemmas.List.Folds.{list_all_more}

-- the first i elements pass and are read
pub record ReadTo {X Y : Type 0} (p : X → Bool) (f : X → Y) (xs : List X) (i : ℕ) (ys : List Y) : Type 0 where
  pub passed : list_all p (take i xs) ≡ true
  pub read : ys ≡ map f (take i xs)

-- one more element is read
pub read_more : {X Y : Type 0} (p : X → Bool) (f : X → Y) (xs : List X) (i : ℕ) (ys : List Y) (d : X) (y : Y) → i < length xs
    → ReadTo p f xs i ys → p (get_or xs i d) ≡ true → y ≡ f (get_or xs i d) → ReadTo p f xs (i + 1) (ys ++ y ∷ [])
read_more {X} {Y} p f xs i ys d y within so_far passes value = record {
  passed = list_all_more p xs i d within ∙ rw (so_far.passed, passes) refl;
  read =
      ap (λ (zs : List Y). zs ++ y ∷ []) so_far.read
      ∙ ap (λ (z : Y). map f (take i xs) ++ z ∷ []) value
      ∙ sym (ap (map f) (take_more xs i d within) ∙ map-append f (take i xs) (get_or xs i d ∷ []));
}
