-- Codes among others.
use Rattle.std.proofs.Common.{◌≡◌, ℕ, Bool, true, false, ◌==◌, ◌&&◌, ◌||◌, List, [], ◌∷◌, ◌++◌, Option, Some, None, refl, sym, subst, inl, inr, arith}
use Rattle.std.specs.Prelude.{◌⊎◌, if◌then◌else◌}
use Rattle.std.specs.List.{list_all}
use Rattle.std.proofs.lemmas.Bool.Decides.{nat_tests}
use Rattle.hsm_answers.specs.Keys.{first_code}
use Rattle.hsm_rows.specs.Codes.{is_among}

-- the code is among these, if there is one
abbrev pub opt_among : Option ℕ → List ℕ → Bool
opt_among None codes = true
opt_among (Some code) codes = is_among code codes

or_left : (a b : Bool) → a ≡ true → (a || b) ≡ true
or_left true b h = refl
or_left false b h = absurd (cc)

or_right : (a b : Bool) → b ≡ true → (a || b) ≡ true
or_right true b h = refl
or_right false b h = h

or_cases : (a b : Bool) → (a || b) ≡ true → (a ≡ true) ⊎ (b ≡ true)
or_cases true b h = inl refl
or_cases false b h = inr h

pub itself : (code : ℕ) → (code == code) ≡ true
itself code = grind (arith, nat_tests)

equal : (a b : ℕ) → (a == b) ≡ true → a ≡ b
equal a b h = grind (arith, nat_tests)

among_left : (code : ℕ) (a b : List ℕ) → is_among code a ≡ true → is_among code (a ++ b) ≡ true
among_left code [] b h = absurd (cc)
among_left code (other ∷ a) b h =
    elim (or_cases (code == other) (is_among code a) h) [
      | inl e ↦ or_left (code == other) (is_among code (a ++ b)) e
      | inr e ↦ or_right (code == other) (is_among code (a ++ b)) (among_left code a b e)
    ]

among_right : (code : ℕ) (a b : List ℕ) → is_among code b ≡ true → is_among code (a ++ b) ≡ true
among_right code [] b h = h
among_right code (other ∷ a) b h = or_right (code == other) (is_among code (a ++ b)) (among_right code a b h)

pub left : (o : Option ℕ) (a b : List ℕ) → opt_among o a ≡ true → opt_among o (a ++ b) ≡ true
left None a b h = refl
left (Some code) a b h = among_left code a b h

pub right : (o : Option ℕ) (a b : List ℕ) → opt_among o b ≡ true → opt_among o (a ++ b) ≡ true
right None a b h = refl
right (Some code) a b h = among_right code a b h

-- one of the two codes in front, or one of b
among_behind : (code x y : ℕ) (a b : List ℕ) → is_among code (x ∷ y ∷ b) ≡ true → is_among code (x ∷ y ∷ (a ++ b)) ≡ true
among_behind code x y a b h =
    elim (or_cases (code == x) (is_among code (y ∷ b)) h) [
      | inl e ↦ or_left (code == x) (is_among code (y ∷ (a ++ b))) e
      | inr e ↦ or_right (code == x) (is_among code (y ∷ (a ++ b))) (elim (or_cases (code == y) (is_among code b) e) [
        | inl f ↦ or_left (code == y) (is_among code (a ++ b)) f
        | inr f ↦ or_right (code == y) (is_among code (a ++ b)) (among_right code a b f)
      ])
    ]

pub behind : (o : Option ℕ) (x y : ℕ) (a b : List ℕ) → opt_among o (x ∷ y ∷ b) ≡ true → opt_among o (x ∷ y ∷ (a ++ b)) ≡ true
behind None x y a b h = refl
behind (Some code) x y a b h = among_behind code x y a b h

pub choose : (test : Bool) (a b : Option ℕ) (codes : List ℕ) → opt_among a codes ≡ true → opt_among b codes ≡ true → opt_among (if test then a else b) codes ≡ true
choose true a b codes here other = here
choose false a b codes here other = other

-- the first code is that of the first test, or of the later ones
pub first : (o : Option ℕ) (later : List (Option ℕ)) (codes : List ℕ) → opt_among o codes ≡ true → opt_among (first_code later) codes ≡ true
    → opt_among (first_code (o ∷ later)) codes ≡ true
first None later codes here others = others
first (Some code) later codes here others = here

-- what holds of all codes holds of each
pub each : (P : ℕ → Bool) (code : ℕ) (codes : List ℕ) → list_all P codes ≡ true → is_among code codes ≡ true → P code ≡ true
each P code [] all h = absurd (cc)
each P code (other ∷ codes) all h =
    let parts = both (P other) (list_all P codes) all in
    elim (or_cases (code == other) (is_among code codes) h) [
      | inl e ↦ subst (λ (c : ℕ). P c ≡ true) (sym (equal code other e)) parts.0
      | inr e ↦ each P code codes parts.1 e
    ]
  where
    both : (a b : Bool) → (a && b) ≡ true → (a ≡ true) × (b ≡ true)
    both true b h = (refl, h)
    both false b h = absurd (cc)

pub third : (code : ℕ) (later : List ℕ) → is_among code (0 ∷ 15 ∷ code ∷ later) ≡ true
third code later = rw (itself code) (test (code == 0) (code == 15)) where
  test : (a b : Bool) → (a || (b || (true || is_among code later))) ≡ true
  test true b = refl
  test false true = refl
  test false false = refl

-- a code where a test holds, and where it does not
pub where_holds : (test : Bool) (code : ℕ) → opt_among (if test then Some code else None) (0 ∷ 15 ∷ code ∷ []) ≡ true
where_holds true code = third code []
where_holds false code = refl

pub where_fails : (test : Bool) (code : ℕ) → opt_among (if test then None else Some code) (0 ∷ 15 ∷ code ∷ []) ≡ true
where_fails true code = refl
where_fails false code = third code []
