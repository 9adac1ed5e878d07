-- A key text of a form stands exactly where it is one, by its tag and the number of its digits.
use Rattle.std.proofs.Common.{◌≡◌, ℕ, suc, Bool, true, false, ◌&&◌, ◌+◌, ◌≤◌, List, [], ◌∷◌, ◌++◌, length, take, drop, Option, Some, None, refl, arith, subst, cond, sym, ap, ◌∙◌, ◌⊎◌, inl, inr, length-append}
use Rattle.std.specs.Prelude.{codes, nat_eq, nat_le}
use Rattle.std.specs.List.{list_all, starts_with}
use Rattle.std.specs.Option.{option_map, option_or}
use Rattle.std.specs.Char.{is_ascii_hexdigit}
use Rattle.std.proofs.lemmas.Bool.Decides.{nat_tests}
use Rattle.hsm_text.specs.Sizes.{only_if, run_size, tagged_size, zut_size, xy_size, key_size, hex_size}
use Rattle.hsm_text.specs.declared.keys.KeyForm.{KeyForm}
use Rattle.hsm_text.specs.declared.keys.KeyForm.TheVariants as key
use Rattle.hsm_rows.specs.Standing.{AreHexDigits, IsTagged, IsZut, IsXy, IsKeyText}
use Rattle.hsm_rows.proofs.Within.{and_left}
use Rattle.hsm_rows.proofs.TextForms.{front, run_text}

pub only_true : (b : Bool) (k : ℕ) → b ≡ true → only_if b k ≡ Some k
only_true b k h = ap (λ (c : Bool). only_if c k) h

pub both : (a b : Bool) → a ≡ true → b ≡ true → (a && b) ≡ true
both true b h k = k
both false b h k = h

pub le_true : (a b : ℕ) → a ≤ b → nat_le a b ≡ true
le_true a b h = grind (arith, nat_tests)

-- a run of characters that pass the test stands
pub run_back : (test : ℕ → Bool) (k : ℕ) (t rest : List ℕ) → length t ≡ k → list_all test t ≡ true → run_size test k (t ++ rest) ≡ Some (length t)
unfolding run_size
run_back test k t rest e h =
    let long : k ≤ length (t ++ rest) = omega (arith, e, length-append t rest) in
    only_true _ k (both (nat_le k (length (t ++ rest))) _ (le_true k (length (t ++ rest)) long) (ap (list_all test) (front t rest k (sym e)) ∙ h)) ∙ ap Some (sym e)

and_none : (a b : Bool) → b ≡ false → (a && b) ≡ false
and_none true b h = h
and_none false b h = refl

not_first : (a b : Bool) → a ≡ false → (a && b) ≡ false
not_first true b h = let z : ⊥ = cc in absurd z
not_first false b h = refl

-- no hexadecimal digits begin with a tag
no_digits : (n c : ℕ) (xs : List ℕ) → is_ascii_hexdigit c ≡ false → hex_size (suc n) (c ∷ xs) ≡ None
unfolding run_size
no_digits n c xs h =
    ap (λ (b : Bool). only_if b (suc n)) (and_none (nat_le (suc n) (length (c ∷ xs))) _ (not_first (is_ascii_hexdigit c) (list_all is_ascii_hexdigit (take n xs)) h))

tag_no_digits : (m c n : ℕ) (t rest : List ℕ) → is_ascii_hexdigit c ≡ false → IsTagged (c ∷ []) n t → hex_size (suc m) (t ++ rest) ≡ None
tag_no_digits m c n t rest h g = subst (λ (x : List ℕ). hex_size (suc m) (x ++ rest) ≡ None) (sym g.whole) (no_digits m c (g.digits ++ rest) h)

zut_no_digits : (m : ℕ) (t rest : List ℕ) → IsZut t → hex_size (suc m) (t ++ rest) ≡ None
zut_no_digits m t rest (inl g) = tag_no_digits m 90 16 t rest refl g
zut_no_digits m t rest (inr (inl g)) = tag_no_digits m 85 32 t rest refl g
zut_no_digits m t rest (inr (inr g)) = tag_no_digits m 84 48 t rest refl g

xy_no_digits : (m : ℕ) (t rest : List ℕ) → IsXy t → hex_size (suc m) (t ++ rest) ≡ None
xy_no_digits m t rest (inl g) = tag_no_digits m 88 32 t rest refl g
xy_no_digits m t rest (inr g) = tag_no_digits m 89 48 t rest refl g

one_more : (k : ℕ) → k + 1 ≡ suc k
one_more k = omega arith

tag_there : (c n : ℕ) (digits rest : List ℕ) → starts_with nat_eq (c ∷ (digits ++ rest)) (c ∷ []) ≡ true → AreHexDigits n digits
    → tagged_size (c ∷ []) n (c ∷ (digits ++ rest)) ≡ Some (suc (length digits))
unfolding tagged_size
tag_there c n digits rest s h =
    ap (λ (b : Bool). cond b (option_map (λ (k : ℕ). k + 1) (hex_size n (digits ++ rest))) None) s
    ∙ (ap (option_map (λ (k : ℕ). k + 1)) (run_back is_ascii_hexdigit n digits rest h.0 h.1) ∙ ap Some (one_more (length digits)))

-- a text with the tag stands
tag_back : (c n : ℕ) (t rest : List ℕ) → ((xs : List ℕ) → starts_with nat_eq (c ∷ xs) (c ∷ []) ≡ true) → IsTagged (c ∷ []) n t → tagged_size (c ∷ []) n (t ++ rest) ≡ Some (length t)
tag_back c n t rest s g =
    subst (λ (x : List ℕ). tagged_size (c ∷ []) n (x ++ rest) ≡ Some (length x)) (sym g.whole) (tag_there c n g.digits rest (s (g.digits ++ rest)) g.hexadecimal)

-- and none with another tag
other_tag : (c n d m : ℕ) (t rest : List ℕ) → ((xs : List ℕ) → starts_with nat_eq (c ∷ xs) (d ∷ []) ≡ false) → IsTagged (c ∷ []) n t → tagged_size (d ∷ []) m (t ++ rest) ≡ None
unfolding tagged_size
other_tag c n d m t rest s g =
    ap (λ (x : List ℕ). tagged_size (d ∷ []) m (x ++ rest)) g.whole
    ∙ ap (λ (b : Bool). cond b (option_map (λ (k : ℕ). k + 1) (hex_size m (g.digits ++ rest))) None) (s (g.digits ++ rest))

or_first : (o p : Option ℕ) (n : ℕ) → o ≡ Some n → option_or o p ≡ Some n
or_first o p n h = ap (λ (x : Option ℕ). option_or x p) h

or_second : (o p : Option ℕ) (n : ℕ) → o ≡ None → p ≡ Some n → option_or o p ≡ Some n
or_second o p n h k = ap (λ (x : Option ℕ). option_or x p) h ∙ k

or_none : (o p : Option ℕ) → o ≡ None → p ≡ None → option_or o p ≡ None
or_none o p h k = ap (λ (x : Option ℕ). option_or x p) h ∙ k

zut_back : (t rest : List ℕ) → IsZut t → zut_size (t ++ rest) ≡ Some (length t)
unfolding zut_size
zut_back t rest (inl g) = or_first (tagged_size (codes "Z") 16 (t ++ rest)) _ (length t) (tag_back 90 16 t rest (λ xs. refl) g)
zut_back t rest (inr (inl g)) =
    or_second (tagged_size (codes "Z") 16 (t ++ rest)) _ (length t) (other_tag 85 32 90 16 t rest (λ xs. refl) g)
    (or_first (tagged_size (codes "U") 32 (t ++ rest)) _ (length t) (tag_back 85 32 t rest (λ xs. refl) g))
zut_back t rest (inr (inr g)) =
    or_second (tagged_size (codes "Z") 16 (t ++ rest)) _ (length t) (other_tag 84 48 90 16 t rest (λ xs. refl) g)
    (or_second (tagged_size (codes "U") 32 (t ++ rest)) _ (length t) (other_tag 84 48 85 32 t rest (λ xs. refl) g) (tag_back 84 48 t rest (λ xs. refl) g))

no_zut : (c n : ℕ) (t rest : List ℕ) → ((xs : List ℕ) → starts_with nat_eq (c ∷ xs) (90 ∷ []) ≡ false) → ((xs : List ℕ) → starts_with nat_eq (c ∷ xs) (85 ∷ []) ≡ false)
    → ((xs : List ℕ) → starts_with nat_eq (c ∷ xs) (84 ∷ []) ≡ false) → IsTagged (c ∷ []) n t → zut_size (t ++ rest) ≡ None
unfolding zut_size
no_zut c n t rest z u v g =
    or_none (tagged_size (codes "Z") 16 (t ++ rest)) _ (other_tag c n 90 16 t rest z g)
    (or_none (tagged_size (codes "U") 32 (t ++ rest)) _ (other_tag c n 85 32 t rest u g) (other_tag c n 84 48 t rest v g))

wrapped_back : (t rest : List ℕ) → IsXy t → option_or (zut_size (t ++ rest)) (xy_size (t ++ rest)) ≡ Some (length t)
unfolding xy_size
wrapped_back t rest (inl g) =
    or_second (zut_size (t ++ rest)) _ (length t) (no_zut 88 32 t rest (λ xs. refl) (λ xs. refl) (λ xs. refl) g)
    (or_first (tagged_size (codes "X") 32 (t ++ rest)) _ (length t) (tag_back 88 32 t rest (λ xs. refl) g))
wrapped_back t rest (inr g) =
    or_second (zut_size (t ++ rest)) _ (length t) (no_zut 89 48 t rest (λ xs. refl) (λ xs. refl) (λ xs. refl) g)
    (or_second (tagged_size (codes "X") 32 (t ++ rest)) _ (length t) (other_tag 89 48 88 32 t rest (λ xs. refl) g) (tag_back 89 48 t rest (λ xs. refl) g))

digits_or_zut : (n : ℕ) (t rest : List ℕ) → AreHexDigits (suc n) t ⊎ IsZut t → option_or (hex_size (suc n) (t ++ rest)) (zut_size (t ++ rest)) ≡ Some (length t)
digits_or_zut n t rest (inl h) = or_first (hex_size (suc n) (t ++ rest)) _ (length t) (run_back is_ascii_hexdigit (suc n) t rest h.0 h.1)
digits_or_zut n t rest (inr z) = or_second (hex_size (suc n) (t ++ rest)) _ (length t) (zut_no_digits n t rest z) (zut_back t rest z)

-- a key text of the form stands
pub key_back : (k : KeyForm) (t rest : List ℕ) → IsKeyText k t → key_size k (t ++ rest) ≡ Some (length t)
unfolding key_size
key_back key.K t rest h = digits_or_zut 15 t rest h
key_back key.P t rest (inl h) = or_first (hex_size 32 (t ++ rest)) _ (length t) (run_back is_ascii_hexdigit 32 t rest h.0 h.1)
key_back key.P t rest (inr g) = or_second (hex_size 32 (t ++ rest)) _ (length t) (tag_no_digits 31 85 32 t rest refl g) (tag_back 85 32 t rest (λ xs. refl) g)
key_back key.W t rest (inl h) = or_first (hex_size 16 (t ++ rest)) _ (length t) (run_back is_ascii_hexdigit 16 t rest h.0 h.1)
key_back key.W t rest (inr (inl z)) =
    or_second (hex_size 16 (t ++ rest)) _ (length t) (zut_no_digits 15 t rest z) (or_first (zut_size (t ++ rest)) _ (length t) (zut_back t rest z))
key_back key.W t rest (inr (inr x)) = or_second (hex_size 16 (t ++ rest)) _ (length t) (xy_no_digits 15 t rest x) (wrapped_back t rest x)
key_back key.F0 t rest h = digits_or_zut 15 t rest h
key_back key.F1 t rest h = digits_or_zut 31 t rest h
key_back key.F2 t rest h = zut_back t rest h

-- ---- and a key text that stands is one of the form

or_is : (o p : Option ℕ) (n : ℕ) → option_or o p ≡ Some n → (o ≡ Some n) ⊎ (p ≡ Some n)
or_is None p n h = inr h
or_is (Some m) p n h = inl h

either : {A B C D : Type 0} → (A → C) → (B → D) → A ⊎ B → C ⊎ D
either f g (inl a) = inl (f a)
either f g (inr b) = inr (g b)

mapped : (o : Option ℕ) (n : ℕ) → option_map (λ (k : ℕ). k + 1) o ≡ Some n → (k : ℕ) × ((o ≡ Some k) × (k + 1 ≡ n))
mapped None n h = let z : ⊥ = cc in absurd z
mapped (Some k) n h = (k, (refl, cc))

tag_by : (c n : ℕ) (t rest : List ℕ) (b : Bool) → starts_with nat_eq (t ++ rest) (c ∷ []) ≡ b
    → cond b (option_map (λ (k : ℕ). k + 1) (hex_size n (drop 1 (t ++ rest)))) None ≡ Some (length t) → IsTagged (c ∷ []) n t
tag_by c n t rest false k h = let z : ⊥ = cc in absurd z
tag_by c n [] rest true k h = let m = mapped (hex_size n (drop 1 rest)) 0 h in absurd (let e = m.1.1 in omega (arith, e))
tag_by c n (x ∷ xs) rest true k h =
    let m = mapped (hex_size n (xs ++ rest)) (suc (length xs)) h in
    let long : m.0 ≡ length xs = let e = m.1.1 in omega (arith, e) in
    let same : c ≡ x = let b = and_left (nat_eq c x) true k in grind (arith, nat_tests) in
    record { digits = xs; whole = ap (λ (a : ℕ). a ∷ xs) (sym same); hexadecimal = run_text is_ascii_hexdigit n xs rest (m.1.0 ∙ ap Some long) }

tag_is : (c n : ℕ) (t rest : List ℕ) → tagged_size (c ∷ []) n (t ++ rest) ≡ Some (length t) → IsTagged (c ∷ []) n t
unfolding tagged_size
tag_is c n t rest h = tag_by c n t rest (starts_with nat_eq (t ++ rest) (c ∷ [])) refl h

zut_is : (t rest : List ℕ) → zut_size (t ++ rest) ≡ Some (length t) → IsZut t
unfolding zut_size
zut_is t rest h =
    either (tag_is 90 16 t rest) (λ k. either (tag_is 85 32 t rest) (tag_is 84 48 t rest) (or_is (tagged_size (codes "U") 32 (t ++ rest)) _ (length t) k))
    (or_is (tagged_size (codes "Z") 16 (t ++ rest)) _ (length t) h)

xy_is : (t rest : List ℕ) → xy_size (t ++ rest) ≡ Some (length t) → IsXy t
unfolding xy_size
xy_is t rest h = either (tag_is 88 32 t rest) (tag_is 89 48 t rest) (or_is (tagged_size (codes "X") 32 (t ++ rest)) _ (length t) h)

pub key_is : (k : KeyForm) (t rest : List ℕ) → key_size k (t ++ rest) ≡ Some (length t) → IsKeyText k t
unfolding key_size
key_is key.K t rest h = either (run_text is_ascii_hexdigit 16 t rest) (zut_is t rest) (or_is (hex_size 16 (t ++ rest)) _ (length t) h)
key_is key.P t rest h = either (run_text is_ascii_hexdigit 32 t rest) (tag_is 85 32 t rest) (or_is (hex_size 32 (t ++ rest)) _ (length t) h)
key_is key.W t rest h =
    either (run_text is_ascii_hexdigit 16 t rest) (λ k. either (zut_is t rest) (xy_is t rest) (or_is (zut_size (t ++ rest)) _ (length t) k))
    (or_is (hex_size 16 (t ++ rest)) _ (length t) h)
key_is key.F0 t rest h = either (run_text is_ascii_hexdigit 16 t rest) (zut_is t rest) (or_is (hex_size 16 (t ++ rest)) _ (length t) h)
key_is key.F1 t rest h = either (run_text is_ascii_hexdigit 32 t rest) (zut_is t rest) (or_is (hex_size 32 (t ++ rest)) _ (length t) h)
key_is key.F2 t rest h = zut_is t rest h
