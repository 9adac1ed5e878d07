-- An activity is told by its text, part by part.
use Rattle.std.proofs.Common.{◌≡◌, ℕ, ◌+◌, ◌/◌, ◌%◌, cond, eqb, List, ◌++◌, take, drop, get_or, refl, sym, ap, subst, ◌∙◌, ◌↔◌, arith}
use Rattle.std.specs.Prelude.{Option, Some, None}
use Rattle.std.proofs.lemmas.List.{append_cancel_left}
use Rattle.hsm_types.specs.declared.types.KeyType.{KeyType}
use Rattle.hsm_types.specs.declared.types.KeyType.TheVariants.{Zmk, Zpk, Tpk, Cvk, Tak, Zak, Bdk, Zek, Dek}
use Rattle.hsm_types.specs.Table.{type_with}
use Rattle.hsm_auth.specs.declared.activity.Category.{Category}
use Rattle.hsm_auth.specs.declared.activity.Category.TheVariants.{Generate, Import, Export, Component, PinClear}
use Rattle.hsm_auth.specs.declared.activity.Place.{Place}
use Rattle.hsm_auth.specs.declared.activity.Place.TheVariants.{Host, Console}
use Rattle.hsm_auth.specs.declared.activity.Activity.{Activity}
use Rattle.hsm_auth.specs.Activities.{category_text, type_text, place_text, set_text, text_of, IsNamedSet, MayName, Names}

-- the category of a first letter
of_letter : ℕ → Category
of_letter n = cond (eqb n 103) Generate (cond (eqb n 105) Import (cond (eqb n 101) Export (cond (eqb n 99) Component PinClear)))

letter-of : (c : Category) (r : List ℕ) → of_letter (get_or (category_text c ++ r) 0 0) ≡ c
unfolding of_letter
letter-of Generate r = refl
letter-of Import r = refl
letter-of Export r = refl
letter-of Component r = refl
letter-of PinClear r = refl

pub category-same : (c d : Category) (r s : List ℕ) → category_text c ++ r ≡ category_text d ++ s → c ≡ d
category-same c d r s e = sym (letter-of c r) ∙ (ap (λ (t : List ℕ). of_letter (get_or t 0 0)) e ∙ letter-of d s)

pub type-front : (t : Option KeyType) (p : Option Place) (n : Option ℕ) → type_with (drop 1 (take 4 (type_text t ++ (place_text p ++ set_text n)))) ≡ t
unfolding type_with
type-front None None None = refl
type-front None None (Some n) = refl
type-front None (Some Host) n = refl
type-front None (Some Console) n = refl
type-front (Some Zmk) p n = refl
type-front (Some Zpk) p n = refl
type-front (Some Tpk) p n = refl
type-front (Some Cvk) p n = refl
type-front (Some Tak) p n = refl
type-front (Some Zak) p n = refl
type-front (Some Bdk) p n = refl
type-front (Some Zek) p n = refl
type-front (Some Dek) p n = refl

-- the place of the letter behind the point
of_second : ℕ → Option Place
of_second n = cond (eqb n 104) (Some Host) (cond (eqb n 99) (Some Console) None)

place-front : (p : Option Place) (n : Option ℕ) → of_second (get_or (place_text p ++ set_text n) 1 0) ≡ p
unfolding of_second
place-front None None = refl
place-front None (Some n) = refl
place-front (Some Host) n = refl
place-front (Some Console) n = refl

tail-place : (p q : Option Place) (n m : Option ℕ) → place_text p ++ set_text n ≡ place_text q ++ set_text m → p ≡ q
tail-place p q n m e = sym (place-front p n) ∙ (ap (λ (t : List ℕ). of_second (get_or t 1 0)) e ∙ place-front q m)

-- a number by its two digits
digits-number : (n m : ℕ) → 48 + n / 10 ≡ 48 + m / 10 → 48 + n % 10 ≡ 48 + m % 10 → n ≡ m
digits-number n m a b = omega (arith, a, b)

pub set-same : (n m : Option ℕ) → set_text n ≡ set_text m → n ≡ m
set-same None None e = refl
set-same None (Some m) e = let z : ⊥ = cc in absurd z
set-same (Some n) None e = let z : ⊥ = cc in absurd z
set-same (Some n) (Some m) e = ap Some (digits-number n m (ap (λ (t : List ℕ). get_or t 4 0) e) (ap (λ (t : List ℕ). get_or t 5 0) e))

pub tail-type : (t u : Option KeyType) (p q : Option Place) (n m : Option ℕ) → type_text t ++ (place_text p ++ set_text n) ≡ type_text u ++ (place_text q ++ set_text m) → t ≡ u
tail-type t u p q n m e = sym (type-front t p n) ∙ (ap (λ (x : List ℕ). type_with (drop 1 (take 4 x))) e ∙ type-front u q m)

-- what stands behind the category
abbrev pub tail_text : Activity → List ℕ
tail_text a = type_text a.ty ++ (place_text a.place ++ set_text a.set)

pub text_of-injective : (a b : Activity) → text_of a ≡ text_of b → a ≡ b
text_of-injective a b e =
    let c : a.category ≡ b.category = category-same a.category b.category (tail_text a) (tail_text b) e in
    let r : tail_text a ≡ tail_text b = append_cancel_left (category_text b.category) (tail_text a) (tail_text b) (ap (λ (d : Category). category_text d ++ tail_text a) (sym c) ∙ e) in
    let t : a.ty ≡ b.ty = tail-type a.ty b.ty a.place b.place a.set b.set r in
    let w : place_text a.place ++ set_text a.set ≡ place_text b.place ++ set_text b.set =
    append_cancel_left (type_text b.ty) (place_text a.place ++ set_text a.set) (place_text b.place ++ set_text b.set) (ap (λ (u : Option KeyType). type_text u ++ (place_text a.place ++ set_text a.set)) (sym t) ∙ r) in
    let p : a.place ≡ b.place = tail-place a.place b.place a.set b.set w in
    let n : set_text a.set ≡ set_text b.set = append_cancel_left (place_text b.place) (set_text a.set) (set_text b.set) (ap (λ (q : Option Place). place_text q ++ set_text a.set) (sym p) ∙ w) in
    λ i. record { category = c i; ty = t i; place = p i; set = set-same a.set b.set n i }

-- what a text of this category names stands in the rest
pub named-rest : (text r : List ℕ) (c : Category) (a : Activity) → text ≡ category_text c ++ r → Names text a → (c ≡ a.category) × (r ≡ tail_text a)
named-rest text r c a e n =
    let s : List ℕ = tail_text a in
    let both : category_text c ++ r ≡ category_text a.category ++ s = sym e ∙ n.written in
    let same : c ≡ a.category = category-same c a.category r s both in
    (same, append_cancel_left (category_text a.category) r s (ap (λ (d : Category). category_text d ++ r) (sym same) ∙ both))

-- a text that is put together of these parts names just this activity
pub names-one : (text r s u : List ℕ) (c : Category) (t : Option KeyType) (p : Option Place) (n : Option ℕ)
    → text ≡ category_text c ++ r → r ≡ type_text t ++ s → s ≡ place_text p ++ u → u ≡ set_text n → MayName c t → IsNamedSet n
    → (a : Activity) → (◌≡◌ {A = Option Activity} (Some record { category = c; ty = t; place = p; set = n }) (Some a)) ↔ Names text a
names-one text r s u c t p n ce te pe ne may few a =
    let x : Activity = record { category = c; ty = t; place = p; set = n } in
    let tail : s ≡ place_text p ++ set_text n = pe ∙ ap (λ (z : List ℕ). place_text p ++ z) ne in
    let whole : text ≡ text_of x = ce ∙ ap (λ (z : List ℕ). category_text c ++ z) (te ∙ ap (λ (z : List ℕ). type_text t ++ z) tail) in (
      (λ (e : Some x ≡ Some a). let same : x ≡ a = cc in subst (Names text) same record { typed = may; set = few; written = whole }),
      (λ (k : Names text a). ap Some (text_of-injective x a (sym whole ∙ k.written))),
    )

-- where a text names an activity, its set stands last, behind its place
pub named-set : (text r s u : List ℕ) (c : Category) (t : Option KeyType) (p : Option Place) → text ≡ category_text c ++ r → r ≡ type_text t ++ s → s ≡ place_text p ++ u
    → ((v : Option KeyType) (q : Option Place) (n : Option ℕ) → MayName c v → r ≡ type_text v ++ (place_text q ++ set_text n) → t ≡ v)
    → ((q : Option Place) (n : Option ℕ) → s ≡ place_text q ++ set_text n → p ≡ q)
    → (a : Activity) → Names text a → u ≡ set_text a.set
named-set text r s u c t p ce te pe types places a n =
    let rest = named-rest text r c a ce n in
    let may : MayName c a.ty = subst (λ (d : Category). MayName d a.ty) (sym rest.0) n.typed in
    let same : t ≡ a.ty = types a.ty a.place a.set may rest.1 in
    let behind : s ≡ place_text a.place ++ set_text a.set =
    append_cancel_left (type_text a.ty) s (place_text a.place ++ set_text a.set) (ap (λ (v : Option KeyType). type_text v ++ s) (sym same) ∙ (sym te ∙ rest.1)) in
    let here : p ≡ a.place = places a.place a.set behind in
    append_cancel_left (place_text a.place) u (set_text a.set) (ap (λ (q : Option Place). place_text q ++ u) (sym here) ∙ (sym pe ∙ behind))
