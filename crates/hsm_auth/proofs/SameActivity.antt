-- `same_activity` is what `==` answers, and equality.
use Rattle.std.proofs.Common.{◌≡◌, ℕ, Bool, true, false, ◌&&◌, eqb, refl, sym, ap, ap₂, ◌∙◌, IsTrue, ◌↔◌, arith}
use Rattle.std.proofs.lemmas.Bool.Decides.{nat_tests}
use Rattle.std.specs.Option.{option_eq}
use Rattle.std.specs.Prelude.{Option, Some, None}
use denote.Enum.Bare.{sameb, same_true, true_same}
use denote.Enum.Declared.{tag_of}
use Rattle.hsm_types.specs.declared.types.KeyType.{KeyType}
use Rattle.hsm_types.specs.contracts.types.KeyType as type
use Rattle.hsm_types.specs.KeyTypes.{same_type}
use Rattle.hsm_types.proofs.SameType.{sameb_same, same_type-true, same_type-self}
use Rattle.hsm_auth.specs.declared.activity.Category.{Category}
use Rattle.hsm_auth.specs.declared.activity.Category.TheVariants.{Generate, Import, Export, Component, PinClear}
use Rattle.hsm_auth.specs.declared.activity.Place.{Place}
use Rattle.hsm_auth.specs.declared.activity.Place.TheVariants.{Host, Console}
use Rattle.hsm_auth.specs.declared.activity.Activity.{Activity}
use Rattle.hsm_auth.specs.contracts.activity.Category as category
use Rattle.hsm_auth.specs.contracts.activity.Place as place
use Rattle.hsm_auth.specs.Activities.{category_number, place_number, same_category, same_place, same_set, same_activity}

tag_category : (a : Category) → tag_of category.the_type a ≡ category_number a
tag_category Generate = refl
tag_category Import = refl
tag_category Export = refl
tag_category Component = refl
tag_category PinClear = refl

tag_place : (a : Place) → tag_of place.the_type a ≡ place_number a
tag_place Host = refl
tag_place Console = refl

pub same_category_is : (a b : Category) → sameb category.the_type a b ≡ same_category a b
same_category_is a b = ap₂ eqb (tag_category a) (tag_category b)

same_place_is : (a b : Place) → sameb place.the_type a b ≡ same_place a b
same_place_is a b = ap₂ eqb (tag_place a) (tag_place b)

option_eq_is : {A : Type 0} (f g : A → A → Bool) → ((x y : A) → f x y ≡ g x y) → (a b : Option A) → option_eq f a b ≡ option_eq g a b
option_eq_is f g h None None = refl
option_eq_is f g h None (Some y) = refl
option_eq_is f g h (Some x) None = refl
option_eq_is f g h (Some x) (Some y) = h x y

option_eq-true : {A : Type 0} (f : A → A → Bool) → ((x y : A) → f x y ≡ true → x ≡ y) → (a b : Option A) → option_eq f a b ≡ true → a ≡ b
option_eq-true f h None None e = refl
option_eq-true f h None (Some y) e = cc
option_eq-true f h (Some x) None e = cc
option_eq-true f h (Some x) (Some y) e = ap Some (h x y e)

option_eq-self : {A : Type 0} (f : A → A → Bool) → ((x : A) → f x x ≡ true) → (a : Option A) → option_eq f a a ≡ true
option_eq-self f h None = refl
option_eq-self f h (Some x) = h x

pub option_type_is : (a b : Option KeyType) → option_eq (sameb type.the_type) a b ≡ option_eq same_type a b
option_type_is a b = option_eq_is (sameb type.the_type) same_type sameb_same a b

pub option_place_is : (a b : Option Place) → option_eq (sameb place.the_type) a b ≡ option_eq same_place a b
option_place_is a b = option_eq_is (sameb place.the_type) same_place same_place_is a b

pub same_is : (a b : Activity)
    → sameb category.the_type a.category b.category && (option_eq (sameb type.the_type) a.ty b.ty && (option_eq (sameb place.the_type) a.place b.place && option_eq same_set a.set b.set)) ≡ same_activity a b
same_is a b =
    ap₂ ◌&&◌ (same_category_is a.category b.category)
    (ap₂ ◌&&◌ (option_type_is a.ty b.ty) (ap (λ (here : Bool). here && option_eq same_set a.set b.set) (option_place_is a.place b.place)))

-- the parts of a test that holds
pub and_left : (a b : Bool) → a && b ≡ true → a ≡ true
and_left true b h = refl
and_left false b h = h

pub and_right : (a b : Bool) → a && b ≡ true → b ≡ true
and_right true b h = h
and_right false b h = cc

same_category-true : (a b : Category) → same_category a b ≡ true → a ≡ b
same_category-true a b h = same_true category.the_type tt a b (same_category_is a b ∙ h)

same_place-true : (a b : Place) → same_place a b ≡ true → a ≡ b
same_place-true a b h = same_true place.the_type tt a b (same_place_is a b ∙ h)

same_set-true : (a b : ℕ) → same_set a b ≡ true → a ≡ b
same_set-true a b h = grind (arith, nat_tests)

pub same_activity-true : (a b : Activity) → same_activity a b ≡ true → a ≡ b
same_activity-true a b h =
    let r = and_right (same_category a.category b.category) (option_eq same_type a.ty b.ty && (option_eq same_place a.place b.place && option_eq same_set a.set b.set)) h in
    let w = and_right (option_eq same_type a.ty b.ty) (option_eq same_place a.place b.place && option_eq same_set a.set b.set) r in
    let c = and_left (same_category a.category b.category) (option_eq same_type a.ty b.ty && (option_eq same_place a.place b.place && option_eq same_set a.set b.set)) h in
    let t = and_left (option_eq same_type a.ty b.ty) (option_eq same_place a.place b.place && option_eq same_set a.set b.set) r in
    let p = and_left (option_eq same_place a.place b.place) (option_eq same_set a.set b.set) w in
    let n = and_right (option_eq same_place a.place b.place) (option_eq same_set a.set b.set) w in
    λ i. record {
      category = same_category-true a.category b.category c i;
      ty = option_eq-true same_type same_type-true a.ty b.ty t i;
      place = option_eq-true same_place same_place-true a.place b.place p i;
      set = option_eq-true same_set same_set-true a.set b.set n i;
    }

same_category-self : (a : Category) → same_category a a ≡ true
same_category-self a = sym (same_category_is a a) ∙ true_same category.the_type a a refl

same_place-self : (a : Place) → same_place a a ≡ true
same_place-self a = sym (same_place_is a a) ∙ true_same place.the_type a a refl

same_set-self : (a : ℕ) → same_set a a ≡ true
same_set-self a = grind (arith, nat_tests)

pub same_activity-self : (a : Activity) → same_activity a a ≡ true
same_activity-self a =
    ap₂ ◌&&◌ (same_category-self a.category)
    (ap₂ ◌&&◌ (option_eq-self same_type same_type-self a.ty) (ap₂ ◌&&◌ (option_eq-self same_place same_place-self a.place) (option_eq-self same_set same_set-self a.set)))

pub same_activity_equal : (a b : Activity) (r : Bool) → r ≡ same_activity a b → IsTrue r ↔ (a ≡ b)
same_activity_equal a b r is = (
  λ t. same_activity-true a b (sym is ∙ t),
  λ e. is ∙ (ap (same_activity a) (sym e) ∙ same_activity-self a),
)
