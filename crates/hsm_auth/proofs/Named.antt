-- The activity of a text, found in the list of all that have one.
use Rattle.std.proofs.Common.{◌≡◌, ℕ, zero, suc, ◌<◌, Bool, true, false, ◌&&◌, cond, List, [], ◌∷◌, ◌++◌, length, refl, sym, ap, ◌∙◌, ◌↔◌, subst, Contains, arith}
use Rattle.std.specs.Prelude.{Option, Some, None, find, flat_map, slice_index_or, nat_le}
use Rattle.std.proofs.lemmas.Bool.Decides.{nat_tests}
use Rattle.std.specs.List.{list_all}
use Rattle.std.specs.Str.{bytes_eq}
use Rattle.std.proofs.lemmas.List.Elements.{Contains-append_left, Contains-append_right}
use Rattle.std.proofs.lemmas.Slice.Eq.{bytes_eq-Decides}
use Rattle.hsm_types.specs.declared.types.KeyType.{KeyType}
use Rattle.hsm_types.specs.declared.types.KeyType.TheVariants.{Zmk, Zpk, Tpk, Cvk, Tak, Zak, Bdk, Zek, Dek}
use Rattle.hsm_auth.specs.declared.activity.Category.{Category}
use Rattle.hsm_auth.specs.declared.activity.Category.TheVariants.{Generate, Import, Export, Component, PinClear}
use Rattle.hsm_auth.specs.declared.activity.Place.{Place}
use Rattle.hsm_auth.specs.declared.activity.Place.TheVariants.{Host, Console}
use Rattle.hsm_auth.specs.declared.activity.Activity.{Activity}
use Rattle.hsm_auth.specs.Activities.{text_of, activity, at_sets, at_places, any_type, of_category, activities, activity_of, IsNamedSet, MayName, Names}
use Rattle.hsm_auth.proofs.SameActivity.{and_left, and_right}
use Rattle.hsm_auth.proofs.Texts.{text_of-injective}

module _ {X : Type 0} (p : X → Bool) where
  -- what is found passes, and has what all of the list have
  find-passes : (q : X → Bool) (xs : List X) (x : X) → list_all q xs ≡ true → find p xs ≡ Some x → (p x ≡ true) × (q x ≡ true)
  find-passes q [] x all e = cc
  find-passes q (y ∷ ys) x all e =
      elim (p y) as (λ b. p y ≡ b → cond b (Some y) (find p ys) ≡ Some x → (p x ≡ true) × (q x ≡ true)) [
        | true ↦ λ py f. let same : y ≡ x = cc in (subst (λ z. p z ≡ true) same py, subst (λ z. q z ≡ true) same (and_left (q y) (list_all q ys) all))
        | false ↦ λ py f. find-passes q ys x (and_right (q y) (list_all q ys) all) f
      ] refl e

  -- one is found where one of the list passes
  find-at : (xs : List X) (x : X) (k : ℕ) → k < length xs → slice_index_or xs k x ≡ x → p x ≡ true → (y : X) × (find p xs ≡ Some y)
  find-at [] x k lt is px = absurd (omega arith)
  find-at (z ∷ xs) x zero lt is px = (z, ap (λ (b : Bool). cond b (Some z) (find p xs)) (ap p is ∙ px))
  find-at (z ∷ xs) x (suc k) lt is px =
      elim (p z) as (λ b. (y : X) × (cond b (Some z) (find p xs) ≡ Some y)) [
        | true ↦ (z, refl)
        | false ↦ find-at xs x k (omega arith) is px
      ]

Contains-flat_map : {X Y : Type 0} (f : X → List Y) (xs : List X) (x : X) (y : Y) (k : ℕ) → k < length xs → slice_index_or xs k x ≡ x → Contains (f x) y → Contains (flat_map f xs) y
Contains-flat_map f [] x y k lt is has = absurd (omega arith)
Contains-flat_map f (z ∷ xs) x y zero lt is has = Contains-append_left (f z) (flat_map f xs) y (subst (λ w. Contains (f w) y) (sym is) has)
Contains-flat_map f (z ∷ xs) x y (suc k) lt is has = Contains-append_right (f z) (flat_map f xs) y (Contains-flat_map f xs x y k (omega arith) is has)

has_set : (c : Category) (t : Option KeyType) (p : Option Place) (n : Option ℕ) → IsNamedSet n → Contains (at_sets c t p) (activity c t p n)
has_set c t p None few = (0, omega arith, refl)
has_set c t p (Some zero) few = (1, omega arith, refl)
has_set c t p (Some (suc zero)) few = (2, omega arith, refl)
has_set c t p (Some (suc (suc zero))) few = (3, omega arith, refl)
has_set c t p (Some (suc (suc (suc zero)))) few = (4, omega arith, refl)
has_set c t p (Some (suc (suc (suc (suc n))))) few = absurd (omega (arith, few))

has_place : (c : Category) (t : Option KeyType) (p : Option Place) (n : Option ℕ) → IsNamedSet n → Contains (at_places c t) (activity c t p n)
has_place c t None n few = Contains-append_left (at_sets c t None) (at_sets c t (Some Host) ++ at_sets c t (Some Console)) (activity c t None n) (has_set c t None n few)
has_place c t (Some Host) n few =
    Contains-append_right (at_sets c t None) (at_sets c t (Some Host) ++ at_sets c t (Some Console)) (activity c t (Some Host) n)
    (Contains-append_left (at_sets c t (Some Host)) (at_sets c t (Some Console)) (activity c t (Some Host) n) (has_set c t (Some Host) n few))
has_place c t (Some Console) n few =
    Contains-append_right (at_sets c t None) (at_sets c t (Some Host) ++ at_sets c t (Some Console)) (activity c t (Some Console) n)
    (Contains-append_right (at_sets c t (Some Host)) (at_sets c t (Some Console)) (activity c t (Some Console) n) (has_set c t (Some Console) n few))

has_type : (t : Option KeyType) → Contains any_type t
has_type None = (0, omega arith, refl)
has_type (Some Zmk) = (1, omega arith, refl)
has_type (Some Zpk) = (2, omega arith, refl)
has_type (Some Tpk) = (3, omega arith, refl)
has_type (Some Cvk) = (4, omega arith, refl)
has_type (Some Tak) = (5, omega arith, refl)
has_type (Some Zak) = (6, omega arith, refl)
has_type (Some Bdk) = (7, omega arith, refl)
has_type (Some Zek) = (8, omega arith, refl)
has_type (Some Dek) = (9, omega arith, refl)

has_rest : (c : Category) (t : Option KeyType) (p : Option Place) (n : Option ℕ) → IsNamedSet n → Contains (of_category c) (activity c t p n)
has_rest c t p n few = let at = has_type t in Contains-flat_map (at_places c) any_type t (activity c t p n) at.0 at.1 at.2 (has_place c t p n few)

abbrev typed_ones : List Activity
typed_ones = flat_map of_category (Generate ∷ Import ∷ Export ∷ Component ∷ [])

has_typed : (c : Category) (t : Option KeyType) (p : Option Place) (n : Option ℕ) → IsNamedSet n → (k : ℕ) → k < 4 → slice_index_or (Generate ∷ Import ∷ Export ∷ Component ∷ []) k c ≡ c → Contains activities (activity c t p n)
unfolding activities
has_typed c t p n few k lt is =
    Contains-append_left typed_ones (at_places PinClear None) (activity c t p n) (Contains-flat_map of_category (Generate ∷ Import ∷ Export ∷ Component ∷ []) c (activity c t p n) k lt is (has_rest c t p n few))

has_clear : (p : Option Place) (n : Option ℕ) → IsNamedSet n → Contains activities (activity PinClear None p n)
unfolding activities
has_clear p n few = Contains-append_right typed_ones (at_places PinClear None) (activity PinClear None p n) (has_place PinClear None p n few)

-- every activity that a text may name stands in the list
has : (c : Category) (t : Option KeyType) (p : Option Place) (n : Option ℕ) → IsNamedSet n → MayName c t → Contains activities (activity c t p n)
has Generate t p n few may = has_typed Generate t p n few 0 (omega arith) refl
has Import t p n few may = has_typed Import t p n few 1 (omega arith) refl
has Export t p n few may = has_typed Export t p n few 2 (omega arith) refl
has Component t p n few may = has_typed Component t p n few 3 (omega arith) refl
has PinClear t p n few may = subst (λ (u : Option KeyType). Contains activities (activity PinClear u p n)) (sym may) (has_clear p n few)

abbrev may : Category → Option KeyType → Bool
may Generate t = true
may Import t = true
may Export t = true
may Component t = true
may PinClear None = true
may PinClear (Some t) = false

abbrev few : Option ℕ → Bool
few None = true
few (Some n) = nat_le n 3

abbrev may_name : Activity → Bool
may_name a = may a.category a.ty && few a.set

MayName-from : (c : Category) (t : Option KeyType) → may c t ≡ true → MayName c t
MayName-from Generate t e = tt
MayName-from Import t e = tt
MayName-from Export t e = tt
MayName-from Component t e = tt
MayName-from PinClear None e = refl
MayName-from PinClear (Some t) e = cc

IsNamedSet-from : (n : Option ℕ) → few n ≡ true → IsNamedSet n
IsNamedSet-from None e = tt
IsNamedSet-from (Some n) e = grind (arith, nat_tests)

all_may : list_all may_name activities ≡ true
unfolding activities
all_may = refl

-- the activity that is found is named by the text
found-named : (text : List ℕ) (a : Activity) → activity_of text ≡ Some a → Names text a
unfolding activity_of
found-named text a e =
    let both = find-passes (λ (b : Activity). bytes_eq text (text_of b)) may_name activities a all_may e in
    record {
      typed = MayName-from a.category a.ty (and_left (may a.category a.ty) (few a.set) both.1);
      set = IsNamedSet-from a.set (and_right (may a.category a.ty) (few a.set) both.1);
      written = (bytes_eq-Decides text (text_of a)).0 both.0;
    }

-- the activity that the text names is found, since no other has its text
named-found : (text : List ℕ) (a : Activity) → Names text a → activity_of text ≡ Some a
unfolding activity_of
named-found text a n =
    let there = has a.category a.ty a.place a.set n.set n.typed in
    let some = find-at (λ (b : Activity). bytes_eq text (text_of b)) activities a there.0 there.1 there.2 ((bytes_eq-Decides text (text_of a)).1 n.written) in
    let other = found-named text some.0 some.1 in
    some.1 ∙ ap Some (text_of-injective some.0 a (sym other.written ∙ n.written))

none : (f : Option Activity) → ((a : Activity) → f ≡ Some a → (◌≡◌ {A = Option Activity} None (Some a))) → ◌≡◌ {A = Option Activity} None f
none None h = refl
none (Some a) h = h a refl

-- what answers just the activities that the text names answers the one that is found
pub named-is : (text : List ℕ) (r : Option Activity) → ((a : Activity) → (r ≡ Some a) ↔ Names text a) → r ≡ activity_of text
named-is text (Some a) h = sym (named-found text a ((h a).0 refl))
named-is text None h = none (activity_of text) (λ a e. (h a).1 (found-named text a e))
