-- Activities: their texts, when two are the same, and when a grant covers a need.
use Rattle.std.specs.Prelude.{◌≡◌, ℕ, ◌+◌, ◌/◌, ◌%◌, ◌≤◌, Bool, ◌&&◌, ◌||◌, ◌==◌, List, [], ◌∷◌, ◌++◌, Option, Some, None, is_none, IfSome, codes, map, flat_map, find}
use Rattle.std.specs.Option.{option_eq}
use Rattle.std.specs.Str.{bytes_eq}
use Rattle.hsm_types.specs.declared.types.KeyType.{KeyType}
use Rattle.hsm_types.specs.KeyTypes.{same_type}
use Rattle.hsm_types.specs.Table.{code_of, types}
use Rattle.hsm_auth.specs.declared.activity.Category.{Category}
use Rattle.hsm_auth.specs.declared.activity.Category.TheVariants.{Generate, Import, Export, Component, PinClear}
use Rattle.hsm_auth.specs.declared.activity.Place.{Place}
use Rattle.hsm_auth.specs.declared.activity.Place.TheVariants.{Host, Console}
use Rattle.hsm_auth.specs.declared.activity.Activity.{Activity}

-- the word of a category
abbrev pub category_text : Category → List ℕ
category_text Generate = codes "generate"
category_text Import = codes "import"
category_text Export = codes "export"
category_text Component = codes "component"
category_text PinClear = codes "pin.clear"

-- a point and the type's code, or nothing
abbrev pub type_text : Option KeyType → List ℕ
type_text None = []
type_text (Some ty) = codes "." ++ code_of ty

-- a point and the place, or nothing
abbrev pub place_text : Option Place → List ℕ
place_text None = []
place_text (Some Host) = codes ".host"
place_text (Some Console) = codes ".console"

-- `.lmk` and the two digits of the set's number, or nothing
abbrev pub set_text : Option ℕ → List ℕ
set_text None = []
set_text (Some n) = codes ".lmk" ++ ((48 + n / 10) ∷ (48 + n % 10) ∷ [])

-- how an activity is printed
abbrev pub text_of : Activity → List ℕ
text_of a = category_text a.category ++ (type_text a.ty ++ (place_text a.place ++ set_text a.set))

-- a set that is named is one of four
abbrev pub IsNamedSet : Option ℕ → Type 0
IsNamedSet set = IfSome set (λ n. n ≤ 3)

-- a type stands in no text of `pin.clear`
abbrev pub MayName : Category → Option KeyType → Type 0
MayName Generate ty = Unit {0}
MayName Import ty = Unit {0}
MayName Export ty = Unit {0}
MayName Component ty = Unit {0}
MayName PinClear ty = ty ≡ None

-- the text names the activity
pub record Names (text : List ℕ) (a : Activity) : Type 0 where
  pub typed : MayName a.category a.ty
  pub set : IsNamedSet a.set
  pub written : text ≡ text_of a

-- categories, numbered
abbrev pub category_number : Category → ℕ
category_number Generate = 0
category_number Import = 1
category_number Export = 2
category_number Component = 3
category_number PinClear = 4

-- places, numbered
abbrev pub place_number : Place → ℕ
place_number Host = 0
place_number Console = 1

-- whether the two are the same category
abbrev pub same_category : Category → Category → Bool
same_category a b = category_number a == category_number b

-- whether the two are the same place
abbrev pub same_place : Place → Place → Bool
same_place a b = place_number a == place_number b

-- whether the two are the same set
abbrev pub same_set : ℕ → ℕ → Bool
same_set a b = a == b

-- whether the two are the same activity: category, type, place and set are
abbrev pub same_activity : Activity → Activity → Bool
same_activity a b =
    same_category a.category b.category
    && (option_eq same_type a.ty b.ty && (option_eq same_place a.place b.place && option_eq same_set a.set b.set))

-- whether a grant covers a need: the categories are equal, the grant's type is equal or not named, and so are its place and its set
abbrev pub covers : Activity → Activity → Bool
covers grant need =
    same_category grant.category need.category
    && ((is_none grant.ty || option_eq same_type grant.ty need.ty)
    && ((is_none grant.place || option_eq same_place grant.place need.place) && (is_none grant.set || option_eq same_set grant.set need.set)))

-- what `covers` tests: the categories are equal, and what the grant names of type, place and set the need names too
pub record Allows (grant need : Activity) : Type 0 where
  pub category : grant.category ≡ need.category
  pub ty : (t : KeyType) → grant.ty ≡ Some t → need.ty ≡ Some t
  pub place : (p : Place) → grant.place ≡ Some p → need.place ≡ Some p
  pub set : (n : ℕ) → grant.set ≡ Some n → need.set ≡ Some n

-- the activity of these parts
abbrev pub activity : Category → Option KeyType → Option Place → Option ℕ → Activity
activity c t p n = record { category = c; ty = t; place = p; set = n }

-- the activities of a category, a type and a place, of any set and of each of the four
abbrev pub at_sets : Category → Option KeyType → Option Place → List Activity
at_sets c t p = activity c t p None ∷ activity c t p (Some 0) ∷ activity c t p (Some 1) ∷ activity c t p (Some 2) ∷ activity c t p (Some 3) ∷ []

-- the activities of a category and a type, at any place, at hosts and at the console
abbrev pub at_places : Category → Option KeyType → List Activity
at_places c t = at_sets c t None ++ (at_sets c t (Some Host) ++ at_sets c t (Some Console))

-- the types that a text may name after a category, with none
abbrev pub any_type : List (Option KeyType)
any_type = None ∷ map Some types

-- the activities of a category, of any type and at any place
abbrev pub of_category : Category → List Activity
of_category c = flat_map (at_places c) any_type

-- all activities that have a text
unfoldable pub activities : List Activity
activities = flat_map of_category (Generate ∷ Import ∷ Export ∷ Component ∷ []) ++ at_places PinClear None

-- the activity that the text names, if there is one
unfoldable pub activity_of : List ℕ → Option Activity
activity_of text = find (λ (a : Activity). bytes_eq text (text_of a)) activities
