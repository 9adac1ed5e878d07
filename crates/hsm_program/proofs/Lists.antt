-- Lists item by item.
use Rattle.std.proofs.Common.{◌≡◌, ℕ, zero, suc, ◌<◌, List, [], ◌∷◌, length, map, slice_get, slice_index_or, Some, refl, ap, subst, arith}
use Rattle.std.specs.List.{AllZip}

-- what holds at each place of two lists of one length holds of them item by item
pub zip_of_each : {A B : Type 0} (R : A → B → Type 0) (xs : List A) (ys : List B) → length xs ≡ length ys
    → ((k : ℕ) (a : A) (b : B) → slice_get xs k ≡ Some a → slice_get ys k ≡ Some b → R a b) → AllZip R xs ys
zip_of_each R [] [] same each = tt
zip_of_each R [] (b ∷ ys) same each = absurd (omega (arith, same))
zip_of_each R (a ∷ xs) [] same each = absurd (omega (arith, same))
zip_of_each R (a ∷ xs) (b ∷ ys) same each = (each 0 a b refl refl, zip_of_each R xs ys (omega (arith, same)) (λ k c d at there. each (suc k) c d at there))

-- and the other way round
pub each_of_zip : {A B : Type 0} (R : A → B → Type 0) (xs : List A) (ys : List B) → AllZip R xs ys
    → (k : ℕ) (a : A) (b : B) → slice_get xs k ≡ Some a → slice_get ys k ≡ Some b → R a b
each_of_zip R [] ys all k a b at there = absurd (cc)
each_of_zip R (x ∷ xs) [] all k a b at there = absurd all
each_of_zip R (x ∷ xs) (y ∷ ys) all zero a b at there = let e : x ≡ a = cc in let f : y ≡ b = cc in subst (λ (v : _). R v b) e (subst (λ (v : _). R x v) f all.0)
each_of_zip R (x ∷ xs) (y ∷ ys) all (suc k) a b at there = each_of_zip R xs ys all.1 k a b at there

-- a weaker relation
pub zip_map : {A B : Type 0} (R S : A → B → Type 0) (xs : List A) (ys : List B) → ((a : A) (b : B) → R a b → S a b) → AllZip R xs ys → AllZip S xs ys
zip_map R S [] [] weaker all = tt
zip_map R S [] (b ∷ ys) weaker all = absurd all
zip_map R S (a ∷ xs) [] weaker all = absurd all
zip_map R S (a ∷ xs) (b ∷ ys) weaker all = (weaker a b all.0, zip_map R S xs ys weaker all.1)

-- over what is made of the first items
pub zip_of_map : {A B C : Type 0} (f : A → C) (R : A → B → Type 0) (S : C → B → Type 0) (xs : List A) (ys : List B)
    → ((a : A) (b : B) → R a b → S (f a) b) → AllZip R xs ys → AllZip S (map f xs) ys
zip_of_map f R S [] [] made all = tt
zip_of_map f R S [] (b ∷ ys) made all = absurd all
zip_of_map f R S (a ∷ xs) [] made all = absurd all
zip_of_map f R S (a ∷ xs) (b ∷ ys) made all = (made a b all.0, zip_of_map f R S xs ys made all.1)

-- item by item the lists have one length
pub zip_length : {A B : Type 0} (R : A → B → Type 0) (xs : List A) (ys : List B) → AllZip R xs ys → length ys ≡ length xs
zip_length R [] [] all = refl
zip_length R [] (b ∷ ys) all = absurd all
zip_length R (a ∷ xs) [] all = absurd all
zip_length R (a ∷ xs) (b ∷ ys) all = ap suc (zip_length R xs ys all.1)

-- an item that stands at a place lies within the list
pub within : {A : Type 0} (xs : List A) (k : ℕ) (a : A) → slice_get xs k ≡ Some a → k < length xs
within [] k a at = absurd (cc)
within (x ∷ xs) zero a at = omega arith
within (x ∷ xs) (suc k) a at = let h = within xs k a at in omega (arith, h)

-- within the list stands an item
pub item_at : {A : Type 0} (xs : List A) (k : ℕ) → k < length xs → (a : A) × (slice_get xs k ≡ Some a)
item_at [] k less = absurd (omega (arith, less))
item_at (x ∷ xs) zero less = (x, refl)
item_at (x ∷ xs) (suc k) less = item_at xs k (omega (arith, less))

-- what is made of the item at a place stands there in the list of what is made
pub map_at : {A B : Type 0} (f : A → B) (xs : List A) (k : ℕ) (a : A) → slice_get xs k ≡ Some a → slice_get (map f xs) k ≡ Some (f a)
map_at f [] k a at = absurd (cc)
map_at f (x ∷ xs) zero a at = let e : x ≡ a = cc in ap (λ (v : _). Some (f v)) e
map_at f (x ∷ xs) (suc k) a at = map_at f xs k a at

-- the item of which the one at a place was made
pub map_from : {A B : Type 0} (f : A → B) (xs : List A) (k : ℕ) (b : B) → slice_get (map f xs) k ≡ Some b → (a : A) × (slice_get xs k ≡ Some a) × (f a ≡ b)
map_from f [] k b at = absurd (cc)
map_from f (x ∷ xs) zero b at = let e : f x ≡ b = cc in (x, refl, e)
map_from f (x ∷ xs) (suc k) b at = map_from f xs k b at

-- an item by its place, where one stands
pub index_at : {A : Type 0} (xs : List A) (k : ℕ) (d a : A) → slice_get xs k ≡ Some a → slice_index_or xs k d ≡ a
index_at [] k d a at = absurd (cc)
index_at (x ∷ xs) zero d a at = cc
index_at (x ∷ xs) (suc k) d a at = index_at xs k d a at

-- within the list stands the item of the place
pub stands_at : {A : Type 0} (xs : List A) (k : ℕ) (d : A) → k < length xs → slice_get xs k ≡ Some (slice_index_or xs k d)
stands_at [] k d less = absurd (omega (arith, less))
stands_at (x ∷ xs) zero d less = refl
stands_at (x ∷ xs) (suc k) d less = stands_at xs k d (omega (arith, less))
