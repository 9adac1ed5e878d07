-- One step of reading.
use Rattle.std.proofs.Common.{◌≡◌, ℕ, Bool, true, false, ◌<◌, ◌≤◌, ◌+◌, List, [], ◌∷◌, ◌++◌, length, drop, get_or, Some, None, slice_range, drop-cons, add-one, Err, Ok}
use Rattle.std.proofs.lemmas.List.{drop_all}
use Rattle.hsm_rows.specs.declared.row.Field.{Field}
use Rattle.hsm_rows.specs.declared.read.Spot.{Spot}
use Rattle.hsm_rows.specs.Reading.{read_on, spot_of, is_ending}

-- what is read on where no text of the next field stands
pub read_none : (c : Bool) (f : Field) (fs : List Field) (e : List (List ℕ)) (text : List ℕ) → spot_of c f.form e text ≡ None → read_on c (f ∷ fs) e text ≡ Err f.code
unfolding read_on
read_none c f fs e text h = rw (h, read_on)

-- and where one stands
pub read_some : (c : Bool) (f : Field) (fs : List Field) (e : List (List ℕ)) (text : List ℕ) (s : Spot) → spot_of c f.form e text ≡ Some s
    → read_on c (f ∷ fs) e text ≡ read_on c fs (e ++ slice_range text s.from s.to ∷ []) (drop s.to text)
unfolding read_on
read_some c f fs e text s h = rw (h, read_on)

pub read_end_good : (c : Bool) (e : List (List ℕ)) (text : List ℕ) → is_ending c text ≡ true → read_on c [] e text ≡ Ok (record { texts = e; ending = text })
unfolding read_on
read_end_good c e text h = rw h

pub read_end_bad : (c : Bool) (e : List (List ℕ)) (text : List ℕ) → is_ending c text ≡ false → read_on c [] e text ≡ Err (record { 0 = 15 })
unfolding read_on
read_end_bad c e text h = rw h

-- the same at an index of the fields
pub step_none : (c : Bool) (fs : List Field) (i : ℕ) (d : Field) (e : List (List ℕ)) (rest : List ℕ) → i < length fs → spot_of c (get_or fs i d).form e rest ≡ None
    → read_on c (drop i fs) e rest ≡ Err (get_or fs i d).code
unfolding read_on
step_none c fs i d e rest h n = rw (drop-cons fs i d h, n, read_on)

pub step_some : (c : Bool) (fs : List Field) (i : ℕ) (d : Field) (e : List (List ℕ)) (rest : List ℕ) (s : Spot) → i < length fs → spot_of c (get_or fs i d).form e rest ≡ Some s
    → read_on c (drop i fs) e rest ≡ read_on c (drop (i + 1) fs) (e ++ slice_range rest s.from s.to ∷ []) (drop s.to rest)
unfolding read_on
step_some c fs i d e rest s h n = rw (drop-cons fs i d h, n, read_on, add-one)

pub step_end_good : (c : Bool) (fs : List Field) (i : ℕ) (e : List (List ℕ)) (rest : List ℕ) → length fs ≤ i → is_ending c rest ≡ true
    → read_on c (drop i fs) e rest ≡ Ok (record { texts = e; ending = rest })
step_end_good c fs i e rest h n = rw (drop_all i fs h) (read_end_good c e rest n)

pub step_end_bad : (c : Bool) (fs : List Field) (i : ℕ) (e : List (List ℕ)) (rest : List ℕ) → length fs ≤ i → is_ending c rest ≡ false
    → read_on c (drop i fs) e rest ≡ Err (record { 0 = 15 })
step_end_bad c fs i e rest h n = rw (drop_all i fs h) (read_end_bad c e rest n)
