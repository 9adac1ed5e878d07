-- No size is more than what is left.
use Rattle.std.proofs.Common.{◌≡◌, ℕ, Bool, true, false, ◌&&◌, ◌+◌, ◌-◌, ◌<◌, ◌≤◌, List, [], ◌∷◌, length, take, drop, Option, Some, None, refl, arith, subst, cond, length-drop, length-take}
use Rattle.std.specs.Prelude.{codes, nat_eq, nat_le}
use Rattle.std.specs.List.{list_all, prefix_len, starts_with}
use Rattle.std.specs.Option.{option_map, option_or}
use Rattle.std.specs.Char.{is_ascii_digit, is_ascii_hexdigit}
use Rattle.std.specs.Str.{bytes_eq}
use Rattle.std.proofs.lemmas.Bool.Decides.{nat_tests}
use Rattle.std.proofs.lemmas.List.Sums.{prefix_len-le-length}
use Rattle.hsm_text.specs.Sizes.{only_if, run_size, take_size, word_size, one_of_size, tagged_size, zut_size, xy_size, key_size, hex_size}
use Rattle.hsm_text.specs.declared.keys.KeyForm.{KeyForm}
use Rattle.hsm_text.specs.declared.keys.KeyForm.TheVariants as key
use Rattle.hsm_rows.specs.declared.row.Form.{Form}
use Rattle.hsm_rows.specs.declared.row.Form.TheVariants as form
use Rattle.hsm_rows.specs.Forms.{size, when, wrapper_size, account_size, filled_size, validation_size, token_size, data_size, is_set_text, set_size, is_no_space, text_at, last_text, hex_value}

-- a size, where there is one, is at most m
abbrev FitsIn : Option ℕ → ℕ → Type 0
FitsIn None m = Unit {0}
FitsIn (Some n) m = n ≤ m

le_holds : (a b : ℕ) → nat_le a b ≡ true → a ≤ b
le_holds a b h = grind (arith, nat_tests)

pub and_left : (a b : Bool) → (a && b) ≡ true → a ≡ true
and_left true b h = refl
and_left false b h = h

pub and_right : (a b : Bool) → (a && b) ≡ true → b ≡ true
and_right true b h = h
and_right false b h = let z : ⊥ = cc in absurd z

only_fits : (b : Bool) (k m : ℕ) → (b ≡ true → k ≤ m) → FitsIn (only_if b k) m
only_fits true k m h = h refl
only_fits false k m h = tt

or_fits : (a b : Option ℕ) (m : ℕ) → FitsIn a m → FitsIn b m → FitsIn (option_or a b) m
or_fits None b m p q = q
or_fits (Some n) b m p q = p

when_fits : (b : Bool) (a : Option ℕ) (m : ℕ) → FitsIn a m → FitsIn (when b a) m
when_fits true a m p = p
when_fits false a m p = omega arith

starts_le : (xs ys : List ℕ) → starts_with nat_eq xs ys ≡ true → length ys ≤ length xs
starts_le xs [] h = omega arith
starts_le [] (y ∷ ys) h = let z : ⊥ = cc in absurd z
starts_le (x ∷ xs) (y ∷ ys) h = let k = starts_le xs ys (and_right (nat_eq y x) (starts_with nat_eq xs ys) h) in omega arith

run_fits : (test : ℕ → Bool) (k : ℕ) (rest : List ℕ) → FitsIn (run_size test k rest) (length rest)
unfolding run_size
run_fits test k rest = only_fits (nat_le k (length rest) && list_all test (take k rest)) k (length rest) (λ h. le_holds k (length rest) (and_left (nat_le k (length rest)) _ h))

take_fits : (k : ℕ) (rest : List ℕ) → FitsIn (take_size k rest) (length rest)
unfolding take_size
take_fits k rest = only_fits (nat_le k (length rest)) k (length rest) (le_holds k (length rest))

word_fits : (w rest : List ℕ) → FitsIn (word_size w rest) (length rest)
unfolding word_size
word_fits w rest = only_fits (starts_with nat_eq rest w) (length w) (length rest) (starts_le rest w)

first_fits : (b : Bool) (k : ℕ) (o : Option ℕ) (m : ℕ) → (b ≡ true → k ≤ m) → FitsIn o m → FitsIn (cond b (Some k) o) m
first_fits true k o m h q = h refl
first_fits false k o m h q = q

one_of_fits : (ts : List (List ℕ)) (rest : List ℕ) → FitsIn (one_of_size ts rest) (length rest)
unfolding one_of_size
one_of_fits [] rest = tt
one_of_fits (t ∷ ts) rest = first_fits (starts_with nat_eq rest t) (length t) (one_of_size ts rest) (length rest) (starts_le rest t) (one_of_fits ts rest)

more_fits : (o : Option ℕ) (m : ℕ) → FitsIn o (m - 1) → 1 ≤ m → FitsIn (option_map (λ k. k + 1) o) m
more_fits None m p h = tt
more_fits (Some n) m p h = omega arith

none_fits : (b : Bool) (o : Option ℕ) (m : ℕ) → (b ≡ true → FitsIn o m) → FitsIn (cond b o None) m
none_fits true o m h = h refl
none_fits false o m h = tt

tagged_fits : (tag : ℕ) (n : ℕ) (rest : List ℕ) → FitsIn (tagged_size (tag ∷ []) n rest) (length rest)
unfolding tagged_size
tagged_fits tag n rest =
    none_fits (starts_with nat_eq rest (tag ∷ [])) _ (length rest)
    (λ h. more_fits (hex_size n (drop 1 rest)) (length rest) (subst (λ x. FitsIn (hex_size n (drop 1 rest)) x) (length-drop 1 rest) (run_fits is_ascii_hexdigit n (drop 1 rest))) (starts_le rest (tag ∷ []) h))

zut_fits : (rest : List ℕ) → FitsIn (zut_size rest) (length rest)
unfolding zut_size
zut_fits rest = or_fits _ _ _ (tagged_fits 90 16 rest) (or_fits _ _ _ (tagged_fits 85 32 rest) (tagged_fits 84 48 rest))

xy_fits : (rest : List ℕ) → FitsIn (xy_size rest) (length rest)
unfolding xy_size
xy_fits rest = or_fits _ _ _ (tagged_fits 88 32 rest) (tagged_fits 89 48 rest)

key_fits : (f : KeyForm) (rest : List ℕ) → FitsIn (key_size f rest) (length rest)
unfolding key_size
key_fits key.K rest = or_fits _ _ _ (run_fits is_ascii_hexdigit 16 rest) (zut_fits rest)
key_fits key.P rest = or_fits _ _ _ (run_fits is_ascii_hexdigit 32 rest) (tagged_fits 85 32 rest)
key_fits key.W rest = or_fits _ _ _ (run_fits is_ascii_hexdigit 16 rest) (or_fits _ _ _ (zut_fits rest) (xy_fits rest))
key_fits key.F0 rest = or_fits _ _ _ (run_fits is_ascii_hexdigit 16 rest) (zut_fits rest)
key_fits key.F1 rest = or_fits _ _ _ (run_fits is_ascii_hexdigit 32 rest) (zut_fits rest)
key_fits key.F2 rest = zut_fits rest

wrapper_fits : (rest : List ℕ) → FitsIn (wrapper_size rest) (length rest)
unfolding wrapper_size
wrapper_fits rest = when_fits (starts_with nat_eq rest (codes ";")) (one_of_size (codes ";0" ∷ codes ";1" ∷ []) rest) (length rest) (one_of_fits (codes ";0" ∷ codes ";1" ∷ []) rest)

account_fits : (rest : List ℕ) → FitsIn (account_size rest) (length rest)
unfolding account_size
account_fits rest =
    let k = prefix_len is_ascii_digit rest in
    only_fits ((nat_le 12 k && nat_le k 19) && starts_with nat_eq (drop k rest) (codes ";")) (k + 1) (length rest)
    (λ h. let a : 1 ≤ length (drop k rest) = starts_le (drop k rest) (codes ";") (and_right (nat_le 12 k && nat_le k 19) _ h) in
    let b : length (drop k rest) ≡ length rest - k = length-drop k rest in
    let p : prefix_len is_ascii_digit rest ≤ length rest = prefix_len-le-length is_ascii_digit rest in
    omega arith)

filled_fits : (k : ℕ) (rest : List ℕ) → FitsIn (filled_size k rest) (length rest)
unfolding filled_size
filled_fits k rest = only_fits (nat_le 12 (length rest) && _) 12 (length rest) (λ h. le_holds 12 (length rest) (and_left (nat_le 12 (length rest)) _ h))

validation_fits : (rest : List ℕ) → FitsIn (validation_size rest) (length rest)
unfolding validation_size
validation_fits rest = only_fits (nat_le 12 (length rest) && _) 12 (length rest) (λ h. le_holds 12 (length rest) (and_left (nat_le 12 (length rest)) _ h))

token_fits : (test : List ℕ → Bool) (rest : List ℕ) → FitsIn (token_size test rest) (length rest)
unfolding token_size
token_fits test rest = only_fits (test (take (prefix_len is_no_space rest) rest)) (prefix_len is_no_space rest) (length rest) (λ h. prefix_len-le-length is_no_space rest)

pub set_long : (t : List ℕ) → is_set_text t ≡ true → length t ≡ 3
unfolding is_set_text
set_long [] h = let z : ⊥ = cc in absurd z
set_long (a ∷ []) h = let z : ⊥ = cc in absurd z
set_long (a ∷ b ∷ []) h = let z : ⊥ = cc in absurd z
set_long (a ∷ b ∷ c ∷ []) h = refl
set_long (a ∷ b ∷ c ∷ d ∷ more) h = let z : ⊥ = cc in absurd z

-- fewer than three bytes name no set
pub set_short : (t : List ℕ) → length t < 3 → is_set_text (take 3 t) ≡ false
unfolding is_set_text
set_short [] h = refl
set_short (a ∷ []) h = refl
set_short (a ∷ b ∷ []) h = refl
set_short (a ∷ b ∷ c ∷ more) h = absurd (omega (arith, h))

set_fits : (rest : List ℕ) → FitsIn (set_size rest) (length rest)
unfolding set_size
set_fits rest = only_fits (is_set_text (take 3 rest)) 3 (length rest) (λ h. omega (arith, set_long (take 3 rest) h, length-take 3 rest))

data_fits : (b : Bool) (n : ℕ) (rest : List ℕ) → FitsIn (data_size b n rest) (length rest)
data_fits true n rest = none_fits _ (hex_size n rest) (length rest) (λ h. run_fits is_ascii_hexdigit n rest)
data_fits false n rest = take_fits n rest

size_fits : (f : Form) (e : List (List ℕ)) (rest : List ℕ) → FitsIn (size f e rest) (length rest)
unfolding size
size_fits form.Digits1 e rest = run_fits is_ascii_digit 1 rest
size_fits form.Digits3 e rest = run_fits is_ascii_digit 3 rest
size_fits form.Digits4 e rest = run_fits is_ascii_digit 4 rest
size_fits form.Digits12 e rest = run_fits is_ascii_digit 12 rest
size_fits form.Digits16 e rest = run_fits is_ascii_digit 16 rest
size_fits form.Hex16 e rest = run_fits is_ascii_hexdigit 16 rest
size_fits form.Key e rest = key_fits key.K rest
size_fits form.Pair e rest = key_fits key.P rest
size_fits form.WrappedKey e rest = key_fits key.W rest
size_fits (form.KeyByFlag flag) e rest = key_fits _ rest
size_fits form.KeyType e rest = one_of_fits _ rest
size_fits form.MacType e rest = one_of_fits _ rest
size_fits form.Type2 e rest = one_of_fits _ rest
size_fits form.Flag e rest = one_of_fits _ rest
size_fits form.Scheme e rest = one_of_fits _ rest
size_fits form.WrapScheme e rest = one_of_fits _ rest
size_fits form.Format e rest = one_of_fits _ rest
size_fits form.Length e rest = one_of_fits _ rest
size_fits form.Wrapper e rest = wrapper_fits rest
size_fits form.Account e rest = account_fits rest
size_fits form.ClearPin e rest = filled_fits _ rest
size_fits (form.Offset check) e rest = filled_fits _ rest
size_fits form.Validation e rest = validation_fits rest
size_fits form.ZeroToOne e rest = one_of_fits _ rest
size_fits form.ZeroToTwo e rest = one_of_fits _ rest
size_fits form.ZeroToThree e rest = one_of_fits _ rest
size_fits form.OneOrThree e rest = one_of_fits _ rest
size_fits form.Count e rest = run_fits is_ascii_hexdigit 4 rest
size_fits form.Data e rest = take_fits _ rest
size_fits (form.DataByInput input) e rest = data_fits (bytes_eq (text_at e input) (codes "1")) (hex_value (last_text e)) rest
size_fits (form.Mode03Mac k) e rest = when_fits _ _ _ (run_fits is_ascii_hexdigit _ rest)
size_fits form.TwoZeros e rest = word_fits _ rest
size_fits (form.FfSemicolon ty) e rest = when_fits _ _ _ (word_fits _ rest)
size_fits (form.FfType ty) e rest = when_fits _ _ _ (one_of_fits _ rest)
size_fits form.Mode1Wrapper e rest = when_fits _ _ _ (wrapper_fits rest)
size_fits form.Mode1Key e rest = when_fits _ _ _ (key_fits key.K rest)
size_fits form.Mode1WrapScheme e rest = when_fits _ _ _ (one_of_fits _ rest)
size_fits form.Mode23Chain e rest = when_fits _ _ _ (run_fits is_ascii_hexdigit 16 rest)
size_fits (form.Component k) e rest = run_fits is_ascii_hexdigit _ rest
size_fits (form.LastComponent k) e rest = run_fits is_ascii_hexdigit _ rest
size_fits form.SetNumber e rest = set_fits rest
size_fits form.Act e rest = token_fits _ rest
size_fits form.ActOrAll e rest = token_fits _ rest
size_fits form.Minutes e rest = token_fits _ rest
size_fits form.Word e rest = token_fits _ rest

fits_by : (o : Option ℕ) (n m : ℕ) → FitsIn o m → o ≡ Some n → n ≤ m
fits_by o n m p h = let P : Option ℕ → Type 0 = λ x. FitsIn x m in subst P h p

pub sizes_fit : (f : Form) (e : List (List ℕ)) (rest : List ℕ) (n : ℕ) → size f e rest ≡ Some n → n ≤ length rest
sizes_fit f e rest n h = fits_by (size f e rest) n (length rest) (size_fits f e rest) h
