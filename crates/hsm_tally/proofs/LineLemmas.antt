-- What one more byte does to the lines of a text.
use Rattle.std.proofs.Common.{◌≡◌, ◌<◌, ◌≤◌, ◌+◌, ◌-◌, ◌^◌, ◌∙◌, ◌++◌, ◌∷◌, [], ℕ, zero, suc, min, List, length, take, drop, inl, inr, Bool, true, false, ◌&&◌, ◌||◌, cond, eqb, ltb, not, refl, sym, ap, ap₂, subst, arith, bytes_eq, count_by, codes}
use Rattle.std.specs.List.{onto_first}
use Rattle.std.proofs.lemmas.Bool.{cases_Bool, ltb-true, ltb-false}
use Rattle.std.proofs.lemmas.List.{take_all, take-append-le, length-take-le, drop-take}
use Rattle.std.proofs.lemmas.List.Splits.{length-slice_split}
use Rattle.std.proofs.lemmas.List.Sums.{sum_by-append}
use Rattle.hsm_tally.specs.Replies.{all_but_last, last_part, parts, whole_lines, unfinished_line, begins, is_reply, is_ok, is_other, ok_count, other_count, capped}
use Rattle.hsm_tally.specs.Tallies.{LinesState, Counts}

-- ---- the parts of a text with one more byte

-- the byte at the end of the last part
onto_last : ℕ → List (List ℕ) → List (List ℕ)
onto_last b [] = (b ∷ []) ∷ []
onto_last b (p ∷ []) = (p ++ b ∷ []) ∷ []
onto_last b (p ∷ q ∷ more) = p ∷ onto_last b (q ∷ more)

some_parts : (text : List ℕ) → 0 < length (parts text)
some_parts text = omega (arith, length-slice_split (λ b. eqb b 10) text)

first_and_end : (x : ℕ) (ps : List (List ℕ)) → 0 < length ps → onto_first x (ps ++ [] ∷ []) ≡ onto_first x ps ++ [] ∷ []
first_and_end x [] h = absurd (omega (arith, h))
first_and_end x (p ∷ ps) h = refl

first_and_last : (x b : ℕ) (ps : List (List ℕ)) → 0 < length ps → onto_first x (onto_last b ps) ≡ onto_last b (onto_first x ps)
unfolding onto_last
first_and_last x b [] h = absurd (omega (arith, h))
first_and_last x b (p ∷ []) h = refl
first_and_last x b (p ∷ q ∷ more) h = refl

last_and_cons : (b : ℕ) (p : List ℕ) (ps : List (List ℕ)) → 0 < length ps → p ∷ onto_last b ps ≡ onto_last b (p ∷ ps)
unfolding onto_last
last_and_cons b p [] h = absurd (omega (arith, h))
last_and_cons b p (q ∷ more) h = refl

parts_ended : (text : List ℕ) → parts (text ++ 10 ∷ []) ≡ parts text ++ [] ∷ []
parts_ended [] = refl
parts_ended (x ∷ xs) = by (eqb x 10) (parts_ended xs)
  where
    by : (b : Bool) → parts (xs ++ 10 ∷ []) ≡ parts xs ++ [] ∷ []
        → cond b ([] ∷ parts (xs ++ 10 ∷ [])) (onto_first x (parts (xs ++ 10 ∷ []))) ≡ cond b ([] ∷ parts xs) (onto_first x (parts xs)) ++ [] ∷ []
    by true rest = ap (λ (ps : List (List ℕ)). [] ∷ ps) rest
    by false rest = ap (onto_first x) rest ∙ first_and_end x (parts xs) (some_parts xs)

parts_more : (text : List ℕ) (c : ℕ) → eqb c 10 ≡ false → parts (text ++ c ∷ []) ≡ onto_last c (parts text)
unfolding onto_last
parts_more [] c e = ap (λ (b : Bool). cond b ([] ∷ [] ∷ []) ((c ∷ []) ∷ [])) e
parts_more (x ∷ xs) c e = by (eqb x 10) (parts_more xs c e)
  where
    by : (b : Bool) → parts (xs ++ c ∷ []) ≡ onto_last c (parts xs)
        → cond b ([] ∷ parts (xs ++ c ∷ [])) (onto_first x (parts (xs ++ c ∷ []))) ≡ onto_last c (cond b ([] ∷ parts xs) (onto_first x (parts xs)))
    by true rest = ap (λ (ps : List (List ℕ)). [] ∷ ps) rest ∙ last_and_cons c [] (parts xs) (some_parts xs)
    by false rest = ap (onto_first x) rest ∙ first_and_last x c (parts xs) (some_parts xs)

whole_of_ended : (ps : List (List ℕ)) → 0 < length ps → all_but_last (ps ++ [] ∷ []) ≡ all_but_last ps ++ last_part ps ∷ []
whole_of_ended [] h = absurd (omega (arith, h))
whole_of_ended (p ∷ []) h = refl
whole_of_ended (p ∷ q ∷ more) h = ap (λ (ps : List (List ℕ)). p ∷ ps) (whole_of_ended (q ∷ more) (omega arith))

last_of_ended : (ps : List (List ℕ)) → last_part (ps ++ [] ∷ []) ≡ []
last_of_ended [] = refl
last_of_ended (p ∷ []) = refl
last_of_ended (p ∷ q ∷ more) = last_of_ended (q ∷ more)

whole_of_more : (b : ℕ) (ps : List (List ℕ)) → all_but_last (onto_last b ps) ≡ all_but_last ps
unfolding onto_last
whole_of_more b [] = refl
whole_of_more b (p ∷ []) = refl
whole_of_more b (p ∷ q ∷ []) = refl
whole_of_more b (p ∷ q ∷ r ∷ more) = ap (λ (ps : List (List ℕ)). p ∷ ps) (whole_of_more b (q ∷ r ∷ more))

last_of_more : (b : ℕ) (ps : List (List ℕ)) → last_part (onto_last b ps) ≡ last_part ps ++ b ∷ []
unfolding onto_last
last_of_more b [] = refl
last_of_more b (p ∷ []) = refl
last_of_more b (p ∷ q ∷ []) = refl
last_of_more b (p ∷ q ∷ r ∷ more) = last_of_more b (q ∷ r ∷ more)

-- ---- the kind of a line, from its first 23 bytes

take_within : {X : Type 0} (n m : ℕ) (xs : List X) → n ≤ m → take n (take m xs) ≡ take n xs
take_within zero m xs h = refl
take_within (suc n) zero xs h = absurd (omega (arith, h))
take_within (suc n) (suc m) [] h = refl
take_within {X} (suc n) (suc m) (x ∷ xs) h = ap (λ (ys : List X). x ∷ ys) (take_within n m xs (omega (arith, h)))

begins_front : (line text : List ℕ) → length text ≤ 23 → begins (take 23 line) text ≡ begins line text
begins_front line text h = ap (λ (front : List ℕ). bytes_eq front text) (take_within (length text) 23 line h)

begins_code : (line : List ℕ) → begins (drop 16 (drop 3 (take 23 line))) (codes "3030") ≡ begins (drop 16 (drop 3 line)) (codes "3030")
begins_code line =
    let at : drop 16 (drop 3 (take 23 line)) ≡ take 4 (drop 16 (drop 3 line)) = ap (drop 16) (drop-take 3 20 line) ∙ drop-take 16 4 (drop 3 line) in
    ap (λ (code : List ℕ). bytes_eq (take 4 code) (codes "3030")) at
    ∙ ap (λ (front : List ℕ). bytes_eq front (codes "3030")) (take_within 4 4 (drop 16 (drop 3 line)) (omega arith))

ok_front : (line : List ℕ) → is_ok (take 23 line) ≡ is_ok line
ok_front line =
    ap₂ (λ (a b : Bool). a || b) (begins_front line (codes "C OK") (omega arith))
    (ap₂ (λ (a b : Bool). a && b) (begins_front line (codes "L1 ") (omega arith)) (begins_code line))

reply_front : (line : List ℕ) → is_reply (take 23 line) ≡ is_reply line
reply_front line = ap₂ (λ (a b : Bool). a || b) (begins_front line (codes "C") (omega arith)) (begins_front line (codes "L1") (omega arith))

other_front : (line : List ℕ) → is_other (take 23 line) ≡ is_other line
other_front line = ap₂ (λ (a b : Bool). a && not b) (reply_front line) (ok_front line)

more_front : (line : List ℕ) (b : ℕ) → take 23 (take 23 line ++ b ∷ []) ≡ take 23 (line ++ b ∷ [])
more_front line b =
    elim (cases_Bool (ltb (length line) 23)) [
      | inl short ↦
          let within : length line ≤ 23 = omega (arith, ltb-true (length line) 23 short) in
          ap (λ (front : List ℕ). take 23 (front ++ b ∷ [])) (take_all 23 line within)
      | inr long ↦
          let all : 23 ≤ length line = omega (arith, ltb-false (length line) 23 long) in
          let front : 23 ≤ length (take 23 line) = omega (arith, length-take-le 23 line all) in
          take-append-le 23 (take 23 line) (b ∷ []) front ∙ take_within 23 23 line (omega arith) ∙ sym (take-append-le 23 line (b ∷ []) all)
    ]

-- ---- the counts

one_up : (b : Bool) (count now n : ℕ) → count ≡ capped n → now ≡ cond b (min (count + 1) (2 ^ 64 - 1)) count → now ≡ capped (n + cond b 1 0)
one_up true count now n e is = omega (arith, e, is)
one_up false count now n e is = omega (arith, e, is)

count_ended : (p : List ℕ → Bool) (text : List ℕ) → count_by p (whole_lines (text ++ 10 ∷ [])) ≡ count_by p (whole_lines text) + cond (p (unfinished_line text)) 1 0
count_ended p text =
    let f : List ℕ → ℕ = λ x. cond (p x) 1 0 in
    let lines : whole_lines (text ++ 10 ∷ []) ≡ whole_lines text ++ unfinished_line text ∷ [] =
    ap all_but_last (parts_ended text) ∙ whole_of_ended (parts text) (some_parts text) in
    ap (count_by p) lines ∙ sum_by-append f (whole_lines text) (unfinished_line text ∷ []) ∙ omega arith

-- a line that ends is counted by its kind
pub ended : (before : LinesState) (ok other ok' other' : ℕ) (begun begun' : List ℕ) → record { ok = ok; other = other; begun = begun } ≡ before
    → ok' ≡ cond (is_ok begun) (min (ok + 1) (2 ^ 64 - 1)) ok → other' ≡ cond (is_other begun) (min (other + 1) (2 ^ 64 - 1)) other → begun' ≡ []
    → (text : List ℕ) → Counts before text → Counts (record { ok = ok'; other = other'; begun = begun' }) (text ++ 10 ∷ [])
ended before ok other ok' other' begun begun' was is_ok' is_other' is_begun text h =
    let had = subst (λ (l : LinesState). Counts l text) (sym was) h in
    let good : is_ok begun ≡ is_ok (unfinished_line text) = ap is_ok had.begun ∙ ok_front (unfinished_line text) in
    let bad : is_other begun ≡ is_other (unfinished_line text) = ap is_other had.begun ∙ other_front (unfinished_line text) in
    record {
      ok = one_up (is_ok (unfinished_line text)) ok ok' (ok_count text) had.ok (is_ok' ∙ ap (λ (b : Bool). cond b (min (ok + 1) (2 ^ 64 - 1)) ok) good)
          ∙ sym (ap capped (count_ended is_ok text));
      other = one_up (is_other (unfinished_line text)) other other' (other_count text) had.other (is_other' ∙ ap (λ (b : Bool). cond b (min (other + 1) (2 ^ 64 - 1)) other) bad)
          ∙ sym (ap capped (count_ended is_other text));
      begun = is_begun ∙ sym (ap (take 23) (ap last_part (parts_ended text) ∙ last_of_ended (parts text)));
    }

-- a byte that does not end the line is appended to it
pub added : (before : LinesState) (ok other c : ℕ) (begun begun' : List ℕ) → record { ok = ok; other = other; begun = begun } ≡ before
    → eqb c 10 ≡ false → begun' ≡ take 23 (begun ++ c ∷ [])
    → (text : List ℕ) → Counts before text → Counts (record { ok = ok; other = other; begun = begun' }) (text ++ c ∷ [])
added before ok other c begun begun' was inside is text h =
    let had = subst (λ (l : LinesState). Counts l text) (sym was) h in
    let lines : whole_lines (text ++ c ∷ []) ≡ whole_lines text = ap all_but_last (parts_more text c inside) ∙ whole_of_more c (parts text) in
    let rest : unfinished_line (text ++ c ∷ []) ≡ unfinished_line text ++ c ∷ [] = ap last_part (parts_more text c inside) ∙ last_of_more c (parts text) in
    record {
      ok = had.ok ∙ sym (ap (λ (ls : List (List ℕ)). capped (count_by is_ok ls)) lines);
      other = had.other ∙ sym (ap (λ (ls : List (List ℕ)). capped (count_by is_other ls)) lines);
      begun = is ∙ ap (λ (front : List ℕ). take 23 (front ++ c ∷ [])) had.begun ∙ more_front (unfinished_line text) c ∙ sym (ap (take 23) rest);
    }
