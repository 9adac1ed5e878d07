-- What one more entry makes of what a history says.
use Rattle.std.proofs.Common.{◌≡◌, ℕ, ◌+◌, ◌*◌, ◌%◌, ◌≤◌, max, Bool, true, false, cond, not, ◌&&◌, ◌||◌, List, [], ◌∷◌, ◌++◌, filter, refl, sym, ap, ap₂, ◌∙◌, arith, append-nil, append_assoc}
use Rattle.std.specs.Prelude.{sum_by, nat_lt, ◌==◌}
use Rattle.std.proofs.lemmas.List.Folds.{list_any-append}
use Rattle.std.proofs.lemmas.List.Elements.{filter-append}
use Rattle.std.proofs.lemmas.List.Sums.{sum_by-append}
use Rattle.std.proofs.lemmas.Bool.Decides.{nat_tests}
use Rattle.hsm_auth.specs.declared.activity.Activity.{Activity}
use Rattle.hsm_auth.specs.declared.entry.Grant.{Grant}
use Rattle.hsm_auth.specs.declared.entry.Note.{Note}
use Rattle.hsm_auth.specs.declared.entry.Ask.{Ask}
use Rattle.hsm_auth.specs.declared.entry.Ask.TheVariants.{Use, Authorise, Cancel, CancelAll, Look, Recent}
use Rattle.hsm_auth.specs.declared.entry.Granted.{Granted}
use Rattle.hsm_auth.specs.declared.entry.Entry.{Entry}
use Rattle.hsm_auth.specs.History.{now, is_authorised, end_of, grant, given, ends, is_ended, unended, lasts, live, words_of, next, note_of, notes_of, recent}
use Rattle.hsm_auth.proofs.Filters.{filter-same, filter-true, filter-filter, filter-comm, filter-not-or, keep_last-push}
use Rattle.circular_buffer.specs.Buffer.{keep_last}

pub now-push : (h : List Entry) (e : Entry) (m : ℕ) → now (h ++ e ∷ []) m ≡ max (now h m) e.moment
now-push [] e m = omega arith
now-push (x ∷ xs) e m = let r = now-push xs e m in omega arith

-- the greatest moment, whatever it begins from
pub now-max : (h : List Entry) (m : ℕ) → now h m ≡ max (now h 0) m
now-max [] m = omega arith
now-max (x ∷ xs) m = let r = now-max xs m in omega arith

-- the grants that the entry does not end
abbrev pub left_by : Entry → List Grant → List Grant
left_by e gs = filter (λ (g : Grant). not (ends e.ask e.granted g.activity)) gs

abbrev given_at : List Entry → Entry → List Grant
given_at before e = given (now before e.moment) e.ask e.granted

is_ended-push : (a : Activity) (es : List Entry) (e : Entry) → is_ended a (es ++ e ∷ []) ≡ is_ended a es || ends e.ask e.granted a
is_ended-push a es e = list_any-append (λ (x : Entry). ends x.ask x.granted a) es (e ∷ []) ∙ ap (λ (b : Bool). is_ended a es || b) (or-false (ends e.ask e.granted a))
  where
    or-false : (b : Bool) → b || false ≡ b
    or-false true = refl
    or-false false = refl

pub unended-push : (before es : List Entry) (e : Entry) → unended before (es ++ e ∷ []) ≡ left_by e (unended before es) ++ given_at (before ++ es) e
unended-push before [] e =
    append-nil (filter (λ _. true) (given_at before e)) ∙ (filter-true (given_at before e) ∙ ap (λ (b : List Entry). given_at b e) (sym (append-nil before)))
unended-push before (x ∷ es) e =
    let opened : List Grant = given_at before x in
    let first : filter (λ (g : Grant). not (is_ended g.activity (es ++ e ∷ []))) opened ≡ left_by e (filter (λ (g : Grant). not (is_ended g.activity es)) opened)
    = filter-same (λ (g : Grant). not (is_ended g.activity (es ++ e ∷ []))) (λ (g : Grant). not (is_ended g.activity es || ends e.ask e.granted g.activity)) (λ g. ap not (is_ended-push g.activity es e)) opened
    ∙ filter-not-or (λ (g : Grant). is_ended g.activity es) (λ (g : Grant). ends e.ask e.granted g.activity) opened in
    let rest = unended-push (before ++ x ∷ []) es e in
    let a : List Grant = filter (λ (g : Grant). not (is_ended g.activity es)) opened in
    let b : List Grant = unended (before ++ x ∷ []) es in
    let both : left_by e (a ++ b) ≡ left_by e a ++ left_by e b = filter-append (λ (g : Grant). not (ends e.ask e.granted g.activity)) a b in
    ap₂ (λ (u v : List Grant). u ++ v) first rest
    ∙ (sym (append_assoc (left_by e a) (left_by e b) (given_at ((before ++ x ∷ []) ++ es) e))
    ∙ ap₂ (λ (u : List Grant) (v : List Entry). u ++ given_at v e) (sym both) (append_assoc before (x ∷ []) es))

and-false : (b : Bool) → b && false ≡ false
and-false true = refl
and-false false = refl

or-true : (b : Bool) → b || true ≡ true
or-true true = refl
or-true false = refl

-- a grant that lasts at a moment lasted at each earlier one
lasts-earlier : (m n : ℕ) → m ≤ n → (g : Grant) → lasts m g && lasts n g ≡ lasts n g
lasts-earlier m n le g = earlier (g.end == 0) (nat_lt n g.end) refl
  where
    earlier : (a b : Bool) → nat_lt n g.end ≡ b → (a || nat_lt m g.end) && (a || b) ≡ a || b
    earlier true b e = refl
    earlier false true e = let t : nat_lt m g.end ≡ true = grind (arith, nat_tests) in ap (λ (x : Bool). x && true) t
    earlier false false e = and-false (nat_lt m g.end)

given-lasts : (m : ℕ) (ask : Ask) (answer : Granted) → filter (lasts m) (given m ask answer) ≡ given m ask answer
given-lasts m (Use needs words) answer = refl
given-lasts m (Authorise activity minutes) answer = one (is_authorised answer)
  where
    end-lasts : (b : Bool) → (minutes == 0) ≡ b → lasts m (grant activity (cond b 0 (m + 60 * minutes))) ≡ true
    end-lasts true e = refl
    end-lasts false e = let t : nat_lt m (m + 60 * minutes) ≡ true = grind (arith, nat_tests) in ap (λ (x : Bool). ((m + 60 * minutes) == 0) || x) t ∙ or-true ((m + 60 * minutes) == 0)

    one : (b : Bool) → filter (lasts m) (cond b (grant activity (end_of m minutes) ∷ []) []) ≡ cond b (grant activity (end_of m minutes) ∷ []) []
    one true = ap (λ (x : Bool). cond x (grant activity (end_of m minutes) ∷ []) []) (end-lasts (minutes == 0) refl)
    one false = refl
given-lasts m (Cancel activity) answer = refl
given-lasts m CancelAll answer = refl
given-lasts m Look answer = refl
given-lasts m Recent answer = refl

-- as the moment comes, the grants go whose end is come
pub live-come : (h : List Entry) (m : ℕ) → filter (lasts (now h m)) (live h 0) ≡ live h m
live-come h m =
    let le : now h 0 ≤ now h m = let e = now-max h m in omega arith in
    filter-filter (lasts (now h m)) (lasts (now h 0)) (unended [] h)
    ∙ filter-same (λ (g : Grant). lasts (now h 0) g && lasts (now h m) g) (lasts (now h m)) (lasts-earlier (now h 0) (now h m) le) (unended [] h)

pub live-push : (h : List Entry) (e : Entry) → live (h ++ e ∷ []) 0 ≡ left_by e (live h e.moment) ++ given_at h e
live-push h e =
    let moment : now (h ++ e ∷ []) 0 ≡ now h e.moment = now-push h e 0 ∙ sym (now-max h e.moment) in
    let m : ℕ = now h e.moment in
    let u : List Grant = unended [] h in
    ap₂ (λ (k : ℕ) (gs : List Grant). filter (lasts k) gs) moment (unended-push [] h e)
    ∙ (filter-append (lasts m) (left_by e u) (given_at h e)
    ∙ ap₂ (λ (x y : List Grant). x ++ y) (filter-comm (lasts m) (λ (g : Grant). not (ends e.ask e.granted g.activity)) u) (given-lasts m e.ask e.granted))

pub next-push : (h : List Entry) (e : Entry) → next (h ++ e ∷ []) ≡ (next h + words_of e.ask e.granted) % 9223372036854775808
next-push h e =
    let f : Entry → ℕ = λ x. words_of x.ask x.granted in
    let s : ℕ = sum_by f h in
    let w : ℕ = words_of e.ask e.granted in
    let sum : sum_by f (h ++ e ∷ []) ≡ s + (0 + w) = sum_by-append f h (e ∷ []) in
    ap (λ (k : ℕ). k % 9223372036854775808) sum ∙ (let r : (s + (0 + w)) % 9223372036854775808 ≡ (s % 9223372036854775808 + w) % 9223372036854775808 = omega arith in r)

notes_of-push : (before es : List Entry) (e : Entry) → notes_of before (es ++ e ∷ []) ≡ notes_of before es ++ note_of (before ++ es) e ∷ []
notes_of-push before [] e = ap (λ (b : List Entry). note_of b e ∷ []) (sym (append-nil before))
notes_of-push before (x ∷ es) e =
    ap (λ (ns : List Note). note_of before x ∷ ns) (notes_of-push (before ++ x ∷ []) es e ∙ ap (λ (b : List Entry). notes_of (before ++ x ∷ []) es ++ note_of b e ∷ []) (append_assoc before (x ∷ []) es))

pub recent-push : (h : List Entry) (e : Entry) → recent (h ++ e ∷ []) ≡ keep_last 16 (recent h ++ note_of h e ∷ [])
recent-push h e = ap (keep_last 16) (notes_of-push [] h e) ∙ sym (keep_last-push 16 (notes_of [] h) (note_of h e))
