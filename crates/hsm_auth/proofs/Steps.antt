-- The ledger goes on as the history does.
use Rattle.std.proofs.Common.{◌≡◌, ℕ, ◌+◌, ◌%◌, max, Bool, List, [], ◌∷◌, ◌++◌, Option, Some, None, is_some, length, not, filter, refl, sym, ap, ap₂, subst, ◌∙◌, arith, length-append}
use Rattle.hsm_auth.specs.declared.entry.Grant.{Grant}
use Rattle.hsm_auth.specs.declared.entry.Ask.{Ask}
use Rattle.hsm_auth.specs.declared.entry.Ask.TheVariants.{Use}
use Rattle.hsm_auth.specs.declared.entry.Needs.{Needs}
use Rattle.hsm_auth.specs.declared.entry.Kind.{Kind}
use Rattle.hsm_auth.specs.declared.entry.Kind.TheVariants as kind
use Rattle.hsm_auth.specs.declared.entry.Granted.{Granted}
use Rattle.hsm_auth.specs.declared.entry.Entry.{Entry}
use Rattle.hsm_auth.specs.declared.state.State.{State}
use Rattle.hsm_auth.specs.History.{entry, now, lasts, live, next, recent, ends, given, words_of, kind_of, is_good, answer_from, outcome, StandsFor}
use Rattle.hsm_auth.specs.Steps.{view_of, ComesTo, Answers, Notes, drawn_answer}
use Rattle.hsm_auth.proofs.Histories.{now-push, now-max, live-come, live-push, next-push, recent-push}
use Rattle.circular_buffer.specs.Buffer.{keep_last}

pub steps : (was come done new : State) (h : List Entry) (pass m : ℕ) (ask : Ask) (answer : Granted) → StandsFor (view_of was) h → ComesTo m was come → Answers ask answer come done → Notes (kind_of ask) (is_good answer) done new
    → (answer ≡ outcome h m ask) × StandsFor (view_of new) (h ++ entry pass m ask answer ∷ [])
steps was come done new h pass m ask answer stands comes answers notes =
    let e : Entry = entry pass m ask answer in
    let moment : come.moment ≡ now h m = comes.moment ∙ (ap (λ (k : ℕ). max k m) stands.moment ∙ sym (now-max h m)) in
    let at : max was.moment m ≡ now h m = sym comes.moment ∙ moment in
    let grants : come.grants.items ≡ live h m = comes.grants ∙ (ap₂ (λ (k : ℕ) (gs : List Grant). filter (lasts k) gs) at stands.grants ∙ live-come h m) in
    let place : come.place ≡ next h = comes.place ∙ stands.place in
    let number : come.number ≡ length h % 9223372036854775808 = comes.number ∙ stands.number in
    let kept : come.notes.items ≡ recent h = comes.notes ∙ stands.notes in
    let long : length (h ++ e ∷ []) ≡ length h + 1 = length-append h (e ∷ []) in (
      answers.answered ∙ (λ i. answer_from (moment i) (place i) (grants i) (kept i) ask),
      record {
        moment = notes.moment ∙ (answers.moment ∙ (moment ∙ (now-max h m ∙ sym (now-push h e 0))));
        grants = notes.grants ∙ (answers.grants ∙ ((λ i. filter (λ (g : Grant). not (ends ask answer g.activity)) (grants i) ++ given (moment i) ask answer) ∙ sym (live-push h e)));
        place = notes.place ∙ (answers.place ∙ (ap (λ (k : ℕ). (k + words_of ask answer) % 9223372036854775808) place ∙ sym (next-push h e)));
        number = notes.number ∙ (let a = answers.number in let r : (done.number + 1) % 9223372036854775808 ≡ length (h ++ e ∷ []) % 9223372036854775808 = omega arith in r);
        notes = notes.notes ∙ ((λ i. keep_last 16 ((answers.notes ∙ kept) i ++ record { number = (answers.number ∙ number) i; moment = (answers.moment ∙ moment) i; kind = kind_of ask; good = is_good answer } ∷ [])) ∙ sym (recent-push h e));
      },
    )

-- a note of the same kind, good or not alike
pub noted_as : {k l : Kind} {a b : Bool} {was new : State} → k ≡ l → a ≡ b → Notes k a was new → Notes l b was new
noted_as {k} {l} {a} {b} {was} {new} same alike notes =
    subst (λ (j : Kind). Notes j b was new) same (subst (λ (c : Bool). Notes k c was new) alike notes)

good_drawn : (drawn : Option ℕ) → is_some drawn ≡ is_good (drawn_answer drawn)
good_drawn None = refl
good_drawn (Some first) = refl

-- a step whose ask is `Use`
pub used_steps : (was come done new : State) (h : List Entry) (pass m : ℕ) {ask : Ask} {needs : Needs} {words : ℕ} {good : Bool} {answer : Granted} (drawn : Option ℕ)
    → ask ≡ Use needs words → drawn_answer drawn ≡ answer → good ≡ is_some drawn → StandsFor (view_of was) h → ComesTo m was come
    → Answers (Use needs words) (drawn_answer drawn) come done → Notes kind.Use good done new
    → (answer ≡ outcome h m ask) × StandsFor (view_of new) (h ++ entry pass m ask answer ∷ [])
used_steps was come done new h pass m {ask} {needs} {words} {good} {answer} drawn asked is fine stands comes answers notes =
    steps was come done new h pass m ask answer stands comes
    (subst (λ (a : Ask). Answers a answer come done) (sym asked) (subst (λ (r : Granted). Answers (Use needs words) r come done) is answers))
    (noted_as (ap kind_of (sym asked)) (fine ∙ (good_drawn drawn ∙ ap is_good is)) notes)
