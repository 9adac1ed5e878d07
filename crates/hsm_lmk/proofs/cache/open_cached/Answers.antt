use Rattle.std.proofs.Common.{rules, ◌≡◌, ℕ, List, ◌∙◌, Ok, None, refl, sym, subst}
use Rattle.hsm_lmk.specs.Cache.{Agrees, kept_one}
use Rattle.hsm_lmk.specs.Pairs.{set_at}
use Rattle.hsm_lmk.proofs.CacheLaws.{agrees_appended, answers, copy_answers, found_answers, was_found, was_missed}
use Rattle.hsm_lmk.proofs.cache.open_cached.Goals as goal

pub returns-in-Some-clause-value : goal.returns-in-Some-clause-value
returns-in-Some-clause-value c = found_answers _ _ _ _ _ _ _ c.requires.agrees (sym c.in-Some.is ∙ c.find.ensures)

pub returns-in-Some-clause-kept : goal.returns-in-Some-clause-kept
unfolding kept_one
returns-in-Some-clause-kept c = rw (was_found _ _ (sym c.in-Some.is ∙ c.find.ensures), c.count.ensures.ring, c.count.ensures.hits) refl

pub returns-clause-agrees : goal.returns-clause-agrees
returns-clause-agrees c =
    let text_is : c.try_extend_from_slice.new.self.items ≡ c.args.text.now = search rules in
    let opened : c.open.result ≡ Ok c.in_ok-key.key = search rules in
    let under = subst (λ (set : List (List (List ℕ))). answers set c.args.ty c.args.scheme c.args.text.now c.in_ok-key.key) c.set_at.ensures (sym c.open.ensures.value ∙ opened) in
    let is = copy_answers (set_at c.args.sets.now c.args.n) c.args.ty c.args.scheme _ _ _ text_is under in
    subst (λ es. Agrees c.args.sets.now es) (sym c.append.ensures.entries) (agrees_appended _ _ _ _ c.requires.agrees (c.requires.loaded, is))

pub returns-clause-kept : goal.returns-clause-kept
unfolding kept_one
returns-clause-kept c =
    let text_is : c.try_extend_from_slice.new.self.items ≡ c.args.text.now = search rules in
    let none : c.find.result ≡ None = search rules in
    rw (was_missed _ (sym none ∙ c.find.ensures), c.append.ensures.entries, c.append.ensures.hits, text_is) refl
