-- What is written to a sink in several parts.
use Rattle.std.proofs.Common.{◌≡◌, ℕ, ◌+◌, ◌-◌, List, [], ◌++◌, length, take, drop, refl, sym, ap, ◌∙◌, subst, append_assoc, append-nil}
use Rattle.std.proofs.Math.Seq.{take-add}
use Rattle.std.proofs.lemmas.List.{take-append-drop, take_rest}
use Rattle.hsm_io.specs.Texts.{Appends, AppendsFront, Stays}

-- a text and then another
pub appends_twice : (before mid after : List ℕ → Type 0) (a b : List ℕ) → Appends before mid a → Appends mid after b → Appends before after (a ++ b)
appends_twice before mid after a b p q base h = subst after (append_assoc base a b) (q (base ++ a) (p base h))

-- nothing
pub appends_nothing : (before after : List ℕ → Type 0) → Stays before after → Appends before after []
appends_nothing before after p base h = subst after (sym (append-nil base)) (p base h)

-- a text, after a call that left all as it was
pub stays_appends : (before mid after : List ℕ → Type 0) (a : List ℕ) → Stays before mid → Appends mid after a → Appends before after a
stays_appends before mid after a p q base h = q base (p base h)

-- a text, before a call that left all as it was
pub appends_stays : (before mid after : List ℕ → Type 0) (a : List ℕ) → Appends before mid a → Stays mid after → Appends before after a
appends_stays before mid after a p q base h = q (base ++ a) (p base h)

-- the same text by another name
pub appends_same : (before after : List ℕ → Type 0) (a b : List ℕ) → a ≡ b → Appends before after a → Appends before after b
appends_same before after a b e p = subst (λ (t : List ℕ). Appends before after t) e p

-- the next part of a text, of which the parts up to a place were written
pub appends_next : (before mid after : List ℕ → Type 0) (text : List ℕ) (at n : ℕ) → Appends before mid (take at text)
    → Appends mid after (take n (take (length text - at) (drop at text))) → Appends before after (take (at + n) text)
appends_next before mid after text at n p q' =
    let q : Appends mid after (take n (drop at text)) = λ base h. subst (λ (r : List ℕ). after (base ++ take n r)) (take_rest text at) (q' base h) in
    subst (λ (t : List ℕ). Appends before after t) (sym (take-add at n text)) (appends_twice before mid after (take at text) (take n (drop at text)) p q)

-- what was written up to a place is a part from the front
pub appends_front : (before mid after : List ℕ → Type 0) (text : List ℕ) (at : ℕ) → Appends before mid (take at text) → Stays mid after → AppendsFront before after text
appends_front before mid after text at p stays =
    record { front = take at text; rest = drop at text; whole = sym (take-append-drop at text); appended = λ base h. stays _ (p base h) }

-- nothing is a part from the front of each text
pub front_of_nothing : (before after : List ℕ → Type 0) (text : List ℕ) → Stays before after → AppendsFront before after text
front_of_nothing before after text p = record { front = []; rest = text; whole = refl; appended = appends_nothing before after p }

-- a text is a part from the front of itself and what follows it
pub front_of_whole : (before after : List ℕ → Type 0) (a b : List ℕ) → Appends before after a → AppendsFront before after (a ++ b)
front_of_whole before after a b p = record { front = a; rest = b; whole = refl; appended = p }

-- a part from the front of a text is one of the text and what follows it
pub front_of_more : (before after : List ℕ → Type 0) (a b : List ℕ) → AppendsFront before after a → AppendsFront before after (a ++ b)
front_of_more before after a b p = record {
  front = p.front;
  rest = p.rest ++ b;
  whole = ap (λ (t : List ℕ). t ++ b) p.whole ∙ append_assoc p.front p.rest b;
  appended = p.appended;
}

-- a text, and then a part from the front of another
pub appends_then_front : (before mid after : List ℕ → Type 0) (a b : List ℕ) → Appends before mid a → AppendsFront mid after b → AppendsFront before after (a ++ b)
appends_then_front before mid after a b p q = record {
  front = a ++ q.front;
  rest = q.rest;
  whole = ap (λ (t : List ℕ). a ++ t) q.whole ∙ sym (append_assoc a q.front q.rest);
  appended = appends_twice before mid after a q.front p q.appended;
}
