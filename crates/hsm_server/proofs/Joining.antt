-- What two runs of entries, one after the other, come to.
use Rattle.std.proofs.Common.{◌≡◌, ℕ, zero, suc, ◌<◌, ◌≤◌, ◌⊎◌, List, [], ◌∷◌, ◌++◌, length, slice_get, Option, Some, refl, sym, ap, ◌∙◌, inl, inr, append_assoc, append-nil, false, arith}
use Rattle.std.proofs.lemmas.Bool.{cases_lt}
use Rattle.circular_buffer.proofs.Places.{slice_get-append_left}
use Rattle.hsm_auth.specs.declared.entry.Entry.{Entry}
use Rattle.hsm_auth.specs.Own.{own}
use Rattle.hsm_desk.specs.Kin.{Spans, first_pair}
use Rattle.hsm_desk.specs.Passes.{PassView, Makes, Sound, number}
use Rattle.hsm_io.specs.Moments.{tick, after_now, after_calls}
use Rattle.hsm_session.specs.Connections.{AskClock, AuthoriseNothing, HaveMoments, last_moment, asks_authorisation}

-- no entry was made yet
pub makes_none : (p : PassView) → Sound p → Makes p p []
makes_none p sound = record {
  desk = refl;
  kin = refl;
  begins = ([], append-nil p.seen);
  own = sym (append-nil (own (number p) p.seen));
  apart = λ k e past at. absurd (past_end p.seen k e past at);
  sound = sound;
}
  where
    past_end : (xs : List Entry) (k : ℕ) (e : Entry) → length xs ≤ k → slice_get xs k ≡ Some e → ⊥
    past_end [] k e past at = cc
    past_end (x ∷ xs) zero e past at = omega (arith, past)
    past_end (x ∷ xs) (suc k) e past at = past_end xs k e (omega (arith, past)) at

-- first these entries, then those
pub makes_both : (p q r : PassView) (xs ys : List (ℕ × Entry)) → Makes p q xs → Makes q r ys → Makes p r (xs ++ ys)
makes_both p q r xs ys m n =
    let same : number q ≡ number p = ap (λ (kin : List (ℕ × ℕ)). (first_pair kin).0) m.kin in
    record {
      desk = n.desk ∙ m.desk;
      kin = n.kin ∙ m.kin;
      begins = (
        m.begins.0 ++ n.begins.0,
        sym (append_assoc p.seen m.begins.0 n.begins.0) ∙ ap (λ (front : List Entry). front ++ n.begins.0) m.begins.1 ∙ n.begins.1,
      );
      own =
          ap (λ (k : ℕ). own k r.seen) (sym same)
          ∙ n.own
          ∙ ap (λ (k : ℕ). own k q.seen ++ ys) same
          ∙ ap (λ (front : List (ℕ × Entry)). front ++ ys) m.own
          ∙ append_assoc (own (number p) p.seen) xs ys;
      apart = λ k e past at j pair there covers. by_place k e past at j pair there covers (cases_lt k (length q.seen));
      sound = n.sound;
    }
  where
    by_place : (k : ℕ) (e : Entry) → length p.seen ≤ k → slice_get r.seen k ≡ Some e → (j : ℕ) (pair : ℕ × ℕ) → slice_get p.kin j ≡ Some pair → Spans pair e.pass
        → (k < length q.seen) ⊎ (length q.seen ≤ k) → e.pass ≡ number p
    by_place k e past at j pair there covers (inl less) =
        m.apart k e past (sym (slice_get-append_left q.seen n.begins.0 k less) ∙ ap (λ (h : List Entry). slice_get h k) n.begins.1 ∙ at) j pair there covers
    by_place k e past at j pair there covers (inr more) =
        n.apart k e more at j pair (ap (λ (kin : List (ℕ × ℕ)). slice_get kin j) m.kin ∙ there) covers
        ∙ ap (λ (kin : List (ℕ × ℕ)). (first_pair kin).0) m.kin

tick_later : (moments : List ℕ) (i : ℕ) → tick (after_now moments) i ≡ tick moments (suc i)
tick_later [] i = refl
tick_later (m ∷ []) i = refl
tick_later (m ∷ n ∷ ms) i = refl

have_both : (c : List ℕ) (xs ys : List (ℕ × Entry)) → HaveMoments c xs → HaveMoments (after_calls (length xs) c) ys
    → (i : ℕ) (placed : ℕ × Entry) → slice_get (xs ++ ys) i ≡ Some placed → placed.1.moment ≡ tick c i
have_both c [] ys a b i placed at = b i placed at
have_both c (x ∷ xs) ys a b zero placed at = a zero placed at
have_both c (x ∷ xs) ys a b (suc i) placed at =
    have_both (after_now c) xs ys (λ j p there. a (suc j) p there ∙ sym (tick_later c j)) b i placed at ∙ tick_later c i

calls_both : (c : List ℕ) (xs ys : List (ℕ × Entry)) → after_calls (length ys) (after_calls (length xs) c) ≡ after_calls (length (xs ++ ys)) c
calls_both c [] ys = refl
calls_both c (x ∷ xs) ys = calls_both (after_now c) xs ys

last_both : (moment : ℕ) (xs ys : List (ℕ × Entry)) → last_moment (last_moment moment xs) ys ≡ last_moment moment (xs ++ ys)
last_both moment [] ys = refl
last_both moment (x ∷ xs) ys = last_both x.1.moment xs ys

pub clock_none : (last : ℕ) (moments : Option (List ℕ)) → AskClock last last moments moments []
clock_none last moments = record { last = refl; told = λ c is. (λ i placed at. absurd (cc), is) }

pub clock_both : (start last now : ℕ) (before between after : Option (List ℕ)) (xs ys : List (ℕ × Entry))
    → AskClock start last before between xs → AskClock last now between after ys → AskClock start now before after (xs ++ ys)
clock_both start last now before between after xs ys a b = record {
  last = b.last ∙ ap (λ (moment : ℕ). last_moment moment ys) a.last ∙ last_both start xs ys;
  told = λ c given.
      let t = a.told c given in
      let u = b.told (after_calls (length xs) c) t.1 in
      (have_both c xs ys t.0 u.0, u.1 ∙ ap (λ (ms : List ℕ). Some ms) (calls_both c xs ys));
}

pub nothing_both : (xs ys : List (ℕ × Entry)) → AuthoriseNothing xs → AuthoriseNothing ys
    → (i : ℕ) (placed : ℕ × Entry) → slice_get (xs ++ ys) i ≡ Some placed → asks_authorisation placed.1.ask ≡ false
nothing_both [] ys a b i placed at = b i placed at
nothing_both (x ∷ xs) ys a b zero placed at = a zero placed at
nothing_both (x ∷ xs) ys a b (suc i) placed at = nothing_both xs ys (λ j p there. a (suc j) p there) b i placed at
