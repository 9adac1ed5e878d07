-- Messages that are prepared, booked and answered together.
use Rattle.std.proofs.Common.{◌≡◌, ℕ, suc, ◌+◌, ◌-◌, ◌<◌, ◌≤◌, List, [], ◌∷◌, ◌++◌, All, length, map, take, drop, slice_index_or, Option, Some, None, Result, Err, refl, sym, ap, ap₂, subst, ◌∙◌, append_assoc, append-nil, drop-drop, drop_at, length-append, arith}
use Rattle.std.specs.List.{AllByRecursion}
use Rattle.std.proofs.lemmas.List.{length-map, take_more}
use Rattle.std.proofs.lemmas.List.Elements.{All-from_recursion}
use Rattle.hsm_auth.specs.declared.entry.Ask.{Ask}
use Rattle.hsm_auth.specs.History.{CanAsk}
use Rattle.hsm_auth.specs.declared.activity.Place.{Place}
use Rattle.hsm_answers.specs.Messages.{message_answer, least_for}
use Rattle.hsm_desk.specs.declared.desk.Booked.{Booked}
use Rattle.hsm_desk.specs.Passes.{BooksAll, PassAndClock}
use Rattle.hsm_frame.specs.Frames.{frame}
use Rattle.hsm_io.specs.Connections.{Traffic}
use Rattle.hsm_io.specs.Gates.{GateCall, calls_after, calls_before}
use Rattle.hsm_lmk.specs.declared.kept.KeyCache.{KeyCache}
use Rattle.hsm_rows.specs.declared.settings.Module.{Module}
use Rattle.hsm_session.specs.declared.plans.Plan.{Plan}
use Rattle.hsm_session.specs.declared.batch.Behind.{Behind}
use Rattle.hsm_session.specs.declared.replies.LinkFailed.{LinkFailed}
use Rattle.hsm_session.specs.Batches.{AreBookedFor, ArePlansOf, EndsByWrite, GoesOnOrEnds, IsPrepared, Prepares, Stand, answers_of, counted_all, frames_of}
use Rattle.hsm_session.specs.Connections.{Scene, scene}
use Rattle.hsm_session.specs.declared.serving.Count.{Count}
use Rattle.hsm_session.specs.Plans.{plan_ask, plan_kind, plan_message}
use Rattle.hsm_session.specs.Serving.{IsServing, holding, one_more}
use Rattle.hsm_session.proofs.Gating.{gate_more}
use Rattle.hsm_session.proofs.Makings.{WordsAuthorise}
use Rattle.hsm_session.proofs.Talking.{going_at, going_books, going_told, going_untold, without_gate}

-- one more plan
pub prepares_push : (m : Module) (kind : Place) (before : KeyCache) (plans : List Plan) (between : KeyCache) (plan : Plan) (after : KeyCache)
    → Prepares m kind before plans between → IsPrepared m kind between plan after → Prepares m kind before (plans ++ plan ∷ []) after
prepares_push m kind before [] between plan after same last = (after, subst (λ (cache : KeyCache). IsPrepared m kind cache plan after) same last, refl)
prepares_push m kind before (first ∷ plans) between plan after prepared last =
    (prepared.0, prepared.1, prepares_push m kind prepared.0 plans between plan after prepared.2 last)

-- the frame of one more message
frames_push : (plans : List Plan) (plan : Plan) → frames_of (plans ++ plan ∷ []) ≡ frames_of plans ++ frame (plan_message plan)
frames_push [] plan = append-nil (frame (plan_message plan))
frames_push (first ∷ plans) plan =
    ap (λ (rest : List ℕ). frame (plan_message first) ++ rest) (frames_push plans plan)
    ∙ sym (append_assoc (frame (plan_message first)) (frames_of plans) (frame (plan_message plan)))

-- one more message among the bytes held
pub messages_push : (held rest message : List ℕ) (at next : ℕ) (plans : List Plan) (plan : Plan) → held ≡ frames_of plans ++ drop at held
    → drop at held ≡ frame message ++ rest → plan_message plan ≡ message → next ≡ at + (2 + length message)
    → held ≡ frames_of (plans ++ plan ∷ []) ++ drop next held
messages_push held rest message at next plans plan before begins same place =
    let behind : drop next held ≡ rest =
    ap (λ (n : ℕ). drop n held) place ∙ sym (drop-drop (2 + length message) at held)
    ∙ ap (λ (bytes : List ℕ). drop (2 + length message) bytes) begins ∙ drop_at (frame message) rest (2 + length message) (omega arith) in
    before
    ∙ ap (λ (bytes : List ℕ). frames_of plans ++ bytes) (begins ∙ ap (λ (bytes : List ℕ). frame message ++ bytes) (sym behind))
    ∙ sym (append_assoc (frames_of plans) (frame message) (drop next held))
    ∙ ap (λ (text : List ℕ). (frames_of plans ++ frame text) ++ drop next held) (sym same)
    ∙ ap (λ (front : List ℕ). front ++ drop next held) (sym (frames_push plans plan))

take_whole : {A : Type 0} (xs : List A) → take (length xs) xs ≡ xs
take_whole [] = refl
take_whole {A} (x ∷ xs) = ap (λ (ys : List A). x ∷ ys) (take_whole xs)

-- a list by its first item and what follows it
pub first_and_more : {A : Type 0} (xs : List A) (x : A) → 1 ≤ length xs → x ≡ slice_index_or xs 0 x → xs ≡ x ∷ take (length xs - 1) (drop 1 xs)
first_and_more [] x some is = absurd (omega (arith, some))
first_and_more {A} (y ∷ xs) x some is =
    let n : length (y ∷ xs) - 1 ≡ length xs = omega arith in
    ap₂ (λ (first : A) (more : List A). first ∷ more) (sym is) (sym (ap (λ (j : ℕ). take j xs) n ∙ take_whole xs))

-- the answers to plans, by the first and the others
pub answers_first : (m : Module) (plans more : List Plan) (plan : Plan) (booked others : List Booked) (first : Booked) (reply shown : List ℕ)
    → plans ≡ plan ∷ more → booked ≡ first ∷ others → reply ≡ message_answer m (plan_kind plan) (plan_message plan) first.granted → shown ≡ reply
    → (out : List ℕ) → (out ++ frame shown) ++ answers_of m more others ≡ out ++ answers_of m plans booked
answers_first m plans more plan booked others first reply shown all are answered same out =
    append_assoc out (frame shown) (answers_of m more others)
    ∙ ap (λ (text : List ℕ). out ++ (frame text ++ answers_of m more others)) (same ∙ answered)
    ∙ ap₂ (λ (ps : List Plan) (bs : List Booked). out ++ answers_of m ps bs) (sym all) (sym are)

-- plans that were prepared have asks that a ledger takes
pub may_ask : (m : Module) (kind : Place) (before : KeyCache) (plans : List Plan) (after : KeyCache) → Prepares m kind before plans after → All CanAsk (map plan_ask plans)
may_ask m kind before plans after prepared = All-from_recursion CanAsk (map plan_ask plans) (go before plans prepared)
  where
    go : (cache : KeyCache) (ps : List Plan) → Prepares m kind cache ps after → AllByRecursion CanAsk (map plan_ask ps)
    go cache [] p = tt
    go cache (plan ∷ ps) p = (p.1.may, go p.0 ps p.2)

-- they are those of their messages
pub are_plans : (m : Module) (kind : Place) (before : KeyCache) (plans shown : List Plan) (after : KeyCache) → shown ≡ plans → Prepares m kind before plans after → ArePlansOf m shown
are_plans m kind before plans shown after same prepared = subst (ArePlansOf m) (sym same) (go before plans prepared)
  where
    go : (cache : KeyCache) (ps : List Plan) → Prepares m kind cache ps after → ArePlansOf m ps
    go cache [] p = tt
    go cache (plan ∷ ps) p = (p.1.own, go p.0 ps p.2)

-- what was booked for plans answers their asks
pub booked_for : (p q : PassAndClock) (plans : List Plan) (booked : List Booked) → BooksAll p q (map plan_ask plans) booked → AreBookedFor plans booked
booked_for p q [] booked all = tt
booked_for p q (plan ∷ plans) [] all = absurd all
booked_for p q (plan ∷ plans) (b ∷ booked) all =
    ((p.pass.seen ++ all.1.entry.others, all.0.last, all.1.entry.answers), booked_for all.0 q plans booked all.2)

-- one is booked for each ask
pub as_many : (p q : PassAndClock) (asks : List Ask) (booked : List Booked) → BooksAll p q asks booked → length booked ≡ length asks
as_many p q [] [] all = refl
as_many p q [] (b ∷ booked) none = absurd none
as_many p q (ask ∷ asks) [] none = absurd none
as_many p q (ask ∷ asks) (b ∷ booked) all = ap suc (as_many all.0 q asks booked all.2)

-- a pass has seen one entry more for each that was booked
pub seen_more : (p q : PassAndClock) (asks : List Ask) (booked : List Booked) → BooksAll p q asks booked → length p.pass.seen + length booked ≤ length q.pass.seen
seen_more p q [] [] same = let e : length p.pass.seen ≡ length q.pass.seen = ap (λ (s : PassAndClock). length s.pass.seen) (sym same) in omega (arith, e)
seen_more p q [] (b ∷ booked) none = absurd none
seen_more p q (ask ∷ asks) [] none = absurd none
seen_more p q (ask ∷ asks) (b ∷ booked) all =
    let first : length all.0.pass.seen ≡ (length p.pass.seen + length all.1.entry.others) + 1 =
    ap length all.1.entry.seen ∙ length-append (p.pass.seen ++ all.1.entry.others) _ ∙ ap (λ (n : ℕ). n + 1) (length-append p.pass.seen all.1.entry.others) in
    let rest = seen_more all.0 q asks booked all.2 in
    omega (arith, first, rest)

-- one more entry is counted
pub counted_push : (count : Count) (booked : List Booked) (b : Booked) → counted_all count (booked ++ b ∷ []) ≡ one_more (counted_all count booked) b.place
counted_push count [] b = refl
counted_push count (first ∷ booked) b = counted_push (one_more count first.place) booked b

-- the next of a list of entries is counted
pub counted_next : (count : Count) (booked : List Booked) (at : ℕ) (b : Booked) → at < length booked → b ≡ slice_index_or booked at b
    → one_more (counted_all count (take at booked)) b.place ≡ counted_all count (take (at + 1) booked)
counted_next count booked at b within is =
    let next : take (at + 1) booked ≡ take at booked ++ b ∷ [] = take_more booked at b within ∙ ap (λ (x : Booked). take at booked ++ x ∷ []) (sym is) in
    sym (ap (λ (bs : List Booked). counted_all count bs) next ∙ counted_push count (take at booked) b)

pub counted_messages : (count : Count) (booked : List Booked) → (counted_all count booked).messages ≡ count.messages + length booked
counted_messages count [] = omega arith
counted_messages count (first ∷ booked) = counted_messages (one_more count first.place) booked ∙ omega arith

-- what a lane shows with this pass and this clock, and with a gate that tells nothing
abbrev untold_at : PassAndClock → Option Traffic → KeyCache → Scene
untold_at p traffic cache = scene p.pass p.last p.to_come None traffic cache

-- plans are booked one after another, and their answers are due
books_untold : (m : Module) (kind : Place) (lane : ℕ) (start : Scene) (traffic : Option Traffic) (p q : PassAndClock) (before after : KeyCache) (plans : List Plan) (booked : List Booked)
    (rest out : List ℕ) (count : Count) → WordsAuthorise → start.calls ≡ None → Prepares m kind before plans after → BooksAll p q (map plan_ask plans) booked
    → IsServing m kind lane start (untold_at p traffic before) (holding (frames_of plans ++ rest) out count)
    → IsServing m kind lane start (untold_at q traffic after) (holding rest (out ++ answers_of m plans booked) (counted_all count booked))
books_untold m kind lane start traffic p q before after [] [] rest out count words untold prepared all g =
    subst (λ (said : List ℕ). IsServing m kind lane start (untold_at q traffic after) (holding rest said count)) (sym (append-nil out))
    (subst (λ (now : PassAndClock × KeyCache). IsServing m kind lane start (untold_at now.0 traffic now.1) (holding rest out count)) (λ i. (sym all i, sym prepared i)) g)
books_untold m kind lane start traffic p q before after [] (b ∷ booked) rest out count words untold prepared none g = absurd none
books_untold m kind lane start traffic p q before after (plan ∷ plans) [] rest out count words untold prepared none g = absurd none
books_untold m kind lane start traffic p q before after (plan ∷ plans) (b ∷ booked) rest out count words untold prepared all g =
    let made = prepared.1 in
    let one = all.1 in
    let message = plan_message plan in
    let reply = message_answer m kind message b.granted in
    let least : least_for m kind ≤ length message = subst (λ (side : Place). least_for m side ≤ length message) made.side made.own.least in
    let begun = going_at m kind lane start (untold_at p traffic before) (frames_of (plan ∷ plans) ++ rest) (frame message ++ (frames_of plans ++ rest)) out count
    (append_assoc (frame message) (frames_of plans) rest) g in
    let first = going_books m kind lane start (untold_at p traffic before) (untold_at all.0 traffic prepared.0) message (frames_of plans ++ rest) out reply count
    (plan_ask plan) b.granted b.place words untold (least, omega (arith, made.own.most)) made.ask refl one.entry one.own one.sound one.moment refl made.cache.capacity made.cache.kept begun in
    let others = books_untold m kind lane start traffic all.0 q prepared.0 after plans booked rest (out ++ frame reply) (one_more count b.place) words untold prepared.2 all.2 first in
    let answers : (out ++ frame reply) ++ answers_of m plans booked ≡ out ++ answers_of m (plan ∷ plans) (b ∷ booked) =
    append_assoc out (frame reply) (answers_of m plans booked)
    ∙ ap (λ (side : Place). out ++ (frame (message_answer m side message b.granted) ++ answers_of m plans booked)) (sym made.side) in
    subst (λ (said : List ℕ). IsServing m kind lane start (untold_at q traffic after) (holding rest said (counted_all (one_more count b.place) booked))) answers others

-- what a lane shows with this pass and this clock
abbrev pub scene_at : PassAndClock → Option (List GateCall) → Option Traffic → KeyCache → Scene
scene_at p calls traffic cache = scene p.pass p.last p.to_come calls traffic cache

-- the messages that stand in front are booked together, between the calls of the gate, and their answers are due
pub going_batch : (m : Module) (kind : Place) (lane : ℕ) (start : Scene) (traffic : Option Traffic) (p q : PassAndClock) (calls now : Option (List GateCall)) (before after : KeyCache)
    (plans : List Plan) (booked : List Booked) (rest out : List ℕ) (count : Count) → WordsAuthorise → Prepares m kind before plans after → BooksAll p q (map plan_ask plans) booked
    → length plans ≤ 16
    → ((c : List GateCall) → calls ≡ Some c → now ≡ Some ((c ++ calls_before lane count.messages (length plans)) ++ calls_after lane count.messages (length plans)))
    → IsServing m kind lane start (scene_at p calls traffic before) (holding (frames_of plans ++ rest) out count)
    → IsServing m kind lane start (scene_at q now traffic after) (holding rest (out ++ answers_of m plans booked) (counted_all count booked))
going_batch m kind lane start traffic p q calls now before after plans booked rest out count words prepared all few told g =
    let old = scene_at p calls traffic before in
    let new = scene_at q now traffic after in
    let h = holding rest (out ++ answers_of m plans booked) (counted_all count booked) in
    let done = books_untold m kind lane (without_gate start) traffic p q before after plans booked rest out count words refl prepared all
    (going_untold m kind lane start old (holding (frames_of plans ++ rest) out count) g) in
    let size : length booked ≡ length plans = as_many p q (map plan_ask plans) booked all ∙ length-map plans plan_ask in
    let many : length done.entries ≡ length g.entries + length plans =
    sym done.counted.messages ∙ counted_messages count booked ∙ (λ i. g.counted.messages i + size i) in
    going_told m kind lane start new h done
    (gate_more lane count.messages (length plans) start.calls calls now g.entries done.entries g.gate g.counted.messages many few told)

-- as many messages are counted as before, and one for each that was booked
pub counts_seen : (p q : PassAndClock) (asks : List Ask) (booked : List Booked) (count counted : Count) → BooksAll p q asks booked → counted ≡ counted_all count booked
    → count.messages ≤ length p.pass.seen → counted.messages ≤ length q.pass.seen
counts_seen p q asks booked count counted all is few =
    let now : counted.messages ≡ count.messages + length booked = ap (λ (n : Count). n.messages) is ∙ counted_messages count booked in
    let more = seen_more p q asks booked all in
    omega (arith, now, more)

-- a result that is an error
pub came_to_err : (m : Module) (kind : Place) (before after : Stand) (result : Result Behind LinkFailed) (failed : LinkFailed) → result ≡ Err failed → EndsByWrite m kind before after → GoesOnOrEnds m kind before after result
came_to_err m kind before after result failed is ends = subst (GoesOnOrEnds m kind before after) (sym is) ends
