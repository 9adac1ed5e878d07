-- How reads, messages and writes add up over a connection.
use Rattle.std.proofs.Common.{◌≡◌, ℕ, ◌+◌, ◌-◌, ◌<◌, ◌^◌, List, [], ◌∷◌, ◌++◌, length, take, drop, flat_map, Option, Some, None, refl, sym, ap, subst, ◌∙◌, append_assoc, append-nil, inl, inr, arith}
use Rattle.std.specs.List.{AllByRecursion, AllZip}
use Rattle.std.proofs.Math.Seq.{take-add}
use Rattle.std.proofs.lemmas.Grind.{flat_map-append}
use Rattle.std.proofs.lemmas.List.{take-append-drop, take_rest}
use Rattle.std.proofs.lemmas.List.Elements.{All-append}
use Rattle.hsm_auth.specs.declared.entry.Ask.{Ask}
use Rattle.hsm_auth.specs.declared.entry.Granted.{Granted}
use Rattle.hsm_auth.specs.declared.entry.Entry.{Entry}
use Rattle.hsm_answers.specs.Messages.{message_answer, message_ask, least_for}
use Rattle.hsm_desk.specs.Passes.{Books, OwnBooked, Sound}
use Rattle.hsm_frame.specs.Calls.{IsNotYet}
use Rattle.hsm_frame.specs.Frames.{Frames, IsMessage, IsShort, IsTail, StreamEnd, Whole, Part, frame}
use Rattle.hsm_frame.specs.Frames as stream
use Rattle.hsm_frame.specs.Laws.{HasReading}
use Rattle.hsm_io.specs.Connections.{Traffic, Exchanges, IsSilent}
use Rattle.hsm_io.specs.Moments.{tick, after_now}
use Rattle.hsm_answers.specs.Kept.{opened_of}
use Rattle.hsm_lmk.specs.Cache.{kept_all}
use Rattle.hsm_lmk.specs.Caches.{capacity_of, kept_in}
use Rattle.hsm_rows.specs.declared.settings.Module.{Module}
use Rattle.hsm_auth.specs.declared.activity.Place.{Place}
use Rattle.hsm_session.specs.declared.serving.ConnEnd.{ConnEnd}
use Rattle.hsm_session.specs.declared.serving.ConnEnd.TheVariants.{Clean, Cut, Short, ReadFault, WriteFault}
use Rattle.hsm_session.specs.declared.serving.Count.{Count}
use Rattle.hsm_session.specs.Connections.{AskGate, Hears, IsEntryFor, Leaves, WritesAnswers, Scene, framed_answers, scene}
use Rattle.hsm_session.specs.Lanes.{AreBytes, IsWaiting}
use Rattle.hsm_session.specs.Serving.{IsServing, Holding, EndsServing, Sends, SendsFront, Steps, holding, no_entry, one_more}
use Rattle.hsm_session.proofs.Answering.{each_more}
use Rattle.hsm_session.proofs.Gating.{gate_none}
use Rattle.hsm_session.proofs.Keeping.{keeps_more, keeps_none}
use Rattle.hsm_session.proofs.Makings.{WordsAuthorise, booked_entry, clock_more, clock_none, counts_more, counts_none, hosts_more, hosts_none, makes_more, makes_none, zip_push}
use Rattle.hsm_session.proofs.Streams.{bytes_right, frames_after}

-- one exchange and then another
exchanges_twice : (s t u : Traffic) (a b c d : List ℕ) → Exchanges s t a b → Exchanges t u c d → Exchanges s u (a ++ c) (b ++ d)
exchanges_twice s t u a b c d p q = record {
  left = p.left ∙ ap (λ (x : List ℕ). a ++ x) q.left ∙ sym (append_assoc a c u.left);
  was_read = q.was_read ∙ ap (λ (x : List ℕ). x ++ c) p.was_read ∙ append_assoc s.was_read a c;
  written = q.written ∙ ap (λ (x : List ℕ). x ++ d) p.written ∙ append_assoc s.written b d;
}

exchanges_none : (s : Traffic) → Exchanges s s [] []
exchanges_none s = record { left = refl; was_read = sym (append-nil s.was_read); written = sym (append-nil s.written) }

-- the next part of a text, of which the parts up to a place were written
abbrev pub SaysTo : Option Traffic → Option Traffic → List ℕ → Type 0
SaysTo before after text = (s : Traffic) → before ≡ Some s → (t : Traffic) × (after ≡ Some t) × Exchanges s t [] text

pub says_none : (at : Option Traffic) → SaysTo at at []
says_none at s is = (s, is, exchanges_none s)

pub says_next : (before mid after : Option Traffic) (text : List ℕ) (at n : ℕ) → SaysTo before mid (take at text)
    → SaysTo mid after (take n (take (length text - at) (drop at text))) → SaysTo before after (take (at + n) text)
says_next before mid after text at n p q s is =
    let a = p s is in
    let b = q a.0 a.1 in
    let part : Exchanges a.0 b.0 [] (take n (drop at text)) = subst (λ (r : List ℕ). Exchanges a.0 b.0 [] (take n r)) (take_rest text at) b.2 in
    (b.0, b.1, subst (λ (r : List ℕ). Exchanges s b.0 [] r) (sym (take-add at n text)) (exchanges_twice s a.0 b.0 [] (take at text) [] (take n (drop at text)) a.2 part))

pub sends_whole : (before after : Option Traffic) (text said : List ℕ) → SaysTo before after said → said ≡ text → Sends before after text []
sends_whole before after text said p same s is =
    let a = p s is in
    (a.0, a.1, said, a.2, sym same ∙ sym (append-nil said))

pub sends_front : (before mid after : Option Traffic) (text : List ℕ) (at : ℕ) → SaysTo before mid (take at text) → after ≡ mid → SendsFront before after text
sends_front before mid after text at p same = (drop at text, λ s is. let a = p s is in (a.0, same ∙ a.1, take at text, a.2, sym (take-append-drop at text)))

-- nothing is written
pub sends_nothing : (at : Option Traffic) (text : List ℕ) → Sends at at text text
sends_nothing at text s is = (s, is, [], exchanges_none s, refl)

-- more is gathered behind what was not written
pub sends_more : (before after : Option Traffic) (text rest more : List ℕ) → Sends before after text rest → Sends before after (text ++ more) (rest ++ more)
sends_more before after text rest more p s is =
    let a = p s is in
    (a.0, a.1, a.2, a.3, ap (λ (x : List ℕ). x ++ more) a.4 ∙ append_assoc a.2 rest more)

pub front_more : (before after : Option Traffic) (text more : List ℕ) → SendsFront before after text → SendsFront before after (text ++ more)
front_more before after text more p = (p.0 ++ more, sends_more before after text p.0 more p.1)

-- more of a text is written, behind what was left of its first part
pub sends_on : (before mid after : Option Traffic) (text left more rest : List ℕ) → Sends before mid text left → Sends mid after (left ++ more) rest → Sends before after (text ++ more) rest
sends_on before mid after text left more rest p q s is =
    let a = p s is in
    let b = q a.0 a.1 in (
      b.0,
      b.1,
      a.2 ++ b.2,
      exchanges_twice s a.0 b.0 [] a.2 [] b.2 a.3 b.3,
      ap (λ (x : List ℕ). x ++ more) a.4 ∙ append_assoc a.2 left more ∙ ap (λ (x : List ℕ). a.2 ++ x) b.4 ∙ sym (append_assoc a.2 b.2 rest),
    )

pub front_on : (before mid after : Option Traffic) (text left more : List ℕ) → Sends before mid text left → SendsFront mid after (left ++ more) → SendsFront before after (text ++ more)
front_on before mid after text left more p q = (q.0, sends_on before mid after text left more q.0 p q.1)

-- the first messages framed, and one more
frames_push : (messages : List (List ℕ)) (message rest : List ℕ) → flat_map frame messages ++ (frame message ++ rest) ≡ flat_map frame (messages ++ message ∷ []) ++ rest
frames_push messages message rest =
    sym (append_assoc (flat_map frame messages) (frame message) rest)
    ∙ ap (λ (front : List ℕ). front ++ rest)
    (ap (λ (last : List ℕ). flat_map frame messages ++ last) (sym (append-nil (frame message))) ∙ sym (flat_map-append frame messages (message ∷ [])))

-- the answers of the first messages, and of one more
answers_push : (m : Module) (side : Place) (messages : List (List ℕ)) (entries : List (ℕ × Entry)) (message : List ℕ) (placed : ℕ × Entry)
    → AllZip (IsEntryFor m side) messages entries
    → framed_answers m side (messages ++ message ∷ []) (entries ++ placed ∷ []) ≡ framed_answers m side messages entries ++ frame (message_answer m side message placed.1.granted)
answers_push m side [] [] message placed all = append-nil (frame (message_answer m side message placed.1.granted))
answers_push m side [] (e ∷ entries) message placed all = absurd all
answers_push m side (first ∷ messages) [] message placed all = absurd all
answers_push m side (first ∷ messages) (e ∷ entries) message placed all =
    ap (λ (rest : List ℕ). frame (message_answer m side first e.1.granted) ++ rest) (answers_push m side messages entries message placed all.1)
    ∙ sym (append_assoc (frame (message_answer m side first e.1.granted)) (framed_answers m side messages entries) (frame (message_answer m side message placed.1.granted)))

-- nothing was done yet
going_starts : (m : Module) (kind : Place) (lane : ℕ) (s : Scene) → Sound s.pass → IsServing m kind lane s s (holding [] [] no_entry)
going_starts m kind lane s sound = record {
  messages = [];
  entries = [];
  made = makes_none s.pass sound;
  each = tt;
  valid = tt;
  bytes = λ k d within. absurd (omega arith);
  clock = clock_none s.last s.moments;
  gate = gate_none lane s.calls;
  counted = counts_none;
  keeps = keeps_none m kind s.cache;
  hosts = λ host. hosts_none;
  told = λ t is. (t, is, [], exchanges_none t, refl);
}

pub starts_at : (m : Module) (kind : Place) (lane : ℕ) (s : Scene) (held out : List ℕ) (count : Count)
    → held ≡ [] → out ≡ [] → count ≡ no_entry → Sound s.pass → IsServing m kind lane s s (holding held out count)
starts_at m kind lane s held out count unheard unsaid none sound =
    subst (λ (z : List ℕ). IsServing m kind lane s s (holding z out count)) (sym unheard)
    (subst (λ (z : List ℕ). IsServing m kind lane s s (holding [] z count)) (sym unsaid)
    (subst (λ (z : Count). IsServing m kind lane s s (holding [] [] z)) (sym none) (going_starts m kind lane s sound)))

pub waits_at_start : (least : ℕ) (held : List ℕ) → held ≡ [] → IsWaiting least held
waits_at_start least held none = record {
  no_message = subst (IsNotYet least) (sym none) tt;
  room = omega (arith, ap length none);
}

-- a message is booked, and its answer is gathered; of a gate that told nothing at the start nothing is said
pub going_books : (m : Module) (kind : Place) (lane : ℕ) (start old new : Scene)
    (message rest out reply : List ℕ) (count : Count) (ask : Ask) (granted : Granted) (place : ℕ) → WordsAuthorise → start.calls ≡ None
    → IsMessage (least_for m kind) message → ask ≡ message_ask m kind message → reply ≡ message_answer m kind message granted
    → Books old.pass new.pass new.last ask granted place → OwnBooked old.pass new.pass new.last ask granted place → Sound new.pass
    → ((c : List ℕ) → old.moments ≡ Some c → (new.last ≡ tick c 0) × (new.moments ≡ Some (after_now c)))
    → new.traffic ≡ old.traffic
    → capacity_of new.cache ≡ capacity_of old.cache → kept_in new.cache ≡ kept_all (capacity_of old.cache) (kept_in old.cache) (opened_of m kind message)
    → IsServing m kind lane start old (holding (frame message ++ rest) out count)
    → IsServing m kind lane start new (holding rest (out ++ frame reply) (one_more count place))
going_books m kind lane start old new message rest out reply count ask granted place words untold valid asked answered books own sound ticks same room keeps g =
    let placed : ℕ × Entry = booked_entry old.pass new.last ask granted place in
    record {
      messages = g.messages ++ message ∷ [];
      entries = g.entries ++ placed ∷ [];
      made = makes_more start.pass old.pass new.pass g.entries new.last ask granted place g.made books own sound;
      each = zip_push (IsEntryFor m kind) g.messages g.entries message placed g.each asked;
      valid = each_more (least_for m kind) g.messages message g.valid valid;
      bytes = bytes_right (frame message) rest g.bytes;
      clock = clock_more start.last old.last new.last start.moments old.moments new.moments g.entries placed g.clock refl ticks;
      gate = λ calls is. absurd (cc (untold, is));
      counted = counts_more count g.entries placed g.counted;
      keeps = keeps_more m kind start.cache old.cache new.cache g.messages message g.keeps room keeps;
      hosts = hosts_more m kind message g.entries placed words asked g.hosts;
      told = λ s is.
          let t = g.told s is in
          let texts : framed_answers m kind (g.messages ++ message ∷ []) (g.entries ++ placed ∷ []) ≡ t.2 ++ (out ++ frame reply) =
          answers_push m kind g.messages g.entries message placed g.each
          ∙ (λ i. t.4 i ++ frame (sym answered i))
          ∙ append_assoc t.2 out (frame reply) in
          (t.0, same ∙ t.1, t.2, subst (λ (heard : List ℕ). Exchanges s t.0 heard t.2) (frames_push g.messages message rest) t.3, texts);
    }

-- the scene with a gate that tells nothing
abbrev pub without_gate : Scene → Scene
without_gate s = scene s.pass s.last s.moments None s.traffic s.cache

-- what was done so far, with a gate that tells nothing
pub going_untold : (m : Module) (kind : Place) (lane : ℕ) (start now : Scene) (h : Holding) → IsServing m kind lane start now h → IsServing m kind lane (without_gate start) (without_gate now) h
going_untold m kind lane start now h g = record {
  messages = g.messages;
  entries = g.entries;
  made = g.made;
  each = g.each;
  valid = g.valid;
  bytes = g.bytes;
  clock = g.clock;
  gate = λ calls is. absurd (cc (is));
  counted = g.counted;
  keeps = g.keeps;
  hosts = g.hosts;
  told = g.told;
}

-- the same, with the gate's calls
pub going_told : (m : Module) (kind : Place) (lane : ℕ) (start now : Scene) (h : Holding) (g : IsServing m kind lane (without_gate start) (without_gate now) h)
    → AskGate lane start.calls now.calls g.entries → IsServing m kind lane start now h
going_told m kind lane start now h g gate = record {
  messages = g.messages;
  entries = g.entries;
  made = g.made;
  each = g.each;
  valid = g.valid;
  bytes = g.bytes;
  clock = g.clock;
  gate = gate;
  counted = g.counted;
  keeps = g.keeps;
  hosts = g.hosts;
  told = g.told;
}

-- the scene at which this has passed over the link
abbrev pub at_traffic : Scene → Option Traffic → Scene
at_traffic s traffic = scene s.pass s.last s.moments s.calls traffic s.cache

-- a part of what is gathered is written
pub going_sends : (m : Module) (kind : Place) (lane : ℕ) (start now : Scene) (traffic : Option Traffic) (held out rest : List ℕ) (count : Count)
    → Sends now.traffic traffic out rest
    → IsServing m kind lane start now (holding held out count) → IsServing m kind lane start (at_traffic now traffic) (holding held rest count)
going_sends m kind lane start now traffic held out rest count sends g = record {
  messages = g.messages;
  entries = g.entries;
  made = g.made;
  each = g.each;
  valid = g.valid;
  bytes = g.bytes;
  clock = g.clock;
  gate = g.gate;
  counted = g.counted;
  keeps = g.keeps;
  hosts = g.hosts;
  told = λ s is.
      let t = g.told s is in
      let w = sends t.0 t.1 in
      let heard = flat_map frame g.messages ++ held in
      let all : Exchanges s w.0 (heard ++ []) (t.2 ++ w.2) = exchanges_twice s t.0 w.0 heard t.2 [] w.2 t.3 w.3 in (
        w.0,
        w.1,
        t.2 ++ w.2,
        subst (λ (x : List ℕ). Exchanges s w.0 x (t.2 ++ w.2)) (append-nil heard) all,
        t.4 ∙ ap (λ (x : List ℕ). t.2 ++ x) w.4 ∙ sym (append_assoc t.2 w.2 rest),
      );
}

-- the same bytes by another name
pub going_at : (m : Module) (kind : Place) (lane : ℕ) (start now : Scene) (held same out : List ℕ) (count : Count) → held ≡ same
    → IsServing m kind lane start now (holding held out count) → IsServing m kind lane start now (holding same out count)
going_at m kind lane start now held same out count is g = subst (λ (bytes : List ℕ). IsServing m kind lane start now (holding bytes out count)) is g

-- the reply that was gathered last is written in part, or not
pub going_gathers : (m : Module) (kind : Place) (lane : ℕ) (start now : Scene) (traffic : Option Traffic) (held out rest reply shown : List ℕ) (count : Count)
    → shown ≡ reply → Sends now.traffic traffic (out ++ frame shown) rest
    → IsServing m kind lane start now (holding held (out ++ frame reply) count) → IsServing m kind lane start (at_traffic now traffic) (holding held rest count)
going_gathers m kind lane start now traffic held out rest reply shown count same sends g =
    going_sends m kind lane start now traffic held (out ++ frame reply) rest count
    (subst (λ (text : List ℕ). Sends now.traffic traffic (out ++ frame text) rest) same sends) g

-- a piece is read
pub going_reads : (m : Module) (kind : Place) (lane : ℕ) (start now : Scene) (traffic : Option Traffic) (held out piece : List ℕ) (count : Count) → AreBytes piece
    → ((s : Traffic) → now.traffic ≡ Some s → (t : Traffic) × (traffic ≡ Some t) × Exchanges s t piece [])
    → IsServing m kind lane start now (holding held out count) → IsServing m kind lane start (at_traffic now traffic) (holding (held ++ piece) out count)
going_reads m kind lane start now traffic held out piece count are reads g = record {
  messages = g.messages;
  entries = g.entries;
  made = g.made;
  each = g.each;
  valid = g.valid;
  bytes = All-append (λ (b : ℕ). b < 2 ^ 8) held piece g.bytes are;
  clock = g.clock;
  gate = g.gate;
  counted = g.counted;
  keeps = g.keeps;
  hosts = g.hosts;
  told = λ s is.
      let t = g.told s is in
      let r = reads t.0 t.1 in
      let heard = flat_map frame g.messages ++ held in
      let all : Exchanges s r.0 (heard ++ piece) (t.2 ++ []) = exchanges_twice s t.0 r.0 heard t.2 piece [] t.3 r.2 in
      let read : Exchanges s r.0 (flat_map frame g.messages ++ (held ++ piece)) (t.2 ++ []) =
      subst (λ (x : List ℕ). Exchanges s r.0 x (t.2 ++ [])) (append_assoc (flat_map frame g.messages) held piece) all in
      (r.0, r.1, t.2, subst (λ (x : List ℕ). Exchanges s r.0 (flat_map frame g.messages ++ (held ++ piece)) x) (append-nil t.2) read, t.4);
}

-- what passed over a link of which nothing was read or written before
record Passed (m : Module) (kind : Place) (s t : Traffic) (held out : List ℕ) (messages : List (List ℕ)) (entries : List (ℕ × Entry)) : Type 0 where
  bytes : s.left ≡ t.was_read ++ t.left
  heard : t.was_read ≡ flat_map frame messages ++ held
  said : framed_answers m kind messages entries ≡ t.written ++ out

passed : (m : Module) (kind : Place) (s t : Traffic) (held out said : List ℕ) (messages : List (List ℕ)) (entries : List (ℕ × Entry))
    → s.was_read ≡ [] → s.written ≡ [] → Exchanges s t (flat_map frame messages ++ held) said → framed_answers m kind messages entries ≡ said ++ out
    → Passed m kind s t held out messages entries
passed m kind s t held out said messages entries unread unsaid e texts =
    let heard : t.was_read ≡ flat_map frame messages ++ held = e.was_read ∙ ap (λ (x : List ℕ). x ++ (flat_map frame messages ++ held)) unread in
    let written : t.written ≡ said = e.written ∙ ap (λ (x : List ℕ). x ++ said) unsaid in
    record {
      bytes = e.left ∙ ap (λ (x : List ℕ). x ++ t.left) (sym heard);
      heard = heard;
      said = texts ∙ ap (λ (x : List ℕ). x ++ out) (sym written);
    }

-- what a connection's end leaves held, gathered and left to read
record Closes (least : ℕ) (traffic : Option Traffic) (held out : List ℕ) (ended : ConnEnd) : Type 0 where
  hears : (heard : List ℕ) (messages : List (List ℕ)) → AreBytes held → AllByRecursion (IsMessage least) messages → heard ≡ flat_map frame messages ++ held → Hears least heard messages ended
  says : (said answers : List ℕ) → answers ≡ said ++ out → WritesAnswers said answers ended
  leaves : (t : Traffic) → traffic ≡ Some t → Leaves t.left ended

over : (m : Module) (kind : Place) (lane : ℕ) (start now : Scene) (held out : List ℕ) (count : Count) (ended : ConnEnd) → Closes (least_for m kind) now.traffic held out ended
    → IsSilent start.traffic → IsServing m kind lane start now (holding held out count) → EndsServing m kind lane start now count ended
over m kind lane start now held out count ended closes silent g = record {
  messages = g.messages;
  entries = g.entries;
  made = g.made;
  each = g.each;
  clock = g.clock;
  gate = g.gate;
  reported = record { messages = g.counted.messages; first = g.counted.first; last = g.counted.last };
  keeps = g.keeps;
  hits = refl;
  hosts = g.hosts;
  told = λ s is.
      let t = g.told s is in
      let quiet = silent s is in
      let p = passed m kind s t.0 held out t.2 g.messages g.entries quiet.0 quiet.1 t.3 t.4 in (
        t.0,
        t.1,
        record {
          bytes = p.bytes;
          hears = closes.hears t.0.was_read g.messages g.bytes g.valid p.heard;
          says = closes.says t.0.written (framed_answers m kind g.messages g.entries) p.said;
          leaves = closes.leaves t.0 t.1;
        },
      );
}

all_said : (said answers : List ℕ) → answers ≡ said ++ [] → said ≡ answers
all_said said answers is = sym (is ∙ append-nil said)

tail_ends : (least : ℕ) (heard held : List ℕ) (messages : List (List ℕ)) (end : StreamEnd) → IsTail least end held → AllByRecursion (IsMessage least) messages
    → heard ≡ flat_map frame messages ++ held → Frames least heard messages end
tail_ends least heard held messages end tail valid whole = record { tail = held; whole = whole; each = valid; ends = tail }

-- the input ended behind a whole frame
pub over_clean : (m : Module) (kind : Place) (lane : ℕ) (start now : Scene) (count : Count) → ((t : Traffic) → now.traffic ≡ Some t → t.left ≡ [])
    → IsSilent start.traffic → IsServing m kind lane start now (holding [] [] count) → EndsServing m kind lane start now count Clean
over_clean m kind lane start now count left = over m kind lane start now [] [] count Clean (record {
  hears = λ heard messages are valid whole. tail_ends (least_for m kind) heard [] messages Whole refl valid whole;
  says = all_said;
  leaves = left;
})

part_of : (least : ℕ) (held : List ℕ) → 0 < length held → IsNotYet least held → IsTail least Part held
part_of least [] some waits = absurd (omega (arith, some))
part_of least (byte ∷ held) some waits = waits

-- the input ended within a frame
pub over_cut : (m : Module) (kind : Place) (lane : ℕ) (start now : Scene) (held : List ℕ) (count : Count) → 0 < length held → IsNotYet (least_for m kind) held
    → ((t : Traffic) → now.traffic ≡ Some t → t.left ≡ [])
    → IsSilent start.traffic → IsServing m kind lane start now (holding held [] count) → EndsServing m kind lane start now count Cut
over_cut m kind lane start now held count some waits left = over m kind lane start now held [] count Cut (record {
  hears = λ heard messages are valid whole. tail_ends (least_for m kind) heard held messages Part (part_of (least_for m kind) held some waits) valid whole;
  says = all_said;
  leaves = left;
})

-- a short frame came
pub over_short : (m : Module) (kind : Place) (lane : ℕ) (start now : Scene) (held : List ℕ) (count : Count) (n : ℕ) → IsShort (least_for m kind) n held
    → IsSilent start.traffic → IsServing m kind lane start now (holding held [] count) → EndsServing m kind lane start now count (Short n)
over_short m kind lane start now held count n short = over m kind lane start now held [] count (Short n) (record {
  hears = λ heard messages are valid whole. tail_ends (least_for m kind) heard held messages (stream.Short n) short valid whole;
  says = all_said;
  leaves = λ t is. tt;
})

hears_fault : (least : ℕ) (heard held : List ℕ) (messages : List (List ℕ)) → IsNotYet least held → AllByRecursion (IsMessage least) messages
    → heard ≡ flat_map frame messages ++ held → Hears least heard messages ReadFault
hears_fault least heard [] messages waits valid whole = inl (tail_ends least heard [] messages Whole refl valid whole)
hears_fault least heard (byte ∷ held) messages waits valid whole = inr (tail_ends least heard (byte ∷ held) messages Part waits valid whole)

-- a read failed
pub over_read_fault : (m : Module) (kind : Place) (lane : ℕ) (start now : Scene) (held : List ℕ) (count : Count) → IsNotYet (least_for m kind) held
    → IsSilent start.traffic → IsServing m kind lane start now (holding held [] count) → EndsServing m kind lane start now count ReadFault
over_read_fault m kind lane start now held count waits = over m kind lane start now held [] count ReadFault (record {
  hears = λ heard messages are valid whole. hears_fault (least_for m kind) heard held messages waits valid whole;
  says = all_said;
  leaves = λ t is. tt;
})

-- a write failed
pub over_write_fault : HasReading → (m : Module) (kind : Place) (lane : ℕ) (start now : Scene) (held out : List ℕ) (count : Count)
    → IsSilent start.traffic → IsServing m kind lane start now (holding held out count) → EndsServing m kind lane start now count WriteFault
over_write_fault reading m kind lane start now held out count = over m kind lane start now held out count WriteFault (record {
  hears = λ heard messages are valid whole.
      let r = reading (least_for m kind) held are in
      (r.0, r.1, frames_after (least_for m kind) heard held messages r.0 r.1 whole valid r.2);
  says = λ said answers is. (out, is);
  leaves = λ t is. tt;
})

-- what was done before a part of the work
pub steps_after : (m : Module) (kind : Place) (lane : ℕ) (old mid new : Scene) (first fed last : Holding) (ended : Option ConnEnd)
    → ((start : Scene) → IsServing m kind lane start old first → IsServing m kind lane start mid fed)
    → Steps m kind lane mid new fed last ended → Steps m kind lane old new first last ended
steps_after m kind lane old mid new first fed last None earlier s = (s.0, λ start g. s.1 start (earlier start g))
steps_after m kind lane old mid new first fed last (Some end) earlier s = λ start silent g. s start silent (earlier start g)
