-- The lanes at the end of a script, and at its beginning.
use Rattle.std.proofs.Common.{◌≡◌, ℕ, ◌+◌, Bool, true, false, List, [], ◌∷◌, ◌++◌, length, map, take, drop, get_or, count_by, cond, ◌<◌, ◌≤◌, None, length-take, refl, sym, ap, subst, ◌∙◌, append_assoc, append-nil, arith}
use Rattle.std.proofs.lemmas.List.{length-map, map-append, take_more, take-append-drop}
use Rattle.std.proofs.lemmas.List.Sums.{sum_by-append}
use Rattle.hsm_io.specs.Texts.{Appends, AppendsFront}
use Rattle.hsm_io.proofs.TextLemmas.{appends_then_front, front_of_more}
use Rattle.hsm_frame.specs.Frames.{StreamEnd}
use Rattle.hsm_rows.specs.declared.settings.Module.{Module}
use Rattle.hsm_session.specs.declared.lane.ScriptLane.{ScriptLane}
use Rattle.hsm_answers.specs.Messages.{least_length}
use Rattle.hsm_session.specs.Runs.{end_line, end_lines}
use Rattle.hsm_session.specs.Lanes.{IsLaneAt, all_held, lane_end}

end_lines_more : (lane : ℕ) (ends : List StreamEnd) (end : StreamEnd) → end_lines lane (ends ++ end ∷ []) ≡ end_lines lane ends ++ end_line (lane + length ends) end
end_lines_more lane [] end = append-nil (end_line lane end) ∙ ap (λ (n : ℕ). end_line n end) (omega arith)
end_lines_more lane (first ∷ ends) end =
    ap (λ (rest : List ℕ). end_line lane first ++ rest) (end_lines_more (lane + 1) ends end)
    ∙ sym (append_assoc (end_line lane first) (end_lines (lane + 1) ends) (end_line (lane + 1 + length ends) end))
    ∙ ap (λ (n : ℕ). end_lines lane (first ∷ ends) ++ end_line n end) (omega arith)

count_more : (test : StreamEnd → Bool) (ends : List StreamEnd) (end : StreamEnd) → count_by test (ends ++ end ∷ []) ≡ count_by test ends + cond (test end) 1 0
count_more test ends end =
    let sum = sum_by-append (λ (e : StreamEnd). cond (test e) 1 0) ends (end ∷ []) in
    omega (arith, sum)

-- how the streams end of one more lane
ends_more : (lanes : List ScriptLane) (place : ℕ) (lane : ScriptLane) → place < length lanes → lane ≡ get_or lanes place lane
    → map lane_end (take (place + 1) lanes) ≡ map lane_end (take place lanes) ++ lane_end lane ∷ []
ends_more lanes place lane within here =
    ap (map lane_end) (take_more lanes place lane within)
    ∙ map-append lane_end (take place lanes) (get_or lanes place lane ∷ [])
    ∙ ap (λ (l : ScriptLane). map lane_end (take place lanes) ++ lane_end l ∷ []) (sym here)

-- the line of one more lane
pub lines_more : (lanes : List ScriptLane) (place : ℕ) (lane : ScriptLane) → place < length lanes → lane ≡ get_or lanes place lane → lane.number ≡ place + 1
    → end_lines 1 (map lane_end (take (place + 1) lanes)) ≡ end_lines 1 (map lane_end (take place lanes)) ++ end_line lane.number (lane_end lane)
lines_more lanes place lane within here number =
    let ends = map lane_end (take place lanes) in
    let count : 1 + length ends ≡ lane.number = omega (arith, number, length-map (take place lanes) lane_end, length-take place lanes) in
    ap (end_lines 1) (ends_more lanes place lane within here)
    ∙ end_lines_more 1 ends (lane_end lane)
    ∙ ap (λ (n : ℕ). end_lines 1 ends ++ end_line n (lane_end lane)) count

-- the count of one more lane
pub counts_more : (test : StreamEnd → Bool) (lanes : List ScriptLane) (place : ℕ) (lane : ScriptLane) (before : ℕ) → place < length lanes → lane ≡ get_or lanes place lane
    → before ≡ count_by test (map lane_end (take place lanes))
    → before + cond (test (lane_end lane)) 1 0 ≡ count_by test (map lane_end (take (place + 1) lanes))
counts_more test lanes place lane before within here was =
    ap (λ (n : ℕ). n + cond (test (lane_end lane)) 1 0) was
    ∙ sym (ap (count_by test) (ends_more lanes place lane within here) ∙ count_more test (map lane_end (take place lanes)) (lane_end lane))

-- a lane of which nothing came
pub lane_new : (m : Module) (place : ℕ) (lane : ScriptLane) → lane ≡ record { number = place; frames = record { least = least_length m; bytes = [] }; short = None } → IsLaneAt m place [] lane
lane_new m place lane is = subst (IsLaneAt m place []) (sym is) (record {
  number = refl;
  least = refl;
  messages = [];
  behind = record {
    tail = [];
    whole = refl;
    each = tt;
    ends = refl;
    held = λ open_lane. refl;
    room = omega arith;
  };
})

-- a lane that holds nothing
pub held_more : (lanes : List ScriptLane) (lane : ScriptLane) → all_held lanes ≡ 0 → lane.frames.bytes ≡ [] → all_held (lanes ++ lane ∷ []) ≡ 0
held_more lanes lane none empty =
    let sum = sum_by-append (λ (l : ScriptLane). length l.frames.bytes) lanes (lane ∷ []) in
    omega (arith, sum, none, ap length empty)

pub bit_most : (test : Bool) → cond test 1 0 ≤ 1
bit_most true = omega arith
bit_most false = omega arith

end_lines-append : (lane : ℕ) (first second : List StreamEnd) → end_lines lane (first ++ second) ≡ end_lines lane first ++ end_lines (lane + length first) second
end_lines-append lane [] second = ap (λ (n : ℕ). end_lines n second) (omega arith)
end_lines-append lane (end ∷ first) second =
    ap (λ (rest : List ℕ). end_line lane end ++ rest) (end_lines-append (lane + 1) first second)
    ∙ sym (append_assoc (end_line lane end) (end_lines (lane + 1) first) (end_lines (lane + 1 + length first) second))
    ∙ ap (λ (n : ℕ). end_lines lane (end ∷ first) ++ end_lines n second) (omega arith)

-- the lines of the first lanes come first
lines_begin : (lanes : List ScriptLane) (place : ℕ)
    → end_lines 1 (map lane_end lanes) ≡ end_lines 1 (map lane_end (take place lanes)) ++ end_lines (1 + length (map lane_end (take place lanes))) (map lane_end (drop place lanes))
lines_begin lanes place =
    ap (λ (all : List ScriptLane). end_lines 1 (map lane_end all)) (sym (take-append-drop place lanes))
    ∙ ap (end_lines 1) (map-append lane_end (take place lanes) (drop place lanes))
    ∙ end_lines-append 1 (map lane_end (take place lanes)) (map lane_end (drop place lanes))

-- a lane's line was not wholly written
pub line_stopped : (lanes : List ScriptLane) (place : ℕ) (lane : ScriptLane) (rest : List ℕ) (before mid after : List ℕ → Type 0)
    → place < length lanes → lane ≡ get_or lanes place lane → lane.number ≡ place + 1
    → Appends before mid (end_lines 1 (map lane_end (take place lanes))) → AppendsFront mid after (end_line lane.number (lane_end lane))
    → AppendsFront before after (end_lines 1 (map lane_end lanes) ++ rest)
line_stopped lanes place lane rest before mid after within here number written front =
    let first = end_lines 1 (map lane_end (take place lanes)) in
    let line = end_line lane.number (lane_end lane) in
    let later = end_lines (1 + length (map lane_end (take (place + 1) lanes))) (map lane_end (drop (place + 1) lanes)) in
    let whole : (first ++ line) ++ later ≡ end_lines 1 (map lane_end lanes) =
    ap (λ (text : List ℕ). text ++ later) (sym (lines_more lanes place lane within here number)) ∙ sym (lines_begin lanes (place + 1)) in
    subst (λ (text : List ℕ). AppendsFront before after (text ++ rest)) whole
    (front_of_more before after ((first ++ line) ++ later) rest (front_of_more before after (first ++ line) later (appends_then_front before mid after first line written front)))
