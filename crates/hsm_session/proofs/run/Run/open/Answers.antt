use Rattle.std.proofs.Common.{◌≡◌, ◌+◌, ◌∙◌, ◌∷◌, ℕ, [], List, None, length, length-append, slice_get, Some, sym, ap, subst, arith}
use Rattle.hsm_frame.specs.Calls.{Held}
use Rattle.hsm_session.specs.declared.lane.ScriptLane.{ScriptLane}
use Rattle.hsm_answers.specs.Messages.{least_length}
use Rattle.hsm_session.specs.Lanes.{IsLaneAt, all_held}
use Rattle.hsm_session.proofs.EndLaws.{lane_new, held_more}
use Rattle.hsm_session.proofs.Places.{each_pushed}
use Rattle.hsm_session.proofs.run.Run.open.Goals as goal

pub lanes-preserved : goal.lanes-preserved
lanes-preserved c =
    let m = c.args.module.now in
    let lanes = c.lanes.lanes.items in
    let lane = c.new.result in
    let pushed = c.in-Ok.ensures.items in
    let frames : c.in_ok-frames.frames ≡ record { least = least_length m; bytes = [] } = c.in_ok-frames.ensures ∙ ap (λ (n : ℕ). record { least = n + 2; bytes = [] }) c.from-in-lanes.ensures in
    let is : lane ≡ record { number = c.lanes.number + 1; frames = record { least = least_length m; bytes = [] }; short = None } =
    c.new.ensures ∙ ap (λ (f : Held). record { number = c.lanes.number + 1; frames = f; short = None }) frames in
    let at : IsLaneAt m (length lanes + 1) [] lane = subst (λ (n : ℕ). IsLaneAt m (n + 1) [] lane) (sym c.lanes.invariant.count) (lane_new m (c.lanes.number + 1) lane is) in
    record {
      count = omega (arith, ap length pushed, length-append lanes (lane ∷ []), c.lanes.invariant.count);
      lanes = subst (λ (all : List ScriptLane). (i : ℕ) (l : ScriptLane) → slice_get all i ≡ Some l → IsLaneAt m (i + 1) [] l) (sym pushed)
          (each_pushed (λ (i : ℕ) (l : ScriptLane). IsLaneAt m (i + 1) [] l) lanes lane c.lanes.invariant.lanes at);
      held = ap all_held pushed ∙ held_more lanes lane c.lanes.invariant.held (ap (λ (l : ScriptLane). l.frames.bytes) is);
    }
