use Rattle.std.proofs.Common.{◌∙◌, ap, Bool, cond, min, ◌+◌, ◌-◌, ◌^◌}
use Rattle.hsm_tally.specs.Replies.{is_ok, is_other}
use Rattle.hsm_tally.proofs.LineLemmas.{ended}
use Rattle.hsm_tally.proofs.replies.Lines.end_line.Goals as goal

pub returns : goal.returns
returns c =
    let ok = c.self.inside.ok in
    let other = c.self.inside.other in
    ended c.args.self.now ok other _ _ c.self.inside.begun.items _ c.self.view_is
    (c.counted-self-inside.ensures ∙ ap (λ (b : Bool). cond b (min (ok + 1) (2 ^ 64 - 1)) ok) (c.is_ok-ok.ensures ∙ ap is_ok c.as_slice-line.ensures.value))
    (c.counted-self-inside-2.ensures ∙ ap (λ (b : Bool). cond b (min (other + 1) (2 ^ 64 - 1)) other) (c.is_other-other.ensures ∙ ap is_other c.as_slice-line.ensures.value))
    c.clear.ensures
