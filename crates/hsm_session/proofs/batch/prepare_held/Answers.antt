use Rattle.std.proofs.Common.{◌≡◌, ℕ, ◌+◌, ◌++◌, List, length, drop, ap, subst, sym, ◌∙◌, refl, arith, length-append, length-drop}
use Rattle.hsm_answers.specs.Kept.{Opens, opened_of}
use Rattle.hsm_answers.specs.Messages.{message_ask}
use Rattle.hsm_frame.specs.Frames.{frame}
use Rattle.hsm_session.specs.declared.plans.Plan.{Plan}
use Rattle.hsm_session.specs.Batches.{IsPrepared, Prepares, frames_of}
use Rattle.hsm_session.proofs.Batching.{messages_push, prepares_push}
use Rattle.hsm_session.proofs.batch.prepare_held.Goals as goal

pub overflow_add-at-in-Message : goal.overflow_add-at-in-Message
overflow_add-at-in-Message g c =
    let front = rw c.in-Message.is at c.look.ensures in
    let full = c.if-is_full.ensures.value in
    omega (arith, front.0, c.messages.invariant.small, c.is_full.ensures.fits, c.requires.few)

pub messages-preserved : goal.messages-preserved
messages-preserved g c =
    let m = c.args.module.now in
    let kind = c.args.kind in
    let held = c.args.frames.now.bytes in
    let at = c.messages.at in
    let message = c.in-Message.message.now in
    let plans = c.messages.plans.items in
    let plan = c.prepare_cached-plan.result in
    let front = rw c.in-Message.is at c.look.ensures in
    let long : length (drop at held) ≡ length (frame message) + length front.1.0 = ap length front.1.1 ∙ length-append (frame message) front.1.0 in
    let same = c.prepare_cached-plan.ensures.message in
    let prepared : IsPrepared m kind c.messages.cache plan c.prepare_cached-plan.new.cache = record {
      side = c.prepare_cached-plan.ensures.kind;
      own = c.prepare_cached-plan.ensures.plan;
      ask = c.prepare_cached-plan.ensures.ask ∙ ap (λ (text : List ℕ). message_ask m kind text) (sym same);
      may = c.prepare_cached-plan.ensures.may;
      cache = subst (λ (text : List ℕ). Opens m c.messages.cache c.prepare_cached-plan.new.cache (opened_of m kind text)) (sym same) c.prepare_cached-plan.ensures.cache;
    } in
    record {
      agrees = c.prepare_cached-plan.ensures.cache.agrees;
      prepared = subst (λ (all : List Plan). Prepares m kind c.args.cache.now all c.prepare_cached-plan.new.cache) (sym c.add.ensures.items)
          (prepares_push m kind c.args.cache.now plans c.messages.cache plan c.prepare_cached-plan.new.cache c.messages.invariant.prepared prepared);
      within = omega (arith, long, length-drop at held, c.messages.invariant.within);
      messages = messages_push held front.1.0 message at _ plans plan c.messages.invariant.messages front.1.1 same refl
          ∙ ap (λ (all : List Plan). frames_of all ++ drop (at + (2 + length message)) held) (sym c.add.ensures.items);
      taken = omega (arith, c.add.ensures.len, c.messages.invariant.taken);
      small = omega (arith, front.0, c.add.ensures.len, c.messages.invariant.small);
    }
