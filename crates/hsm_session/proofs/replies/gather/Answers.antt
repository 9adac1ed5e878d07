use Rattle.std.proofs.Common.{◌++◌}
use Rattle.hsm_frame.specs.Frames.{frame}
use Rattle.hsm_session.specs.Serving.{SendsFront}
use Rattle.hsm_session.proofs.BookingLaws.{for_err}
use Rattle.hsm_session.proofs.Talking.{front_more}
use Rattle.hsm_session.proofs.replies.gather.Goals as goal

pub returns-in_err-make_room-clause-front : goal.returns-in_err-make_room-clause-front
returns-in_err-make_room-clause-front g c =
    let before = g.K.Link.traffic c.args.link.now in
    let after = g.K.Link.traffic c.make_room.new.link in
    let text = c.args.out.now.items ++ frame c.args.reply.now in
    for_err c.from_residual.result (SendsFront before after text) (front_more before after c.args.out.now.items (frame c.args.reply.now) c.in_err-make_room.ensures.front)
