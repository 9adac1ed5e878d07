use Rattle.std.proofs.Common.{◌≡◌, ◌+◌, ◌-◌, ◌<◌, ℕ, length, slice_get, Some, arith, refl, subst}
use Rattle.std.proofs.lemmas.Option.{slice_get_read}
use Rattle.std.specs.Vec.{with_item}
use Rattle.hsm_session.specs.declared.run.Run.{Run}
use Rattle.hsm_session.specs.Lanes.{StopsLine, TakesLine}
use Rattle.hsm_session.specs.Scripts.{Piece}
use Rattle.hsm_session.proofs.Running.{stops_at_piece, takes_piece}
use Rattle.hsm_session.proofs.BookingLaws.{for_err}
use Rattle.hsm_session.proofs.run.Run.take_piece.Goals as goal

pub returns-clause-takes : goal.returns-clause-takes
returns-clause-takes g c =
    let m = c.args.module.now in
    let before = g.S.Sink.stands_for c.args.out.now in
    let after = g.S.Sink.stands_for c.take_piece.new.out in
    let place = c.args.number - 1 in
    let lane = c.index_mut-lane.result.now in
    let number : place + 1 ≡ c.args.number = omega (arith, c.requires.lane.0) in
    let within : place < length c.args.self.now.lanes.items = omega (arith, number, c.requires.lane.1, c.requires.at.1.count) in
    let here : slice_get c.args.self.now.lanes.items place ≡ Some lane = slice_get_read c.args.self.now.lanes.items (length c.args.self.now.lanes.items) place lane refl within c.index_mut-lane.ensures.value in
    let new : Run = record {
      lanes = with_item c.args.self.now.lanes place c.take_piece.new.self;
      moment = c.args.self.now.moment;
      entries = c.args.self.now.entries + c.in_ok-answered.answered;
    } in
    subst (λ (n : ℕ). TakesLine m c.args.self.now new (Piece n c.args.piece.now) c.args.ledger.now c.take_piece.new.ledger before after) number
    (takes_piece m c.args.self.now new lane c.take_piece.new.self place c.args.piece.now c.in_ok-answered.answered c.args.ledger.now c.take_piece.new.ledger before after
    here c.in_ok-answered.ensures.feeds refl refl refl)

pub returns-in_err-answered-clause-stops : goal.returns-in_err-answered-clause-stops
returns-in_err-answered-clause-stops g c =
    let m = c.args.module.now in
    let before = g.S.Sink.stands_for c.args.out.now in
    let after = g.S.Sink.stands_for c.take_piece.new.out in
    let place = c.args.number - 1 in
    let lane = c.index_mut-lane.result.now in
    let number : place + 1 ≡ c.args.number = omega (arith, c.requires.lane.0) in
    let within : place < length c.args.self.now.lanes.items = omega (arith, number, c.requires.lane.1, c.requires.at.1.count) in
    let here : slice_get c.args.self.now.lanes.items place ≡ Some lane = slice_get_read c.args.self.now.lanes.items (length c.args.self.now.lanes.items) place lane refl within c.index_mut-lane.ensures.value in
    for_err c.from_residual.result (StopsLine m c.args.self.now (Piece c.args.number c.args.piece.now) c.args.ledger.now c.take_piece.new.ledger before after)
    (subst (λ (n : ℕ). StopsLine m c.args.self.now (Piece n c.args.piece.now) c.args.ledger.now c.take_piece.new.ledger before after) number
    (stops_at_piece m c.args.self.now lane place c.args.piece.now c.args.ledger.now c.take_piece.new.ledger before after here c.in_err-answered.ensures.stops))
