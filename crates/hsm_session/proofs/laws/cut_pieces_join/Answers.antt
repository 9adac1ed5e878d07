use Rattle.hsm_session.proofs.CutPieces.{cut_joins}
use Rattle.hsm_session.proofs.laws.cut_pieces_join.Goals as goal

pub returns-clause-books : goal.returns-clause-books
returns-clause-books c = λ m h earlier later lane first second last other text output over end t s.
    let joins = cut_joins c.has_one_reading.ensures.only m h earlier later lane first second last other text output over end t s in
    (joins.0, joins.1)

pub returns-clause-prints : goal.returns-clause-prints
returns-clause-prints c = λ m h earlier later lane first second last other text output over end opened t s.
    (cut_joins c.has_one_reading.ensures.only m h earlier later lane first second last other text output over end t s).2 opened
