-- What `next` answers and leaves.
use Rattle.std.specs.Prelude.{◌≡◌, ◌<◌, List, ℕ, ◌++◌, length}
use Rattle.std.specs.Borrow.{Fml, MutBor}
use Rattle.std.specs.Io.BufRead.{Rests}
use Rattle.hsm_frame.specs.Frames.{IsMessage, IsShort, frame}
use Rattle.hsm_frame.specs.Calls.{Held, Answer, Answers, IsNotYet}
use Rattle.hsm_frame.specs.Calls as calls
use Rattle.hsm_frame.specs.declared.Next.{Next}
use Rattle.hsm_frame.specs.declared.Next.TheVariants.{NotYet, Short, Message}
use Rattle.hsm_frame.specs.contracts.Frames.{the_row}

-- what an answer is, the message being the bytes that are lent
abbrev pub answer_of : Next → Answer
answer_of NotYet = calls.NotYet
answer_of (Short n) = calls.Short n
answer_of (Message m) = calls.Message m.now

-- What the answer says of the bytes that were held. They begin with a message that is lent, framed.
abbrev pub IsAnswerFor : Held → Next → Type 0
IsAnswerFor old NotYet = IsNotYet old.least old.bytes × (length old.bytes < 65537)
IsAnswerFor old (Short n) = IsShort old.least n old.bytes
IsAnswerFor old (Message m) = IsMessage old.least m.now × ((rest : List ℕ) × (old.bytes ≡ frame m.now ++ rest))

-- What is held once the answer's loan ends: what `Answers` says of what was held and this answer. A message is lent out of the receiver, so until
-- then the receiver has no state that a plain clause could name; `Rests` is the toolchain's word for the one that it comes to.
abbrev pub LeavesAnswered : MutBor Held → Next → Fml
LeavesAnswered frames answer = Rests the_row frames (Answers frames.now (answer_of answer))
