-- `processor_undefined::masks`: by the answer.
use Rattle.processor_undefined.proofs.masks.Goals as goal

pub returns-in-Ended : goal.returns-in-Ended
returns-in-Ended c = λ sys psw mode m. rw c.in-Ended.is (c.read.ensures sys psw mode m)

pub returns-in-Trapped : goal.returns-in-Trapped
returns-in-Trapped c = λ sys psw mode m. rw c.in-Trapped.is (c.read-in-Trapped.ensures sys psw mode m)

pub returns-in-Interrupted : goal.returns-in-Interrupted
returns-in-Interrupted c = λ sys psw mode m. rw c.in-Interrupted.is c.none.ensures

pub returns-in-TurnedFatal : goal.returns-in-TurnedFatal
returns-in-TurnedFatal c = λ sys psw mode m. rw c.in-TurnedFatal.is (c.read-in-TurnedFatal.ensures sys psw mode m)

pub returns-in-WasHalted : goal.returns-in-WasHalted
returns-in-WasHalted c = λ sys psw mode m. rw c.in-WasHalted.is c.none-in-WasHalted.ensures

pub returns-in-WasFatal : goal.returns-in-WasFatal
returns-in-WasFatal c = λ sys psw mode m. rw c.in-WasFatal.is c.none-in-WasFatal.ensures

pub returns-in-Refused : goal.returns-in-Refused
returns-in-Refused c = λ sys psw mode m. rw c.in-Refused.is c.none-in-Refused.ensures
