-- `capi_processor::replays::end_refusal`: by the end. Assumes nothing.
use Rattle.capi_processor.proofs.replays.end_refusal.Goals as goal

pub returns-in-Refused : goal.returns-in-Refused
returns-in-Refused c = rw c.in-Refused.is c.from.ensures
