-- `saved_bytes::parts::put_bytes` meets its contract: what was copied into the part stands in the buffer. Assumes nothing.
use Rattle.std.proofs.Common.{◌+◌, ◌-◌, length, arith}
use Rattle.saved_bytes.proofs.Putting.{part-put}
use Rattle.saved_bytes.proofs.parts.put_bytes.Goals as goal

pub returns : goal.returns
returns c = part-put c.args.at c.args.output.now (c.args.at + length c.args.bytes.now - c.args.at) c.args.bytes.now _ (omega arith) c.copy_from_slice.ensures.after
