-- `calls::format::reply_bytes` meets its contract, byte by byte of the three values.
use Rattle.calls.proofs.FormatLaws.{bytes-replied}
use Rattle.calls.proofs.format.reply_bytes.Goals as goal

pub returns : goal.returns
returns c = bytes-replied c.args.r _ _ _ c.four_bytes-a.ensures c.four_bytes-b.ensures c.four_bytes-c.ensures
