use Rattle.fields.proofs.Bytes.{big_bytes-number_at}
use Rattle.fields.proofs.laws.read_is_written_back.Goals as goal

pub returns : goal.returns
returns c bytes at k are_bytes within = big_bytes-number_at at k bytes are_bytes within
