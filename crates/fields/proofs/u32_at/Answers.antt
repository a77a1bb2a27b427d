use Rattle.std.proofs.Common.{◌∙◌}
use Rattle.fields.proofs.Bytes.{number_at-rest}
use Rattle.fields.proofs.u32_at.Goals as goal

pub returns : goal.returns
returns c = c.read_u32.ensures ∙ number_at-rest c.args.at 4 c.args.bytes.now
