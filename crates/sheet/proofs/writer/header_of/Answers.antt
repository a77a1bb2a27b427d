use Rattle.std.proofs.Common.{rules}
use Rattle.sheet.proofs.writer.header_of.Goals as goal

pub returns : goal.returns
returns c = search rules
