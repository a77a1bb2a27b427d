use Rattle.std.proofs.Common.{rules}
use Rattle.sheet.proofs.writer.total.Goals as goal

pub returns : goal.returns
returns c = search rules
