use Rattle.std.proofs.Common.{rules}
use Rattle.layout.proofs.content.Layout.fresh_serial.Goals as goal

pub returns-clause-next : goal.returns-clause-next
returns-clause-next c = search rules
