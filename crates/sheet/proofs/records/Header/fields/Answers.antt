use Rattle.std.proofs.Common.{rules}
use Rattle.sheet.proofs.records.Header.fields.Goals as goal

pub returns : goal.returns
returns c = search rules
