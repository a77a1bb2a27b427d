use Rattle.std.proofs.Common.{ap, ◌∙◌}
use Rattle.fields.specs.Fields.{bytes_of, written}
use Rattle.sheet.specs.Saving.{descriptor_fields}
use Rattle.sheet.proofs.Writing.{from-start}
use Rattle.sheet.proofs.descriptor.describe.Goals as goal

pub returns : goal.returns
returns c =
    c.write.ensures.bytes
    ∙ ap (λ fs. written 0 (bytes_of fs) c.args.out.now) c.descriptor_fields.ensures
    ∙ from-start (bytes_of (descriptor_fields c.args.rows.now c.args.capacity c.args.unused)) c.args.out.now
