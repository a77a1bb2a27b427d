use Rattle.std.proofs.Common.{◌≡◌, ◌+◌, take}
use Rattle.fields.specs.Fields.{bytes_of, size, written}
use Rattle.fields.proofs.write.Given as goal

abbrev pub invariant-loop-field : goal.invariant-loop-field
invariant-loop-field l =
    let done = take l.field-index l.fields in
    record { place : l.end ≡ l.at + size done; bytes : l.out ≡ written l.at (bytes_of done) l.fn.out }
