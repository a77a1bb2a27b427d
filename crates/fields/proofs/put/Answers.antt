use Rattle.std.proofs.Common.{◌≡◌, ◌+◌, ◌-◌, length, take, drop, sym, ap, ◌∙◌, arith}
use Rattle.std.proofs.lemmas.List.{append_assoc, drop-drop, take_all}
use Rattle.byteorder.specs.Endian.{big_bytes}
use Rattle.byteorder.specs.Numbers.{length-bytes_high_first}
use Rattle.fields.specs.Fields.{written}
use Rattle.fields.proofs.Bytes.{drop-big_bytes}
use Rattle.fields.proofs.put.Goals as goal

pub returns : goal.returns
unfolding written
returns c =
    let at = c.args.at in
    let k = c.args.field.width in
    let bytes = big_bytes k c.args.field.value in
    let old = c.args.out.now in
    let tail : drop (8 - k) c.to_be_bytes-bytes.result ≡ bytes = ap (drop (8 - k)) c.to_be_bytes-bytes.ensures ∙ drop-big_bytes 8 k c.args.field.value c.requires.narrow in
    let all = length-bytes_high_first k c.args.field.value in
    let new : c.copy_from_slice.new.self ≡ bytes =
    c.copy_from_slice.ensures.after ∙ ap (take (8 - (8 - k))) tail ∙ take_all (8 - (8 - k)) bytes (omega arith) in
    let place : at + (at + k - at) ≡ at + length bytes = omega arith in
    rw (new, drop-drop (at + k - at) at old, place) (sym (append_assoc (take at old) bytes (drop (at + length bytes) old)))
