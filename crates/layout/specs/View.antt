-- The drive that a layout is, beside a numbering and a vault.
use Rattle.std.specs.Prelude.{Bool, false, []}
use Rattle.vault.specs.Meaning.{Meaning}
use Rattle.rules.specs.declared.numbering.Bounds.{Bounds}
use Rattle.rules.specs.Drive.{Drive}
use Rattle.layout.specs.declared.content.Layout.{Layout}

abbrev pub drive : Layout → Bool → Bounds → Meaning → Drive
drive l closed bounds vault = record {
  closed = closed;
  numbering = bounds;
  units = l.units;
  rows = l.rows;
  next = l.next;
  policy = l.policy;
  vault = vault;
}

-- the drive that a layout is beside no vault, for definitions that read of a drive its content alone
abbrev pub content : Layout → Drive
content l = drive l false (record { first = 0; last = 0; mark = 0; code = 0 }) (record { capacity = 0; held = [] })
