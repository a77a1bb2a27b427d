-- The meanings of the two kinds, for clauses.
use Rattle.vault.specs.Meaning.{Meaning}
use Rattle.vault.specs.Kinds.{chip_meaning}
use Rattle.vault.specs.declared.file.KeyFile.{KeyFile}
use Rattle.vault.specs.declared.chip.KeyChip.{KeyChip}

abbrev pub file_view : KeyFile → Meaning
file_view f = record { capacity = f.capacity; held = f.serials }

abbrev pub chip_view : KeyChip → Meaning
chip_view v = chip_meaning v.used v.registers.now
