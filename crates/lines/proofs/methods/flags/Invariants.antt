-- Of each flag the flags so far, or a word that is left, say what all the words say.
use Rattle.std.proofs.Common.{◌≡◌, true, ◌||◌, codes}
use Rattle.std.specs.List.{AllByRecursion}
use Rattle.lines.specs.Says.{is_flag, stands}
use Rattle.lines.proofs.methods.flags.Given as goal

abbrev pub invariant-loop-word : goal.invariant-loop-word
invariant-loop-word l =
    (AllByRecursion (λ w. is_flag w ≡ true) l.word-iterator → AllByRecursion (λ w. is_flag w ≡ true) l.fn.words)
    × ((l.flags.read_lock_enabled || stands (codes "read-enabled") l.word-iterator) ≡ stands (codes "read-enabled") l.fn.words)
    × ((l.flags.write_lock_enabled || stands (codes "write-enabled") l.word-iterator) ≡ stands (codes "write-enabled") l.fn.words)
    × ((l.flags.read_locked || stands (codes "read-locked") l.word-iterator) ≡ stands (codes "read-locked") l.fn.words)
    × ((l.flags.write_locked || stands (codes "write-locked") l.word-iterator) ≡ stands (codes "write-locked") l.fn.words)
    × ((l.flags.lock_on_reset || stands (codes "lock-on-reset") l.word-iterator) ≡ stands (codes "lock-on-reset") l.fn.words)
