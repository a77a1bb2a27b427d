use Rattle.std.proofs.Common.{ap, ◌∙◌}
use Rattle.vault.specs.Meaning.{sound, with_held, put_refusal}
use Rattle.vault.specs.Views.{file_view}
use Rattle.vault.proofs.Checks.{accepted, changed}
use Rattle.vault.proofs.Requests.{put-passed, put-sound, added}
use Rattle.vault.proofs.file.KeyFileVault.put.Goals as goal

pub invariant_of-self : goal.invariant_of-self
invariant_of-self c =
    let f = c.args.self.now in
    let e = accepted tt (put_refusal (file_view f) c.args.serial) c.in_ok-check_put.ensures in
    let p = put-passed (file_view f) c.args.serial e in
    record {
      small = f.small;
      ordered = ap (λ held. sound (with_held (file_view f) held)) (added c.args.serial f.serials c.insert.new.self p.1 c.insert.ensures.list)
          ∙ put-sound (file_view f) f.ordered c.args.serial e;
    }

pub returns-clause-after : goal.returns-clause-after
returns-clause-after c =
    let f = c.args.self.now in
    let e = accepted tt (put_refusal (file_view f) c.args.serial) c.in_ok-check_put.ensures in
    let p = put-passed (file_view f) c.args.serial e in
    ap (with_held (file_view f)) (added c.args.serial f.serials c.insert.new.self p.1 c.insert.ensures.list)
    ∙ changed (put_refusal (file_view f) c.args.serial) (file_view f) _ e
