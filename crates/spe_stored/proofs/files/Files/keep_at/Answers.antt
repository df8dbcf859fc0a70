use Rattle.std.proofs.Common.{◌≡◌, Some, arith, refl}
use Rattle.std.specs.Prelude.{slice_get}
use Rattle.std.proofs.lemmas.Grind.{common_steps}
use Rattle.std.proofs.lemmas.Option.{gets}
use Rattle.std.proofs.lemmas.Result.{IfOk-weaker}
use Rattle.spe_model.specs.Content.{place_of}
use Rattle.spe_stored.proofs.FilesLemmas.{file_keeps}
use Rattle.spe_stored.proofs.files.Files.keep_at.Goals as goal

pub returns-in-Some : goal.returns-in-Some
returns-in-Some c =
    let found : slice_get c.args.self.now (place_of c.args.file) ≡ Some c.in-Some.held.now = grind (arith, common_steps, gets) in
    IfOk-weaker c.keep.result _ _ (λ kept k. file_keeps _ c.args.file _ c.args.at _ kept found k c.args.bytes.now refl) c.keep.ensures
