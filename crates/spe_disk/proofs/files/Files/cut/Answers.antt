use Rattle.std.proofs.Common.{◌≡◌, ◌∙◌, ap, Some, take, unwrap_or, [], arith}
use Rattle.spe_disk.specs.Held.{HeldFiles, contents}
use Rattle.spe_disk.proofs.HeldLemmas.{found, changed}
use Rattle.spe_disk.proofs.files.Files.cut.Goals as goal

pub returns-clause-content : goal.returns-clause-content
returns-clause-content c =
    let content : contents c.self.inside.list.items ≡ c.args.self.now.content = ap (λ (f : HeldFiles). f.content) c.self.view_is in
    let old = found c.self.inside.list.items _ c.args.file c.place.result c.index_mut-held.result.now content c.place.ensures.is (omega arith) c.index_mut-held.ensures.value in
    let bytes = c.cut.ensures.bytes ∙ ap (λ o. Some (take c.args.size (unwrap_or o []))) old in
    changed c.self.inside.list.items _ c.args.file c.place.result c.cut.new.self _ content c.place.ensures.is bytes
