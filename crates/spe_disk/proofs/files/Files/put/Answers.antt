use Rattle.std.proofs.Common.{◌≡◌, Some, ap, rules}
use Rattle.spe_disk.specs.Held.{HeldFiles, contents}
use Rattle.spe_disk.proofs.HeldLemmas.{changed, unchanged}
use Rattle.spe_disk.proofs.files.Files.put.Goals as goal

pub returns-clause-ok : goal.returns-clause-ok
returns-clause-ok c =
    let content : contents c.self.inside.list.items ≡ c.args.self.now.content = ap (λ (f : HeldFiles). f.content) c.self.view_is in
    let bytes : c.put.new.self.bytes ≡ Some c.args.bytes.now = search rules in
    changed c.self.inside.list.items _ c.args.file c.place.result c.put.new.self _ content c.place.ensures.is bytes

pub returns-then-is_err-clause-err : goal.returns-then-is_err-clause-err
returns-then-is_err-clause-err c =
    let content : contents c.self.inside.list.items ≡ c.args.self.now.content = ap (λ (f : HeldFiles). f.content) c.self.view_is in
    let same : c.put.new.self.bytes ≡ c.index_mut-held.result.now.bytes = search rules in
    unchanged c.self.inside.list.items _ c.place.result _ c.put.new.self content c.index_mut-held.ensures.value same
