use Rattle.std.proofs.Common.{◌≡◌, ◌<◌, ◌∙◌, sym, ap, length, Some, unwrap_or, [], arith, rules}
use Rattle.std.proofs.lemmas.Bool.Decides.{nat_tests}
use Rattle.spe_model.specs.Trace.{laid_over}
use Rattle.spe_disk.specs.Held.{HeldFiles, contents}
use Rattle.spe_disk.proofs.HeldLemmas.{found, changed, unchanged, written}
use Rattle.spe_disk.proofs.files.Files.write.Goals as goal

pub returns-clause-ok : goal.returns-clause-ok
returns-clause-ok c =
    let content : contents c.self.inside.list.items ≡ c.args.self.now.content = ap (λ (f : HeldFiles). f.content) c.self.view_is in
    let old = found c.self.inside.list.items _ c.args.file c.place.result c.index_mut-held.result.now content c.place.ensures.is (omega arith) c.index_mut-held.ensures.value in
    let some : 0 < length c.args.bytes.now = grind (arith, nat_tests) in
    let laid : c.write.new.self.bytes ≡ Some (laid_over (unwrap_or c.index_mut-held.result.now.bytes []) c.args.at c.args.bytes.now) = search rules in
    let bytes = laid ∙ ap (λ o. Some (laid_over (unwrap_or o []) c.args.at c.args.bytes.now)) old in
    changed c.self.inside.list.items _ c.args.file c.place.result c.write.new.self _ content c.place.ensures.is bytes ∙ sym (written _ c.args.file c.args.at _ some)

pub returns-then-is_err-clause-err : goal.returns-then-is_err-clause-err
returns-then-is_err-clause-err c =
    let content : contents c.self.inside.list.items ≡ c.args.self.now.content = ap (λ (f : HeldFiles). f.content) c.self.view_is in
    let same : c.write.new.self.bytes ≡ c.index_mut-held.result.now.bytes = search rules in
    unchanged c.self.inside.list.items _ c.place.result _ c.write.new.self content c.index_mut-held.ensures.value same
