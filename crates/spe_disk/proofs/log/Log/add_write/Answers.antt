use Rattle.std.proofs.Common.{◌∙◌, ap}
use Rattle.spe_disk.specs.Log.{Logged, operations_in}
use Rattle.spe_disk.proofs.LogLemmas.{files_in-append, write_added}
use Rattle.spe_disk.proofs.log.Log.add_write.Goals as goal

pub returns-clause-first : goal.returns-clause-first
returns-clause-first c =
    let first = ap (λ (l : Logged). l.first) c.self.view_is in
    files_in-append c.self.inside.store.items c.args.bytes.now _ c.self.inside.firsts.items c.append-span.ensures.items c.self.invariant.files ∙ first

pub returns-clause-trace : goal.returns-clause-trace
returns-clause-trace c =
    let trace = ap (λ (l : Logged). l.trace) c.self.view_is in
    ap (operations_in c.append-span.new.store.items) c.push.ensures.items ∙ write_added c.self.inside.store.items c.args.bytes.now _ c.self.inside.entries.items c.append-span.result _ c.args.file c.args.at c.append-span.ensures.items
    c.append-span.ensures.start c.append-span.ensures.end c.self.invariant.operations trace
