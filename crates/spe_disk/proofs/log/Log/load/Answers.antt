use Rattle.std.proofs.Common.{◌∙◌, ap}
use Rattle.spe_disk.specs.Log.{Logged}
use Rattle.spe_disk.proofs.LogLemmas.{file_loaded, operations_in-append}
use Rattle.spe_disk.proofs.log.Log.load.Goals as goal

pub returns-clause-first : goal.returns-clause-first
returns-clause-first c =
    let first = ap (λ (l : Logged). l.first) c.self.view_is in
    file_loaded c.self.inside.store.items c.args.bytes.now _ c.self.inside.firsts.items c.append-span.result _ c.args.file c.place.result c.append-span.ensures.items
    c.append-span.ensures.start c.append-span.ensures.end c.self.invariant.files first c.place.ensures.is

pub returns-clause-trace : goal.returns-clause-trace
returns-clause-trace c =
    let trace = ap (λ (l : Logged). l.trace) c.self.view_is in
    operations_in-append c.self.inside.store.items c.args.bytes.now _ c.self.inside.entries.items c.append-span.ensures.items c.self.invariant.operations ∙ trace
