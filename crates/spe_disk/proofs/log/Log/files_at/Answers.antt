use Rattle.std.proofs.Common.{◌≡◌, ap, rules, min, length, take, drop}
use Rattle.spe_model.specs.Trace.{after}
use Rattle.spe_disk.specs.Log.{Logged, operations_in}
use Rattle.spe_disk.specs.Stop.{torn}
use Rattle.spe_disk.proofs.StopLemmas.{stopped}
use Rattle.spe_disk.proofs.log.Log.files_at.Goals as goal

pub returns : goal.returns
returns c =
    let store = c.self.inside.store.items in
    let entries = c.self.inside.entries.items in
    let front = c.split_at.result.0.now in
    let rest = c.split_at.result.1.now in
    let trace : operations_in store entries ≡ c.args.self.now.trace = ap (λ (l : Logged). l.trace) c.self.view_is in
    let whole : c.min-whole.result ≡ min c.args.operations (length entries) = search rules in
    let before : front ≡ take c.min-whole.result entries = search rules in
    let behind : rest ≡ drop c.min-whole.result entries = search rules in
    let played : c.play.new.files.content ≡ after c.args.self.now.first (operations_in store front) = search rules in
    let torn_too : c.tear.new.files.content ≡ after c.play.new.files.content (torn (operations_in store rest) c.args.bytes) = search rules in
    stopped store entries front rest _ c.args.self.now.first _ c.args.self.now.trace c.args.operations c.args.bytes c.min-whole.result trace whole before behind played torn_too
