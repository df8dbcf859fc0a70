use Rattle.std.proofs.Common.{◌≡◌, ℕ, ◌+◌, ◌-◌, ◌++◌, List, max, length, take, drop, ap, Some, unwrap_or, rules, []}
use Rattle.spe_model.specs.Content.{zeros}
use Rattle.spe_stored.proofs.LaidLemmas.{laid_is, bytes_held}
use Rattle.spe_stored.proofs.stored.Stored.write.Goals as goal

pub returns-clause-ok : goal.returns-clause-ok
returns-clause-ok c =
    let longer : List ℕ = c.resize.new.self.items in
    let held : unwrap_or c.args.self.now [] ≡ c.self.inside.bytes.items = search (rules, bytes_held c.self.inside.there c.self.inside.bytes.items c.self.invariant) in
    let end : c.in-Some.end ≡ c.args.at + length c.args.bytes.now = search rules in
    let size : c.max-size.result ≡ max (length c.self.inside.bytes.items) c.in-Some.end = search rules in
    let items : longer ≡ take c.max-size.result c.self.inside.bytes.items ++ zeros (c.max-size.result - length c.self.inside.bytes.items) = search rules in
    let over : c.lay.new.old ≡ take c.args.at longer ++ c.args.bytes.now ++ drop (c.args.at + length c.args.bytes.now) longer = search rules in
    let len : c.resize.new.self.len ≡ c.max-size.result = search rules in
    let kept : length c.lay.new.old ≡ length longer = search rules in
    let laid = laid_is c.self.inside.bytes.items c.args.bytes.now longer c.lay.new.old c.args.at c.max-size.result c.in-Some.end c.resize.new.self.len end size items over len kept in
    rw held (ap Some laid)
