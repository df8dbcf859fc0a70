use Rattle.std.proofs.Common.{◌≡◌, List}
use Rattle.spe_model.specs.declared.catalog.Entry.{Entry}
use Rattle.spe_model.specs.Rows.{table_named}
use Rattle.spe_space.specs.Calls.{sight}
use Rattle.spe_serve.specs.Answer.{reply_of_table}
use Rattle.spe_serve.specs.Space.{entry_named}
use Rattle.spe_serve.proofs.AskedLemmas.{named_inside}
use Rattle.spe_serve.proofs.DamageLemmas.{catalog_damage, entry_damage}
use Rattle.spe_serve.proofs.TableLemmas.{named_reply, never_bad, table_found, unnamed_reply}
use Rattle.spe_serve.proofs.table.table_reply.Goals as goal

pub returns-in-Err-clause-reply : goal.returns-in-Err-clause-reply
returns-in-Err-clause-reply g c = λ pages agrees count db small stands.
    never_bad (g.S.Pages.used c.args.space.now) count (sight g.S.Pages c.args.space.now pages) db c.in-Err.fault
    (λ reply. reply ≡ reply_of_table (table_named c.args.name.now db)) small stands (c.in-Err.ensures.found pages agrees stands.height stands.schema)

pub returns-in-Some-clause-reply : goal.returns-in-Some-clause-reply
returns-in-Some-clause-reply g c = λ pages agrees count db small stands.
    let usable = g.S.Pages.used c.args.space.now in
    let shown = sight g.S.Pages c.args.space.now pages in
    let earlier = c.entry_reply.ensures.kept.earlier pages agrees in
    named_reply usable shown (entry_named c.args.name.now c.in-Ok.catalog) (table_named c.args.name.now db) c.in-Some.entry.now c.entry_reply.result
    (table_found usable count shown c.in-Ok.catalog db c.args.name.now stands (c.in-Ok.ensures.found pages earlier stands.height stands.schema)) c.in-Some.ensures
    (λ rows holds. rw (c.in-Ok.ensures.kept.laid, c.in-Ok.ensures.kept.used) at (c.entry_reply.ensures.table pages agrees rows) holds)

pub returns-clause-reply : goal.returns-clause-reply
returns-clause-reply g c = λ pages agrees count db small stands.
    let usable = g.S.Pages.used c.args.space.now in
    let shown = sight g.S.Pages c.args.space.now pages in
    unnamed_reply usable shown (entry_named c.args.name.now c.in-Ok.catalog) (table_named c.args.name.now db)
    (table_found usable count shown c.in-Ok.catalog db c.args.name.now stands (c.in-Ok.ensures.found pages agrees stands.height stands.schema)) c.in-None.ensures

pub returns-in-Err-clause-asks : goal.returns-in-Err-clause-asks
returns-in-Err-clause-asks g c = c.in-Err.ensures.inside

pub returns-in-Err-clause-damage : goal.returns-in-Err-clause-damage
returns-in-Err-clause-damage g c = catalog_damage (List Entry) g.S.Pages c.args.space.now c.read_catalog.new.space c.args.name.now c.in-Err.fault c.in-Err.ensures.damage

pub returns-in-Some-clause-damage : goal.returns-in-Some-clause-damage
returns-in-Some-clause-damage g c =
    entry_damage g.S.Pages c.args.space.now c.read_catalog.new.space c.entry_reply.new.space c.args.name.now c.in-Ok.catalog c.in-Some.entry.now c.entry_reply.result
    c.in-Ok.ensures.kept c.in-Some.ensures c.entry_reply.ensures.damage

pub returns-in-Some-clause-asks : goal.returns-in-Some-clause-asks
returns-in-Some-clause-asks g c = λ pages agrees count db stands.
    let earlier = c.entry_reply.ensures.kept.earlier pages agrees in
    let inside = named_inside (g.S.Pages.used c.args.space.now) count (sight g.S.Pages c.args.space.now pages) c.in-Ok.catalog db c.args.name.now c.in-Some.entry.now stands
    (c.in-Ok.ensures.found pages earlier stands.height stands.schema) c.in-Some.ensures in
    (rw (c.in-Ok.ensures.kept.laid, c.in-Ok.ensures.kept.used) at (c.entry_reply.ensures.asks pages agrees count)) inside
