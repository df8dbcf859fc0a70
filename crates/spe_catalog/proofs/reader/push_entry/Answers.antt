use Rattle.std.proofs.Common.{◌≡◌, true, [], ◌∷◌, sym, ◌∙◌}
use Rattle.spe_model.specs.declared.catalog.Entry.{Entry}
use Rattle.spe_model.specs.Schema.{is_index_page, is_table_row, entry_of}
use Rattle.spe_space.specs.Calls.{sight}
use Rattle.spe_catalog.specs.Reader.{Pushes, tables_of}
use Rattle.spe_catalog.proofs.PassedLemmas.{handed_on}
use Rattle.spe_catalog.proofs.AsksLemmas.{adds_of_row}
use Rattle.spe_catalog.proofs.ReaderLemmas.{pushed_fault, pushed_one}
use Rattle.spe_catalog.proofs.reader.push_entry.Goals as goal

pub returns-in_err-entry-clause-made : goal.returns-in_err-entry-clause-made
returns-in_err-entry-clause-made g c = λ pages agrees all attaches number.
    let f = is_index_page (sight g.S.Pages c.args.space.now pages) in
    handed_on (λ r. Pushes (tables_of f all (c.args.row.now ∷ [])) c.args.out.now.items c.args.out.now.items r) c.from_residual.result c.in_err-entry.field-0.0 c.from_residual.ensures.1
    (pushed_fault Entry Entry (Unit {0}) (λ e. e) (entry_of f all c.args.row.now) (tables_of f all (c.args.row.now ∷ [])) c.args.out.now.items c.args.out.now.items c.in_err-entry.field-0.0
    (c.in_err-entry.ensures.made pages agrees all attaches (sym c.is_table.ensures ∙ c.if-not-is_table.false) number))

pub returns-clause-made : goal.returns-clause-made
returns-clause-made g c = λ pages agrees all attaches number.
    let table : is_table_row c.args.row.now ≡ true = sym c.is_table.ensures ∙ c.if-not-is_table.false in
    pushed_one (is_index_page (sight g.S.Pages c.args.space.now pages)) all c.args.row.now c.args.out.now.items c.push.new.self.items c.in_ok-entry.entry table
    (c.in_ok-entry.ensures.made pages agrees all attaches table number) c.in_ok-push.ensures.items

pub returns-in_err-push-clause-adds : goal.returns-in_err-push-clause-adds
returns-in_err-push-clause-adds g c =
    adds_of_row g.S.Pages c.args.space.now c.make_entry.new.space c.args.row.now (sym c.is_table.ensures ∙ c.if-not-is_table.false) c.in_ok-entry.ensures.adds
