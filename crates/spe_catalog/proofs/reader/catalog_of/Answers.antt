use Rattle.std.proofs.Common.{List, ◌∙◌}
use Rattle.std.specs.declared.vec.Vec.{Vec}
use Rattle.std.specs.declared.alloc.Global.{Global}
use Rattle.spe_model.specs.declared.catalog.Entry.{Entry}
use Rattle.spe_model.specs.Schema.{is_index_page}
use Rattle.spe_space.specs.Calls.{sight}
use Rattle.spe_space.specs.Found.{Answers}
use Rattle.spe_catalog.specs.Reader.{tables_of}
use Rattle.spe_catalog.proofs.PassedLemmas.{handed_on}
use Rattle.spe_catalog.proofs.ReaderLemmas.{answers_same}
use Rattle.spe_catalog.proofs.reader.catalog_of.Goals as goal

pub returns-clause-made : goal.returns-clause-made
returns-clause-made g c = λ pages agrees numbers. c.new-2.ensures ∙ c.in_ok-found.ensures.made pages agrees c.args.rows.now c.in_ok-attached.ensures numbers

pub returns-in_err-found-clause-made : goal.returns-in_err-found-clause-made
returns-in_err-found-clause-made g c = λ pages agrees numbers.
    handed_on (λ r. Answers (λ x. x) (tables_of (is_index_page (sight g.S.Pages c.args.space.now pages)) c.args.rows.now c.args.rows.now) r) c.from_residual-in_err-found.result c.in_err-found.field-0.0
    c.from_residual-in_err-found.ensures.1
    (answers_same (Vec Entry Global) (List Entry) (List Entry) (λ v. v.items) (λ x. x)
    (tables_of (is_index_page (sight g.S.Pages c.args.space.now pages)) c.args.rows.now c.args.rows.now) c.in_err-found.field-0.0
    (c.in_err-found.ensures.made pages agrees c.args.rows.now c.in_ok-attached.ensures numbers))
