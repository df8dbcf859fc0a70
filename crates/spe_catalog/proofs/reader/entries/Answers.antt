use Rattle.std.proofs.Common.{List, [], ◌∷◌, refl, ◌∙◌, arith}
use Rattle.std.specs.declared.vec.Vec.{Vec}
use Rattle.std.specs.declared.alloc.Global.{Global}
use Rattle.spe_model.specs.declared.catalog.Entry.{Entry}
use Rattle.spe_model.specs.Schema.{is_index_page}
use Rattle.spe_space.specs.Calls.{sight, reads_both}
use Rattle.spe_space.specs.Found.{Answers, missing_weaker}
use Rattle.spe_catalog.specs.Reader.{tables_of}
use Rattle.spe_catalog.specs.Asks.{IsRootIn, MissesOnly}
use Rattle.spe_catalog.proofs.PassedLemmas.{handed_on}
use Rattle.spe_catalog.proofs.AsksLemmas.{first_in, rest_in, adds_both}
use Rattle.spe_catalog.proofs.ReadingLemmas.{front_is}
use Rattle.spe_catalog.proofs.ReaderLemmas.{answers_fault, made_more, made_end, row_number}
use Rattle.spe_catalog.proofs.reader.entries.Goals as goal

pub returns-in_err-push_entry-clause-made : goal.returns-in_err-push_entry-clause-made
returns-in_err-push_entry-clause-made g c = λ pages agrees all attaches numbers.
    let before = c.loop-left.invariant.made pages (c.in_err-push_entry.ensures.kept.earlier pages agrees) all attaches numbers in
    let front = front_is c.loop-left.left.now c.row-item.result _ (omega (arith, c.in-len1-up.len_at_least)) c.row-item.is refl in
    handed_on (λ r. Answers (λ v. v.items) (tables_of (is_index_page (sight g.S.Pages c.args.space.now pages)) all c.args.rows.now) r) c.from_residual.result c.in_err-push_entry.field-0.0 c.from_residual.ensures.1
    (answers_fault (Vec Entry Global) (List Entry) (λ v. v.items) (tables_of (is_index_page (sight g.S.Pages c.args.space.now pages)) all c.args.rows.now)
    (tables_of (is_index_page (sight g.S.Pages c.loop-left.space pages)) all (c.row-item.result ∷ [])) c.loop-left.found.items c.push_entry.new.out.items c.in_err-push_entry.field-0.0
    (c.in_err-push_entry.ensures.made pages agrees all attaches (row_number c.loop-left.left.now _ c.row-item.result front before.0)))

pub loop-left-preserved : goal.loop-left-preserved
loop-left-preserved g c = record {
  kept = reads_both g.S.Pages c.args.space.now c.loop-left.space c.push_entry.new.space c.loop-left.invariant.kept c.in_ok-push_entry.ensures.kept;
  refusal = c.in_ok-push_entry.ensures.refusal ∙ c.loop-left.invariant.refusal;
  buf = omega (arith, c.push_entry.auto.buf, c.loop-left.invariant.buf);
  made = λ pages agrees all attaches numbers.
      made_more (is_index_page (sight g.S.Pages c.args.space.now pages)) all c.loop-left.left.now _ c.row-item.result c.loop-left.found.items c.push_entry.new.out.items
      (tables_of (is_index_page (sight g.S.Pages c.args.space.now pages)) all c.args.rows.now)
      (front_is c.loop-left.left.now c.row-item.result _ (omega (arith, c.in-len1-up.len_at_least)) c.row-item.is refl)
      (c.loop-left.invariant.made pages (c.in_ok-push_entry.ensures.kept.earlier pages agrees) all attaches numbers)
      (λ number. rw c.loop-left.invariant.kept.laid at (c.in_ok-push_entry.ensures.made pages agrees all attaches number));
  adds = adds_both g.S.Pages c.args.space.now c.loop-left.space c.push_entry.new.space (IsRootIn c.args.rows.now) (IsRootIn (c.row-item.result ∷ [])) (IsRootIn c.args.rows.now)
      c.loop-left.invariant.adds c.in_ok-push_entry.ensures.adds (λ n has. has)
      (λ n root. c.loop-left.invariant.inside n
      (first_in c.loop-left.left.now _ c.row-item.result (front_is c.loop-left.left.now c.row-item.result _ (omega (arith, c.in-len1-up.len_at_least)) c.row-item.is refl) n root));
  inside = λ n root. c.loop-left.invariant.inside n
      (rest_in c.loop-left.left.now _ c.row-item.result (front_is c.loop-left.left.now c.row-item.result _ (omega (arith, c.in-len1-up.len_at_least)) c.row-item.is refl) n root);
}

pub returns-clause-made : goal.returns-clause-made
returns-clause-made g c = λ pages agrees all attaches numbers.
    made_end (is_index_page (sight g.S.Pages c.args.space.now pages)) all c.loop-left.left.now c.loop-left.found.items
    (tables_of (is_index_page (sight g.S.Pages c.args.space.now pages)) all c.args.rows.now) (omega (arith, c.in_default.len_below))
    (c.loop-left.invariant.made pages agrees all attaches numbers).1

pub returns-in_err-push_entry-clause-adds : goal.returns-in_err-push_entry-clause-adds
returns-in_err-push_entry-clause-adds g c =
    let front = front_is c.loop-left.left.now c.row-item.result _ (omega (arith, c.in-len1-up.len_at_least)) c.row-item.is refl in
    adds_both g.S.Pages c.args.space.now c.loop-left.space c.push_entry.new.space (IsRootIn c.args.rows.now) (IsRootIn (c.row-item.result ∷ [])) (IsRootIn c.args.rows.now)
    c.loop-left.invariant.adds c.in_err-push_entry.ensures.adds (λ n has. has) (λ n root. c.loop-left.invariant.inside n (first_in c.loop-left.left.now _ c.row-item.result front n root))

pub returns-in_err-push_entry-clause-page_out : goal.returns-in_err-push_entry-clause-page_out
returns-in_err-push_entry-clause-page_out g c =
    let front = front_is c.loop-left.left.now c.row-item.result _ (omega (arith, c.in-len1-up.len_at_least)) c.row-item.is refl in
    handed_on (λ r. MissesOnly r (IsRootIn c.args.rows.now)) c.from_residual.result c.in_err-push_entry.field-0.0 c.from_residual.ensures.1
    (missing_weaker (IsRootIn (c.row-item.result ∷ [])) (IsRootIn c.args.rows.now) c.in_err-push_entry.field-0.0
    (λ n root. c.loop-left.invariant.inside n (first_in c.loop-left.left.now _ c.row-item.result front n root)) c.in_err-push_entry.ensures.page_out)

pub returns-clause-adds : goal.returns-clause-adds
returns-clause-adds g c = c.loop-left.invariant.adds
