use Rattle.std.proofs.Common.{◌∙◌, ℕ, ap, sym}
use Rattle.std.specs.Global.{Global}
use Rattle.std.specs.Prelude.{Vec}
use Rattle.spe_model.specs.declared.verdict.Verdict.{Verdict}
use Rattle.spe_model.specs.Schema.{SchemaRow}
use Rattle.spe_check.specs.MetPages.{has_met}
use Rattle.spe_check.specs.SchemaRows.{rows_in}
use Rattle.spe_check.specs.Verdicts.{narrowed, tables_among}
use Rattle.spe_check.proofs.ShownLemmas.{shows_before}
use Rattle.spe_check.proofs.VerdictLemmas.{all_counted, all_passed, free_halt, objects_halt, schema_halt}
use Rattle.spe_check.proofs.verdict.try_all.Goals as goal

pub returns-in-Err-clause-tried : goal.returns-in-Err-clause-tried
returns-in-Err-clause-tried g c = λ usable pages shows legal. (
  schema_halt (Vec (ℕ × SchemaRow) Global) Verdict usable c.args.walk.now.met.pages pages (has_met c.args.walk.now.met) (has_met c.try_schema.new.walk.met) c.in-Err.halt (c.in-Err.ensures.tried usable pages shows).0,
  tt,
)

pub returns-in-Err-try_objects-clause-tried : goal.returns-in-Err-try_objects-clause-tried
returns-in-Err-try_objects-clause-tried g c = λ usable pages shows legal.
    let before = shows_before g.S.Pages c.try_schema.new.space c.try_objects.new.space usable pages c.in-Err-try_objects.ensures.walked.reads shows in
    let schema = c.in-Ok.ensures.tried usable pages before in
    let placed = c.as_slice.ensures.value ∙ schema.1 in
    let tried = c.in-Err-try_objects.ensures.tried usable pages shows (ap rows_in placed) in (
      objects_halt ℕ Verdict usable pages c.args.walk.now.met c.try_schema.new.walk.met c.try_objects.new.walk.met c.as_slice.result.now c.in-Err-try_objects.halt
          c.in-Ok.ensures.walked.pages placed schema.0 tried.0,
      tt,
    )

pub returns-in-Ok-try_free-clause-tried : goal.returns-in-Ok-try_free-clause-tried
returns-in-Ok-try_free-clause-tried g c = λ usable pages shows legal.
    let later = shows_before g.S.Pages c.try_objects.new.space c.try_free.new.space usable pages c.in-Ok-try_free.ensures.walked.reads shows in
    let before = shows_before g.S.Pages c.try_schema.new.space c.try_objects.new.space usable pages c.in-Ok-try_objects.ensures.walked.reads later in
    let schema = c.in-Ok.ensures.tried usable pages before in
    let placed = c.as_slice.ensures.value ∙ schema.1 in
    let objects = c.in-Ok-try_objects.ensures.tried usable pages later (ap rows_in placed) in
    let free = c.in-Ok-try_free.ensures.tried usable pages shows legal in
    let same = c.in-Ok-try_objects.ensures.walked.pages ∙ c.in-Ok.ensures.walked.pages in
    let tables = c.count_tables.ensures ∙ ap (λ xs. narrowed (tables_among xs)) (c.as_slice-in-Ok-try_free.ensures.value ∙ sym c.as_slice.ensures.value) in (
      all_passed usable pages c.args.walk.now.met c.try_schema.new.walk.met c.try_objects.new.walk.met c.try_free.new.met c.as_slice.result.now
          c.in-Ok.ensures.walked.pages same placed schema.0 objects.0 free.0,
      all_counted usable pages c.args.walk.now.met.pages c.try_objects.new.walk.met.pages c.count_tables.result c.in-Ok-try_objects.rows c.in-Ok-try_free.free c.narrowed.result c.as_slice.result.now
          same placed tables objects.1 c.narrowed.ensures free.1,
    )

pub returns-clause-tried : goal.returns-clause-tried
returns-clause-tried g c = λ usable pages shows legal.
    let later = shows_before g.S.Pages c.try_objects.new.space c.try_free.new.space usable pages c.in-Err-try_free.ensures.walked.reads shows in
    let before = shows_before g.S.Pages c.try_schema.new.space c.try_objects.new.space usable pages c.in-Ok-try_objects.ensures.walked.reads later in
    let schema = c.in-Ok.ensures.tried usable pages before in
    let placed = c.as_slice.ensures.value ∙ schema.1 in
    let objects = c.in-Ok-try_objects.ensures.tried usable pages later (ap rows_in placed) in
    let free = c.in-Err-try_free.ensures.tried usable pages shows legal in (
      free_halt usable pages c.args.walk.now.met c.try_schema.new.walk.met c.try_objects.new.walk.met c.try_free.new.met c.as_slice.result.now c.in-Err-try_free.halt
          c.in-Ok.ensures.walked.pages (c.in-Ok-try_objects.ensures.walked.pages ∙ c.in-Ok.ensures.walked.pages) placed schema.0 objects.0 free.0,
      tt,
    )
