use Rattle.std.proofs.Common.{refl, arith}
use Rattle.spe_model.specs.Definition.{names_of}
use Rattle.spe_catalog.specs.Names.{has_name}
use Rattle.spe_catalog.proofs.DistinctLemmas.{apart_first, apart_turn}
use Rattle.spe_catalog.proofs.table.are_distinct.Goals as goal

pub loop-left-init : goal.loop-left-init
loop-left-init c = apart_first (has_name c.new-names.result) (names_of c.args.columns.now) c.new-names.ensures

pub loop-left-preserved : goal.loop-left-preserved
loop-left-preserved c =
    apart_turn c.args.columns.now c.loop-left.left.now (has_name c.loop-left.names) (has_name c.insert.new.self) c.column-item.result c.as_str.result.now c.in_ok-insert.field-0 _
    (omega (arith, c.in-len1-up.len_at_least)) c.column-item.is refl c.as_str.ensures c.in_ok-insert.ensures.added c.if-not-branch.false c.in_ok-insert.ensures.has
    c.loop-left.invariant
