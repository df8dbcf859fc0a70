use Rattle.std.proofs.Common.{refl, sym, ◌∙◌, arith}
use Rattle.spe_catalog.proofs.ReadingLemmas.{front_is, reading_more, reading_clash, joins_yes, joins_no}
use Rattle.spe_catalog.proofs.reading.read_rows.Goals as goal

pub returns-then-not-branch : goal.returns-then-not-branch
returns-then-not-branch c =
    rw c.damage_at-then-not-branch.ensures
    (reading_clash c.args.pairs.now c.loop-left.left.now _ c.pair-item.result c.loop-left.rows.items c.loop-left.names c.in-Some.row
    (front_is c.loop-left.left.now c.pair-item.result _ (omega (arith, c.in-len1-up.len_at_least)) c.pair-item.is refl)
    c.loop-left.invariant (sym c.in_ok-row.ensures ∙ c.in-Some.is) (joins_no c.in-Some.row c.loop-left.names c.joins.new.names c.in_ok-joins.field-0 c.if-not-branch.true c.in_ok-joins.ensures))

pub loop-left-preserved : goal.loop-left-preserved
loop-left-preserved c =
    reading_more c.args.pairs.now c.loop-left.left.now _ c.pair-item.result c.loop-left.rows.items c.push.new.self.items c.loop-left.names
    c.joins.new.names c.in-Some.row
    (front_is c.loop-left.left.now c.pair-item.result _ (omega (arith, c.in-len1-up.len_at_least)) c.pair-item.is refl)
    c.in_ok-push.ensures.items c.loop-left.invariant (sym c.in_ok-row.ensures ∙ c.in-Some.is)
    (joins_yes c.in-Some.row c.loop-left.names c.joins.new.names c.in_ok-joins.field-0 c.if-not-branch.false c.in_ok-joins.ensures)
