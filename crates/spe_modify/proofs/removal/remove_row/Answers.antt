use Rattle.std.proofs.Common.{◌≡◌, ℤ, subst, arith, to_z, of_z, w64, to_z-of_z}
use Rattle.spe_delete.specs.Delete.{Missing}
use Rattle.spe_delete.specs.Row.{Taken}
use Rattle.spe_modify.proofs.RemovalLemmas.{removes, unmatched}
use Rattle.spe_modify.proofs.ServedLemmas.{alone_there, if_ok, if_ok_both, lacks_rowid, own}
use Rattle.spe_modify.proofs.removal.remove_row.Goals as goal

pub returns-clause-removed : goal.returns-clause-removed
returns-clause-removed g c = if_ok c.take_row.result (λ was given done pages t agrees is.
    let s = c.args.space.now in
    let new = c.take_row.new.space in
    let root = c.args.root in
    let same : to_z w64 (of_z w64 c.args.rowid) ≡ c.args.rowid = grind (arith, to_z-of_z) in
    let alone = alone_there g.S.Pages s pages root t c.table_law.ensures.table is in
    removes g.S.Pages s new pages root t c.args.rowid c.table_law.ensures.one is alone
    (λ it. subst (λ (z : ℤ). Taken g.S.Pages s new pages root it.tree z) same
    (given done pages it.tree agrees (own g.S.Pages s pages root t (g.met.S.Pages.bounded s).0 is it)))) c.take_row.ensures.taken

pub returns-clause-absent : goal.returns-clause-absent
returns-clause-absent g c = if_ok_both c.take_row.result (λ was given reads idle pages t agrees is.
    let s = c.args.space.now in
    let new = c.take_row.new.space in
    let root = c.args.root in
    let same : to_z w64 (of_z w64 c.args.rowid) ≡ c.args.rowid = grind (arith, to_z-of_z) in
    let alone = alone_there g.S.Pages s pages root t c.table_law.ensures.table is in
    lacks_rowid g.S.Pages s new pages root t c.args.rowid c.table_law.ensures.one is alone (reads idle)
    (λ it. unmatched g.S.Pages s new pages it.tree c.args.rowid (subst (λ (z : ℤ). Missing g.S.Pages s new pages it.tree z) same
    (given idle pages it.tree agrees (own g.S.Pages s pages root t (g.met.S.Pages.bounded s).0 is it))))) c.take_row.ensures.missing c.take_row.ensures.idle

pub returns-clause-few : goal.returns-clause-few
returns-clause-few g c = λ pages t agrees is alone.
    c.take_row.ensures.spares pages alone.tree agrees
    (own g.S.Pages c.args.space.now pages c.args.root t (g.met.S.Pages.bounded c.args.space.now).0 is alone)

pub returns-clause-likely : goal.returns-clause-likely
returns-clause-likely g c = λ pages t agrees is unsealed.
    let s = c.args.space.now in
    let alone = alone_there g.S.Pages s pages c.args.root t c.table_law.ensures.table is in
    c.take_row.ensures.likely pages alone.tree agrees (own g.S.Pages s pages c.args.root t (g.met.S.Pages.bounded s).0 is alone) unsealed
