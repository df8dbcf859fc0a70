use Rattle.std.proofs.Common.{◌≡◌, ◌∙◌, ℕ, ℤ, List, true, drop, subst, arith, to_z, of_z, w64, to_z-of_z}
use Rattle.spe_model.specs.declared.page.Cell.{Cell}
use Rattle.spe_model.specs.Standing.{all_pages}
use Rattle.spe_model.specs.Tree.{rank}
use Rattle.spe_space.specs.Calls.{sight}
use Rattle.spe_space.specs.Front.{number_in}
use Rattle.spe_space.specs.Outcome.{IsSure}
use Rattle.spe_frame.specs.Held.{Spares}
use Rattle.spe_write.specs.Chain.{IsSureOfTree}
use Rattle.spe_insert.specs.Below.{IsPage, IsPlaceFor}
use Rattle.spe_insert.specs.LeafStep.{IsGap, leads_with}
use Rattle.spe_insert.specs.Place.{place_for}
use Rattle.spe_insert.proofs.PutLeafLemmas.{at_zero}
use Rattle.spe_delete.specs.Leaf.{DropsCell, IsAbsent}
use Rattle.spe_delete.proofs.CutLemmas.{fits_without, writable_without}
use Rattle.spe_delete.proofs.DropLemmas.{IsRead, Laws, absent_there, chain_there, dropped, free_failed, lay_failed, when_held}
use Rattle.spe_delete.proofs.leaf.drop_cell.Goals as goal

pub returns-in_default-clause-absent : goal.returns-in_default-clause-absent
returns-in_default-clause-absent g c = λ none pages height low high agrees less.
    let s = c.args.space.now in
    let rowid = c.args.rowid in
    let cells = c.in-Ok.cells in
    let same : to_z w64 (of_z w64 rowid) ≡ rowid = grind (arith, to_z-of_z) in
    let gap : IsGap (rank rowid) cells (place_for (rank rowid) cells) = subst (λ (cs : List Cell). IsGap (rank rowid) cs (place_for (rank rowid) cs)) c.as_slice.ensures
    (subst (λ (k : ℤ). IsGap (rank k) c.as_slice.result.now (place_for (rank k) c.as_slice.result.now)) same (c.place_of_row.ensures.absent c.in_default.is)) in
    at_zero (λ (h : ℕ). IsPlaceFor g.S.Pages s pages h low high c.args.page rowid → IsPage g.S.Pages s pages c.args.page c.args.buf.now → IsAbsent g.S.Pages s s pages h c.args.page rowid)
    (λ at is. absent_there g.S.Pages c.shifts_law.ensures.idle s pages low high c.args.page c.usable-usable.result rowid c.args.buf.now cells (place_for (rank rowid) cells)
    c.usable-usable.ensures.value at is c.in-Ok.ensures.leaf gap) height less

pub lay_lower-requires-clause-cells : goal.lay_lower-requires-clause-cells
lay_lower-requires-clause-cells g c =
    writable_without c.usable-usable.result (g.S.Pages.used c.args.space.now) c.in-Some.place c.in-Ok.cells c.take_cell-cells.result.0 c.take_cell-cells.result.1
    c.usable-usable.ensures.value c.take_cell-cells.ensures.among c.take_cell-cells.ensures.rest c.in-Ok.ensures.leaf.writable

pub lay_lower-requires-clause-fits : goal.lay_lower-requires-clause-fits
lay_lower-requires-clause-fits g c =
    fits_without c.usable-usable.result (g.S.Pages.used c.args.space.now) c.in-Some.place c.in-Ok.cells c.take_cell-cells.result.0 c.take_cell-cells.result.1
    (let w = c.usable-usable.ensures.range in omega (arith, w.0)) c.usable-usable.ensures.value c.take_cell-cells.ensures.among c.take_cell-cells.ensures.rest c.in-Ok.ensures.leaf.fits

pub returns-in-Err-lay_lower-clause-spares : goal.returns-in-Err-lay_lower-clause-spares
returns-in-Err-lay_lower-clause-spares g c = λ pages height low high agrees less.
    let s = c.args.space.now in
    let page = c.args.page in
    let rowid = c.args.rowid in
    let cells = c.in-Ok.cells in
    let place = c.in-Some.place in
    let rest = c.take_cell-cells.result.0 in
    let cell = c.take_cell-cells.result.1 in
    let same : to_z w64 (of_z w64 rowid) ≡ rowid = grind (arith, to_z-of_z) in
    let leads : leads_with rowid (drop place cells) ≡ true = subst (λ (cs : List Cell). leads_with rowid (drop place cs) ≡ true) c.as_slice.ensures
    (subst (λ (k : ℤ). leads_with k (drop place c.as_slice.result.now) ≡ true) same c.in-Some.ensures.there) in
    let read : IsRead c.usable-usable.result (g.S.Pages.used s) rowid c.args.buf.now cells place cell rest = record {
      same = c.usable-usable.ensures.value;
      leaf = c.in-Ok.ensures.leaf;
      among = c.take_cell-cells.ensures.among;
      key = c.take_cell-cells.ensures.key rowid leads;
      rest_is = c.take_cell-cells.ensures.rest;
    } in
    let laws : Laws g.S.Pages = record {
      idle = c.shifts_law.ensures.idle;
      both = c.shifts_law.ensures.both;
      beside = c.shifts_law.ensures.beside;
      alike = c.shifts_law.ensures.alike;
      spares = c.shifts_law.ensures.spares;
      spares_beside = c.shifts_law.ensures.spares_beside;
      spares_alike = c.shifts_law.ensures.spares_alike;
      apart = c.shifts_law.ensures.apart;
      stay = c.row_law.ensures.stay;
      drops = c.gone_law.ensures.drops;
    } in
    at_zero (λ (h : ℕ). IsPlaceFor g.S.Pages s pages h low high page rowid → IsPage g.S.Pages s pages page c.args.buf.now → Spares g.S.Pages s c.lay_lower.new.space pages (all_pages (g.S.Pages.used s) (sight g.S.Pages s pages) h page) 0)
    (λ at is. lay_failed g.S.Pages laws s c.lay_lower.new.space pages c.usable-usable.result page place rowid c.args.buf.now cells rest cell read low high at is (c.in-Err-lay_lower.ensures.spares pages agrees)) height less

pub returns-in-Err-lay_lower-clause-likely : goal.returns-in-Err-lay_lower-clause-likely
returns-in-Err-lay_lower-clause-likely g c = λ pages height low high agrees less at_ is_ writable.
    let s = c.args.space.now in
    let page = c.args.page in
    let rowid = c.args.rowid in
    let cells = c.in-Ok.cells in
    let place = c.in-Some.place in
    let rest = c.take_cell-cells.result.0 in
    let cell = c.take_cell-cells.result.1 in
    let same : to_z w64 (of_z w64 rowid) ≡ rowid = grind (arith, to_z-of_z) in
    let leads : leads_with rowid (drop place cells) ≡ true = subst (λ (cs : List Cell). leads_with rowid (drop place cs) ≡ true) c.as_slice.ensures
    (subst (λ (k : ℤ). leads_with k (drop place c.as_slice.result.now) ≡ true) same c.in-Some.ensures.there) in
    let read : IsRead c.usable-usable.result (g.S.Pages.used s) rowid c.args.buf.now cells place cell rest = record {
      same = c.usable-usable.ensures.value;
      leaf = c.in-Ok.ensures.leaf;
      among = c.take_cell-cells.ensures.among;
      key = c.take_cell-cells.ensures.key rowid leads;
      rest_is = c.take_cell-cells.ensures.rest;
    } in
    let laws : Laws g.S.Pages = record {
      idle = c.shifts_law.ensures.idle;
      both = c.shifts_law.ensures.both;
      beside = c.shifts_law.ensures.beside;
      alike = c.shifts_law.ensures.alike;
      spares = c.shifts_law.ensures.spares;
      spares_beside = c.shifts_law.ensures.spares_beside;
      spares_alike = c.shifts_law.ensures.spares_alike;
      apart = c.shifts_law.ensures.apart;
      stay = c.row_law.ensures.stay;
      drops = c.gone_law.ensures.drops;
    } in
    let Likely = IsSure (number_in (sight g.S.Pages c.lay_lower.new.space pages)) c.in-Err-lay_lower.fault in
    at_zero (λ (h : ℕ). IsPlaceFor g.S.Pages s pages h low high page rowid → IsPage g.S.Pages s pages page c.args.buf.now → Likely)
    (λ at is. when_held g.S.Pages laws s c.lay_lower.new.space pages c.usable-usable.result page place rowid c.args.buf.now cells rest cell read low high at is Likely
    (λ ready held other. c.in-Err-lay_lower.ensures.likely pages agrees ready held writable other)) height less at_ is_

pub returns-in-Err-free_cell-clause-spares : goal.returns-in-Err-free_cell-clause-spares
returns-in-Err-free_cell-clause-spares g c = λ pages height low high agrees less.
    let s = c.args.space.now in
    let page = c.args.page in
    let rowid = c.args.rowid in
    let cells = c.in-Ok.cells in
    let place = c.in-Some.place in
    let rest = c.take_cell-cells.result.0 in
    let cell = c.take_cell-cells.result.1 in
    let same : to_z w64 (of_z w64 rowid) ≡ rowid = grind (arith, to_z-of_z) in
    let leads : leads_with rowid (drop place cells) ≡ true = subst (λ (cs : List Cell). leads_with rowid (drop place cs) ≡ true) c.as_slice.ensures
    (subst (λ (k : ℤ). leads_with k (drop place c.as_slice.result.now) ≡ true) same c.in-Some.ensures.there) in
    let read : IsRead c.usable-usable.result (g.S.Pages.used s) rowid c.args.buf.now cells place cell rest = record {
      same = c.usable-usable.ensures.value;
      leaf = c.in-Ok.ensures.leaf;
      among = c.take_cell-cells.ensures.among;
      key = c.take_cell-cells.ensures.key rowid leads;
      rest_is = c.take_cell-cells.ensures.rest;
    } in
    let laws : Laws g.S.Pages = record {
      idle = c.shifts_law.ensures.idle;
      both = c.shifts_law.ensures.both;
      beside = c.shifts_law.ensures.beside;
      alike = c.shifts_law.ensures.alike;
      spares = c.shifts_law.ensures.spares;
      spares_beside = c.shifts_law.ensures.spares_beside;
      spares_alike = c.shifts_law.ensures.spares_alike;
      apart = c.shifts_law.ensures.apart;
      stay = c.row_law.ensures.stay;
      drops = c.gone_law.ensures.drops;
    } in
    let agrees_a = c.in-Err-free_cell.ensures.kept.earlier pages agrees in
    at_zero (λ (h : ℕ). IsPlaceFor g.S.Pages s pages h low high page rowid → IsPage g.S.Pages s pages page c.args.buf.now → Spares g.S.Pages s c.free_cell.new.space pages (all_pages (g.S.Pages.used s) (sight g.S.Pages s pages) h page) 0)
    (λ at is. free_failed g.S.Pages laws s c.lay_lower.new.space pages c.usable-usable.result page place rowid c.args.buf.now cells rest cell read low high at is (c.in-Ok-lay_lower.ensures.node) (c.in-Ok-lay_lower.ensures.shifts pages agrees_a) c.free_cell.new.space
    (c.in-Err-free_cell.ensures.spares pages agrees (chain_there g.S.Pages laws s c.lay_lower.new.space pages c.usable-usable.result page place rowid c.args.buf.now cells rest cell read low high at is (c.in-Ok-lay_lower.ensures.node) (c.in-Ok-lay_lower.ensures.shifts pages agrees_a)))) height less

pub returns-in-Err-free_cell-clause-likely : goal.returns-in-Err-free_cell-clause-likely
returns-in-Err-free_cell-clause-likely g c = λ pages height low high agrees less at_ is_ writable.
    let s = c.args.space.now in
    let page = c.args.page in
    let rowid = c.args.rowid in
    let cells = c.in-Ok.cells in
    let place = c.in-Some.place in
    let rest = c.take_cell-cells.result.0 in
    let cell = c.take_cell-cells.result.1 in
    let same : to_z w64 (of_z w64 rowid) ≡ rowid = grind (arith, to_z-of_z) in
    let leads : leads_with rowid (drop place cells) ≡ true = subst (λ (cs : List Cell). leads_with rowid (drop place cs) ≡ true) c.as_slice.ensures
    (subst (λ (k : ℤ). leads_with k (drop place c.as_slice.result.now) ≡ true) same c.in-Some.ensures.there) in
    let read : IsRead c.usable-usable.result (g.S.Pages.used s) rowid c.args.buf.now cells place cell rest = record {
      same = c.usable-usable.ensures.value;
      leaf = c.in-Ok.ensures.leaf;
      among = c.take_cell-cells.ensures.among;
      key = c.take_cell-cells.ensures.key rowid leads;
      rest_is = c.take_cell-cells.ensures.rest;
    } in
    let laws : Laws g.S.Pages = record {
      idle = c.shifts_law.ensures.idle;
      both = c.shifts_law.ensures.both;
      beside = c.shifts_law.ensures.beside;
      alike = c.shifts_law.ensures.alike;
      spares = c.shifts_law.ensures.spares;
      spares_beside = c.shifts_law.ensures.spares_beside;
      spares_alike = c.shifts_law.ensures.spares_alike;
      apart = c.shifts_law.ensures.apart;
      stay = c.row_law.ensures.stay;
      drops = c.gone_law.ensures.drops;
    } in
    let agrees_a = c.in-Err-free_cell.ensures.kept.earlier pages agrees in
    let Likely = IsSureOfTree (number_in (sight g.S.Pages c.free_cell.new.space pages)) c.in-Err-free_cell.fault in
    at_zero (λ (h : ℕ). IsPlaceFor g.S.Pages s pages h low high page rowid → IsPage g.S.Pages s pages page c.args.buf.now → Likely)
    (λ at is. c.in-Err-free_cell.ensures.likely pages agrees (chain_there g.S.Pages laws s c.lay_lower.new.space pages c.usable-usable.result page place rowid c.args.buf.now cells rest cell read low high at is (c.in-Ok-lay_lower.ensures.node) (c.in-Ok-lay_lower.ensures.shifts pages agrees_a))
    (c.in-Ok-lay_lower.ensures.kept.sealed ∙ writable)) height less at_ is_

pub returns-clause-dropped : goal.returns-clause-dropped
returns-clause-dropped g c = λ pages height low high agrees less.
    let s = c.args.space.now in
    let page = c.args.page in
    let rowid = c.args.rowid in
    let cells = c.in-Ok.cells in
    let place = c.in-Some.place in
    let rest = c.take_cell-cells.result.0 in
    let cell = c.take_cell-cells.result.1 in
    let same : to_z w64 (of_z w64 rowid) ≡ rowid = grind (arith, to_z-of_z) in
    let leads : leads_with rowid (drop place cells) ≡ true = subst (λ (cs : List Cell). leads_with rowid (drop place cs) ≡ true) c.as_slice.ensures
    (subst (λ (k : ℤ). leads_with k (drop place c.as_slice.result.now) ≡ true) same c.in-Some.ensures.there) in
    let read : IsRead c.usable-usable.result (g.S.Pages.used s) rowid c.args.buf.now cells place cell rest = record {
      same = c.usable-usable.ensures.value;
      leaf = c.in-Ok.ensures.leaf;
      among = c.take_cell-cells.ensures.among;
      key = c.take_cell-cells.ensures.key rowid leads;
      rest_is = c.take_cell-cells.ensures.rest;
    } in
    let laws : Laws g.S.Pages = record {
      idle = c.shifts_law.ensures.idle;
      both = c.shifts_law.ensures.both;
      beside = c.shifts_law.ensures.beside;
      alike = c.shifts_law.ensures.alike;
      spares = c.shifts_law.ensures.spares;
      spares_beside = c.shifts_law.ensures.spares_beside;
      spares_alike = c.shifts_law.ensures.spares_alike;
      apart = c.shifts_law.ensures.apart;
      stay = c.row_law.ensures.stay;
      drops = c.gone_law.ensures.drops;
    } in
    let agrees_a = c.in-Ok-free_cell.ensures.kept.earlier pages agrees in
    at_zero (λ (h : ℕ). IsPlaceFor g.S.Pages s pages h low high page rowid → IsPage g.S.Pages s pages page c.args.buf.now → DropsCell g.S.Pages s c.free_cell.new.space pages h low high page rowid rest)
    (λ at is. dropped g.S.Pages laws s c.lay_lower.new.space pages c.usable-usable.result page place rowid c.args.buf.now cells rest cell read low high at is (c.in-Ok-lay_lower.ensures.node) (c.in-Ok-lay_lower.ensures.shifts pages agrees_a) c.free_cell.new.space
    (c.in-Ok-free_cell.ensures.freed pages agrees (chain_there g.S.Pages laws s c.lay_lower.new.space pages c.usable-usable.result page place rowid c.args.buf.now cells rest cell read low high at is (c.in-Ok-lay_lower.ensures.node) (c.in-Ok-lay_lower.ensures.shifts pages agrees_a)))) height less

pub returns-clause-spares : goal.returns-clause-spares
returns-clause-spares g c = λ pages height low high agrees less at is.
    (returns-clause-dropped g c pages height low high agrees less at is).loses.shifts.spares
