use Rattle.spe_format.proofs.ReadBackLemmas.{page_put, written_reads}
use Rattle.spe_format.proofs.CanonicalLemmas.{room_left}
use Rattle.spe_format.proofs.canonical.put_page.Goals as goal

pub returns-clause-bytes : goal.returns-clause-bytes
returns-clause-bytes c =
    (page_put c.args.page.now _ _ c.args.cells.now c.args.at c.args.usable _
    c.array_start_of-start.ensures (room_left _ _ _ _ _ c.array_start_of-start.ensures c.requires.at c.requires.low (rw c.as_slice-list.ensures at c.in-Some.ensures.length.0)) c.requires.inside
    c.put_header.ensures.bytes (rw c.as_slice-list.ensures at c.put_body.ensures)).1

pub returns-clause-reads_back : goal.returns-clause-reads_back
returns-clause-reads_back c = λ _.
    let put =
    page_put c.args.page.now _ _ c.args.cells.now c.args.at c.args.usable _
    c.array_start_of-start.ensures (room_left _ _ _ _ _ c.array_start_of-start.ensures c.requires.at c.requires.low (rw c.as_slice-list.ensures at c.in-Some.ensures.length.0)) c.requires.inside
    c.put_header.ensures.bytes (rw c.as_slice-list.ensures at c.put_body.ensures) in
    written_reads _ c.args.page.now c.args.cells.now c.args.at c.args.usable
    (room_left _ _ _ _ _ c.array_start_of-start.ensures c.requires.at c.requires.low (rw c.as_slice-list.ensures at c.in-Some.ensures.length.0))
    c.requires.high c.requires.inside c.requires.cells (rw c.as_slice-list.ensures at c.in-Some.ensures.ranges) c.put_header.ensures.range put.0
