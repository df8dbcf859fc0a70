use Rattle.spe_model.specs.Trace.{History}
use Rattle.spe_store.specs.Desk.{Counts}
use Rattle.std.proofs.Common.{[], Option, subst, sym}
use Rattle.spe_clients.proofs.EndLemmas.{caused_all, cuts_told, disk_all, exact_told, last_all, later_all, ordered_all, plain_all, serial_all, stopped_all}
use Rattle.spe_clients.proofs.StepLemmas.{holds_none}
use Rattle.spe_clients.proofs.running.run_clients.Goals as goal

pub returns-clause-ordered : goal.returns-clause-ordered
returns-clause-ordered g c =
    let opened = g.N.Opening.opened in
    let s = c.run_all-store.result.store in
    ordered_all opened s c.args.clients c.run_all-store.result.transcripts c.close-disk.result.order (c.run_all-store.ensures.goes [] (holds_none opened c.args.store c.requires.unused)) c.run_all-store.ensures.complete
    c.close-disk.ensures.order c.close-disk.ensures.sorted

pub returns-clause-serial : goal.returns-clause-serial
returns-clause-serial g c =
    let opened = g.N.Opening.opened in
    let s = c.run_all-store.result.store in
    serial_all opened s c.args.clients c.run_all-store.result.transcripts c.close-disk.result.order (c.run_all-store.ensures.goes [] (holds_none opened c.args.store c.requires.unused)) c.run_all-store.ensures.complete
    c.close-disk.ensures.order c.close-disk.ensures.sorted

pub returns-clause-later : goal.returns-clause-later
returns-clause-later g c =
    let opened = g.N.Opening.opened in
    later_all opened c.run_all-store.result.store c.args.clients c.run_all-store.result.transcripts (c.run_all-store.ensures.goes [] (holds_none opened c.args.store c.requires.unused)) c.run_all-store.ensures.complete

pub returns-clause-plain : goal.returns-clause-plain
returns-clause-plain g c =
    let opened = g.N.Opening.opened in
    plain_all opened c.run_all-store.result.store c.args.clients c.run_all-store.result.transcripts (c.run_all-store.ensures.goes [] (holds_none opened c.args.store c.requires.unused)) c.run_all-store.ensures.complete

pub returns-clause-stopped : goal.returns-clause-stopped
returns-clause-stopped g c =
    let opened = g.N.Opening.opened in
    stopped_all opened c.run_all-store.result.store c.args.clients c.run_all-store.result.transcripts (c.run_all-store.ensures.goes [] (holds_none opened c.args.store c.requires.unused)) c.run_all-store.ensures.complete

pub returns-clause-cuts : goal.returns-clause-cuts
returns-clause-cuts g c =
    let opened = g.N.Opening.opened in
    cuts_told opened c.run_all-store.result.store (g.D.Disk.told c.close-disk.result.disk) c.args.clients c.run_all-store.result.transcripts c.close-disk.result.order
    (c.run_all-store.ensures.goes [] (holds_none opened c.args.store c.requires.unused)) c.close-disk.ensures.order c.close-disk.ensures.cuts

pub returns-clause-exact : goal.returns-clause-exact
returns-clause-exact g c =
    let opened = g.N.Opening.opened in
    let s = c.run_all-store.result.store in
    let close = c.close-disk.ensures in
    exact_told opened s (g.D.Disk.told c.close-disk.result.disk) (g.D.Disk.op_faults c.close-disk.result.disk) c.args.clients c.run_all-store.result.transcripts c.close-disk.result.order
    (c.run_all-store.ensures.goes [] (holds_none opened c.args.store c.requires.unused)) close.order c.keeps.ensures.unbroken close.disk.cause
    (subst (λ (t : Option History). Counts t s.desk.stopped s.desk.ops) (sym close.told) close.counted) close.cuts

pub returns-clause-disk : goal.returns-clause-disk
returns-clause-disk g c =
    let opened = g.N.Opening.opened in
    let disk = c.close-disk.result.disk in
    disk_all opened c.run_all-store.result.store c.args.clients c.run_all-store.result.transcripts (g.D.Disk.told disk) (g.D.Disk.read_faults disk) (g.D.Disk.op_faults disk)
    (c.run_all-store.ensures.goes [] (holds_none opened c.args.store c.requires.unused)) c.run_all-store.ensures.complete c.close-disk.ensures.disk c.close-disk.ensures.told c.close-disk.ensures.counted

pub returns-clause-causes : goal.returns-clause-causes
returns-clause-causes g c =
    let disk = c.close-disk.result.disk in
    caused_all g.N.Opening.opened (g.D.Disk.told disk) (g.D.Disk.read_faults disk) (g.D.Disk.op_faults disk) _ (returns-clause-disk g c)

pub returns-clause-last : goal.returns-clause-last
returns-clause-last g c =
    let disk = c.close-disk.result.disk in
    last_all g.N.Opening.opened (g.D.Disk.told disk) (g.D.Disk.read_faults disk) (g.D.Disk.op_faults disk) _ (returns-clause-disk g c)
