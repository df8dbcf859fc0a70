use Rattle.std.proofs.Common.{◌∙◌, refl, sym}
use Rattle.spe_recover.proofs.RecoveredLemmas.{found_pages, found_header, found_reserved, found_node, found_wanted, is_unwanted, is_refusal, is_ready, rolling_stopped, rolling_done}
use Rattle.spe_recover.specs.Recovered.{rollback_of}
use Rattle.spe_recover.proofs.StopLemmas.{nothing_made}
use Rattle.spe_recover.proofs.recovery.recover_files.Goals as goal

pub returns-in-Err-clause-refusal : goal.returns-in-Err-clause-refusal
returns-in-Err-clause-refusal g c = is_refusal (g.D.Disk.told c.args.disk.now) c.args.want c.in-Err.fault (rw c.in-Err.is at c.find_known.ensures.answers)

pub returns-then-not-is_wanted-clause-refusal : goal.returns-then-not-is_wanted-clause-refusal
returns-then-not-is_wanted-clause-refusal g c =
    is_unwanted (g.D.Disk.told c.args.disk.now) c.in-Ok.known c.args.want (sym c.is_wanted.ensures ∙ c.if-not-is_wanted.true) (rw c.in-Ok.is at c.find_known.ensures.answers)

pub roll_back-requires-clause-ready : goal.roll_back-requires-clause-ready
roll_back-requires-clause-ready g c =
    rw c.find_known.ensures.same (is_ready (g.D.Disk.told c.args.disk.now) c.in-Ok.known (rw c.in-Ok.is at c.find_known.ensures.answers))

pub returns-clause-pages : goal.returns-clause-pages
returns-clause-pages g c = found_pages (g.D.Disk.told c.args.disk.now) c.in-Ok.known _ c.in_ok-roll_back.ensures.pages (rw c.in-Ok.is at c.find_known.ensures.answers)

pub returns-clause-reserved : goal.returns-clause-reserved
returns-clause-reserved g c =
    found_reserved (g.D.Disk.told c.args.disk.now) c.in-Ok.known.survey.header _ c.in_ok-roll_back.ensures.reserved
    (found_header (g.D.Disk.told c.args.disk.now) c.in-Ok.known (rw c.in-Ok.is at c.find_known.ensures.answers))

pub returns-clause-node : goal.returns-clause-node
returns-clause-node g c =
    found_node (g.D.Disk.told c.args.disk.now) c.in-Ok.known.survey.header _ c.in_ok-roll_back.ensures.node
    (found_header (g.D.Disk.told c.args.disk.now) c.in-Ok.known (rw c.in-Ok.is at c.find_known.ensures.answers))

pub returns-clause-wanted : goal.returns-clause-wanted
returns-clause-wanted g c =
    found_wanted (g.D.Disk.told c.args.disk.now) c.in-Ok.known.survey.header c.args.want _ (sym c.is_wanted.ensures ∙ c.if-not-is_wanted.false)
    (found_header (g.D.Disk.told c.args.disk.now) c.in-Ok.known (rw c.in-Ok.is at c.find_known.ensures.answers))

pub returns-in_err-roll_back-clause-cut : goal.returns-in_err-roll_back-clause-cut
returns-in_err-roll_back-clause-cut g c =
    rolling_stopped (g.D.Disk.told c.args.disk.now) _ c.in-Ok.known (rw c.in-Ok.is at c.find_known.ensures.answers) (rw c.find_known.ensures.same at c.in_err-roll_back.ensures.stopped)

pub returns-clause-cut : goal.returns-clause-cut
returns-clause-cut g c =
    rolling_done (g.D.Disk.told c.args.disk.now) _ c.in-Ok.known c.in_ok-roll_back.field-0.ops (rw c.in-Ok.is at c.find_known.ensures.answers)
    (rw c.find_known.ensures.same at c.in_ok-roll_back.ensures.made)
