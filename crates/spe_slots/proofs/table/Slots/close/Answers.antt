use Rattle.std.proofs.Common.{◌≡◌, ◌≢◌, ◌≤◌, length}
use mathlib.Core.List.{IsPrefix}
use Rattle.spe_slotrule.specs.declared.parts.SessionPart.{SessionPart}
use Rattle.spe_slotrule.specs.Known.{by_session, stopped_of, IsStop}
use Rattle.spe_slots.proofs.Closes.{each_taken, none_taken, sum_taken}
use Rattle.spe_slots.proofs.table.Slots.close.Goals as goal

pub returns-clause-seen : goal.returns-clause-seen
returns-clause-seen g c =
    let s = c.args.store.part in each_taken (λ (p : SessionPart g.row.E.Denot). IsPrefix p.seen s.commits) c.args.sessions s.closed (λ i p e. (c.close_all.ensures.taken.fits i p e).heard.begins)

pub returns-clause-told : goal.returns-clause-told
returns-clause-told g c =
    let s = c.args.store.part in each_taken (λ (p : SessionPart g.row.E.Denot). p.told ≤ length s.commits) c.args.sessions s.closed (λ i p e. (c.close_all.ensures.taken.fits i p e).heard.most)

pub returns-clause-own : goal.returns-clause-own
returns-clause-own g c =
    let s = c.args.store.part in each_taken (λ (p : SessionPart g.row.E.Denot). p.own ≡ by_session p.number s.commits) c.args.sessions s.closed (λ i p e. (c.close_all.ensures.taken.fits i p e).own)

pub returns-clause-no_other : goal.returns-clause-no_other
returns-clause-no_other g c number others = c.close_all.ensures.taken.no_other number (none_taken (λ (p : SessionPart g.row.E.Denot). p.number ≢ number) c.args.sessions c.args.store.part.closed c.close_all.ensures.first others)

pub returns-clause-faults : goal.returns-clause-faults
returns-clause-faults g c =
    let s = c.args.store.part in each_taken (λ (p : SessionPart g.row.E.Denot). p.faults ≤ s.faults) c.args.sessions s.closed (λ i p e. (c.close_all.ensures.taken.fits i p e).heard.counted)

pub returns-clause-failed : goal.returns-clause-failed
returns-clause-failed g c = sum_taken c.args.sessions c.args.store.part.closed c.args.store.part.faults c.close_all.ensures.first c.close_all.ensures.taken.failed

pub returns-clause-stop : goal.returns-clause-stop
returns-clause-stop g c =
    let s = c.args.store.part in each_taken (λ (p : SessionPart g.row.E.Denot). IsStop p.stop s.stop) c.args.sessions s.closed (λ i p e. (c.close_all.ensures.taken.fits i p e).heard.same_stop)

pub returns-clause-stopped : goal.returns-clause-stopped
returns-clause-stopped g c =
    let s = c.args.store.part in each_taken (λ (p : SessionPart g.row.E.Denot). p.stopped ≡ stopped_of p.number s.stop) c.args.sessions s.closed (λ i p e. (c.close_all.ensures.taken.fits i p e).stopped)
