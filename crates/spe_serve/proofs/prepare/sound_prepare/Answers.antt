use Rattle.spe_serve.proofs.PrepareLemmas.{Prepares, prepare_about, prepare_cause, prepare_own, prepare_reply}
use Rattle.spe_serve.proofs.prepare.sound_prepare.Goals as goal

pub returns-clause-reply : goal.returns-clause-reply
returns-clause-reply g c =
    rw c.prepared_reply.ensures
    (prepare_reply c.args.found.now c.args.lists (g.D.Disk.told c.args.disk) _ c.prepare-pages.result (record {
      law = c.counts_law.ensures.stands;
      limits = c.requires.limits;
      sound = c.requires.sound;
      whole = c.prepare-pages.ensures.whole;
      stops = c.prepare-pages.ensures.stops;
      prepared = c.prepare-pages.ensures.prepared;
      full = c.prepare-pages.ensures.full;
      damaged = c.prepare-pages.ensures.sound;
      untouched = c.prepare-pages.ensures.untouched;
    }))

pub returns-clause-about : goal.returns-clause-about
returns-clause-about g c = rw c.prepared_reply.ensures (prepare_about c.args.lists c.prepare-pages.result)

pub returns-clause-own : goal.returns-clause-own
returns-clause-own g c = λ db.
    rw c.prepared_reply.ensures
    (prepare_own db c.args.found.now c.args.lists (g.D.Disk.told c.args.disk) _ c.prepare-pages.result (record {
      law = c.counts_law.ensures.stands;
      limits = c.requires.limits;
      sound = c.requires.sound;
      whole = c.prepare-pages.ensures.whole;
      stops = c.prepare-pages.ensures.stops;
      prepared = c.prepare-pages.ensures.prepared;
      full = c.prepare-pages.ensures.full;
      damaged = c.prepare-pages.ensures.sound;
      untouched = c.prepare-pages.ensures.untouched;
    }))

pub returns-clause-cause : goal.returns-clause-cause
returns-clause-cause g c = rw c.prepared_reply.ensures (prepare_cause _ _ _ _ c.args.lists c.prepare-pages.result c.prepare-pages.ensures.cause)
