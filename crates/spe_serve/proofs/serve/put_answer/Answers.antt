use Rattle.spe_serve.specs.declared.reply.Reply.TheVariants.{Full, Prepared, Released}
use Rattle.spe_serve.proofs.EndingLemmas.{answer_made}
use Rattle.spe_serve.proofs.serve.put_answer.Goals as goal

pub returns-in-Released : goal.returns-in-Released
returns-in-Released g c = record {
  prints = rw c.in-Released.is (answer_made g.W.Sink _ _ c.released_line.result (Released _ _) _ c.released_line.ensures c.put_made-in-Released.ensures.prints);
}

pub returns-in-Prepared : goal.returns-in-Prepared
returns-in-Prepared g c = record {
  prints = rw c.in-Prepared.is (answer_made g.W.Sink _ _ c.prepared_line.result (Prepared _ _) _ c.prepared_line.ensures c.put_made-in-Prepared.ensures.prints);
}

pub returns-in-Full : goal.returns-in-Full
returns-in-Full g c = record {
  prints = rw c.in-Full.is (answer_made g.W.Sink _ _ c.full_line.result (Full _) _ c.full_line.ensures c.put_made-in-Full.ensures.prints);
}
