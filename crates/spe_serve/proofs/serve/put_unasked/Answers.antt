use Rattle.std.proofs.Common.{inl}
use Rattle.spe_serve.specs.Asked.{script_text}
use Rattle.spe_serve.proofs.RunEndingLemmas.{run_made}
use Rattle.spe_serve.specs.declared.run.Run.TheVariants.{Unasked}
use Rattle.spe_serve.specs.declared.scripts.Unasked.TheVariants.{BadScript, Failed, NotBuilt}
use Rattle.spe_serve.proofs.serve.put_unasked.Goals as goal

pub returns-in-BadScript : goal.returns-in-BadScript
returns-in-BadScript g c = record {
  prints = rw c.in-BadScript.is (run_made g.W.Sink _ _ c.bad_script_line.result (Unasked (BadScript c.in-BadScript.client c.in-BadScript.line c.in-BadScript.kind)) _ c.bad_script_line.ensures c.put_made-in-BadScript.ensures.prints);
}

pub returns-in-NotBuilt : goal.returns-in-NotBuilt
returns-in-NotBuilt g c = record { prints = rw c.in-NotBuilt.is (inl c.put.ensures.prints) }

pub returns-in-Failed : goal.returns-in-Failed
returns-in-Failed g c = record { prints = rw c.in-Failed.is (inl c.put-in-Failed.ensures.prints) }
