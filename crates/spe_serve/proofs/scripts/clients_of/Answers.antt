use Rattle.std.proofs.Common.{◌∙◌, ap, sym}
use Rattle.std.specs.Prelude.{◌++◌, reverse}
use Rattle.std.proofs.lemmas.List.{reverse-reverse}
use Rattle.spe_serve.specs.Asked.{are_carried_out}
use Rattle.spe_serve.proofs.ScriptLemmas.{bodies_reversed}
use Rattle.spe_serve.proofs.scripts.clients_of.Goals as goal

pub loop-body-init : goal.loop-body-init
loop-body-init c = record {
  carried = ap are_carried_out c.reverse.ensures.items ∙ bodies_reversed c.args.bodies.items c.requires;
  made = rw c.in_ok-clients.ensures.items (ap reverse c.reverse.ensures.items ∙ reverse-reverse c.args.bodies.items);
}
