-- No part stands where nothing does.
use Rattle.std.proofs.Common.{◌≡◌, [], refl}
use Rattle.spe_parse.specs.declared.halt.Halt.TheVariants.{Ends}
use Rattle.spe_parse.specs.Part.{single}
use Rattle.spe_parse.specs.Number.{literal_at}
use Rattle.spe_parse.specs.Clause.{cond_at, set_at}
use Rattle.spe_parse.proofs.PartLemmas.{fails}

pub no_literal : single literal_at [] ≡ fails Ends
unfolding literal_at
no_literal = refl

pub no_set : single set_at [] ≡ fails Ends
unfolding set_at
no_set = refl

pub no_cond : cond_at [] ≡ fails Ends
unfolding cond_at
no_cond = refl
