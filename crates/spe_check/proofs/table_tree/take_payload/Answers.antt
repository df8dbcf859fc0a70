use Rattle.std.proofs.Common.{◌≡◌, ℕ, OnOk, subst}
use Rattle.std.proofs.lemmas.Result.{on_ok_weaker}
use Rattle.spe_model.specs.Chain.{links, chain_bytes}
use Rattle.spe_model.specs.Tree.{rest_of}
use Rattle.spe_model.specs.Walk.{chain_marks}
use Rattle.spe_format.specs.View.{cell_seen}
use Rattle.spe_check.specs.Chains.{kept_of}
use Rattle.spe_check.specs.MetPages.{has_met}
use Rattle.spe_check.specs.Tries.{Tries}
use Rattle.spe_check.proofs.TableLemmas.{payload_taken}
use Rattle.spe_check.proofs.table_tree.take_payload.Goals as goal

pub returns-clause-tried : goal.returns-clause-tried
returns-clause-tried g c = λ usable pages shows.
    let cell = cell_seen c.args.parts.now in
    let P : ℕ → Type 0 = λ n.
    Tries c.args.walk.now.met.pages (has_met c.args.walk.now.met) (has_met c.try_chain.new.walk.met) (chain_marks pages (links usable n) c.args.page cell.chain) c.try_chain.result
    × OnOk c.try_chain.result (c.try_chain.new.walk.payload.items ≡ kept_of c.args.wanted c.begin.new.payload.items (chain_bytes usable pages n cell.chain)) in
    let tried = subst P c.rest_in.ensures (c.try_chain.ensures.tried usable pages shows) in
    let bytes = chain_bytes usable pages (rest_of cell) cell.chain in (
      tried.0,
      on_ok_weaker c.try_chain.result (payload_taken c.args.wanted c.try_chain.new.walk.payload.items c.begin.new.payload.items cell.local bytes c.in_ok-begin.ensures) tried.1,
    )
