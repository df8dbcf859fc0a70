-- The law on a whole rewriting, from the laws of its steps.
use Rattle.std.proofs.Common.{[], ◌∷◌, refl, arith, sym, subst}
use Rattle.spe_model.specs.Recovery.{file_page}
use Rattle.spe_crash.proofs.PagesLemmas.{opened, some_pages}
use Rattle.spe_transactions.specs.Pages.{MayCommit, laid_pages}
use Rattle.spe_transactions.specs.Steps.{BareEnds, CommitWorks, HeadWorks, OpeningWorks, PutWorks, RecordWorks}
use Rattle.spe_transactions.specs.Work.{AtWork, no_works}
use Rattle.spe_rewrite.specs.Changes.{changed}
use Rattle.spe_rewrite.specs.Laws.{RewriteTurns}
use Rattle.spe_rewrite.proofs.RecordLemmas.{head_turns}
use Rattle.spe_rewrite.proofs.TurnLemmas.{turns_none}

pub rewrite_turns : OpeningWorks → HeadWorks → RecordWorks → PutWorks → CommitWorks → BareEnds → RewriteTurns
rewrite_turns opens heads records puts commits bares content pages size nonce [] idle are may wide small =
    let work : AtWork content pages no_works no_works = opens content pages idle.files idle.recovers idle.quiet in
    let bare = bares content pages no_works no_works work 0 (omega arith) (idle.quiet 0 (omega arith)) in
    turns_none size content pages (laid_pages pages (changed [])) (bare.laid (subst (MayCommit pages (no_works 0)) (sym idle.sized) may.commit)) idle
rewrite_turns opens heads records puts commits bares content pages size nonce (c ∷ cs) idle are may wide small =
    let work : AtWork content pages no_works no_works = opens content pages idle.files idle.recovers idle.quiet in
    head_turns size (omega (arith, wide)) pages (some_pages content pages (opened content pages idle.recovers)) (c ∷ cs) may (file_page content) nonce
    heads records puts commits are small content work idle refl
