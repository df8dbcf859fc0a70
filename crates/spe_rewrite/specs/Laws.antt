-- That pages may be rewritten so.
use Rattle.std.specs.Prelude.{ℕ, ◌<◌, ◌≤◌, ◌^◌, List, length}
use Rattle.spe_model.specs.Content.{Content}
use Rattle.spe_model.specs.Recovery.{file_page}
use Rattle.spe_transactions.specs.Pages.{laid_pages}
use Rattle.spe_rewrite.specs.declared.change.Change.{Change}
use Rattle.spe_rewrite.specs.Changes.{AreChanges, changed}
use Rattle.spe_rewrite.specs.Idle.{AreIdle, MayLay}
use Rattle.spe_rewrite.specs.Rewrite.{rewrite_of}
use Rattle.spe_rewrite.specs.Turns.{Turns}

-- the operations that rewrite pages turn the pages before into those with the changed ones laid over them
abbrev pub RewriteTurns : Type 0
RewriteTurns = (content : Content) (pages : List (List ℕ)) (page_size nonce : ℕ) (changes : List Change)
    → AreIdle page_size content pages → AreChanges page_size changes → MayLay page_size pages (changed changes) → 512 ≤ page_size → nonce < 2 ^ 32
    → Turns page_size content (rewrite_of (file_page content) page_size (length pages) nonce changes) pages (laid_pages pages (changed changes))
