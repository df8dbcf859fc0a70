-- The writes that are left while records are written back.
use Rattle.std.proofs.Common.{◌≡◌, ℕ, ◌+◌, ◌-◌, ◌<◌, ◌≤◌, List, [], ◌∷◌, length, take, drop, arith, sym, ap, ◌∙◌, Option, Some, None}
use Rattle.spe_model.specs.Content.{Content}
use Rattle.spe_model.specs.Journal.{Saved, hot_records}
use Rattle.spe_model.specs.Recovery.{journal_of}
use Rattle.spe_model.specs.Rollback.{restores}
use Rattle.spe_model.specs.Trace.{History, present}
use Rattle.spe_journal.specs.Saved.{saved_in, SavesFirst}
use Rattle.spe_recover.specs.Cuts.{BreaksFirst}
use Rattle.spe_recover.specs.Restored.{Holders, Restored, RestoresFirst, Stays, due_after, is_due}
use Rattle.spe_disk.specs.Added.{AddsCut, IfTold, MakesCut}
use Rattle.spe_recover.proofs.CutLemmas.{HasLeft, left_first, left_next, left_stopped, left_broken}
use Rattle.spe_recover.proofs.RestoreLemmas.{restores-append, restores-parts, told_before}
use Rattle.spe_recover.proofs.ScanLemmas.{IsPiece, piece_joined}
use Rattle.spe_recover.proofs.TurnLemmas.{hot_from, hot_step}

-- the writes of the records from byte `at` of a journal on are left
abbrev pub HasRecordsLeft : (id nonce page_size pages at : ℕ) → (first now : Option History) → (before between : Holders) → Content → Type 0
HasRecordsLeft id nonce page_size pages at first now before between content = HasLeft first now
    (restores page_size (is_due before pages) (saved_in nonce page_size (drop 512 (journal_of content id))))
    (restores page_size (is_due between pages) (saved_in nonce page_size (drop at (journal_of content id))))

pub records_first : (told : Option History) (id nonce page_size pages : ℕ) (holders : Holders) → IfTold told (HasRecordsLeft id nonce page_size pages 512 told told holders holders)
records_first None id nonce page_size pages holders = tt
records_first (Some h) id nonce page_size pages holders = left_first (Some h) (restores page_size (is_due holders pages) (saved_in nonce page_size (drop 512 (journal_of (present h) id))))

-- the records from a piece on that is one
saved_step : (journal piece : List ℕ) (nonce page_size at size : ℕ) (saved : Saved) → piece ≡ take size (drop at journal) → SavesFirst nonce page_size piece saved
    → saved_in nonce page_size (drop at journal) ≡ saved ∷ saved_in nonce page_size (drop (at + size) journal)
saved_step journal piece nonce page_size at size saved is first = ap (saved_in nonce page_size) (sym (piece_joined journal piece at size is)) ∙ first (drop (at + size) journal)

pub records_turn : (told now next : Option History) (id nonce page_size pages at left end size : ℕ) (piece : List ℕ) (before between later : Holders) (some : ℕ)
    → 512 ≤ at → at + left ≡ 512 + (end - 512) → 0 < size → size ≤ left
    → IfTold told (λ content. end ≡ length (journal_of content id)) → Stays told now
    → IfTold now (IsPiece id at size piece) → RestoresFirst nonce page_size pages piece now next between later some
    → IfTold told (HasRecordsLeft id nonce page_size pages at told now before between)
    → IfTold told (HasRecordsLeft id nonce page_size pages (at + size) told next before later)
records_turn None now next id nonce page_size pages at left end size piece before between later some from reach above enough whole stays is one begun = tt
records_turn (Some h) now next id nonce page_size pages at left end size piece before between later some from reach above enough whole stays is one begun =
    let journal = journal_of (present h) id in
    let front : piece ≡ take size (drop at journal) =
    told_before (Some h) now id (λ journal. at + size ≤ length journal → piece ≡ take size (drop at journal)) stays is (omega (arith, whole)) in
    let step = saved_step journal piece nonce page_size at size one.saved front one.first in
    left_next (Some h) now next _ _ (restores page_size (is_due between pages) (one.saved ∷ [])) (restores page_size (is_due later pages) (saved_in nonce page_size (drop (at + size) journal)))
    (ap (restores page_size (is_due between pages)) step
    ∙ restores-append page_size pages (one.saved ∷ []) (saved_in nonce page_size (drop (at + size) journal)) between later one.restored.due)
    one.restored.adds begun

pub records_broken : (told now next : Option History) (id nonce page_size pages at left end size : ℕ) (piece : List ℕ) (before between : Holders)
    → 512 ≤ at → at + left ≡ 512 + (end - 512) → 0 < size → size ≤ left
    → IfTold told (λ content. end ≡ length (journal_of content id)) → Stays told now
    → IfTold now (IsPiece id at size piece) → IfTold now (λ content. BreaksFirst nonce page_size pages piece now next between)
    → IfTold told (HasRecordsLeft id nonce page_size pages at told now before between)
    → MakesCut told next (λ content. restores page_size (is_due before pages) (saved_in nonce page_size (drop 512 (journal_of content id))))
records_broken None now next id nonce page_size pages at left end size piece before between from reach above enough whole stays is breaks begun = tt
records_broken (Some h) now next id nonce page_size pages at left end size piece before between from reach above enough whole stays is breaks begun =
    let journal = journal_of (present h) id in
    let front : piece ≡ take size (drop at journal) =
    told_before (Some h) now id (λ journal. at + size ≤ length journal → piece ≡ take size (drop at journal)) stays is (omega (arith, whole)) in
    let one : BreaksFirst nonce page_size pages piece now next between =
    told_before (Some h) now id (λ journal. BreaksFirst nonce page_size pages piece now next between) stays breaks in
    let step = saved_step journal piece nonce page_size at size one.saved front one.first in
    left_broken (Some h) now next _ _ (restores page_size (is_due between pages) (one.saved ∷ []))
    (restores page_size (due_after (is_due between pages) (one.saved ∷ [])) (saved_in nonce page_size (drop (at + size) journal)))
    (ap (restores page_size (is_due between pages)) step ∙ restores-parts page_size pages (one.saved ∷ []) (saved_in nonce page_size (drop (at + size) journal)) between)
    one.cut begun

pub records_stopped : (told now : Option History) (id nonce page_size pages at : ℕ) (before between : Holders)
    → IfTold told (HasRecordsLeft id nonce page_size pages at told now before between)
    → MakesCut told now (λ content. restores page_size (is_due before pages) (saved_in nonce page_size (drop 512 (journal_of content id))))
records_stopped None now id nonce page_size pages at before between begun = tt
records_stopped (Some h) now id nonce page_size pages at before between begun = left_stopped (Some h) now _ _ begun

-- the writes of the records of the journals from one on are left
abbrev pub HasJournalsLeft : (page_size pages id : ℕ) → (first now : Option History) → (before between : Holders) → Content → Type 0
HasJournalsLeft page_size pages id first now before between content = HasLeft first now
    (restores page_size (is_due before pages) (hot_from content page_size 0 16))
    (restores page_size (is_due between pages) (hot_from content page_size id (16 - id)))

pub journals_first : (told : Option History) (page_size pages : ℕ) (holders : Holders) → IfTold told (HasJournalsLeft page_size pages 0 told told holders holders)
journals_first None page_size pages holders = tt
journals_first (Some h) page_size pages holders = left_first (Some h) (restores page_size (is_due holders pages) (hot_from (present h) page_size 0 16))

pub journals_turn : (told now next : Option History) (page_size pages id : ℕ) (before between later : Holders) (some : ℕ) → id < 16 → Stays told now
    → IfTold now (λ content. Restored page_size pages (hot_records page_size (journal_of content id)) now next between later some)
    → IfTold told (HasJournalsLeft page_size pages id told now before between)
    → IfTold told (HasJournalsLeft page_size pages (id + 1) told next before later)
journals_turn None now next page_size pages id before between later some few stays one begun = tt
journals_turn (Some h) now next page_size pages id before between later some few stays one begun =
    let content = present h in
    let here : Restored page_size pages (hot_records page_size (journal_of content id)) now next between later some =
    told_before (Some h) now id (λ journal. Restored page_size pages (hot_records page_size journal) now next between later some) stays one in
    let rest = hot_from content page_size (id + 1) (16 - (id + 1)) in
    left_next (Some h) now next _ _ (restores page_size (is_due between pages) (hot_records page_size (journal_of content id))) (restores page_size (is_due later pages) rest)
    (ap (restores page_size (is_due between pages)) (hot_step content page_size id few)
    ∙ restores-append page_size pages (hot_records page_size (journal_of content id)) rest between later here.due)
    here.adds begun

pub journals_broken : (told now next : Option History) (page_size pages id : ℕ) (before between : Holders) → id < 16 → Stays told now
    → MakesCut now next (λ content. restores page_size (is_due between pages) (hot_records page_size (journal_of content id)))
    → IfTold told (HasJournalsLeft page_size pages id told now before between)
    → MakesCut told next (λ content. restores page_size (is_due before pages) (hot_from content page_size 0 16))
journals_broken None now next page_size pages id before between few stays cut begun = tt
journals_broken (Some h) now next page_size pages id before between few stays cut begun =
    let content = present h in
    let here : AddsCut now next (restores page_size (is_due between pages) (hot_records page_size (journal_of content id))) =
    told_before (Some h) now id (λ journal. AddsCut now next (restores page_size (is_due between pages) (hot_records page_size journal))) stays cut in
    let rest = hot_from content page_size (id + 1) (16 - (id + 1)) in
    left_broken (Some h) now next _ _ (restores page_size (is_due between pages) (hot_records page_size (journal_of content id)))
    (restores page_size (due_after (is_due between pages) (hot_records page_size (journal_of content id))) rest)
    (ap (restores page_size (is_due between pages)) (hot_step content page_size id few) ∙ restores-parts page_size pages (hot_records page_size (journal_of content id)) rest between)
    here begun
