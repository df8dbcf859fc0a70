-- Writing records back one after the other.
use Rattle.std.proofs.Common.{◌≡◌, ℕ, zero, suc, ◌+◌, ◌-◌, ◌<◌, ◌≤◌, List, [], ◌∷◌, ◌++◌, length, take, drop, refl, arith, sym, ap, subst, ◌∙◌, Option, Some, None, length-drop}
use Rattle.std.specs.List.{flat_map}
use Rattle.spe_model.specs.Content.{Content}
use Rattle.spe_model.specs.Journal.{Saved, hot_records, numbers_from}
use Rattle.spe_model.specs.Recovery.{journal_of}
use Rattle.spe_model.specs.Trace.{History, present}
use Rattle.spe_journal.specs.Saved.{saved_in}
use Rattle.spe_recover.specs.Restored.{Holders, Restored, RestoresFirst, RestoresNone, Stays}
use Rattle.spe_disk.specs.Added.{IfTold}
use Rattle.spe_recover.proofs.ScanLemmas.{IsPiece, piece_joined, saved_in-short}
use Rattle.spe_recover.proofs.RestoreLemmas.{Restored-nothing, Restored-append, told_before}

-- what is due, once the records before byte `at` were written back
abbrev pub IsDue : (id nonce page_size pages at : ℕ) → (first now : Option History) → (before between : Holders) → ℕ → Content → Type 0
IsDue id nonce page_size pages at first now before between made content =
    (last : Option History) (after : Holders) (more : ℕ)
    → Restored page_size pages (saved_in nonce page_size (drop at (journal_of content id))) now last between after more
    → Restored page_size pages (saved_in nonce page_size (drop 512 (journal_of content id))) first last before after (made + more)

due_next : (id nonce page_size pages at size : ℕ) (piece : List ℕ) (first now next : Option History) (before between later : Holders) (made some : ℕ) (content : Content)
    → piece ≡ take size (drop at (journal_of content id)) → RestoresFirst nonce page_size pages piece now next between later some
    → IsDue id nonce page_size pages at first now before between made content → IsDue id nonce page_size pages (at + size) first next before later (made + some) content
due_next id nonce page_size pages at size piece first now next before between later made some content is one earlier = λ last after more rest.
    let journal = journal_of content id in
    let step : saved_in nonce page_size (drop at journal) ≡ one.saved ∷ saved_in nonce page_size (drop (at + size) journal) =
    ap (saved_in nonce page_size) (sym (piece_joined journal piece at size is)) ∙ one.first (drop (at + size) journal) in
    let both : Restored page_size pages (one.saved ∷ saved_in nonce page_size (drop (at + size) journal)) now last between after (some + more) =
    Restored-append page_size pages (one.saved ∷ []) (saved_in nonce page_size (drop (at + size) journal)) now next last between later after some more one.restored rest in
    let sum : made + (some + more) ≡ made + some + more = omega arith in
    subst (Restored page_size pages (saved_in nonce page_size (drop 512 journal)) first last before after) sum
    (earlier last after (some + more) (subst (λ (saved : List Saved). Restored page_size pages saved now last between after (some + more)) (sym step) both))

pub due_turn : (told now next : Option History) (id nonce page_size pages at left end size : ℕ) (piece : List ℕ) (before between later : Holders) (made some : ℕ)
    → 512 ≤ at → at + left ≡ 512 + (end - 512) → 0 < size → size ≤ left
    → IfTold told (λ content. end ≡ length (journal_of content id)) → Stays told now
    → IfTold now (IsPiece id at size piece) → RestoresFirst nonce page_size pages piece now next between later some
    → IfTold told (IsDue id nonce page_size pages at told now before between made)
    → IfTold told (IsDue id nonce page_size pages (at + size) told next before later (made + some))
due_turn None now next id nonce page_size pages at left end size piece before between later made some from reach above enough whole stays is one earlier = tt
due_turn (Some h) now next id nonce page_size pages at left end size piece before between later made some from reach above enough whole stays is one earlier =
    due_next id nonce page_size pages at size piece (Some h) now next before between later made some (present h)
    (told_before (Some h) now id (λ journal. at + size ≤ length journal → piece ≡ take size (drop at journal)) stays is (omega (arith, whole))) one earlier

pub due_ended : (told now next : Option History) (id nonce page_size pages at left end size : ℕ) (piece : List ℕ) (before between later : Holders) (made : ℕ)
    → 512 ≤ at → at + left ≡ 512 + (end - 512) → 0 < size → size ≤ left
    → IfTold told (λ content. end ≡ length (journal_of content id)) → Stays told now
    → IfTold now (IsPiece id at size piece) → RestoresNone nonce page_size piece now next between later
    → IfTold told (IsDue id nonce page_size pages at told now before between made)
    → IfTold told (λ content. Restored page_size pages (saved_in nonce page_size (drop 512 (journal_of content id))) told next before later made)
due_ended None now next id nonce page_size pages at left end size piece before between later made from reach above enough whole stays is ended earlier = tt
due_ended (Some h) now next id nonce page_size pages at left end size piece before between later made from reach above enough whole stays is ended earlier =
    let journal = journal_of (present h) id in
    let front : piece ≡ take size (drop at journal) =
    told_before (Some h) now id (λ journal. at + size ≤ length journal → piece ≡ take size (drop at journal)) stays is (omega (arith, whole)) in
    let step : saved_in nonce page_size (drop at journal) ≡ [] =
    ap (saved_in nonce page_size) (sym (piece_joined journal piece at size front)) ∙ ended.last (drop (at + size) journal) in
    let sum : made + 0 ≡ made = omega arith in
    let done : Restored page_size pages (saved_in nonce page_size (drop 512 journal)) (Some h) now before between made =
    subst (Restored page_size pages (saved_in nonce page_size (drop 512 journal)) (Some h) now before between) sum
    (earlier now between 0 (subst (λ (saved : List Saved). Restored page_size pages saved now now between between 0) (sym step) (Restored-nothing page_size pages now between))) in
    subst (λ (m : Holders). Restored page_size pages (saved_in nonce page_size (drop 512 journal)) (Some h) next before m made) (sym ended.holders)
    (subst (λ (t : Option History). Restored page_size pages (saved_in nonce page_size (drop 512 journal)) (Some h) t before between made) (sym ended.told) done)

pub due_none : (told now : Option History) (id nonce page_size pages at left end : ℕ) (before between : Holders) (made : ℕ)
    → 512 ≤ at → at + left ≡ 512 + (end - 512) → left < page_size + 8
    → IfTold told (λ content. end ≡ length (journal_of content id))
    → IfTold told (IsDue id nonce page_size pages at told now before between made)
    → IfTold told (λ content. Restored page_size pages (saved_in nonce page_size (drop 512 (journal_of content id))) told now before between made)
due_none None now id nonce page_size pages at left end before between made from reach short whole earlier = tt
due_none (Some h) now id nonce page_size pages at left end before between made from reach short whole earlier =
    let journal = journal_of (present h) id in
    let few : length (drop at journal) < page_size + 8 = omega (arith, whole, length-drop at journal) in
    let sum : made + 0 ≡ made = omega arith in
    subst (Restored page_size pages (saved_in nonce page_size (drop 512 journal)) (Some h) now before between) sum
    (earlier now between 0
    (subst (λ (saved : List Saved). Restored page_size pages saved now now between between 0) (sym (saved_in-short nonce page_size (drop at journal) few)) (Restored-nothing page_size pages now between)))

-- the hot records of some journals
abbrev pub hot_from : Content → (page_size id count : ℕ) → List Saved
hot_from content page_size id count = flat_map (λ i. hot_records page_size (journal_of content i)) (numbers_from id count)

-- what is due, once the journals before one were written back
abbrev pub AreDue : (page_size pages id : ℕ) → (first now : Option History) → (before between : Holders) → ℕ → Content → Type 0
AreDue page_size pages id first now before between made content =
    (last : Option History) (after : Holders) (more : ℕ)
    → Restored page_size pages (hot_from content page_size id (16 - id)) now last between after more
    → Restored page_size pages (hot_from content page_size 0 16) first last before after (made + more)

hot_from-next : (content : Content) (page_size id count : ℕ) → 0 < count
    → hot_from content page_size id count ≡ hot_records page_size (journal_of content id) ++ hot_from content page_size (id + 1) (count - 1)
hot_from-next content page_size id zero some = absurd (omega arith)
hot_from-next content page_size id (suc n) some = let back : suc n - 1 ≡ n = omega arith in rw back refl

pub hot_step : (content : Content) (page_size id : ℕ) → id < 16
    → hot_from content page_size id (16 - id) ≡ hot_records page_size (journal_of content id) ++ hot_from content page_size (id + 1) (16 - (id + 1))
hot_step content page_size id few =
    let same : 16 - id - 1 ≡ 16 - (id + 1) = omega arith in
    hot_from-next content page_size id (16 - id) (omega arith) ∙ ap (λ (n : ℕ). hot_records page_size (journal_of content id) ++ hot_from content page_size (id + 1) n) same

hot_from-none : (content : Content) (page_size id count : ℕ) → count ≡ 0 → hot_from content page_size id count ≡ []
hot_from-none content page_size id count none = rw none refl

pub all_turn : (told now next : Option History) (page_size pages id : ℕ) (before between later : Holders) (made some : ℕ) → id < 16 → Stays told now
    → IfTold now (λ content. Restored page_size pages (hot_records page_size (journal_of content id)) now next between later some)
    → IfTold told (AreDue page_size pages id told now before between made)
    → IfTold told (AreDue page_size pages (id + 1) told next before later (made + some))
all_turn None now next page_size pages id before between later made some few stays one earlier = tt
all_turn (Some h) now next page_size pages id before between later made some few stays one earlier = λ last after more rest.
    let content = present h in
    let here : Restored page_size pages (hot_records page_size (journal_of content id)) now next between later some =
    told_before (Some h) now id (λ journal. Restored page_size pages (hot_records page_size journal) now next between later some) stays one in
    let step = hot_step content page_size id few in
    let both : Restored page_size pages (hot_records page_size (journal_of content id) ++ hot_from content page_size (id + 1) (16 - (id + 1))) now last between after (some + more) =
    Restored-append page_size pages (hot_records page_size (journal_of content id)) (hot_from content page_size (id + 1) (16 - (id + 1))) now next last between later after some more here rest in
    let sum : made + (some + more) ≡ made + some + more = omega arith in
    subst (Restored page_size pages (hot_from content page_size 0 16) (Some h) last before after) sum
    (earlier last after (some + more) (subst (λ (saved : List Saved). Restored page_size pages saved now last between after (some + more)) (sym step) both))

pub all_none : (told now : Option History) (page_size pages id : ℕ) (before between : Holders) (made : ℕ) → 16 ≤ id
    → IfTold told (AreDue page_size pages id told now before between made)
    → IfTold told (λ content. Restored page_size pages (hot_from content page_size 0 16) told now before between made)
all_none None now page_size pages id before between made all earlier = tt
all_none (Some h) now page_size pages id before between made all earlier =
    let sum : made + 0 ≡ made = omega arith in
    subst (Restored page_size pages (hot_from (present h) page_size 0 16) (Some h) now before between) sum
    (earlier now between 0
    (subst (λ (saved : List Saved). Restored page_size pages saved now now between between 0) (sym (hot_from-none (present h) page_size id (16 - id) (omega arith))) (Restored-nothing page_size pages now between)))
