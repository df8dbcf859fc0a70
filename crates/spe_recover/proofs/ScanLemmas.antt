-- Reading the records of a journal piece by piece.
use Rattle.std.proofs.Common.{◌≡◌, ℕ, zero, suc, ◌+◌, ◌-◌, ◌<◌, ◌≤◌, List, [], ◌∷◌, ◌++◌, length, take, drop, refl, arith, sym, ap, subst, ◌∙◌, true, false, None, Some, Option, length-drop}
use Rattle.std.proofs.Math.Nat.{div-eq_of_lt}
use Rattle.std.proofs.lemmas.List.{take-append-drop, drop-drop, append-nil}
use Rattle.spe_model.specs.Content.{Content, filled}
use Rattle.spe_model.specs.Journal.{Saved, hot_records}
use Rattle.spe_model.specs.Recovery.{journal_of}
use Rattle.spe_model.specs.Trace.{History, present}
use Rattle.spe_journal.specs.Saved.{saved_in}
use Rattle.spe_recover.specs.Seen.{Entry, Notes, NotesPiece, IsSeen, IsScanned, entries_of, entries_from, rest_after}
use Rattle.spe_disk.specs.Added.{IfTold}
use Rattle.spe_recover.specs.declared.seen.Seen.{Seen}
use Rattle.spe_recover.proofs.SeenLemmas.{Notes-nothing, Notes-append}

-- bytes that are all there
pub filled_whole : (bytes : List ℕ) (at n : ℕ) → at + n ≤ length bytes → filled bytes at n ≡ take n (drop at bytes)
filled_whole bytes at n fits = let none : n - (length bytes - at) ≡ 0 = omega arith in rw none (append-nil (take n (drop at bytes)))

-- bytes too few for a record save nothing
pub saved_in-short : (nonce page_size : ℕ) (bytes : List ℕ) → length bytes < page_size + 8 → saved_in nonce page_size bytes ≡ []
unfolding saved_in
saved_in-short nonce page_size bytes short = rw (div-eq_of_lt short) refl

-- what is left to keep, once the records before byte `at` were
abbrev pub IsLeft : (id nonce page_size at : ℕ) → Seen → Seen → Content → Type 0
IsLeft id nonce page_size at first now content =
    (last : Seen) → Notes (entries_of id (saved_in nonce page_size (drop at (journal_of content id)))) now last
    → Notes (entries_of id (saved_in nonce page_size (drop 512 (journal_of content id)))) first last

-- the piece of a journal from a place on
abbrev pub IsPiece : (id at size : ℕ) → List ℕ → Content → Type 0
IsPiece id at size piece content = at + size ≤ length (journal_of content id) → piece ≡ take size (drop at (journal_of content id))

pub piece_joined : (journal piece : List ℕ) (at size : ℕ) → piece ≡ take size (drop at journal) → piece ++ drop (at + size) journal ≡ drop at journal
piece_joined journal piece at size is =
    let behind : drop (at + size) journal ≡ drop size (drop at journal) = ap (λ (n : ℕ). drop n journal) (omega arith) ∙ sym (drop-drop size at journal) in
    ap (λ (front : List ℕ). front ++ drop (at + size) journal) is ∙ ap (λ (rest : List ℕ). take size (drop at journal) ++ rest) behind
    ∙ take-append-drop size (drop at journal)

left_next : (id nonce page_size at size : ℕ) (piece : List ℕ) (first now next : Seen) (content : Content)
    → piece ≡ take size (drop at (journal_of content id)) → NotesPiece id nonce page_size piece now next true
    → IsLeft id nonce page_size at first now content → IsLeft id nonce page_size (at + size) first next content
left_next id nonce page_size at size piece first now next content is noted before = λ last rest.
    let journal = journal_of content id in
    let step : saved_in nonce page_size (drop at journal) ≡ noted.0 ∷ saved_in nonce page_size (drop (at + size) journal) =
    ap (saved_in nonce page_size) (sym (piece_joined journal piece at size is)) ∙ noted.1 (drop (at + size) journal) in
    before last
    (subst (λ (saved : List Saved). Notes (entries_of id saved) now last) (sym step)
    (Notes-append ((id, noted.0) ∷ []) (entries_of id (saved_in nonce page_size (drop (at + size) journal))) now next last noted.2 rest))

pub left_turn : (told : Option History) (id nonce page_size at left end size : ℕ) (piece : List ℕ) (first now next : Seen)
    → 512 ≤ at → at + left ≡ 512 + (end - 512) → 0 < size → size ≤ left
    → IfTold told (λ content. end ≡ length (journal_of content id))
    → IfTold told (IsPiece id at size piece) → NotesPiece id nonce page_size piece now next true
    → IfTold told (IsLeft id nonce page_size at first now) → IfTold told (IsLeft id nonce page_size (at + size) first next)
left_turn None id nonce page_size at left end size piece first now next from reach some enough whole is noted before = tt
left_turn (Some h) id nonce page_size at left end size piece first now next from reach some enough whole is noted before =
    left_next id nonce page_size at size piece first now next (present h) (is (omega (arith, whole))) noted before

pub left_ended : (told : Option History) (id nonce page_size at left end size : ℕ) (piece : List ℕ) (first now next : Seen)
    → 512 ≤ at → at + left ≡ 512 + (end - 512) → 0 < size → size ≤ left
    → IfTold told (λ content. end ≡ length (journal_of content id))
    → IfTold told (IsPiece id at size piece) → NotesPiece id nonce page_size piece now next false
    → IfTold told (IsLeft id nonce page_size at first now)
    → IfTold told (λ content. Notes (entries_of id (saved_in nonce page_size (drop 512 (journal_of content id)))) first next)
left_ended None id nonce page_size at left end size piece first now next from reach some enough whole is noted before = tt
left_ended (Some h) id nonce page_size at left end size piece first now next from reach some enough whole is noted before =
    let journal = journal_of (present h) id in
    let step : saved_in nonce page_size (drop at journal) ≡ [] =
    ap (saved_in nonce page_size) (sym (piece_joined journal piece at size (is (omega (arith, whole))))) ∙ noted.0 (drop (at + size) journal) in
    subst (λ (last : Seen). Notes (entries_of id (saved_in nonce page_size (drop 512 journal))) first last) (sym noted.1)
    (before now (subst (λ (saved : List Saved). Notes (entries_of id saved) now now) (sym step) (Notes-nothing now)))

pub left_none : (told : Option History) (id nonce page_size at left end : ℕ) (first now : Seen)
    → 512 ≤ at → at + left ≡ 512 + (end - 512) → left < page_size + 8
    → IfTold told (λ content. end ≡ length (journal_of content id))
    → IfTold told (IsLeft id nonce page_size at first now)
    → IfTold told (λ content. Notes (entries_of id (saved_in nonce page_size (drop 512 (journal_of content id)))) first now)
left_none None id nonce page_size at left end first now from reach short whole before = tt
left_none (Some h) id nonce page_size at left end first now from reach short whole before =
    let journal = journal_of (present h) id in
    let few : length (drop at journal) < page_size + 8 = omega (arith, whole, length-drop at journal) in
    before now (subst (λ (saved : List Saved). Notes (entries_of id saved) now now) (sym (saved_in-short nonce page_size (drop at journal) few)) (Notes-nothing now))

-- what is left to keep, once the journals before one were
abbrev pub AreLeft : (page_size id : ℕ) → Seen → Seen → Content → Type 0
AreLeft page_size id first now content =
    (last : Seen) → Notes (entries_from content page_size id (16 - id)) now last → Notes (entries_from content page_size 0 16) first last

entries_from-next : (content : Content) (page_size id count : ℕ) → 0 < count
    → entries_from content page_size id count ≡ entries_of id (hot_records page_size (journal_of content id)) ++ entries_from content page_size (id + 1) (count - 1)
unfolding entries_from
entries_from-next content page_size id zero some = absurd (omega arith)
entries_from-next content page_size id (suc n) some = let back : suc n - 1 ≡ n = omega arith in rw back refl

entries_from-none : (content : Content) (page_size id count : ℕ) → count ≡ 0 → entries_from content page_size id count ≡ []
unfolding entries_from
entries_from-none content page_size id count none = rw none refl

pub journals_turn : (told : Option History) (page_size id : ℕ) (first now next : Seen) → id < 16
    → IfTold told (λ content. Notes (entries_of id (hot_records page_size (journal_of content id))) now next)
    → IfTold told (AreLeft page_size id first now) → IfTold told (AreLeft page_size (id + 1) first next)
journals_turn None page_size id first now next some noted before = tt
journals_turn (Some h) page_size id first now next some noted before = λ last rest.
    let same : 16 - id - 1 ≡ 16 - (id + 1) = omega arith in
    let step : entries_from (present h) page_size id (16 - id) ≡ entries_of id (hot_records page_size (journal_of (present h) id)) ++ entries_from (present h) page_size (id + 1) (16 - (id + 1)) =
    entries_from-next (present h) page_size id (16 - id) (omega arith)
    ∙ ap (λ (n : ℕ). entries_of id (hot_records page_size (journal_of (present h) id)) ++ entries_from (present h) page_size (id + 1) n) same in
    before last
    (subst (λ (es : List Entry). Notes es now last) (sym step)
    (Notes-append (entries_of id (hot_records page_size (journal_of (present h) id))) (entries_from (present h) page_size (id + 1) (16 - (id + 1))) now next last noted rest))

pub journals_none : (told : Option History) (page_size id : ℕ) (first now : Seen) → 16 ≤ id
    → IfTold told (AreLeft page_size id first now) → IfTold told (λ content. Notes (entries_from content page_size 0 16) first now)
journals_none None page_size id first now all before = tt
journals_none (Some h) page_size id first now all before =
    before now (subst (λ (es : List Entry). Notes es now now) (sym (entries_from-none (present h) page_size id (16 - id) (omega arith))) (Notes-nothing now))

pub scanned : (told : Option History) (page_size : ℕ) (first seen : Seen) → IsSeen (λ p. []) first → first.rest ≡ None
    → IfTold told (λ content. Notes (entries_from content page_size 0 16) first seen) → IfTold told (λ content. IsScanned content page_size seen)
scanned None page_size first seen held nothing noted = tt
scanned (Some h) page_size first seen held nothing noted =
    (noted.held (λ p. []) held, noted.rest ∙ ap (λ (rest : Option (List ℕ)). rest_after rest (entries_from (present h) page_size 0 16)) nothing)
