-- Each hot record names a page and has one page of content.
use Rattle.std.proofs.Common.{◌≡◌, ℕ, zero, suc, ◌+◌, ◌*◌, ◌/◌, ◌<◌, ◌≤◌, List, [], ◌∷◌, length, map, take, drop, All, arith, ◌∙◌, Bool, true, false, Some, ⊎_elim, length-take, length-drop}
use Rattle.std.specs.Prelude.{◌==◌, not, take_while, if◌then◌else◌}
use Rattle.std.specs.List.{find}
use Rattle.std.proofs.Math.Nat.{le-div_iff_mul-le}
use Rattle.std.proofs.lemmas.Bool.{and_parts, cases_Bool, eqb-false, not-true}
use Rattle.std.proofs.lemmas.List.Elements.{All-append, All-cons, All-head, All-nil, All-tail}
use Rattle.std.proofs.lemmas.List.Sums.{take_while-cons}
use Rattle.spe_model.specs.Big.{u32_at}
use Rattle.spe_model.specs.Content.{Content}
use Rattle.spe_model.specs.Journal.{Saved, hot_records, is_hot, is_right, numbers_from, pieces_of, saved_of, saved_pages}
use Rattle.spe_model.specs.Recovery.{all_hot, file_page_size, hot_of}
use Rattle.spe_crash.proofs.HotLemmas.{records_in}

pub record IsWholeRecord (page_size : ℕ) (s : Saved) : Type 0 where
  pub named : 1 ≤ s.page
  pub sized : length s.content ≡ page_size

abbrev HasSize : ℕ → List ℕ → Type 0
HasSize size bytes = length bytes ≡ size

all_numbered : (P : List ℕ → Type 0) (f : ℕ → List ℕ) (n count : ℕ) → ((i : ℕ) → n ≤ i → i < n + count → P (f i)) → All P (map f (numbers_from n count))
all_numbered P f n zero each = All-nil P
all_numbered P f n (suc count) each =
    All-cons P (f n) (map f (numbers_from (n + 1) count)) (each n (omega arith) (omega arith)) (all_numbered P f (n + 1) count (λ i low high. each i (omega arith) (omega arith)))

piece_size : (size i : ℕ) (bytes : List ℕ) → 0 < size → i < length bytes / size → length (take size (drop (i * size) bytes)) ≡ size
piece_size size i bytes some within =
    let next : (i + 1) * size ≤ length bytes = (le-div_iff_mul-le some).0 (omega arith) in
    length-take size (drop (i * size) bytes) ∙ omega (arith, length-drop (i * size) bytes)

pub pieces_sized : (size : ℕ) (bytes : List ℕ) → 0 < size → All (HasSize size) (pieces_of size bytes)
pieces_sized size bytes some = all_numbered (HasSize size) (λ i. take size (drop (i * size) bytes)) 0 (length bytes / size) (λ i low high. piece_size size i bytes some (omega arith))

right_named : (nonce page_size : ℕ) (bytes : List ℕ) → is_right nonce page_size bytes ≡ true → 1 ≤ u32_at bytes 0
right_named nonce page_size bytes right =
    let named : not (u32_at bytes 0 == 0) ≡ true = (and_parts (not (u32_at bytes 0 == 0)) _ right).0 in
    let other = eqb-false (u32_at bytes 0) 0 (not-true (u32_at bytes 0 == 0) named) in
    omega (arith, other)

right_whole : (nonce page_size : ℕ) (pieces : List (List ℕ)) → All (HasSize (page_size + 8)) pieces → All (IsWholeRecord page_size) (map (saved_of page_size) (take_while (is_right nonce page_size) pieces))
right_whole nonce page_size [] sized = All-nil (IsWholeRecord page_size)
right_whole nonce page_size (b ∷ bs) sized = ⊎_elim
    (λ (right : is_right nonce page_size b ≡ true).
    rw (take_while-cons (is_right nonce page_size) b bs, right)
    (All-cons (IsWholeRecord page_size) (saved_of page_size b) (map (saved_of page_size) (take_while (is_right nonce page_size) bs))
    (record { named = right_named nonce page_size b right; sized = content_size (All-head (HasSize (page_size + 8)) b bs sized) })
    (right_whole nonce page_size bs (All-tail (HasSize (page_size + 8)) b bs sized))))
    (λ (wrong : is_right nonce page_size b ≡ false). rw (take_while-cons (is_right nonce page_size) b bs, wrong) (All-nil (IsWholeRecord page_size)))
    (cases_Bool (is_right nonce page_size b))
  where
    content_size : length b ≡ page_size + 8 → length (take page_size (drop 4 b)) ≡ page_size
    content_size size = length-take page_size (drop 4 b) ∙ omega (arith, length-drop 4 b)

pub hot_whole : (page_size : ℕ) (journal : List ℕ) → All (IsWholeRecord page_size) (hot_records page_size journal)
unfolding hot_records saved_pages
hot_whole page_size journal = by_test (is_hot page_size journal)
  where
    by_test : (b : Bool) → All (IsWholeRecord page_size) (if b then saved_pages page_size journal else [])
    by_test true = right_whole (u32_at journal 12) page_size (pieces_of (page_size + 8) (drop 512 journal)) (pieces_sized (page_size + 8) (drop 512 journal) (omega arith))
    by_test false = All-nil (IsWholeRecord page_size)

all_in : (P : Saved → Type 0) (hot : ℕ → List Saved) (n count : ℕ) → ((i : ℕ) → All P (hot i)) → All P (records_in hot n count)
all_in P hot n zero each = All-nil P
all_in P hot n (suc count) each = All-append P (hot n) (records_in hot (n + 1) count) (each n) (all_in P hot (n + 1) count each)

pub all_whole : (content : Content) → All (IsWholeRecord (file_page_size content)) (all_hot content)
all_whole content = all_in (IsWholeRecord (file_page_size content)) (hot_of content) 0 16 (λ i. hot_whole (file_page_size content) _)

pub find-All : (P : Saved → Type 0) (test : Saved → Bool) (saved : List Saved) (s : Saved) → All P saved → find test saved ≡ Some s → P s
find-All P test [] s all found = absurd cc
find-All P test (x ∷ xs) s all found = ⊎_elim
    (λ (hit : test x ≡ true). let same : x ≡ s = some_same (rw hit at found) in rw (← same) (All-head P x xs all))
    (λ (missed : test x ≡ false). find-All P test xs s (All-tail P x xs all) (rw missed at found))
    (cases_Bool (test x))
  where
    some_same : {X : Type 0} {a b : X} → Some a ≡ Some b → a ≡ b
    some_same e = cc
